-- A walk: the state behind the pointer is lent to `words`, and comes back once the loan is over.
use Rattle.std.proofs.Common.{◌≡◌, ℕ, List, [], ◌∷◌, ◌++◌, refl, w32, w64, MutBor}
use mir.Syntax.{named, w16}
use Rattle.std.proofs.raw_atomic.Walks.{proved}
use base.Fraction.{full_share}
use base.Logic.{sep, id⊢}
use base.Fml.{ftrue, flft, flent}
use mir.Val.{Val, vint, vptr}
use types.Logic.{sem}
use prog.Wp.{WpFn}
use contract.Monad.{fact}
use contract.Running.{tables}
use types.Kit.{‵, raw, ◌⊛◌, some, later, prop, at_ret, ◌$◌, ◌∵◌, !, qed, done, move, keep, drop, use1, use3, split, join, fsplit, fjoin, pick, await, regoal, suffices, frame, group, show}
use types.Tokens.{lft_new, lft_end}
use types.SemTy.{Body}
use types.Run.{enter, of_opd, addr, stop, no_more, and_then, first, blocks, exec, returns}
use types.ByLocal.{alloc_all, pass_all, free_all, look_at, get, through, sets, sets_last, lands_as, env}
use denote.Builtin.{u32, u64}
use denote.Exit.{yes}
use denote.Laws.{Is, shows}
use denote.Memory.{mem}
use denote.Lend.{lends_ref, ref_back}
use denote.Plain.{uint_vals, uint_Tells, uint_Makes, uint_Lawful}
use denote.RawPtr.{Ptr, RawPtr, block_ptr, lies_at, in_a_block, rawptr_vals, rawptr_Tells}
use denote.Ref.{MutRef}
use denote.Signature.{plain}
use denote.Steps.{nothing, owned, peeks, heard}
use denote.Triple.Call.{calls_at}
use denote.Triple.Clauses.{Lasts, lasts}
use denote.Triple.Entry.{on_entry}
use denote.Triple.Spec.{triple_of}
use denote.Triple.Walked.{Stays, walk_of, says, stay_dropped, Goes-dropped, ends_at}
use denote.Triple.Table.{framed}
use Rattle.vt_session.specs.Words.{WritesWords}
use Rattle.vt_session.specs.declared.session.Session.{Session}
use Rattle.vt_session.specs.contracts.session.Session.{the_row as R}
use Rattle.vt_session.specs.contracts.words.words as g
use Rattle.vt_session.proofs.words.words.Met.{met}
use Rattle.vt_terminal.specs.contracts.vt_text_of_words as f
use Rattle.vt_terminal.proofs.vt_text_of_words.Statement.{statement}
use Rattle.vt_terminal.proofs.vt_text_of_words.Code as code

abbrev stayed : Stays f.ended.signature.params f.ended.kept
stayed = (stay_dropped (plain (λ _. RawPtr)) yes, (stay_dropped (plain (λ _. u32)) yes, (stay_dropped (plain (λ _. u32)) yes, (stay_dropped (plain (λ _. u64)) yes, tt))))

pub vt_text_of_words_spec : {M : Type 1} → statement M
vt_text_of_words_spec 𝓤 𝓛 𝓜 𝓡 wired =
    let c = f.clauses 𝓛 𝓜.mem 𝓡.returns in let W = walk_of 𝓛 f.ended stayed c in let 𝓣 = tables 𝓤 𝓛.H 𝓜 𝓡 𝓡.env in
    proved 𝓛 f.ended stayed c 𝓜 𝓡 (Goes-dropped 𝓛 0 (plain (λ _. RawPtr)) yes (λ κs x w. refl), (Goes-dropped 𝓛 0 (plain (λ _. u32)) yes (λ κs x w. refl), (Goes-dropped 𝓛 0 (plain (λ _. u32)) yes (λ κs x w. refl), (Goes-dropped 𝓛 0 (plain (λ _. u64)) yes (λ κs x w. refl), tt))))
    f.Key.name code.function (code.unfolded 𝓤 𝓛.H 𝓜 𝓡 wired)
    (λ κs. (rawptr_vals, (uint_vals w32, (uint_vals w32, (uint_vals w64, tt))))) (λ κs. (rawptr_Tells, (uint_Tells w32, (uint_Tells w32, (uint_Tells w64, tt))))) (λ κs qs bounds a s are.
    let x1 = a.1.0 in let fits1 = are.1.0.1 in let x2 = a.1.1.0 in let fits2 = are.1.1.0.1 in let x3 = a.1.1.1.0 in let fits3 = are.1.1.1.0.1 in
    let y : Ptr → W.Ghost = λ p. ((κs, qs, bounds, (p, (x1, (x2, (x3, tt)))), (rawptr_vals p, (uint_vals w32 x1, (uint_vals w32 x2, (uint_vals w64 x3, tt))))), s) in
    qed 𝓛 (raw (on_entry 𝓛 f.signature κs qs a (y a.0).0.4) ∷ ‵ (lies_at R full_share a.0 s) ∷ []) ∵ drop ! $
    in_a_block ! a.0 (λ p. lies_at R full_share p s) (id⊢ 𝓤 _) (λ b o e.
    regoal ! (λ p. prop (WpFn 𝓤 𝓛.H 𝓣.C 𝓣.Λ code.function (rawptr_vals p ++ (vint w32 x1 ∷ vint w32 x2 ∷ vint w64 x3 ∷ [])) (W.post (y p)))) e refl $
    enter ! _ _ _ _ _ $ alloc_all ! (λ l. pass_all ! refl ((tt, tt), ((tt, record { fits = fits1 }), ((tt, record { fits = fits2 }), ((tt, record { fits = fits3 }), tt)))) $
    -- [the state; the locals]
    first ! $ blocks ! $ sets ! (of_opd ! (get ! refl)) refl (tt, tt) $ sets ! (of_opd ! (get ! refl)) refl (tt, tt) $
    sets_last ! (addr ! (through ! refl (stop !))) refl (tt, tt) $
    exec ! 𝓣.C 𝓣.Λ (env code.Mir.locals l) code.Mir.t-2 (at_ret _ (W.post (y (block_ptr b o)))) $
    sets ! (of_opd ! (get ! refl)) refl (tt, tt) $ sets ! (of_opd ! (get ! refl)) refl (tt, record { fits = fits1 }) $ sets ! (of_opd ! (get ! refl)) refl (tt, record { fits = fits2 }) $ sets ! (of_opd ! (get ! refl)) refl (tt, record { fits = fits3 }) $
    lft_new ! tt (λ α. let κ : List ℕ = α ∷ [] in move ! (1 ∷ []) $
    use1 𝓛 (later (some (λ (γ : ℕ). ‵ ((MutRef (named 0) κ R).own_val (record { ref_ptr = (b, o); ghost_name = γ; now = s }) (vptr b o ∷ [])) ⊛ ‵ (flent κ (Body (mem R) b o γ)))))
    (lends_ref 𝓛 R (named 0) κ s b o) $ await ! tt $ pick ! (λ γ. split ! $
    -- [the loan; what is lent; the token; the locals]
    let G = triple_of 𝓛 g.signature (g.spec 𝓛 𝓜.mem 𝓡.returns) in let r : MutBor R.Denot = record { ref_ptr = (b, o); ghost_name = γ; now = s } in
    let z : G.Ghost = (((κ, tt), (full_share, tt), tt, (r, (x1, (x2, (x3, tt)))), (vptr b o ∷ [], (vint w32 x1 ∷ [], (vint w32 x2 ∷ [], (vint w64 x3 ∷ [], tt))))), tt) in
    nothing ! $ owned ! u64 (Is u64) (uint_Makes 𝓛 w64) x3 _ (refl, fits3) $ fjoin ! $ owned ! u32 (Is u32) (uint_Makes 𝓛 w32) x2 _ (refl, fits2) $ fjoin ! $ owned ! u32 (Is u32) (uint_Makes 𝓛 w32) x1 _ (refl, fits1) $ fjoin ! $ move ! (1 ∷ 0 ∷ []) $ fjoin ! $
    nothing ! $ move ! (3 ∷ 0 ∷ []) $ join ! $ join ! $ nothing ! $ move ! (1 ∷ 0 ∷ []) $ join ! $ use1 𝓛 (raw (G.pre z)) (id⊢ 𝓤 (G.pre z)) $
    calls_at ! (framed 𝓤 𝓛.H 𝓜 𝓣) G (met 𝓤 𝓛 𝓜 𝓡 (code.calls-vt_session::words::words 𝓡.env wired)) z (and_then ! (get ! refl) (and_then ! (get ! refl) (and_then ! (get ! refl) (and_then ! (get ! refl) (no_more !))))) (λ v.
    use1 𝓛 (later (some (λ (n : ℕ). ((‵ (flft κ full_share) ⊛ ‵ ftrue) ⊛ ‵ (u64.own_val n (v ∷ []))) ⊛
    some (λ (ws : Lasts g.ended z.0.0 z.0.3). ‵ (lasts g.ended z.0.0 z.0.3 ws) ⊛ raw (fact 𝓤 (WritesWords s x1 x2 x3 ws.0 n)))))) (id⊢ 𝓤 _) $
    await ! tt $ pick ! (λ n. split ! $ split ! $ split ! $ lft_end ! tt $ move ! (2 ∷ []) $ peeks ! u64 (Is u64) (shows 𝓛 u64) n (v ∷ []) (λ is.
    lands_as ! refl refl ((uint_Lawful 𝓛 w64).typed n _ is).0 $
    -- [the result; the loan is over; nothing; what is said of the state; what is lent]
    move ! (3 ∷ []) $ pick ! (λ ws. split ! $ move ! (1 ∷ []) $ heard ! _ (λ done'. fsplit ! $ fsplit ! $
    -- [the state's last value; its borrow; nothing; the result; the loan is over; nothing; what is lent]
    move ! (4 ∷ 6 ∷ 0 ∷ []) $ use3 𝓛 (later (‵ (lies_at R full_share (block_ptr b o) ws.0))) (ref_back 𝓛 R κ γ ws.0 b o) $ await ! tt $
    returns ! (look_at ! 0 refl) $ free_all ! refl $ keep ! (3 ∷ 0 ∷ []) $
    suffices ! _ (ends_at 𝓛 f.ended stayed c (y (block_ptr b o)) v n (tt, (tt, (tt, (tt, tt)))) (tt, (tt, (tt, (tt, tt))))) $
    nothing ! $ nothing ! $ join ! $ nothing ! $ join ! $ nothing ! $ join ! $ nothing ! $ join ! $ nothing ! $ group ! 3 $ frame ! $
    show ! (λ (after : R.Denot). sep 𝓤 (sem 𝓛 (lies_at R full_share (block_ptr b o) after)) (fact 𝓤 (WritesWords s x1 x2 x3 after n))) ws.0 $ says ! done' $ done !))))))))))
