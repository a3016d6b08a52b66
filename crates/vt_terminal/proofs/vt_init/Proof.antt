-- A walk: a state is made, and moved into the room behind the pointer.
use Rattle.std.proofs.Common.{◌≡◌, List, [], ◌∷◌, ◌++◌, refl, sym, ap, ◌∙◌, subst, w32, w64}
use Rattle.std.proofs.raw_atomic.Walks.{proved_at}
use base.Fraction.{full_share}
use base.Logic.{SProp, sep, ent, id⊢}
use base.Fml.{ftrue}
use mir.Val.{Val, vint, vptr, vunit}
use types.Logic.{sem}
use prog.Wp.{WpFn}
use contract.Monad.{fact}
use contract.Running.{tables}
use types.Kit.{‵, raw, ◌⊛◌, some, later, at_ret, ◌$◌, ◌∵◌, !, qed, done, move, keep, drop, use1, use2, split, join, fsplit3, fjoin, feq_i, pick, await, rewrite, suffices, frame, group, show}
use types.Run.{enter, of_opd, unit_lit, stop, init, no_more, and_then, assigns_last, first, blocks, exec, returns}
use types.ByLocal.{alloc_all, pass_all, free_all, look_at, get, through, sets, lands_as, env}
use denote.Builtin.{u32, u64}
use denote.Plain.{uint_Makes}
use denote.Exit.{yes}
use denote.Laws.{Is, shows}
use denote.Memory.{lone}
use denote.RattleType.{RattleType, owns}
use denote.RawPtr.{Ptr, RawPtr, block_ptr, lies_at, room_at, in_a_block, ptr_val}
use denote.Signature.{plain, types_at}
use denote.Steps.{nothing, owned, peeks, heard}
use denote.Triple.Call.{calls_at}
use denote.Triple.Clauses.{Lasts, lasts}
use denote.Triple.Spec.{triple_of}
use denote.Triple.Walked.{Stays, walk_of, says, stay_dropped, Goes-dropped, ends_at}
use denote.Triple.Table.{framed}
use borrow.Table.OneValue.{part_in}
use Rattle.std.proofs.cell.Inside.{one}
use Rattle.std.specs.contracts.alloc.Global as heap
use Rattle.std.proofs.alloc.Global.TheLaws as heap_laws
use Rattle.vt_session.specs.Sessions.{Begins, profile_of}
use Rattle.vt_session.specs.contracts.session.Session.{the_row as R}
use Rattle.vt_session.proofs.session.Session.TheLaws.{the_row_laws as LR}
use Rattle.vt_session.specs.contracts.session.begin as g
use Rattle.vt_session.proofs.session.begin.Met.{met}
use Rattle.vt_terminal.specs.contracts.vt_init as f
use Rattle.vt_terminal.proofs.vt_init.Statement.{statement}
use Rattle.vt_terminal.proofs.vt_init.Code as code

abbrev stayed : Stays f.ended.signature.params f.ended.kept
stayed = (stay_dropped (plain (λ _. heap.the_row)) yes, (stay_dropped (plain (λ _. RawPtr)) yes, (stay_dropped (plain (λ _. u32)) yes, (stay_dropped (plain (λ _. u64)) yes, (stay_dropped (plain (λ _. u32)) yes, (stay_dropped (plain (λ _. u32)) yes, (stay_dropped (plain (λ _. u32)) yes, (stay_dropped (plain (λ _. u32)) yes, (stay_dropped (plain (λ _. u32)) yes, tt)))))))))

pub vt_init_spec : {M : Type 1} → statement M
vt_init_spec 𝓤 𝓛 𝓜 𝓡 wired =
    let c = f.clauses 𝓛 𝓜.mem 𝓡.returns in let W = walk_of 𝓛 f.ended stayed c in let 𝓣 = tables 𝓤 𝓛.H 𝓜 𝓡 𝓡.env in
    let Z : RattleType = heap.the_row in let LZ = heap_laws.the_row_laws in
    proved_at 𝓛 f.ended stayed c 𝓜 𝓡 (Goes-dropped 𝓛 0 (plain (λ _. Z)) yes (λ κs x w. refl), (Goes-dropped 𝓛 0 (plain (λ _. RawPtr)) yes (λ κs x w. refl), (Goes-dropped 𝓛 0 (plain (λ _. u32)) yes (λ κs x w. refl), (Goes-dropped 𝓛 0 (plain (λ _. u64)) yes (λ κs x w. refl), (Goes-dropped 𝓛 0 (plain (λ _. u32)) yes (λ κs x w. refl), (Goes-dropped 𝓛 0 (plain (λ _. u32)) yes (λ κs x w. refl), (Goes-dropped 𝓛 0 (plain (λ _. u32)) yes (λ κs x w. refl), (Goes-dropped 𝓛 0 (plain (λ _. u32)) yes (λ κs x w. refl), (Goes-dropped 𝓛 0 (plain (λ _. u32)) yes (λ κs x w. refl), tt)))))))))
    f.Key.name code.function (code.unfolded 𝓤 𝓛.H 𝓜 𝓡 wired) (λ z are.
    let κs = z.0.0 in let a = z.0.3.0 in let p = z.0.3.1.0 in let x1 = z.0.3.1.1.0 in let x2 = z.0.3.1.1.1.0 in let x3 = z.0.3.1.1.1.1.0 in let x4 = z.0.3.1.1.1.1.1.0 in let x5 = z.0.3.1.1.1.1.1.1.0 in let x6 = z.0.3.1.1.1.1.1.1.1.0 in let x7 = z.0.3.1.1.1.1.1.1.1.1.0 in let fits1 = are.1.1.0.1 in let fits2 = are.1.1.1.0.1 in let fits3 = are.1.1.1.1.0.1 in let fits4 = are.1.1.1.1.1.0.1 in let fits5 = are.1.1.1.1.1.1.0.1 in let fits6 = are.1.1.1.1.1.1.1.0.1 in let fits7 = are.1.1.1.1.1.1.1.1.0.1 in let Post : Val → SProp 𝓤 = W.post z in let Run : List Val → SProp 𝓤 = λ ws. WpFn 𝓤 𝓛.H 𝓣.C 𝓣.Λ code.function ws Post in
    let h = one (lone Z.mir) z.0.4.0 ((LZ.lawful 𝓛).typed a z.0.4.0 are.0) in
    qed 𝓛 ((‵ ftrue ⊛ ‵ (owns (types_at f.signature.params κs) z.0.3 z.0.4)) ∷ ‵ (room_at R p) ∷ []) ∵ split ! $ drop ! $ fsplit3 ! $ move ! (3 ∷ []) $
    in_a_block ! p (λ q. room_at R q) (id⊢ 𝓤 _) (λ b o e.
    -- [the room; the allocator; two that own nothing]
    let vp : z.0.4.1.0 ≡ vptr b o ∷ [] = are.1.0 ∙ ap (λ (q : Ptr). ptr_val q ∷ []) e in
    rewrite ! 1 (λ (us : List Val). ‵ (Z.own_val a us)) h.1 refl $
    suffices ! (Run (h.0 ∷ vptr b o ∷ vint w32 x1 ∷ vint w64 x2 ∷ vint w32 x3 ∷ vint w32 x4 ∷ vint w32 x5 ∷ vint w32 x6 ∷ vint w32 x7 ∷ [])) (subst (λ (us : List Val). ent 𝓤 (Run (h.0 ∷ vptr b o ∷ vint w32 x1 ∷ vint w64 x2 ∷ vint w32 x3 ∷ vint w32 x4 ∷ vint w32 x5 ∷ vint w32 x6 ∷ vint w32 x7 ∷ [])) (Run us)) (sym (λ i. h.1 i ++ (vp i ++ (are.1.1.0.0 i ++ (are.1.1.1.0.0 i ++ (are.1.1.1.1.0.0 i ++ (are.1.1.1.1.1.0.0 i ++ (are.1.1.1.1.1.1.0.0 i ++ (are.1.1.1.1.1.1.1.0.0 i ++ (are.1.1.1.1.1.1.1.1.0.0 i ++ [])))))))))) (id⊢ 𝓤 (Run (h.0 ∷ vptr b o ∷ vint w32 x1 ∷ vint w64 x2 ∷ vint w32 x3 ∷ vint w32 x4 ∷ vint w32 x5 ∷ vint w32 x6 ∷ vint w32 x7 ∷ [])))) $
    enter ! 𝓣.C 𝓣.Λ code.function (h.0 ∷ vptr b o ∷ vint w32 x1 ∷ vint w64 x2 ∷ vint w32 x3 ∷ vint w32 x4 ∷ vint w32 x5 ∷ vint w32 x6 ∷ vint w32 x7 ∷ []) Post $ alloc_all ! (λ l. pass_all ! refl (h.2, ((tt, tt), ((tt, record { fits = fits1 }), ((tt, record { fits = fits2 }), ((tt, record { fits = fits3 }), ((tt, record { fits = fits4 }), ((tt, record { fits = fits5 }), ((tt, record { fits = fits6 }), ((tt, record { fits = fits7 }), tt))))))))) $
    first ! $ blocks ! $ sets ! (of_opd ! (get ! refl)) refl (tt, tt) $
    let G = triple_of 𝓛 g.signature (g.spec 𝓛 𝓜.mem 𝓡.returns) in let y : G.Ghost = ((tt, tt, tt, (a, (x1, (x2, (x3, (x4, (x5, (x6, (x7, tt)))))))), (h.0 ∷ [], (vint w32 x1 ∷ [], (vint w64 x2 ∷ [], (vint w32 x3 ∷ [], (vint w32 x4 ∷ [], (vint w32 x5 ∷ [], (vint w32 x6 ∷ [], (vint w32 x7 ∷ [], tt))))))))), tt) in
    nothing ! $ owned ! u32 (Is u32) (uint_Makes 𝓛 w32) x7 _ (refl, fits7) $ fjoin ! $ owned ! u32 (Is u32) (uint_Makes 𝓛 w32) x6 _ (refl, fits6) $ fjoin ! $ owned ! u32 (Is u32) (uint_Makes 𝓛 w32) x5 _ (refl, fits5) $ fjoin ! $ owned ! u32 (Is u32) (uint_Makes 𝓛 w32) x4 _ (refl, fits4) $ fjoin ! $ owned ! u32 (Is u32) (uint_Makes 𝓛 w32) x3 _ (refl, fits3) $ fjoin ! $ owned ! u64 (Is u64) (uint_Makes 𝓛 w64) x2 _ (refl, fits2) $ fjoin ! $ owned ! u32 (Is u32) (uint_Makes 𝓛 w32) x1 _ (refl, fits1) $ fjoin ! $ move ! (2 ∷ 0 ∷ []) $ fjoin ! $ nothing ! $ join ! $ nothing ! $ move ! (1 ∷ 0 ∷ []) $ join ! $ use1 𝓛 (raw (G.pre y)) (id⊢ 𝓤 (G.pre y)) $
    calls_at ! (framed 𝓤 𝓛.H 𝓜 𝓣) G (met 𝓤 𝓛 𝓜 𝓡 (code.calls-vt_session::session::begin 𝓡.env wired)) y (and_then ! (get ! refl) (and_then ! (get ! refl) (and_then ! (get ! refl) (and_then ! (get ! refl) (and_then ! (get ! refl) (and_then ! (get ! refl) (and_then ! (get ! refl) (and_then ! (get ! refl) (no_more !))))))))) (λ v.
    use1 𝓛 (later (some (λ (r : R.Denot). (‵ ftrue ⊛ ‵ (R.own_val r (v ∷ []))) ⊛ some (λ (ws : Lasts g.ended tt (a, (x1, (x2, (x3, (x4, (x5, (x6, (x7, tt))))))))). ‵ (lasts g.ended tt (a, (x1, (x2, (x3, (x4, (x5, (x6, (x7, tt)))))))) ws) ⊛ raw (fact 𝓤 (Begins x1 x2 (profile_of x3 x4 x5 x6 x7) r)))))) (id⊢ 𝓤 _) $
    await ! tt $ pick ! (λ r. split ! $ split ! $ drop ! $ peeks ! R (Is R) (shows 𝓛 R) r (v ∷ []) (λ is. let good = ((LR.lawful 𝓛).typed r (v ∷ []) is).0 in
    lands_as ! refl refl good $ move ! (1 ∷ []) $ pick ! (λ _. split ! $ drop ! $ heard ! (Begins x1 x2 (profile_of x3 x4 x5 x6 x7) r) (λ none.
    -- [the state; the room; two that own nothing]
    assigns_last ! (of_opd ! (get ! refl)) (through ! refl (stop !)) (init ! 1 refl good) $
    exec ! 𝓣.C 𝓣.Λ (env code.Mir.locals l) code.Mir.t-2 (at_ret _ Post) $ sets ! (of_opd ! (unit_lit !)) refl (tt, tt) $
    returns ! (look_at ! 0 refl) $ free_all ! refl $
    move ! (1 ∷ 0 ∷ []) $ use2 𝓛 (‵ (lies_at R full_share (block_ptr b o) r)) (part_in 𝓛 R refl full_share r b o v) $ keep ! (0 ∷ []) $
    rewrite ! 0 (λ (q : Ptr). ‵ (lies_at R full_share q r)) (sym e) refl $
    suffices ! _ (ends_at 𝓛 f.ended stayed c z vunit tt (tt, (tt, (tt, (tt, (tt, (tt, (tt, (tt, (tt, tt))))))))) (tt, (tt, (tt, (tt, (tt, (tt, (tt, (tt, (tt, tt)))))))))) $
    feq_i ! _ (vunit ∷ []) _ refl $ nothing ! $ nothing ! $ join ! $ nothing ! $ join ! $ nothing ! $ join ! $ nothing ! $ join ! $ nothing ! $ join ! $ nothing ! $ join ! $ nothing ! $ join ! $ nothing ! $ join ! $ nothing ! $ join ! $ nothing ! $ group ! 3 $ frame ! $
    show ! (λ (after : R.Denot). sep 𝓤 (sem 𝓛 (lies_at R full_share p after)) (fact 𝓤 (Begins x1 x2 (profile_of x3 x4 x5 x6 x7) after))) r $ says ! none $ done !))))))))
