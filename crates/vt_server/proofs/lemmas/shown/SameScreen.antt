-- The screen is the same if the same set is shown with a pool that looks the same. Refused commands, uploads and actions keep both,
-- and so do commands and actions that keep the look. Time and claims remove pools, but change none.
use Rattle.std.proofs.Common.{◌≡◌, ◌≢◌, ℕ, Bool, true, false, cond, List, [], ◌∷◌, map, Option, Some, None, is_some, true≢false, refl, sym, ap, subst, ◌∙◌, nat_eq}
use Rattle.std.specs.List.{filter}
use Rattle.std.specs.Option.{option_eq, option_map}
use Rattle.std.specs.Prelude.{Result, Ok, Err}
use Rattle.vt_can.specs.declared.frames.frame.Frame.{Frame}
use Rattle.vt_can.specs.frames.Frame.{source_of}
use Rattle.vt_can.specs.lines.Actions.{ActionValue}
use Rattle.std.proofs.lemmas.Option.{same_Some}
use Rattle.std.specs.FinMap as finite
use Rattle.vt_kinds.specs.Records.{Seen}
use Rattle.vt_effects.specs.Effects.{effect}
use Rattle.vt_effects.specs.Looks.{look, HaveSameLook}
use Rattle.vt_macros.specs.declared.audio.Audio.{Audio}
use Rattle.vt_machine.specs.SetStates.{SetState, after_run, audio_by}
use Rattle.vt_macros.specs.Machines.{events_of}
use Rattle.vt_machine.specs.declared.operator.OperatorRefusal.{OperatorRefusal}
use Rattle.vt_names.specs.Registry.{Set}
use Rattle.vt_stores.specs.Stores.{ObjectMap}
use Rattle.vt_commands.specs.declared.command.Command.{Command}
use Rattle.vt_commands.specs.declared.raising.Raised.{Raised}
use Rattle.vt_server.specs.operator.ActionContracts.{PerformsAt}
use Rattle.vt_server.specs.message.CommandEffects.{after_done, content_after, deletes, error_after, error_in, error_of, state_after}
use Rattle.vt_server.specs.frame.FrameContracts.{FitsBeforeTimeouts}
use Rattle.vt_server.specs.frame.TimeoutActs.{at_time, lapsed, silences, set_is_silent, tp_due, etp_due, sending_due, after_tp_timeouts, after_etp_timeouts, after_timeouts}
use Rattle.vt_server.specs.operator.ActionEffects.{action_on}
use Rattle.vt_server.specs.state.AddressViews.{Act, AddressView, Hears, Rebinds, TpExpires, EtpExpires, SendingExpires, FallsSilent, outcome, unchanged, without_set, stays_under, after_change, after_claim_heard}
use Rattle.vt_server.specs.state.AddressStates.{SetPool, AddressState, heard_at, no_content}
use Rattle.vt_layout.proofs.ScreensOfLooks.{screens_show_looks}
use Rattle.vt_server.specs.shown.Screens.{KeepsPoolLook, look_in, IsScreenAt, IsScreenOfShown, KeepsScreen, ShowsSame, ShowsWhatIsLeft, TellsChanges}
use Rattle.vt_server.specs.States.{state_of}
use Rattle.vt_server.specs.Steps.{before, changes, heard_at_source, acts, acted}
use Rattle.vt_server.specs.Terminals.{State, pool_of, pool_at, part, put, after_act, after_acts}
use Rattle.vt_node.specs.AddressFunctions.{with_at}
use Rattle.vt_server.specs.message.Verdicts.{Verdict, Accepts, Faulty, Refuses, after_verdict, end_of_pool, end_reply}
use Rattle.vt_server.specs.state.PoolTables.{content_of}
use Rattle.vt_node.specs.declared.bus.FrameMeaning.{FrameMeaning}
use Rattle.vt_node.specs.declared.bus.FrameMeaning.TheVariants.{Claim}
use Rattle.vt_server.specs.declared.pools.PoolTable as declared
use Rattle.vt_server.specs.declared.frame.step.PreparedFrame.{PreparedFrame}
use Rattle.vt_server.specs.declared.frame.step.PreparedFrame.TheVariants as readies
use Rattle.vt_server.specs.declared.terminal.Terminal.{Terminal}
use Rattle.vt_server.proofs.lemmas.acts.AddressedActs.{AllAt, at-append, at-below, at-changes, at-heard}
use Rattle.vt_server.proofs.lemmas.acts.HolderChanges.{shown-acts}
use Rattle.vt_server.proofs.lemmas.frame.FrameEffect.{any_verdict}
use Rattle.vt_server.proofs.lemmas.steps.StepInvariants.{lapsed-keeps}
use Rattle.vt_server.proofs.lemmas.operator.ActionMessages.{refused-is}
use Rattle.vt_server.proofs.lemmas.shown.ShownSetHasPool.{HasPoolAt, ShownHasPool}
use Rattle.vt_server.proofs.lemmas.acts.ComposedActs.{act-is}
use Rattle.vt_node.proofs.ByAddress.{at-own, at-other}
use Rattle.vt_names.proofs.IndexAfterClaim.{option_same}
use Rattle.vt_names.proofs.AddressesAfterClaim.{by_eq, none-some}
use Rattle.vt_kinds.specs.Ids.{null_id}

-- ---- pools that look the same

some-none : {A : Type 0} (x : A) → Some x ≡ None → ⊥
some-none x is = none-some (sym is)

pub look-is : (old new : Option SetState) → new ≡ old → KeepsPoolLook old new
look-is old new is id = ap (λ (pool : Option SetState). look_in pool id) is

look-then : (old mid new : Option SetState) → KeepsPoolLook old mid → KeepsPoolLook mid new → KeepsPoolLook old new
look-then old mid new first second id = second id ∙ first id

look-some : (old new : Option SetState) → KeepsPoolLook old new → is_some new ≡ true → is_some old ≡ true
look-some None None same some = some
look-some (Some old) new same some = refl
look-some None (Some new) same some = absurd (some-none _ (same 0))

pub looks-some : (old new : SetState) → HaveSameLook old.objects new.objects → KeepsPoolLook (Some old) (Some new)
looks-some old new same id = ap (λ (o : Option Seen). Some o) (same id)

-- ---- the text

screen-same : (a : ℕ) (old new : Option SetState) (text : List ℕ) → KeepsPoolLook old new → IsScreenAt a old text → IsScreenAt a new text
screen-same a None None text same is = is
screen-same a (Some old) (Some new) text same is =
    screens_show_looks a old.objects new.objects text
    (λ id. same_Some (option_map look (finite.get new.objects id)) (option_map look (finite.get old.objects id)) (same id)) is
screen-same a None (Some new) text same is = absurd (some-none _ (same 0))
screen-same a (Some old) None text same is = absurd (none-some (same 0))

text-same : (s t : State) (shown : Option ℕ) (text : List ℕ) → KeepsPoolLook (pool_at s shown) (pool_at t shown) → IsScreenOfShown (pool_of s) shown text
    → IsScreenOfShown (pool_of t) shown text
text-same s t None text same is = is
text-same s t (Some a) text same is = screen-same a (pool_of s a) (pool_of t a) text same is

pub same-text : (s t : State) → ShowsSame s t → KeepsScreen s t
same-text s t same text is =
    subst (λ (shown : Option ℕ). IsScreenOfShown (pool_of t) shown text) (sym same.shown)
    (text-same s t s.shown text (subst (λ (shown : Option ℕ). KeepsPoolLook (pool_at s s.shown) (pool_at t shown)) same.shown same.pool) is)

pub shows-then : (s t u : State) → ShowsSame s t → ShowsSame t u → ShowsSame s u
shows-then s t u first second = record {
  shown = second.shown ∙ first.shown;
  pool = look-then (pool_at s s.shown) (pool_at t t.shown) (pool_at u u.shown) first.pool second.pool;
}

-- The shown pool looks the same.
same-at : (s t : State) → t.shown ≡ s.shown → ((b : ℕ) → s.shown ≡ Some b → KeepsPoolLook (pool_of s b) (pool_of t b)) → ShowsSame s t
same-at s t shown each = record {
  shown = shown;
  pool = subst (λ (o : Option ℕ). KeepsPoolLook (pool_at s s.shown) (pool_at t o)) (sym shown) (at s.shown refl);
}
  where
    at : (o : Option ℕ) → s.shown ≡ o → KeepsPoolLook (pool_at s o) (pool_at t o)
    at None is = λ id. refl
    at (Some a) is = each a is

-- All pools look the same.
same-by : (s t : State) → t.shown ≡ s.shown → ((b : ℕ) → KeepsPoolLook (pool_of s b) (pool_of t b)) → ShowsSame s t
same-by s t shown each = same-at s t shown (λ b is. each b)

pools-other : (old new : ℕ → SetPool) (a : ℕ) (x : SetPool) → new ≡ with_at a x old → (b : ℕ) → b ≢ a → (new b).pool ≡ (old b).pool
pools-other old new a x is b ne = ap (λ (k : ℕ → SetPool). (k b).pool) is ∙ ap (λ (k : SetPool). k.pool) (at-other a b old x ne)

pools-look : (old new : ℕ → SetPool) (a : ℕ) (x : SetPool) → new ≡ with_at a x old → KeepsPoolLook (old a).pool x.pool → (b : ℕ) → KeepsPoolLook (old b).pool (new b).pool
pools-look old new a x is same b =
    by_eq b a
    (λ here. subst (λ q. KeepsPoolLook (old q).pool (new q).pool) (sym here)
    (subst (λ (pool : Option SetState). KeepsPoolLook (old a).pool pool)
    (sym (ap (λ (k : ℕ → SetPool). (k a).pool) is ∙ ap (λ (k : SetPool). k.pool) (at-own a old x))) same))
    (λ ne. look-is (old b).pool (new b).pool (pools-other old new a x is b ne))

other-shown : (shown : Option ℕ) (a b : ℕ) → option_eq nat_eq shown (Some a) ≡ false → shown ≡ Some b → b ≢ a
other-shown shown a b other is here =
    true≢false (sym (option_same (Some a)) ∙ ap (λ o. option_eq nat_eq o (Some a)) (sym (is ∙ ap Some here)) ∙ other)

module _ (t : Terminal) (contents : declared.PoolTable) (a : ℕ) (x : SetPool) (is : content_of contents ≡ with_at a x (content_of t.contents)) where
  -- One pool is replaced by one that looks the same.
  pub same-look : KeepsPoolLook (content_of t.contents a).pool x.pool → ShowsSame (state_of t) (state_of (record t { contents = contents }))
  same-look same =
      same-by (state_of t) (state_of (record t { contents = contents })) refl (pools-look (content_of t.contents) (content_of contents) a x is same)

  -- One content changes, but not its pool.
  pub same-pool : x.pool ≡ (content_of t.contents a).pool → ShowsSame (state_of t) (state_of (record t { contents = contents }))
  same-pool same = same-look (look-is (content_of t.contents a).pool x.pool same)

  -- The content of an address other than the shown one changes.
  pub same-elsewhere : option_eq nat_eq t.shown (Some a) ≡ false → ShowsSame (state_of t) (state_of (record t { contents = contents }))
  same-elsewhere other =
      same-at (state_of t) (state_of (record t { contents = contents })) refl
      (λ b at. look-is (content_of t.contents b).pool (content_of contents b).pool
      (pools-other (content_of t.contents) (content_of contents) a x is b (other-shown t.shown a b other at)))

-- ---- commands, ends of uploads and actions that change nothing

refused-objects : (old : ObjectMap) (raised : List Raised) (result : Result ObjectMap ℕ) → error_in result ≢ 0 → after_done old raised result ≡ old
refused-objects old raised (Ok middle) other = absurd (other refl)
refused-objects old raised (Err bits) other = refl

refused-audio : (audio : Audio) (command : Command) (raised : List Raised) (result : Result ObjectMap ℕ) → error_in result ≢ 0 → audio_by audio command raised result ≡ audio
refused-audio audio command raised (Ok middle) other = absurd (other refl)
refused-audio audio command raised (Err bits) other = refl

refused-command : (command : Command) (pool : Option SetState) → option_map (error_of command) pool ≢ Some 0 → option_map (state_after command) pool ≡ pool
refused-command command None other = refl
refused-command command (Some state) other =
    let objects = refused-objects state.objects (events_of state.objects command) (effect state.objects command) (λ h. other (ap Some h)) in
    let audio = refused-audio state.audio command (events_of state.objects command) (effect state.objects command) (λ h. other (ap Some h)) in
    λ i. Some (after_run state (objects i) (audio i))

pub command-same : (command : Command) (content : SetPool) → error_after command content.pool ≢ Some 0 → (content_after command content).pool ≡ content.pool
command-same command content other = cases (deletes command) other
  where
    cases : (b : Bool) → cond b (Some 0) (option_map (error_of command) content.pool) ≢ Some 0
        → (cond b no_content (record content { pool = option_map (state_after command) content.pool })).pool ≡ content.pool
    cases true other = absurd (other refl)
    cases false other = refused-command command content.pool other

pub end-same : (content : SetPool) (verdict : Verdict) → end_reply verdict ≢ end_of_pool 0 null_id null_id 0 → (after_verdict content verdict).pool ≡ content.pool
end-same content (Accepts objects) other = absurd (other refl)
end-same content (Faulty fault) other = refl
end-same content (Refuses refusal) other = refl

-- A refused action changes no pool.
pub refused-pool : (old : Option SetState) (action : ActionValue) (refusal : OperatorRefusal) (pool : Option SetState) → PerformsAt old action (Some (Err refusal)) pool → pool ≡ old
refused-pool None action refusal None is = refl
refused-pool None action refusal (Some q) is = absurd is
refused-pool (Some p) action refusal None is = absurd is
refused-pool (Some p) action refusal (Some q) is = ap Some (refused-is p q (action_on p is.shown action) refusal is.comes).1

-- ---- pools unchanged or removed

abbrev pub Stays : Option SetState → Option SetState → Type 0
Stays old new = is_some new ≡ true → KeepsPoolLook old new

gone : (old : Option SetState) → Stays old None
gone old some = absurd (true≢false (sym some))

as-it-is : (old new : Option SetState) → new ≡ old → Stays old new
as-it-is old new is some = look-is old new is

stays-then : (old mid new : Option SetState) → Stays old mid → Stays mid new → Stays old new
stays-then old mid new first second some =
    let later = second some in
    look-then old mid new (first (look-some mid new later some)) later

stays-at : (s t : State) (shown : Option ℕ) → ((b : ℕ) → Stays (pool_of s b) (pool_of t b)) → Stays (pool_at s shown) (pool_at t shown)
stays-at s t None each = λ some id. refl
stays-at s t (Some a) each = each a

left-by : (s t : State) → t.shown ≡ s.shown → ((b : ℕ) → Stays (pool_of s b) (pool_of t b)) → ShowsWhatIsLeft s t
left-by s t shown each = record {
  shown = shown;
  pool = subst (λ (o : Option ℕ). Stays (pool_at s s.shown) (pool_at t o)) (sym shown) (stays-at s t s.shown each);
}

pub left-same : (s t : State) → ShowsSame s t → ShowsWhatIsLeft s t
left-same s t same = record { shown = same.shown; pool = λ some. same.pool }

pub left-then : (s t u : State) → ShowsWhatIsLeft s t → ShowsWhatIsLeft t u → ShowsWhatIsLeft s u
left-then s t u first second = record {
  shown = second.shown ∙ first.shown;
  pool = stays-then (pool_at s s.shown) (pool_at t t.shown) (pool_at u u.shown) first.pool second.pool;
}

-- The shown set has a pool, so it is the pool of before.
left-all : (s t : State) → ShowsWhatIsLeft s t → ShownHasPool t → ShowsSame s t
left-all s t left has = record { shown = left.shown; pool = cases t.shown refl has }
  where
    cases : (o : Option ℕ) → t.shown ≡ o → HasPoolAt (pool_of t) o → KeepsPoolLook (pool_at s s.shown) (pool_at t t.shown)
    cases None is there = look-is (pool_at s s.shown) (pool_at t t.shown) (ap (pool_at t) is ∙ ap (pool_at s) (sym is ∙ left.shown))
    cases (Some a) is there = left.pool (ap (λ o. is_some (pool_at t o)) is ∙ there)

-- ---- acts that leave pools unchanged or remove them

abbrev pub ActStays : Act → Type 0
ActStays act = (now a : ℕ) (p : AddressView) → Stays p.place.content.pool (outcome now a p act).place.content.pool

change-stays : (p : AddressView) (o : Option Set) → Stays p.place.content.pool (after_change p o).place.content.pool
change-stays p None = λ some id. refl
change-stays p (Some set) = cases (stays_under set.name p.holder)
  where
    cases : (b : Bool) → Stays p.place.content.pool (cond b (unchanged p) (without_set p)).place.content.pool
    cases true = λ some id. refl
    cases false = gone p.place.content.pool

claim-stays : (p : AddressView) (o : Option Set) → Stays p.place.content.pool (after_claim_heard p o).place.content.pool
claim-stays p None = λ some id. refl
claim-stays p (Some set) = λ some id. refl

rebinds-stays : ActStays Rebinds
rebinds-stays now a p = change-stays p p.set

claim-heard-stays : (name : ℕ) (f : Frame) (verdict : Verdict) → ActStays (Hears (Claim name) f verdict)
claim-heard-stays name f verdict now a p = claim-stays (record p { place = heard_at now p.place }) p.set

act-stays : (s : State) (a b : ℕ) (h : Act) → ActStays h → Stays (pool_of s b) (pool_of (after_act s a h) b)
act-stays s a b h stays =
    let place : AddressState = (outcome s.now a (part a s) h).place in
    subst (λ (t : State). Stays (pool_of s b) (pool_of t b)) (sym (act-is s a h))
    (by_eq b a
    (λ is. subst (λ q. Stays (pool_of s q) (pool_of (put a (outcome s.now a (part a s) h) s) q)) (sym is)
    (subst (λ (x : AddressState). Stays (pool_of s a) x.content.pool) (sym (at-own a s.places place)) (stays s.now a (part a s))))
    (λ ne. as-it-is (pool_of s b) (pool_of (put a (outcome s.now a (part a s) h) s) b) (ap (λ (x : AddressState). x.content.pool) (at-other a b s.places place ne))))

acts-stay : (s : State) (b : ℕ) (hs : List (ℕ × Act)) → AllAt (λ a h. ActStays h) hs → Stays (pool_of s b) (pool_of (after_acts s hs) b)
acts-stay s b [] all = λ some id. refl
acts-stay s b (h ∷ hs) all =
    let t = after_act s h.0 h.1 in
    stays-then (pool_of s b) (pool_of t b) (pool_of (after_acts t hs) b) (act-stays s h.0 b h.1 all.0) (acts-stay t b hs all.1)

-- The timeouts and closings of a frame's time leave each pool unchanged or remove it.
silent-all : (sets : List Set) → AllAt (λ a h. ActStays h) (map (λ (set : Set). (set.address, FallsSilent)) sets)
silent-all [] = tt
silent-all (set ∷ sets) = (λ now a p. gone p.place.content.pool, silent-all sets)

lapsed-stays : (s : State) (b : ℕ) → Stays (pool_of s b) (pool_of (lapsed s) b)
unfolding lapsed
lapsed-stays s b =
    let t = after_tp_timeouts s in
    let u = after_etp_timeouts s in
    let v = after_timeouts s in
    let w = after_acts v (silences v) in
    stays-then (pool_of s b) (pool_of v b) (pool_of w b)
    (stays-then (pool_of s b) (pool_of u b) (pool_of v b)
    (stays-then (pool_of s b) (pool_of t b) (pool_of u b)
    (acts-stay s b (tp_due s) (at-below (λ a h. ActStays h) _ TpExpires 256 (λ a lt now q p some id. refl)))
    (acts-stay t b (etp_due t) (at-below (λ a h. ActStays h) _ EtpExpires 256 (λ a lt now q p some id. refl))))
    (acts-stay u b (sending_due u) (at-below (λ a h. ActStays h) _ SendingExpires 256 (λ a lt now q p some id. refl))))
    (acts-stay v b (silences v) (silent-all (filter (set_is_silent v) v.sets)))

shown-lapsed : (s : State) → (lapsed s).shown ≡ s.shown
shown-lapsed s = lapsed-keeps (λ t. t.shown ≡ s.shown) (λ t a h is. ap (λ (u : State). u.shown) (act-is t a h) ∙ is) s refl

lapsed-left : (s : State) (now : ℕ) → ShowsWhatIsLeft s (lapsed (at_time s now))
lapsed-left s now = left-by s (lapsed (at_time s now)) (shown-lapsed (at_time s now)) (lapsed-stays (at_time s now))

-- A claim leaves each pool unchanged or removes it.
claim-left : (s : State) (source name : ℕ) (f : Frame) (verdict : Verdict) → ShowsWhatIsLeft s (acted s source (Claim name) f verdict)
claim-left s source name f verdict =
    let n = Claim name in
    let t = before s source n in
    let hs = acts s source n f verdict in
    left-by s (acted s source n f verdict) (shown-acts t hs)
    (λ b. acts-stay t b hs
    (at-append (λ a h. ActStays h) (changes s source n) (heard_at_source s.claims.own source n f verdict)
    (at-changes (λ a h. ActStays h) (λ a. rebinds-stays) s source n)
    (at-heard (λ a h. ActStays h) s.claims.own source n f verdict (claim-heard-stays name f verdict))))

-- The whole step of a claim: its record, its effect and the choice of the shown set.
pub claimed-left : (s t u v : State) (f : Frame) (n : FrameMeaning) (name : ℕ) → t ≡ before s (source_of f) n → u ≡ acted s (source_of f) (Claim name) f any_verdict
    → ShowsSame u v → ShowsWhatIsLeft t v
claimed-left s t u v f n name recorded took updates =
    let first : ShowsWhatIsLeft s u = subst (ShowsWhatIsLeft s) (sym took) (claim-left s (source_of f) name f any_verdict) in
    let all = left-then s u v first (left-same u v updates) in
    subst (λ (x : State). ShowsWhatIsLeft x v) (sym recorded) (record { shown = all.shown; pool = all.pool })

-- ---- an input

-- The work done in advance for a frame changes no pool.
pub prepared-shows : (s : State) (t : Terminal) (now : ℕ) (n : FrameMeaning) (f : Frame) (ready : PreparedFrame) → FitsBeforeTimeouts s t now n f ready → ShowsSame s (state_of t)
prepared-shows s t now n f readies.Loses it = subst (ShowsSame s) (sym it.0) (record { shown = refl; pool = λ id. refl })
prepared-shows s t now n f (readies.Claimed former) it = subst (ShowsSame s) (sym it.5) (record { shown = refl; pool = λ id. refl })
prepared-shows s t now n f (readies.Prepared upload) it = subst (ShowsSame s) (sym it.0) (record { shown = refl; pool = λ id. refl })

-- The whole step of a frame: work in advance, timeouts and closings, and its effect.
pub line-kept : (s t u v : State) (now : ℕ) → ShowsSame s t → u ≡ lapsed (at_time t now) → ShowsWhatIsLeft u v
    → ShownHasPool v → KeepsScreen s v
line-kept s t u v now prepared lapses left has =
    let lapsing : ShowsWhatIsLeft t u = subst (ShowsWhatIsLeft t) (sym lapses) (lapsed-left t now) in
    same-text s v (shows-then s t v prepared (left-all t v (left-then t u v lapsing left) has))

-- The whole step of an action: its effect and the choice of the shown set.
pub tells-through : (t m x : Terminal) → m ≡ x → TellsChanges t x → m.redraws ≡ false → ShowsSame (state_of t) (state_of m)
tells-through t m x is tells none =
    subst (λ (y : Terminal). ShowsSame (state_of t) (state_of y)) (sym is) (tells (ap (λ (y : Terminal). y.redraws) (sym is) ∙ none)).1
