-- The pool of a frame's source after the frame is the result of its runs, from the pool before or a pool accepted with the frame.
use Rattle.std.proofs.Common.{◌≡◌, ℕ, Bool, true, false, eqb, List, [], ◌∷◌, ◌++◌, Option, Some, None, refl, sym, ap, subst, inl, inr, ◌⊎◌}
use Rattle.std.proofs.lemmas.Bool.{eqb-true}
use Rattle.std.specs.Option.{option_map}
use Rattle.vt_can.specs.declared.frames.frame.Frame.{Frame}
use Rattle.vt_commands.specs.Commands.{command_at}
use Rattle.vt_names.specs.Registry.{Set}
use Rattle.vt_stores.specs.Stores.{ObjectMap}
use Rattle.vt_machine.specs.SetStates.{SetState}
use Rattle.vt_node.specs.declared.bus.FrameMeaning.{FrameMeaning}
use Rattle.vt_node.specs.declared.bus.FrameMeaning.TheVariants.{Claim, ClaimRequest, Master, Member, Message, Tp, Etp, Nothing}
use Rattle.vt_server.specs.Judgements.{ends_transfer}
use Rattle.vt_server.specs.message.MessageEffects.{handled, END_OF_POOL}
use Rattle.vt_node.specs.declared.profile.Profile.{Profile}
use Rattle.vt_server.specs.state.AddressViews.{AddressView, Hears, outcome, after_message}
use Rattle.vt_server.specs.state.AddressStates.{SetPool, heard_at}
use Rattle.vt_server.specs.frame.SessionEffects.{came}
use Rattle.vt_server.specs.message.Verdicts.{Verdict, Accepts, Faulty, Refuses, with_objects_of}
use Rattle.vt_laws.specs.Headline.{Run, accepted_at, accepted_with, runs_of_command, runs_of_message, runs_at}
use Rattle.vt_laws.specs.RunsOfSteps.{Lead}
use Rattle.vt_laws.proofs.lemmas.pools.PoolsInForce.{no-message}
use Rattle.vt_laws.proofs.lemmas.pools.PoolAfterAct.{Follows, lead-append, heard-follows}

-- ---- runs from the objects accepted last

-- If there is a pool, the runs lead to its objects.
abbrev pub Holds : Option ObjectMap → List Run → Option SetState → Type 0
Holds last rs None = Unit {0}
Holds None rs (Some new) = ⊥
Holds (Some old) rs (Some new) = Lead old rs new.objects

-- A pool without runs is unchanged.
pub holds-there : (pool : Option SetState) → Holds (option_map (λ state. state.objects) pool) [] pool
holds-there None = tt
holds-there (Some state) = refl

-- Two lists of runs in sequence.
pub holds-then : (last : Option ObjectMap) (x z : Option SetState) (rs ss : List Run) → Holds last rs x → Follows x ss z → Holds last (rs ++ ss) z
holds-then last x None rs ss first second = tt
holds-then last None (Some new) rs ss first second = absurd second
holds-then None (Some mid) (Some new) rs ss first second = absurd first
holds-then (Some old) (Some mid) (Some new) rs ss first second = lead-append old mid.objects new.objects rs ss first second

-- ---- the end of an accepted upload

-- The new objects are there, and no run has begun.
accepted-holds : (a : ℕ) (objects : ObjectMap) (pool : Option SetState) → Holds (Some objects) (runs_of_command a pool None) (Some (with_objects_of pool objects))
accepted-holds a objects None = refl
accepted-holds a objects (Some state) = refl

ended-holds : (profile : Profile) (a : ℕ) (content : SetPool) (objects : ObjectMap) (function : ℕ) (bytes : List ℕ) → eqb function END_OF_POOL ≡ true
    → Holds (Some objects) (runs_of_command a content.pool (command_at (function ∷ bytes))) (handled profile content (Accepts objects) (function ∷ bytes)).content.pool
ended-holds profile a content objects function bytes ends =
    subst (λ (n : ℕ). Holds (Some objects) (runs_of_command a content.pool (command_at (n ∷ bytes))) (handled profile content (Accepts objects) (n ∷ bytes)).content.pool)
    (sym (eqb-true function END_OF_POOL ends)) (accepted-holds a objects content.pool)

message-holds : (a : ℕ) (p : AddressView) (objects : ObjectMap) (o : Option Set) (message : Option (List ℕ)) → ends_transfer o message ≡ true
    → Holds (Some objects) (runs_of_message a o p.place.content.pool message) (after_message a p (Accepts objects) o message).place.content.pool
message-holds a p objects None message ends = absurd cc
message-holds a p objects (Some set) None ends = absurd cc
message-holds a p objects (Some set) (Some []) ends = absurd cc
message-holds a p objects (Some set) (Some (function ∷ bytes)) ends = ended-holds p.profile a p.place.content objects function bytes ends

-- A frame with the message that ends an accepted upload.
brought : (now a : ℕ) (p : AddressView) (n : FrameMeaning) (f : Frame) (objects : ObjectMap) → ends_transfer p.set (came now p.terminal a p.place n f).message ≡ true
    → Holds (Some objects) (runs_at now a p (Hears n f (Accepts objects))) (outcome now a p (Hears n f (Accepts objects))).place.content.pool
brought now a p (Claim name) f objects ends = absurd (no-message p.set ends)
brought now a p ClaimRequest f objects ends = absurd (no-message p.set ends)
brought now a p (Master count) f objects ends = absurd (no-message p.set ends)
brought now a p (Member name) f objects ends = absurd (no-message p.set ends)
brought now a p Nothing f objects ends = absurd (no-message p.set ends)
brought now a p Message f objects ends =
    message-holds a (record p { place = (came now p.terminal a (heard_at now p.place) Message f).place }) objects p.set (Some f.bytes.items) ends
brought now a p Tp f objects ends =
    let c = came now p.terminal a (heard_at now p.place) Tp f in message-holds a (record p { place = c.place }) objects p.set c.message ends
brought now a p Etp f objects ends =
    let c = came now p.terminal a (heard_at now p.place) Etp f in message-holds a (record p { place = c.place }) objects p.set c.message ends

-- ---- a frame

-- A verdict at the end of an upload accepts a pool; after any other message the pool accepted last is the same.
brings : (ends : Bool) (verdict : Verdict)
    → ((last : Option ObjectMap) → accepted_with ends verdict last ≡ last) ⊎ ((objects : ObjectMap) × (ends ≡ true) × (verdict ≡ Accepts objects))
brings false verdict = inl (λ last. refl)
brings true (Accepts objects) = inr (objects, refl, refl)
brings true (Faulty fault) = inl (λ last. refl)
brings true (Refuses refusal) = inl (λ last. refl)

-- After a frame the pool is the result of the frame's runs, from the pool accepted last.
pub heard-holds : (now a : ℕ) (p : AddressView) (n : FrameMeaning) (f : Frame) (verdict : Verdict) (last : Option ObjectMap) → Holds last [] p.place.content.pool
    → Holds (accepted_at now a p (Hears n f verdict) last) (runs_at now a p (Hears n f verdict)) (outcome now a p (Hears n f verdict)).place.content.pool
heard-holds now a p n f verdict last is = by (brings ends verdict)
  where
    ends : Bool
    ends = ends_transfer p.set (came now p.terminal a p.place n f).message

    rs : List Run
    rs = runs_at now a p (Hears n f verdict)

    by : ((last : Option ObjectMap) → accepted_with ends verdict last ≡ last) ⊎ ((objects : ObjectMap) × (ends ≡ true) × (verdict ≡ Accepts objects))
        → Holds (accepted_at now a p (Hears n f verdict) last) rs (outcome now a p (Hears n f verdict)).place.content.pool
    by (inl none) =
        subst (λ (x : Option ObjectMap). Holds x rs (outcome now a p (Hears n f verdict)).place.content.pool) (sym (none last))
        (holds-then last p.place.content.pool (outcome now a p (Hears n f verdict)).place.content.pool [] rs is (heard-follows now a p n f verdict none))
    by (inr w) =
        subst (λ (v : Verdict). Holds (accepted_at now a p (Hears n f v) last) (runs_at now a p (Hears n f v)) (outcome now a p (Hears n f v)).place.content.pool) (sym w.2)
        (subst (λ (x : Option ObjectMap). Holds x (runs_at now a p (Hears n f (Accepts w.0))) (outcome now a p (Hears n f (Accepts w.0))).place.content.pool)
        (sym (ap (λ (b : Bool). accepted_with b (Accepts w.0) last) w.1)) (brought now a p n f w.0 w.1))
