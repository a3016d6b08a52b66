-- Proof of the headline of a replay: the terminal of the options has its pool in force, and keeps its promise over any log.
use Rattle.std.proofs.Common.{◌≡◌, ◌∙◌, ◌+◌, ◌⊎◌, inl, inr, ℕ, List, [], ◌∷◌, ◌++◌, length, Option, Some, None, Ok, Err, refl, sym, ap, subst}
use Rattle.std.specs.FinMap as finite
use Rattle.vt_can.specs.lines.Readings.{FrameAt, OperatorAction, SkippedFrame, CommentLine}
use Rattle.vt_stores.specs.Stores.{ObjectMap, map_of}
use Rattle.vt_node.specs.AddressFunctions.{with_at}
use Rattle.vt_server.specs.Judgements.{AreJudgedRight}
use Rattle.vt_server.specs.Steps.{JudgedInput, after_all, preloading, step}
use Rattle.vt_server.specs.Terminals.{State}
use Rattle.vt_laws.specs.Headline.{Pools, ArePoolsInForce, NeverSticks}
use Rattle.vt_logs.specs.declared.counts.Counts.{Counts}
use Rattle.vt_logs.specs.EarlyEnds.{BeginsCounts, HasStopped, LeavesLines}
use Rattle.vt_logs.specs.Replays.{IsReplay}
use Rattle.vt_logs.specs.LineEffects.{ReplayState, Follows, TakesReadings}
use Rattle.vt_logs.specs.Texts.{LineReading}
use Rattle.vt_program.specs.declared.options.Options.{Options}
use Rattle.vt_program.specs.declared.options.Preload.{Preload}
use Rattle.vt_tool_laws.specs.Promises.{AreInputsOfLines, LinesKeep, given_pools, reading_behind, readings_taken}
use Rattle.vt_program.specs.Runs.{FileContents, IsPreloaded, IsStart, new_state}
use Rattle.vt_program.proofs.Loading.{map_again}

-- ---- the terminal of the options

pub start-in-force : NeverSticks → (files : FileContents) (options : Options) (s : State) → (is : IsStart files options s)
    → ArePoolsInForce (given_pools files options.preload (new_state options.own options.name) s is) s
start-in-force laws files options s is = cases options.preload is
  where
    new : State
    new = new_state options.own options.name

    first : ArePoolsInForce (λ address. None) new
    first = laws.first new (λ address. refl)

    cases : (o : Option Preload) → (is : IsPreloaded files o new s) → ArePoolsInForce (given_pools files o new s is) s
    cases None same = subst (λ (t : State). ArePoolsInForce (λ address. None) t) (sym same) first
    cases (Some p) loaded =
        let pool = finite.entries loaded.objects in
        let pools : Pools = with_at p.owner (Some (map_of pool)) (λ address. None) in
        let same : preloading new p.owner (map_of pool) ≡ s = ap (preloading new p.owner) (map_again loaded.objects) ∙ sym loaded.state in
        let in-force : ArePoolsInForce pools s = subst (λ (t : State). ArePoolsInForce pools t) same (laws.preloaded (λ address. None) new p.owner pool loaded.verified first) in
        subst (λ (o : ObjectMap). ArePoolsInForce (with_at p.owner (Some o) (λ address. None)) s) (map_again loaded.objects) in-force

-- ---- the events of a log

-- A terminal comes from one state to another by inputs with the property AreSuch.
record TakesEvents (AreSuch : List JudgedInput → Type 0) (from to : State) : Type 0 where
  pub events : List JudgedInput
  pub are_such : AreSuch events
  pub judged : AreJudgedRight from events
  pub after : to ≡ after_all from events

-- The inputs are taken from the same state.
taken-later : (AreSuch : List JudgedInput → Type 0) (from middle : ReplayState) (to : State) → middle ≡ from → TakesEvents AreSuch middle.state to → TakesEvents AreSuch from.state to
taken-later AreSuch from middle to same later = subst (λ (scene : ReplayState). TakesEvents AreSuch scene.state to) same later

-- Lines change a terminal as their inputs do.
taken-events : (readings : List LineReading) (n : ℕ) (from to : ReplayState) (text : List ℕ) → TakesReadings from n readings to text
    → TakesEvents (AreInputsOfLines readings) from.state to.state
taken-events [] n from to text t = record { events = []; are_such = tt; judged = tt; after = ap (λ (scene : ReplayState). scene.state) t.0 }
taken-events (Err fault ∷ rs) n from to text t =
    taken-later (AreInputsOfLines rs) from t.middle to.state t.takes.0 (taken-events rs (n + 1) t.middle to t.rest t.next)
taken-events (Ok (SkippedFrame why) ∷ rs) n from to text t =
    taken-later (AreInputsOfLines rs) from t.middle to.state t.takes.0 (taken-events rs (n + 1) t.middle to t.rest t.next)
taken-events (Ok CommentLine ∷ rs) n from to text t =
    taken-later (AreInputsOfLines rs) from t.middle to.state t.takes.0 (taken-events rs (n + 1) t.middle to t.rest t.next)
taken-events (Ok (FrameAt time frame) ∷ rs) n from to text t =
    let i = t.takes in
    let later = subst (λ (s : State). TakesEvents (AreInputsOfLines rs) s to.state) i.takes.state (taken-events rs (n + 1) t.middle to t.rest t.next) in
    record { events = i.event ∷ later.events; are_such = (i.of_line, later.are_such); judged = (i.takes.judged, later.judged); after = later.after }
taken-events (Ok (OperatorAction action) ∷ rs) n from to text t =
    let i = t.takes in
    let later = subst (λ (s : State). TakesEvents (AreInputsOfLines rs) s to.state) i.takes.state (taken-events rs (n + 1) t.middle to t.rest t.next) in
    record { events = i.event ∷ later.events; are_such = (i.of_line, later.are_such); judged = (i.takes.judged, later.judged); after = later.after }

pub replay-keeps : NeverSticks → (pools : Pools) (start now : State) (input text : List ℕ) (counts : Counts) → ArePoolsInForce pools start
    → (r : IsReplay start input text counts now) → LinesKeep pools start r.readings now
replay-keeps laws pools start now input text counts is r =
    let lines = AreInputsOfLines r.readings in
    let taken = subst (λ (s : State). TakesEvents lines s r.last.state) r.starts (taken-events r.readings 0 r.first r.last r.printed r.takes) in
    record {
      events = taken.events;
      of_lines = taken.are_such;
      judged = taken.judged;
      now_is = r.now_is ∙ taken.after;
      keeps = laws.events pools start taken.events is taken.judged;
    }

-- ---- the lines taken by a replay that ended early

lines-append : (rs qs : List LineReading) (es fs : List JudgedInput) → AreInputsOfLines rs es → AreInputsOfLines qs fs → AreInputsOfLines (rs ++ qs) (es ++ fs)
lines-append [] qs [] fs p q = q
lines-append [] qs (e ∷ es) fs p q = absurd p
lines-append (Err fault ∷ rs) qs es fs p q = lines-append rs qs es fs p q
lines-append (Ok (SkippedFrame why) ∷ rs) qs es fs p q = lines-append rs qs es fs p q
lines-append (Ok CommentLine ∷ rs) qs es fs p q = lines-append rs qs es fs p q
lines-append (Ok (FrameAt time frame) ∷ rs) qs [] fs p q = absurd p
lines-append (Ok (FrameAt time frame) ∷ rs) qs (e ∷ es) fs p q = (p.0, lines-append rs qs es fs p.1 q)
lines-append (Ok (OperatorAction action) ∷ rs) qs [] fs p q = absurd p
lines-append (Ok (OperatorAction action) ∷ rs) qs (e ∷ es) fs p q = (p.0, lines-append rs qs es fs p.1 q)

right-append : (s : State) (es fs : List JudgedInput) → AreJudgedRight s es → AreJudgedRight (after_all s es) fs → AreJudgedRight s (es ++ fs)
right-append s [] fs p q = q
right-append s (e ∷ es) fs p q = (p.0, right-append (step s e).after es fs p.1 q)

after-append : (s : State) (es fs : List JudgedInput) → after_all s (es ++ fs) ≡ after_all (after_all s es) fs
after-append s [] fs = refl
after-append s (e ∷ es) fs = after-append (step s e).after es fs

taken-more : (rs qs : List LineReading) (from middle to : State) → TakesEvents (AreInputsOfLines rs) from middle → TakesEvents (AreInputsOfLines qs) middle to
    → TakesEvents (AreInputsOfLines (rs ++ qs)) from to
taken-more rs qs from middle to p q = record {
  events = p.events ++ q.events;
  are_such = lines-append rs qs p.events q.events p.are_such q.are_such;
  judged = right-append from p.events q.events p.judged (subst (λ (s : State). AreJudgedRight s q.events) p.after q.judged);
  after = q.after ∙ ap (λ (s : State). after_all s q.events) p.after ∙ sym (after-append from p.events q.events);
}

-- A line changes a terminal as its input does, whatever is printed.
followed-event : (r : LineReading) (from to : State) → Follows from r to → TakesEvents (AreInputsOfLines (r ∷ [])) from to
followed-event (Err fault) from to same = record { events = []; are_such = tt; judged = tt; after = same }
followed-event (Ok (SkippedFrame why)) from to same = record { events = []; are_such = tt; judged = tt; after = same }
followed-event (Ok CommentLine) from to same = record { events = []; are_such = tt; judged = tt; after = same }
followed-event (Ok (FrameAt time frame)) from to f = record { events = f.event ∷ []; are_such = (f.of_line, tt); judged = (f.judged, tt); after = f.state }
followed-event (Ok (OperatorAction action)) from to f = record { events = f.event ∷ []; are_such = (f.of_line, tt); judged = (f.judged, tt); after = f.state }

events-none : (from to : State) → to ≡ from → TakesEvents (AreInputsOfLines []) from to
events-none from to same = record { events = []; are_such = tt; judged = tt; after = same }

events-behind : (last : ReplayState) (n : ℕ) (readings : List LineReading) (lines : List (List ℕ)) (now : State) (text : List ℕ)
    → (behind : LeavesLines last n lines now text ⊎ BeginsCounts last readings lines now text)
    → TakesEvents (AreInputsOfLines (reading_behind last n readings lines now text behind)) last.state now
events-behind last n readings lines now text (inl (inl none)) = events-none last.state now none.0
events-behind last n readings lines now text (inl (inr next)) = followed-event next.reading last.state now next.part.done
events-behind last n readings lines now text (inr counts) = events-none last.state now counts.now_is

stopped-events : (start now : State) (input : List ℕ) (old new : Option (List ℕ)) → (stopped : HasStopped start input now old new)
    → TakesEvents (AreInputsOfLines (readings_taken start input now old new stopped)) start now
stopped-events start now input old new (inl before) = events-none start now before.0
stopped-events start now input old new (inr s) =
    let n = length s.front + 1 in
    let taken = subst (λ (t : State). TakesEvents (AreInputsOfLines s.readings) t s.last.state) s.starts (taken-events s.readings 0 s.first s.last s.printed s.takes) in
    taken-more s.readings (reading_behind s.last n s.readings s.back now s.text s.leaves) start s.last.state now taken
    (events-behind s.last n s.readings s.back now s.text s.leaves)

pub stopped-keeps : NeverSticks → (pools : Pools) (start now : State) (input : List ℕ) (old new : Option (List ℕ)) → ArePoolsInForce pools start
    → (stopped : HasStopped start input now old new) → LinesKeep pools start (readings_taken start input now old new stopped) now
stopped-keeps laws pools start now input old new is stopped =
    let taken = stopped-events start now input old new stopped in
    record {
      events = taken.events;
      of_lines = taken.are_such;
      judged = taken.judged;
      now_is = taken.after;
      keeps = laws.events pools start taken.events is taken.judged;
    }
