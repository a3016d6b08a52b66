-- Proof that a log has one replay.
use Rattle.std.proofs.Common.{◌≡◌, ◌∙◌, ◌+◌, ℕ, List, [], ◌∷◌, ◌++◌, length, Option, Some, None, Ok, Err, refl, sym, ap, ap₂, subst, arith}
use Rattle.std.specs.Prelude.{IfSome, reverse}
use Rattle.std.specs.List.{AllZip, flat_map}
use Rattle.std.specs.Io.KnownBytes.{Appends}
use Rattle.vt_can.specs.declared.frames.frame.Frame.{Frame}
use Rattle.vt_can.specs.lines.Actions.{ActionValue, Press, Release, Select, Number, Text, Set, action_value}
use Rattle.vt_can.specs.declared.lines.line.Action.{Action}
use Rattle.vt_can.specs.declared.lines.line.Action.TheVariants as actions
use Rattle.vt_can.specs.lines.Readings.{ParsedLine, FrameAt, OperatorAction, SkippedFrame, CommentLine}
use Rattle.vt_laws.specs.UniqueSteps.{StepsAreOne}
use Rattle.vt_laws.specs.Headline.{Pools, ArePoolsInForce, IsPoolInForce, NeverSticks, accepted_after}
use Rattle.vt_layout.specs.Screens.{ScreensAreOne}
use Rattle.vt_logs.specs.declared.counts.Counts.{Counts}
use Rattle.vt_logs.specs.Lines.{lines_of}
use Rattle.vt_logs.specs.Replays.{IsReplay}
use Rattle.vt_logs.specs.LineEffects.{ReplayState, IsInputOfLine, TakesInputLine, TakesReading, TakesReadings}
use Rattle.vt_logs.specs.Texts.{LineReading, counts_text, new_screen, no_counts, output_text, with_lines_counted}
use Rattle.vt_machine.specs.SetStates.{SetState}
use Rattle.vt_kinds.specs.Records.{Seen}
use Rattle.vt_pool.specs.Pools.{PoolEntry, AreRecords, contents, joined}
use Rattle.vt_program.specs.declared.options.Options.{Options}
use Rattle.vt_program.specs.declared.options.Preload.{Preload}
use Rattle.vt_tool_laws.specs.Certain.{AppendSame, IsKnown, IsPoolKnown, ReplaysAreOne}
use Rattle.vt_tool_laws.specs.Promises.{given_pools}
use Rattle.vt_program.specs.Runs.{FileContents, HasReplayed, IsPoolOf, IsPreloaded, IsStart, WritesReplay, new_state}
use Rattle.vt_recorded.specs.Readings.{IsReadingOf, ReadingsAreOne}
use Rattle.vt_tool_laws.proofs.Keeping.{start-in-force}
use Rattle.vt_records.proofs.ReadInvertsWrite.{same_record}
use Rattle.vt_server.specs.Judgements.{IsEventOf, IsJudgedRight}
use Rattle.vt_server.specs.Outputs.{outputs_of}
use Rattle.vt_server.specs.shown.Screens.{IsScreenAt, IsScreenOf, IsScreenOfShown}
use Rattle.vt_server.specs.Steps as steps
use Rattle.vt_server.specs.Steps.{JudgedInput, Step, preloading, step}
use Rattle.vt_server.specs.Terminals.{State, pool_of}
use Rattle.vt_server.specs.declared.input.Input.TheVariants as inputs
use Rattle.vt_stores.specs.Stores.{ObjectMap}

-- ---- the events of a line

frame-event : (time : ℕ) (frame : Frame) (e : JudgedInput) → IsInputOfLine (FrameAt time frame) e → IsEventOf (inputs.Frame time frame) e
frame-event time frame (steps.FrameAt at heard verdict) is = is
frame-event time frame (steps.ActionAt action shown) is = absurd is

action-event : (action : Action) (value : ActionValue) (e : JudgedInput) → action_value action ≡ value → IsInputOfLine (OperatorAction value) e
    → IsEventOf (inputs.Operator action) e
action-event action value (steps.FrameAt at heard verdict) same is = absurd is
action-event action value (steps.ActionAt other shown) same is = is ∙ sym same

-- There is an action with this value.
action-of : (value : ActionValue) → (action : Action) × (action_value action ≡ value)
action-of (Press id) = (actions.Press id, refl)
action-of (Release id) = (actions.Release id, refl)
action-of (Select id) = (actions.Select id, refl)
action-of (Number id n) = (actions.Number id n, refl)
action-of (Text id text) = (actions.Text id (record { now = text; ref_ptr = (0, 0) }), refl)
action-of (Set address) = (actions.Set address, refl)

-- ---- the records of a pool

joined-one : (a b : List PoolEntry) → AreRecords a → AreRecords b → joined a ≡ joined b → a ≡ b
joined-one [] [] one other e = refl
joined-one [] (r ∷ b) one other e = let len = ap length e in absurd (omega arith)
joined-one (r ∷ a) [] one other e = let len = ap length e in absurd (omega arith)
joined-one (r ∷ a) (s ∷ b) one other e =
    let same = same_record r.0 s.0 r.1 s.1 (joined a) (joined b) one.0 other.0 e in
    let later = joined-one a b one.1 other.1 same.same_rest in
    ap (λ (es : List PoolEntry). r ∷ es) later ∙ ap (λ (id : ℕ). (id, r.1) ∷ b) same.same_id ∙ ap (λ (o : Seen). (s.0, o) ∷ b) same.same_object

-- ---- the laws below

pub record Laws : Type 0 where
  pub read : ReadingsAreOne
  pub steps : StepsAreOne
  pub screens : ScreensAreOne
  pub never : NeverSticks

module _ (laws : Laws) where
  -- ---- readings

  readings-one : (lines : List (List ℕ)) (rs qs : List LineReading) → AllZip IsReadingOf lines rs → AllZip IsReadingOf lines qs → rs ≡ qs
  readings-one [] [] [] p q = refl
  readings-one [] [] (r ∷ qs) p q = absurd q
  readings-one [] (r ∷ rs) qs p q = absurd p
  readings-one (line ∷ lines) [] qs p q = absurd p
  readings-one (line ∷ lines) (r ∷ rs) [] p q = absurd q
  readings-one (line ∷ lines) (r ∷ rs) (s ∷ qs) p q =
      ap₂ (λ (x : LineReading) (xs : List LineReading). x ∷ xs) (laws.read line r s p.0 q.0) (readings-one lines rs qs p.1 q.1)

  -- ---- screens

  screens-at : (address : ℕ) (last : Option ObjectMap) (o : Option SetState) (a b : List ℕ) → IfSome o (IsPoolInForce last) → IsScreenAt address o a → IsScreenAt address o b → a ≡ b
  screens-at address last None a b force p q = p ∙ sym q
  screens-at address last (Some state) a b force p q = laws.screens.one address state.objects a b force.ready.working_set p q

  screens-of : (pools : Pools) (has : ℕ → Option SetState) (shown : Option ℕ) (a b : List ℕ) → ((address : ℕ) → IfSome (has address) (IsPoolInForce (pools address)))
      → IsScreenOfShown has shown a → IsScreenOfShown has shown b → a ≡ b
  screens-of pools has None a b force p q = p ∙ sym q
  screens-of pools has (Some address) a b force p q = screens-at address (pools address) (has address) a b (force address) p q

  screens-one : (pools : Pools) (s : State) (a b : List ℕ) → ArePoolsInForce pools s → IsScreenOf s a → IsScreenOf s b → a ≡ b
  screens-one pools s a b force p q = screens-of pools (pool_of s) s.shown a b force p q

  -- ---- a line

  events-one : (s : State) (line : ParsedLine) (e f : JudgedInput) → IsInputOfLine line e → IsInputOfLine line f → IsJudgedRight s e → IsJudgedRight s f → step s e ≡ step s f
  events-one s (FrameAt time frame) e f is too found alike =
      laws.steps.events s (inputs.Frame time frame) e f (frame-event time frame e is) (frame-event time frame f too) found alike
  events-one s (OperatorAction value) e f is too found alike =
      let action = action-of value in
      laws.steps.events s (inputs.Operator action.0) e f (action-event action.0 value e action.1 is) (action-event action.0 value f action.1 too) found alike
  events-one s (SkippedFrame why) e f is too found alike = absurd is
  events-one s CommentLine e f is too found alike = absurd is

  -- Two steps from one scene lead to one scene with one text, and the pools are in force there.
  record IsOneWay (b c : ReplayState) (t u : List ℕ) : Type 0 where
    pub scene : b ≡ c
    pub text : t ≡ u
    pub pools : Pools
    pub force : ArePoolsInForce pools b.state

  prints-one : (pools : Pools) (a b c : ReplayState) (printed t u : List ℕ) → ArePoolsInForce pools a.state → (b ≡ a) × (t ≡ printed) → (c ≡ a) × (u ≡ printed) → IsOneWay b c t u
  prints-one pools a b c printed t u force p q = record {
    scene = p.0 ∙ sym q.0;
    text = p.1 ∙ sym q.1;
    pools = pools;
    force = subst (λ (s : ReplayState). ArePoolsInForce pools s.state) (sym p.0) force;
  }

  inputs-one : (pools : Pools) (a b c : ReplayState) (line : ParsedLine) (t u : List ℕ) → ArePoolsInForce pools a.state → TakesInputLine a line b t → TakesInputLine a line c u → IsOneWay b c t u
  inputs-one pools a b c line t u force p q =
      let same : step a.state p.event ≡ step a.state q.event = events-one a.state line p.event q.event p.of_line q.of_line p.takes.judged q.takes.judged in
      let states : b.state ≡ c.state = p.takes.state ∙ ap (λ (s : Step). s.after) same ∙ sym q.takes.state in
      let later : Pools = accepted_after a.state p.event pools in
      let kept = laws.never.events pools a.state (p.event ∷ []) force (p.takes.judged, tt) in
      let stays : ArePoolsInForce later b.state = subst (λ (s : State). ArePoolsInForce later s) (sym p.takes.state) kept.in_force in
      let screens : b.screen ≡ c.screen = screens-one later b.state b.screen c.screen stays p.takes.screen
      (subst (λ (s : State). IsScreenOf s c.screen) (sym states) q.takes.screen) in
      record {
        scene = λ i. record { state = states i; screen = screens i };
        text =
            p.takes.printed
            ∙ ap₂ (λ (s : Step) (screen : List ℕ). flat_map output_text (outputs_of s.sent) ++ new_screen a.screen screen) same screens
            ∙ sym q.takes.printed;
        pools = later;
        force = stays;
      }

  reading-one : (pools : Pools) (a b c : ReplayState) (n : ℕ) (r : LineReading) (t u : List ℕ) → ArePoolsInForce pools a.state → TakesReading a n r b t → TakesReading a n r c u → IsOneWay b c t u
  reading-one pools a b c n (Ok (FrameAt time frame)) t u force p q = inputs-one pools a b c (FrameAt time frame) t u force p q
  reading-one pools a b c n (Ok (OperatorAction action)) t u force p q = inputs-one pools a b c (OperatorAction action) t u force p q
  reading-one pools a b c n (Ok (SkippedFrame why)) t u force p q = prints-one pools a b c [] t u force p q
  reading-one pools a b c n (Ok CommentLine) t u force p q = prints-one pools a b c [] t u force p q
  reading-one pools a b c n (Err fault) t u force p q = prints-one pools a b c _ t u force p q

  -- ---- lines one after the other

  lines-one : (pools : Pools) (a b c : ReplayState) (n : ℕ) (rs : List LineReading) (t u : List ℕ) → ArePoolsInForce pools a.state → TakesReadings a n rs b t → TakesReadings a n rs c u
      → (b ≡ c) × (t ≡ u)
  lines-one pools a b c n [] t u force p q = (p.0 ∙ sym q.0, p.1 ∙ sym q.1)
  lines-one pools a b c n (r ∷ rs) t u force p q =
      let one = reading-one pools a p.middle q.middle (n + 1) r p.first q.first force p.takes q.takes in
      let next : TakesReadings p.middle (n + 1) rs c q.rest = subst (λ (s : ReplayState). TakesReadings s (n + 1) rs c q.rest) (sym one.scene) q.next in
      let rest = lines-one one.pools p.middle b c (n + 1) rs p.rest q.rest one.force p.next next in
      (rest.0, p.whole ∙ ap₂ (λ (x y : List ℕ). x ++ y) one.text rest.1 ∙ sym q.whole)

  -- ---- a replay

  replay-one : (pools : Pools) (start now later : State) (input text other : List ℕ) (counts more : Counts) → ArePoolsInForce pools start
      → IsReplay start input text counts now → IsReplay start input other more later → (text ≡ other) × (counts ≡ more) × (now ≡ later)
  replay-one pools start now later input text other counts more force p q =
      let readings : q.readings ≡ p.readings = readings-one (lines_of input) q.readings p.readings q.read p.read in
      let screens : q.first.screen ≡ p.first.screen = screens-one pools start q.first.screen p.first.screen force q.shown p.shown in
      let states : q.first.state ≡ p.first.state = q.starts ∙ sym p.starts in
      let first : q.first ≡ p.first = λ i. record { state = states i; screen = screens i } in
      let takes : TakesReadings p.first 0 p.readings q.last q.printed =
      subst (λ (s : ReplayState). TakesReadings s 0 p.readings q.last q.printed) first
      (subst (λ (rs : List LineReading). TakesReadings q.first 0 rs q.last q.printed) readings q.takes) in
      let one = lines-one pools p.first p.last q.last 0 p.readings p.printed q.printed (subst (λ (s : State). ArePoolsInForce pools s) (sym p.starts) force) p.takes takes in
      let same : counts ≡ more = p.counts_are ∙ ap (with_lines_counted no_counts) (sym readings) ∙ sym q.counts_are in (
        p.text_is ∙ (λ i. sym screens i ++ one.1 i ++ counts_text (same i)) ∙ sym q.text_is,
        same,
        p.now_is ∙ ap (λ (s : ReplayState). s.state) one.0 ∙ sym q.now_is,
      )

  -- ---- the terminal of the options

  objects-one : (bytes : List ℕ) (a b : ObjectMap) → IsPoolOf bytes a → IsPoolOf bytes b → a ≡ b
  objects-one bytes a b p q =
      let same = joined-one p.records q.records p.whole q.whole (sym p.spelled ∙ q.spelled) in
      p.in_force ∙ ap (λ (records : List PoolEntry). contents (reverse records)) same ∙ sym q.in_force

  loaded-one : (file : Option (List ℕ)) (a b : ObjectMap) → IsKnown file → IfSome file (λ bytes. IsPoolOf bytes a) → IfSome file (λ bytes. IsPoolOf bytes b) → a ≡ b
  loaded-one None a b known p q = let none = known.1 in absurd cc
  loaded-one (Some bytes) a b known p q = objects-one bytes a b p q

  preloaded-one : (files : FileContents) (o : Option Preload) (new one other : State) → IsPoolKnown files o → IsPreloaded files o new one → IsPreloaded files o new other → one ≡ other
  preloaded-one files None new one other known p q = p ∙ sym q
  preloaded-one files (Some preload) new one other known p q =
      p.state ∙ ap (preloading new preload.owner) (loaded-one (files preload.pool.now) p.objects q.objects known p.pool q.pool) ∙ sym q.state

  start-one : (files : FileContents) (options : Options) (one other : State) → IsPoolKnown files options.preload → IsStart files options one → IsStart files options other → one ≡ other
  start-one files options one other known p q = preloaded-one files options.preload (new_state options.own options.name) one other known p q

  -- ---- what is written

  same-written : (pools : Pools) (start : State) (input : List ℕ) (old new other : Option (List ℕ)) → ArePoolsInForce pools start → WritesReplay start input old new
      → WritesReplay start input old other → AppendSame old new other
  same-written pools start input old new other force p q =
      let one = replay-one pools start p.end q.end input p.text q.text p.counts q.counts force p.replay q.replay in
      (p.text, p.written, subst (Appends old other) (sym one.0) q.written)

  written-by : (pools : Pools) (start : State) (file : Option (List ℕ)) (old new other : Option (List ℕ)) → IsKnown file → ArePoolsInForce pools start
      → IfSome file (λ input. WritesReplay start input old new) → IfSome file (λ input. WritesReplay start input old other) → AppendSame old new other
  written-by pools start None old new other known force p q = let none = known.1 in absurd cc
  written-by pools start (Some input) old new other known force p q = same-written pools start input old new other force p q

  written-one : (files : FileContents) (options : Options) (old new other : Option (List ℕ)) → IsPoolKnown files options.preload → IsKnown (files options.file.now)
      → HasReplayed files options old new → HasReplayed files options old other → AppendSame old new other
  written-one files options old new other pool log p q =
      let file = files options.file.now in
      let same : q.start ≡ p.start = start-one files options q.start p.start pool q.given p.given in
      let force = start-in-force laws.never files options p.start p.given in
      written-by (given_pools files options.preload (new_state options.own options.name) p.start p.given) p.start file old new other log force p.writes
      (subst (λ (s : State). IfSome file (λ input. WritesReplay s input old other)) same q.writes)

  pub replays-one : ReplaysAreOne
  replays-one = record { replay = replay-one; start = start-one; written = written-one }
