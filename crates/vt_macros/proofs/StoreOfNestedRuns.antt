-- Runs within runs lead to the store that the code reaches.
use Rattle.std.proofs.Common.{◌≡◌, ◌≤◌, ◌<◌, ◌+◌, ◌++◌, ℕ, zero, suc, true, false, cond, List, [], ◌∷◌, drop, map, length, slice_index_or, sum_by, Option, Some, None, Result, Ok, Err, is_ok, refl, sym, ap, subst, ◌∙◌, arith}
use Rattle.std.proofs.lemmas.List.Sums.{sum_by-cons}
use Rattle.std.specs.Option.{option_to_list}
use Rattle.std.specs.List.{AllByRecursion, flat_map}
use Rattle.std.specs.FinMap as finite
use Rattle.vt_commands.specs.declared.command.Command.{Command}
use Rattle.vt_commands.specs.declared.raising.Raised.{Raised}
use Rattle.vt_commands.specs.Events.{event_number}
use Rattle.vt_stores.specs.Stores.{ObjectMap}
use Rattle.vt_stores.specs.Shapes.{Shape, shape_of}
use Rattle.vt_verify.specs.Triggers.{listing, listing_of, listed}
use Rattle.vt_verify.specs.Macros.{commands}
use Rattle.vt_verify.specs.Budgets.{MacroCostsAreTotals, budget, cost, command_cost}
use Rattle.vt_verify.specs.Rules.{IsWithinBudget, working_sets}
use Rattle.vt_chains.specs.Limits.{terminal}
use Rattle.vt_macros.specs.declared.audio.Audio.{Audio}
use Rattle.vt_macros.specs.declared.index.Index.{Index}
use Rattle.vt_macros.specs.declared.index.Span.{Span}
use Rattle.vt_chains.specs.declared.levels.Levels.{Levels}
use Rattle.vt_chains.specs.Certificates.{AreLevels}
use Rattle.vt_effects.specs.Changes.{HasResult, left}
use Rattle.vt_effects.specs.Effects.{effect, after}
use Rattle.vt_macros.specs.Audio.{noted}
use Rattle.vt_macros.specs.AudioOfRuns.{audio_after, noted_if_done}
use Rattle.vt_macros.specs.Indexes.{IsIndexOf, command_in}
use Rattle.vt_macros.specs.Machines.{events_of, raised, event_commands, joined_all, total_budget, fault, run, follow_ups}
use Rattle.vt_effects.specs.Soundness.{shape_in}
use Rattle.vt_macros.specs.NestedRuns.{IsOfVerified, CanRun, StepsLead, StepsSound, HaveRun, AreRunning, commands_at, cost_on_store}
use Rattle.vt_effects.specs.Soundness.{IsSound}
use Rattle.vt_effects.proofs.lemmas.order.OrderAfterCommand.{commands_keep_order}
use Rattle.vt_macros.proofs.RunsEnd.{raised_cost, raised_bound, budget_is, run_step, no_fault_runs}
use Rattle.vt_effects.proofs.lemmas.stores.SameShape.{shapes_stay}
use Rattle.vt_verify.proofs.lemmas.graphs.SameCosts.{sums_of_sums, same_sums}

-- the commands of an event, and the most that they cost
abbrev pub event_front : Shape → Raised → List Command
event_front shape r = event_commands shape (listing_of r)

abbrev pub event_most : Shape → Raised → ℕ
event_most shape r = budget shape (listing_of r).id (listing_of r).event

append_twice : {A : Type 0} (xs ys zs : List A) → (xs ++ ys) ++ zs ≡ xs ++ (ys ++ zs)
append_twice [] ys zs = refl
append_twice (x ∷ xs) ys zs = ap (λ l. x ∷ l) (append_twice xs ys zs)

pub leads_none : (m : ObjectMap) (front : List Command) → StepsLead m front 0 m front
leads_none m front rest left = ap (λ (n : ℕ). run n m (front ++ rest)) (omega arith)

-- steps that follow each other
pub leads_more : (a b c : ObjectMap) (all front next : List Command) (j k : ℕ) → StepsLead a all j b (front ++ next) → StepsLead b front k c [] → StepsLead a all (j + k) c next
leads_more a b c all front next j k first second rest left =
    ap (λ (n : ℕ). run n a (all ++ rest)) (omega arith) ∙ first rest (k + left)
    ∙ ap (run (k + left) b) (append_twice front next rest) ∙ second (next ++ rest) left

pub sounds_none : (m : ObjectMap) (audio : Audio) (front : List Command) → StepsSound m audio front 0 m audio front
sounds_none m audio front rest left = ap (λ (n : ℕ). audio_after n audio m (front ++ rest)) (omega arith)

pub sounds_more : (a b c : ObjectMap) (x y z : Audio) (all front next : List Command) (j k : ℕ) → StepsSound a x all j b y (front ++ next) → StepsSound b y front k c z []
    → StepsSound a x all (j + k) c z next
sounds_more a b c x y z all front next j k first second rest left =
    ap (λ (n : ℕ). audio_after n x a (all ++ rest)) (omega arith) ∙ first rest (k + left)
    ∙ ap (audio_after (k + left) y b) (append_twice front next rest) ∙ second (next ++ rest) left

-- ---- the parts of a list

drop_end : {A : Type 0} (xs : List A) (i : ℕ) → length xs ≤ i → drop i xs ≡ []
drop_end [] zero le = refl
drop_end [] (suc i) le = refl
drop_end (x ∷ xs) zero le = absurd (omega (arith, le))
drop_end (x ∷ xs) (suc i) le = drop_end xs i (omega (arith, le))

there_at : {A : Type 0} (xs : List A) (i : ℕ) (d : A) → i < length xs → drop i xs ≡ slice_index_or xs i d ∷ drop (suc i) xs
there_at [] i d lt = absurd (omega (arith, lt))
there_at (x ∷ xs) zero d lt = refl
there_at (x ∷ xs) (suc i) d lt = there_at xs i d (omega (arith, lt))

module _ {A : Type 0} (index : Index) (old : ObjectMap) (audio : Audio) (front : A → List Command) (most : A → ℕ) (parts : List A) where
  pub begin_parts : (levels : Levels) → CanRun index old levels → AreRunning index old audio front most parts 0 0 old audio levels
  begin_parts levels can = record {
    can = can;
    shape = refl;
    leads = leads_none old (flat_map front parts);
    sounds = sounds_none old audio (flat_map front parts);
    within = omega arith;
  }

  pub next_part : (i j k next : ℕ) (d : A) (now new : ObjectMap) (now_audio new_audio : Audio) (levels then : Levels)
      → AreRunning index old audio front most parts i j now now_audio levels → i < length parts
      → HaveRun index now now_audio (front (slice_index_or parts i d)) (most (slice_index_or parts i d)) k new new_audio then → next ≡ suc i
      → AreRunning index old audio front most parts next (j + k) new new_audio then
  next_part i j k next d now new now_audio new_audio levels then running lt ran is =
      let x = slice_index_or parts i d in
      let there : drop i parts ≡ x ∷ drop (suc i) parts = there_at parts i d lt in
      let before = running.within in
      let one = ran.within in
      let all = ap (sum_by most) there ∙ sum_by-cons most x (drop (suc i) parts) in
      subst (λ (n : ℕ). AreRunning index old audio front most parts n (j + k) new new_audio then) (sym is)
      (record {
        can = ran.can;
        shape = ran.shape ∙ running.shape;
        leads = leads_more old now new (flat_map front parts) (front x) (flat_map front (drop (suc i) parts)) j k
            (subst (λ (l : List A). StepsLead old (flat_map front parts) j now (flat_map front l)) there running.leads) ran.leads;
        sounds = sounds_more old now new audio now_audio new_audio (flat_map front parts) (front x) (flat_map front (drop (suc i) parts)) j k
            (subst (λ (l : List A). StepsSound old audio (flat_map front parts) j now now_audio (flat_map front l)) there running.sounds) ran.sounds;
        within = omega (arith, before, one, all);
      })

  pub end_parts : (i j : ℕ) (now : ObjectMap) (now_audio : Audio) (levels : Levels) → AreRunning index old audio front most parts i j now now_audio levels → length parts ≤ i
      → HaveRun index old audio (flat_map front parts) (sum_by most parts) j now now_audio levels
  end_parts i j now now_audio levels running le =
      let none = drop_end parts i le in
      let within = running.within in
      record {
        can = running.can;
        shape = running.shape;
        leads = subst (λ (l : List A). StepsLead old (flat_map front parts) j now (flat_map front l)) none running.leads;
        sounds = subst (λ (l : List A). StepsSound old audio (flat_map front parts) j now now_audio (flat_map front l)) none running.sounds;
        within = omega (arith, within);
      }

  -- the remaining parts cost no more than all
  pub part_within : (i j : ℕ) (d : A) (now : ObjectMap) (now_audio : Audio) (levels : Levels) → AreRunning index old audio front most parts i j now now_audio levels → i < length parts
      → j + most (slice_index_or parts i d) ≤ sum_by most parts
  part_within i j d now now_audio levels running lt =
      let x = slice_index_or parts i d in
      let within = running.within in
      let all = ap (sum_by most) (there_at parts i d lt) ∙ sum_by-cons most x (drop (suc i) parts) in
      omega (arith, within, all)

-- ---- the macros of an event

budget_total : (shape : Shape) (id event : ℕ) (items : List ℕ) → items ≡ listed shape (listing id event) → sum_by (cost shape) items ≡ budget shape id event
unfolding budget
budget_total shape id event items is = ap (sum_by (cost shape)) is

joined_is : (shape : Shape) (id event : ℕ) (items : List ℕ) → items ≡ listed shape (listing id event) → flat_map (commands shape) items ≡ event_commands shape (listing id event)
unfolding event_commands
joined_is shape id event items is = ap (flat_map (commands shape)) is

-- a run under an unchanged shape
at_shape : {A : Type 0} (front : Shape → A → List Command) (most : Shape → A → ℕ) (index : Index) (old now new : ObjectMap) (audio new_audio : Audio) (x : A) (k : ℕ) (then : Levels) → shape_in now ≡ shape_in old
    → HaveRun index now audio (front (shape_in now) x) (most (shape_in now) x) k new new_audio then → HaveRun index now audio (front (shape_in old) x) (most (shape_in old) x) k new new_audio then
at_shape front most index old now new audio new_audio x k then same ran = subst (λ (s : Shape). HaveRun index now audio (front s x) (most s x) k new new_audio then) same ran

module _ (index : Index) (old : ObjectMap) (audio : Audio) (items : List ℕ) (id event : ℕ) (is : items ≡ listed (shape_in old) (listing id event)) where
  pub macro_within : (i j d : ℕ) (now : ObjectMap) (now_audio : Audio) (levels : Levels)
      → AreRunning index old audio (commands (shape_in old)) (cost (shape_in old)) items i j now now_audio levels → i < length items
      → j + cost (shape_in now) (slice_index_or items i d) ≤ budget (shape_in old) id event
  macro_within i j d now now_audio levels running lt =
      let le = part_within index old audio (commands (shape_in old)) (cost (shape_in old)) items i j d now now_audio levels running lt in
      let all = budget_total (shape_in old) id event items is in
      let same = ap (λ (s : Shape). cost s (slice_index_or items i d)) running.shape in
      omega (arith, le, all, same)

  pub macros_end : (i j : ℕ) (now : ObjectMap) (now_audio : Audio) (levels : Levels)
      → AreRunning index old audio (commands (shape_in old)) (cost (shape_in old)) items i j now now_audio levels → length items ≤ i
      → HaveRun index old audio (event_commands (shape_in old) (listing id event)) (budget (shape_in old) id event) j now now_audio levels
  macros_end i j now now_audio levels running le =
      subst (λ (front : List Command). HaveRun index old audio front (budget (shape_in old) id event) j now now_audio levels) (joined_is (shape_in old) id event items is)
      (subst (λ (most : ℕ). HaveRun index old audio (flat_map (commands (shape_in old)) items) most j now now_audio levels) (budget_total (shape_in old) id event items is)
      (end_parts index old audio (commands (shape_in old)) (cost (shape_in old)) items i j now now_audio levels running le))

pub macro_ran : (index : Index) (old : ObjectMap) (audio : Audio) (items : List ℕ) (i j k next d : ℕ) (now new : ObjectMap) (now_audio new_audio : Audio) (levels then : Levels)
    → AreRunning index old audio (commands (shape_in old)) (cost (shape_in old)) items i j now now_audio levels → i < length items
    → HaveRun index now now_audio (commands (shape_in now) (slice_index_or items i d)) (cost (shape_in now) (slice_index_or items i d)) k new new_audio then → next ≡ suc i
    → AreRunning index old audio (commands (shape_in old)) (cost (shape_in old)) items next (j + k) new new_audio then
macro_ran index old audio items i j k next d now new now_audio new_audio levels then running lt ran is =
    next_part index old audio (commands (shape_in old)) (cost (shape_in old)) items i j k next d now new now_audio new_audio levels then running lt
    (at_shape commands cost index old now new now_audio new_audio (slice_index_or items i d) k then running.shape ran) is

-- ---- events

pub event_ran : (index : Index) (old : ObjectMap) (audio : Audio) (raised : List Raised) (i j k next number : ℕ) (d : Raised) (now new : ObjectMap) (now_audio new_audio : Audio) (levels then : Levels)
    → AreRunning index old audio (event_front (shape_in old)) (event_most (shape_in old)) raised i j now now_audio levels → i < length raised
    → number ≡ event_number (slice_index_or raised i d).event
    → HaveRun index now now_audio (event_commands (shape_in now) (listing (slice_index_or raised i d).id number)) (budget (shape_in now) (slice_index_or raised i d).id number) k new new_audio then
    → next ≡ suc i → AreRunning index old audio (event_front (shape_in old)) (event_most (shape_in old)) raised next (j + k) new new_audio then
event_ran index old audio raised i j k next number d now new now_audio new_audio levels then running lt is ran more =
    next_part index old audio (event_front (shape_in old)) (event_most (shape_in old)) raised i j k next d now new now_audio new_audio levels then running lt
    (at_shape event_front event_most index old now new now_audio new_audio (slice_index_or raised i d) k then running.shape
    (subst (λ (n : ℕ). HaveRun index now now_audio (event_commands (shape_in now) (listing (slice_index_or raised i d).id n)) (budget (shape_in now) (slice_index_or raised i d).id n) k new new_audio then) is ran))
    more

pub event_within : (index : Index) (old : ObjectMap) (audio : Audio) (raised : List Raised) (i j number : ℕ) (d : Raised) (now : ObjectMap) (now_audio : Audio) (levels : Levels)
    → AreRunning index old audio (event_front (shape_in old)) (event_most (shape_in old)) raised i j now now_audio levels → i < length raised
    → number ≡ event_number (slice_index_or raised i d).event
    → j + budget (shape_in now) (slice_index_or raised i d).id number ≤ total_budget (shape_in old) raised
event_within index old audio raised i j number d now now_audio levels running lt is =
    let le = part_within index old audio (event_front (shape_in old)) (event_most (shape_in old)) raised i j d now now_audio levels running lt in
    let same = ap (λ (s : Shape). budget s (slice_index_or raised i d).id number) running.shape
    ∙ ap (λ (n : ℕ). budget (shape_in old) (slice_index_or raised i d).id n) is in
    omega (arith, le, same)

-- ---- the commands of a macro

all_some : (index : Index) (pieces : List Span) (cs : List Command) → map (command_in index) pieces ≡ map Some cs → flat_map (commands_at index) pieces ≡ cs
all_some index [] [] is = refl
all_some index [] (c ∷ cs) is = absurd cc
all_some index (p ∷ pieces) [] is = absurd cc
all_some index (p ∷ pieces) (c ∷ cs) is =
    let first : command_in index p ≡ Some c = head_same is in
    ap (λ (o : Option Command). option_to_list o ++ flat_map (commands_at index) pieces) first ∙ ap (λ (l : List Command). c ∷ l) (all_some index pieces cs (tail_same is))
  where
    head_same : {A : Type 0} {x y : A} {xs ys : List A} → x ∷ xs ≡ y ∷ ys → x ≡ y
    head_same e = cc

    tail_same : {A : Type 0} {x y : A} {xs ys : List A} → x ∷ xs ≡ y ∷ ys → xs ≡ ys
    tail_same e = cc

front_all : {A : Type 0} (P : A → Type 0) (xs ys : List A) → AllByRecursion P (xs ++ ys) → AllByRecursion P xs
front_all P [] ys all = tt
front_all P (x ∷ xs) ys all = (all.0, front_all P xs ys all.1)

rest_all : {A : Type 0} (P : A → Type 0) (xs ys : List A) → AllByRecursion P (xs ++ ys) → AllByRecursion P ys
rest_all P [] ys all = all
rest_all P (x ∷ xs) ys all = rest_all P xs ys all.1

part_of : {A B : Type 0} (P : B → Type 0) (h : A → List B) (xs : List A) (i : ℕ) (d : A) → i < length xs → AllByRecursion P (flat_map h xs) → AllByRecursion P (h (slice_index_or xs i d))
part_of P h [] i d lt all = absurd (omega (arith, lt))
part_of P h (x ∷ xs) zero d lt all = front_all P (h x) (flat_map h xs) all
part_of P h (x ∷ xs) (suc i) d lt all = part_of P h xs i d (omega (arith, lt)) (rest_all P (h x) (flat_map h xs) all)

-- the most that the command at a span costs
abbrev pub piece_most : Index → ObjectMap → Span → ℕ
piece_most index store piece = sum_by (cost_on_store store) (commands_at index piece)

module _ (index : Index) (old : ObjectMap) (audio : Audio) (levels : Levels) (can : CanRun index old levels) (id : ℕ) (pieces : List Span)
    (are : map (command_in index) pieces ≡ map Some (commands (shape_in old) id)) where
  pub pieces_cost : sum_by (piece_most index old) pieces ≡ cost (shape_in old) id
  pieces_cost =
      sym (sums_of_sums (cost_on_store old) (commands_at index) pieces) ∙ ap (sum_by (cost_on_store old)) (all_some index pieces (commands (shape_in old) id) are) ∙ sym (can.totals id)

  pub piece_within : (i j : ℕ) (d : Span) (now : ObjectMap) (now_audio : Audio) (later : Levels)
      → AreRunning index old audio (commands_at index) (piece_most index old) pieces i j now now_audio later → i < length pieces
      → j + piece_most index now (slice_index_or pieces i d) ≤ cost (shape_in old) id
  piece_within i j d now now_audio later running lt =
      let le = part_within index old audio (commands_at index) (piece_most index old) pieces i j d now now_audio later running lt in
      let same = ap (λ (s : Shape). sum_by (command_cost (cost s) s) (commands_at index (slice_index_or pieces i d))) running.shape in
      let all = pieces_cost in
      omega (arith, le, same, all)

  pub piece_faultless : (i j : ℕ) (d : Span) (now : ObjectMap) (now_audio : Audio) (later : Levels)
      → AreRunning index old audio (commands_at index) (piece_most index old) pieces i j now now_audio later → i < length pieces
      → AllByRecursion (λ command. fault (shape_in now) command ≡ None) (commands_at index (slice_index_or pieces i d))
  piece_faultless i j d now now_audio later running lt =
      subst (λ (s : Shape). AllByRecursion (λ command. fault s command ≡ None) (commands_at index (slice_index_or pieces i d))) (sym running.shape)
      (part_of (λ command. fault (shape_in old) command ≡ None) (commands_at index) pieces i d lt
      (subst (λ (l : List Command). AllByRecursion (λ command. fault (shape_in old) command ≡ None) l) (sym (all_some index pieces (commands (shape_in old) id) are)) (can.faultless id)))

  pub pieces_end : (i j : ℕ) (now : ObjectMap) (now_audio : Audio) (later : Levels)
      → AreRunning index old audio (commands_at index) (piece_most index old) pieces i j now now_audio later → length pieces ≤ i
      → HaveRun index old audio (commands (shape_in old) id) (cost (shape_in old) id) j now now_audio later
  pieces_end i j now now_audio later running le =
      subst (λ (front : List Command). HaveRun index old audio front (cost (shape_in old) id) j now now_audio later) (all_some index pieces (commands (shape_in old) id) are)
      (subst (λ (most : ℕ). HaveRun index old audio (flat_map (commands_at index) pieces) most j now now_audio later) pieces_cost
      (end_parts index old audio (commands_at index) (piece_most index old) pieces i j now now_audio later running le))

pub piece_ran : (index : Index) (old : ObjectMap) (audio : Audio) (pieces : List Span) (i j k next : ℕ) (d : Span) (now new : ObjectMap) (now_audio new_audio : Audio) (levels then : Levels)
    → AreRunning index old audio (commands_at index) (piece_most index old) pieces i j now now_audio levels → i < length pieces
    → HaveRun index now now_audio (commands_at index (slice_index_or pieces i d)) (piece_most index now (slice_index_or pieces i d)) k new new_audio then → next ≡ suc i
    → AreRunning index old audio (commands_at index) (piece_most index old) pieces next (j + k) new new_audio then
piece_ran index old audio pieces i j k next d now new now_audio new_audio levels then running lt ran is =
    next_part index old audio (commands_at index) (piece_most index old) pieces i j k next d now new now_audio new_audio levels then running lt
    (subst (λ (most : ℕ). HaveRun index now now_audio (commands_at index (slice_index_or pieces i d)) most k new new_audio then)
    (ap (λ (s : Shape). sum_by (command_cost (cost s) s) (commands_at index (slice_index_or pieces i d))) running.shape) ran) is

-- ---- one command

audio_step : (n : ℕ) (audio : Audio) (m : ObjectMap) (command : Command) (pending : List Command)
    → audio_after (suc n) audio m (command ∷ pending) ≡ audio_after n (noted_if_done audio m command) (after m command) (follow_ups m command ++ pending)
unfolding audio_after
audio_step n audio m command pending = refl

pub after_can : (index : Index) (m : ObjectMap) (levels then : Levels) (command : Command) (new : ObjectMap) → CanRun index m levels → new ≡ after m command → AreLevels new then → CanRun index new then
after_can index m levels then command new can is are =
    let same : shape_in new ≡ shape_in m = ap shape_in is ∙ shapes_stay m command in
    record {
      indexed = subst (λ (s : Shape). IsIndexOf s index) (sym same) can.indexed;
      levelled = are;
      sound = subst IsSound (sym is) (commands_keep_order m command can.sound);
      working_set = ap working_sets same ∙ can.working_set;
      totals = subst MacroCostsAreTotals (sym same) can.totals;
      within = subst (IsWithinBudget terminal.steps) (sym same) can.within;
      faultless = λ id. subst (λ (s : Shape). AllByRecursion (λ command. fault s command ≡ None) (commands s id)) (sym same) (can.faultless id);
      shaped = subst IsOfVerified (sym same) can.shaped;
    }

events_cost : (shape : Shape) (raised : List Raised) → total_budget shape raised ≡ sum_by (raised_cost shape) raised
events_cost shape raised = same_sums (λ r. budget shape (listing_of r).id (listing_of r).event) (raised_cost shape) raised (budget_is shape)

accepted : {A : Type 0} (x : Result A ℕ) → HasResult (Ok tt) x → is_ok x ≡ true
accepted (Ok y) is = refl
accepted (Err error) is = absurd is

raised_is : (m : ObjectMap) (command : Command) → is_ok (effect m command) ≡ true → raised m command ≡ events_of m command
unfolding raised
raised_is m command ok = ap (λ b. cond b (events_of m command) []) ok

none_raised : (m : ObjectMap) (command : Command) → is_ok (effect m command) ≡ false → raised m command ≡ []
unfolding raised
none_raised m command failed = ap (λ b. cond b (events_of m command) []) failed

shape_entries : (m : ObjectMap) → shape_of (finite.entries m) ≡ shape_in m
unfolding shape_in
shape_entries m = refl

module _ (index : Index) (m : ObjectMap) (audio : Audio) (levels : Levels) (command : Command) (can : CanRun index m levels) (events : List Raised) (of : events ≡ events_of m command)
    (done : HasResult (Ok tt) (effect m command)) (new : ObjectMap) (is : new ≡ after m command) where
  pub new_shape : shape_in new ≡ shape_in m
  new_shape = ap shape_in is ∙ shapes_stay m command

  pub events_within : total_budget (shape_in new) events + 1 ≤ cost_on_store m command
  events_within =
      let bound = raised_bound m (shape_in m) command can.sound (shape_entries m) in
      let same = ap (λ (s : Shape). total_budget s events) new_shape ∙ events_cost (shape_in m) events
      ∙ ap (sum_by (raised_cost (shape_in m))) (of ∙ sym (raised_is m command (accepted (effect m command) done))) in
      omega (arith, bound, same)

  pub can_raise : (then : Levels) → AreLevels new then → CanRun index new then
  can_raise then are = after_can index m levels then command new can is are

  follows : follow_ups m command ≡ joined_all (shape_in new) events
  unfolding follow_ups
  follows =
      ap (λ (n : ObjectMap). joined_all (shape_in n) (raised m command)) (sym is)
      ∙ ap (joined_all (shape_in new)) (raised_is m command (accepted (effect m command) done) ∙ sym of)

  sound : noted_if_done audio m command ≡ noted audio command
  sound = ap (λ b. cond b (noted audio command) audio) (accepted (effect m command) done)

  pub command_ran : (k : ℕ) (last : ObjectMap) (last_audio : Audio) (later : Levels) → fault (shape_in m) command ≡ None
      → HaveRun index new (noted audio command) (joined_all (shape_in new) events) (total_budget (shape_in new) events) k last last_audio later
      → HaveRun index m audio (command ∷ []) (cost_on_store m command) (k + 1) last last_audio later
  command_ran k last last_audio later none ran =
      let one = ran.within in
      let all = events_within in
      record {
        can = ran.can;
        shape = ran.shape ∙ new_shape;
        leads = λ rest left.
            ap (λ (n : ℕ). run n m (command ∷ rest)) (omega arith) ∙ run_step (k + left) m command rest
            ∙ no_fault_runs (shape_in m) m command (run (k + left) (after m command) (follow_ups m command ++ rest)) refl none
            ∙ ap (λ (n : ObjectMap). run (k + left) n (follow_ups m command ++ rest)) (sym is)
            ∙ ap (λ (front : List Command). run (k + left) new (front ++ rest)) follows
            ∙ ran.leads rest left;
        sounds = λ rest left.
            ap (λ (n : ℕ). audio_after n audio m (command ∷ rest)) (omega arith) ∙ audio_step (k + left) audio m command rest
            ∙ ap (λ (a : Audio). audio_after (k + left) a (after m command) (follow_ups m command ++ rest)) sound
            ∙ ap (λ (n : ObjectMap). audio_after (k + left) (noted audio command) n (follow_ups m command ++ rest)) (sym is)
            ∙ ap (λ (front : List Command). audio_after (k + left) (noted audio command) new (front ++ rest)) follows
            ∙ ran.sounds rest left;
        within = omega (arith, one, all);
      }

refused_by : {A : Type 0} (error : ℕ) (x : Result A ℕ) → HasResult (Err error) x → is_ok x ≡ false
refused_by error (Ok y) is = absurd is
refused_by error (Err other) is = refl

none_follow : (m : ObjectMap) (command : Command) (error : ℕ) → HasResult (Err error) (effect m command) → follow_ups m command ≡ []
unfolding follow_ups
none_follow m command error failed = ap (joined_all (shape_in (after m command))) (none_raised m command (refused_by error (effect m command) failed))

not_noted : (audio : Audio) (m : ObjectMap) (command : Command) (error : ℕ) → HasResult (Err error) (effect m command) → noted_if_done audio m command ≡ audio
not_noted audio m command error failed = ap (λ b. cond b (noted audio command) audio) (refused_by error (effect m command) failed)

pub command_refused : (index : Index) (m new : ObjectMap) (audio : Audio) (levels then : Levels) (command : Command) (error : ℕ) → CanRun index m levels
    → fault (shape_in m) command ≡ None → HasResult (Err error) (effect m command) → new ≡ after m command → AreLevels new then
    → HaveRun index m audio (command ∷ []) (cost_on_store m command) 1 new audio then
command_refused index m new audio levels then command error can none failed is are =
    record {
      can = after_can index m levels then command new can is are;
      shape = ap shape_in is ∙ shapes_stay m command;
      leads = λ rest left.
          ap (λ (n : ℕ). run n m (command ∷ rest)) (omega arith) ∙ run_step left m command rest
          ∙ no_fault_runs (shape_in m) m command (run left (after m command) (follow_ups m command ++ rest)) refl none
          ∙ ap (λ (n : ObjectMap). run left n (follow_ups m command ++ rest)) (sym is)
          ∙ ap (λ (front : List Command). run left new (front ++ rest)) (none_follow m command error failed);
      sounds = λ rest left.
          ap (λ (n : ℕ). audio_after n audio m (command ∷ rest)) (omega arith) ∙ audio_step left audio m command rest
          ∙ ap (λ (a : Audio). audio_after left a (after m command) (follow_ups m command ++ rest)) (not_noted audio m command error failed)
          ∙ ap (λ (n : ObjectMap). audio_after left audio n (follow_ups m command ++ rest)) (sym is)
          ∙ ap (λ (front : List Command). audio_after left audio new (front ++ rest)) (none_follow m command error failed);
      within = omega arith;
    }

-- ---- an event at an index of the list

pub item_ran : (index : Index) (old : ObjectMap) (audio : Audio) (raised : List Raised) (i j k next number : ℕ) (x d : Raised) (now new : ObjectMap) (now_audio new_audio : Audio) (levels then : Levels)
    → AreRunning index old audio (event_front (shape_in old)) (event_most (shape_in old)) raised i j now now_audio levels → i < length raised
    → x ≡ slice_index_or raised i d → number ≡ event_number x.event
    → HaveRun index now now_audio (event_commands (shape_in now) (listing x.id number)) (budget (shape_in now) x.id number) k new new_audio then
    → next ≡ suc i → AreRunning index old audio (event_front (shape_in old)) (event_most (shape_in old)) raised next (j + k) new new_audio then
item_ran index old audio raised i j k next number x d now new now_audio new_audio levels then running lt at is ran more =
    event_ran index old audio raised i j k next number d now new now_audio new_audio levels then running lt (is ∙ ap (λ (r : Raised). event_number r.event) at)
    (subst (λ (r : Raised). HaveRun index now now_audio (event_commands (shape_in now) (listing r.id number)) (budget (shape_in now) r.id number) k new new_audio then) at ran) more

pub item_within : (index : Index) (old : ObjectMap) (audio : Audio) (raised : List Raised) (i j number : ℕ) (x d : Raised) (now : ObjectMap) (now_audio : Audio) (levels : Levels)
    → AreRunning index old audio (event_front (shape_in old)) (event_most (shape_in old)) raised i j now now_audio levels → i < length raised
    → x ≡ slice_index_or raised i d → number ≡ event_number x.event
    → j + budget (shape_in now) x.id number ≤ total_budget (shape_in old) raised
item_within index old audio raised i j number x d now now_audio levels running lt at is =
    let le = event_within index old audio raised i j number d now now_audio levels running lt (is ∙ ap (λ (r : Raised). event_number r.event) at) in
    let same = ap (λ (r : Raised). budget (shape_in now) r.id number) at in
    omega (arith, le, same)
