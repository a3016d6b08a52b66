-- Nothing is found exactly if all rules hold.
use Rattle.std.proofs.Common.{◌≡◌, ℕ, Bool, true, false, cond, not, List, [], ◌∷◌, ◌++◌, map, length, reverse, Option, Some, None, refl, sym, ap, ap₂, subst, ◌∙◌, arith}
use Rattle.std.proofs.lemmas.List.{length-map, map-append, reverse-append}
use Rattle.std.specs.Prelude.{filter, ◌↔◌}
use Rattle.std.specs.List.{flat_map}
use Rattle.vt_commands.specs.declared.command.Command.{Command}
use Rattle.vt_commands.specs.declared.command.Command.TheVariants.{ChangeAttribute}
use Rattle.vt_rank.specs.Paths.{HasNoCircle}
use Rattle.vt_rank.specs.declared.circle.Circle.{Circle}
use Rattle.check_circles.specs.Circles.{AreCircles}
use Rattle.vt_chains.specs.Inclusions.{included, IsShallow}
use Rattle.vt_chains.specs.Limits.{terminal}
use Rattle.vt_records.specs.declared.fault.PoolFault.{PoolFault}
use Rattle.vt_pool.specs.Pools.{PoolEntry}
use Rattle.vt_pool.proofs.JoinedRecords.{want_of_memory}
use Rattle.vt_pool.proofs.RoundTrip.{joined_one}
use Rattle.vt_stores.specs.Shapes.{Shape, Fixed, shape_of}
use Rattle.vt_stores.specs.Stores.{Objects, by_rising_id}
use Rattle.vt_verify.specs.Lists.{first_failing}
use Rattle.vt_verify.specs.declared.reference.Test.TheVariants.{IsThere, Fits}
use Rattle.vt_verify.specs.Macros.{Piece, macros, is_whole, pieces, is_allowed, macro_command}
use Rattle.vt_verify.specs.References.{is_there, fits}
use Rattle.vt_verify.specs.Rules.{is_working_set, working_sets, IsWithinBudget, IsAcceptable}
use Rattle.vt_verify.specs.Targets.{has_attribute, command_has_attribute}
use Rattle.vt_verify.specs.Triggers.{triggered}
use Rattle.check_inspect.specs.declared.finding.Finding.{Finding}
use Rattle.check_inspect.specs.declared.finding.Finding.TheVariants as findings
use Rattle.check_inspect.specs.declared.finding.ReferenceAt.{ReferenceAt}
use Rattle.check_inspect.specs.declared.inspection.Note.{Note}
use Rattle.check_inspect.specs.Lists.{all_failing}
use Rattle.check_inspect.specs.Findings.{circle_finding, working_set_ids, set_findings, IsDeepest, cut_findings, command_findings, value_finding, value_findings, target_findings, AreOfTriggers, slot_findings, macro_findings, AreFindings}
use Rattle.check_inspect.specs.Findings.AreOfTriggers.{Cut, Circles, Costs}
use Rattle.check_inspect.specs.Inspections.{is_none, is_judged}
use Rattle.check_reading.specs.Readings.{FoundAt, entry_of, found_from, faults_from, passed_from, objects_of}
use Rattle.check_inspect.specs.References.{function_of, missing_at, wrong_kinds_at, slots_at, slot_values_at, own_references_at, failing_targets_at}
use Rattle.check_inspect.proofs.lemmas.Whole.{none_fails, all_whole, none_first, references_are, none_missing}
use Rattle.vt_tool_laws.specs.InspectLaws.{IsAcceptablePool, FindsNothing}
use Rattle.vt_tool_laws.proofs.NoneOver.{map_none, both_none, within, none_over}
use Rattle.vt_tool_laws.proofs.SameReferences.{values_are, macro_references_are}
use Rattle.vt_tool_laws.proofs.WholeReadings.{whole_outcome, judged_if_none}
use Rattle.vt_tool_laws.proofs.WholeReadings.Outcome.{Whole, Faulty}

-- ---- working sets

pub one_id : (ids : List ℕ) → set_findings true ids ≡ [] → length ids ≡ 1
one_id [] none = absurd cc
one_id (first ∷ []) none = refl
one_id (first ∷ id ∷ ids) none = absurd cc

one_set : (ids : List ℕ) → length ids ≡ 1 → set_findings true ids ≡ []
one_set [] one = absurd (omega arith)
one_set (first ∷ []) one = refl
one_set (first ∷ id ∷ ids) one = absurd (omega arith)

pub ids_are : (shape : Shape) → length (working_set_ids shape) ≡ working_sets shape
ids_are shape = length-map (filter (λ (e : ℕ × Fixed). is_working_set e.1.kind) shape) (λ (e : ℕ × Fixed). e.0)

-- ---- chains

none_deep : (inside : ℕ → List ℕ) (chains : List Finding) → IsDeepest inside chains → IsShallow terminal.inclusions inside → chains ≡ []
none_deep inside [] is shallow = refl
none_deep inside (findings.TooDeep chain ∷ []) is shallow = let short = shallow chain.items is.0 in let long = is.1 in absurd (omega arith)
none_deep inside others is shallow = absurd is

-- ---- attributes

pub some_value : (p : Piece) (shape : Shape) (command : Option Command) → command_has_attribute shape command ≡ false → value_finding p command ≡ [] → ⊥
some_value p shape (Some (ChangeAttribute id number value)) is none = cc
some_value p shape command is none = cc

value_case : (shape : Shape) (b : Bool) (p : Piece) (rest : List Piece) (later : Option Piece) → has_attribute shape p ≡ b
    → (flat_map (λ (p : Piece). value_finding p (macro_command p.bytes)) rest ≡ [] → later ≡ None)
    → flat_map (λ (p : Piece). value_finding p (macro_command p.bytes)) (cond (not b) (p ∷ rest) rest) ≡ [] → cond b later (Some p) ≡ None
value_case shape true p rest later is next none = next none
value_case shape false p rest later is next none =
    absurd (some_value p shape (macro_command p.bytes) is
    (both_none (value_finding p (macro_command p.bytes)) (flat_map (λ (p : Piece). value_finding p (macro_command p.bytes)) rest) none).0)

pub none_value : (shape : Shape) (ps : List Piece) → flat_map (λ (p : Piece). value_finding p (macro_command p.bytes)) (all_failing (has_attribute shape) ps) ≡ []
    → first_failing (has_attribute shape) ps ≡ None
none_value shape [] none = refl
none_value shape (p ∷ ps) none =
    value_case shape (has_attribute shape p) p (all_failing (has_attribute shape) ps) (first_failing (has_attribute shape) ps) refl (none_value shape ps) none

-- ---- lists without a first failure

module _ {A B : Type 0} (test : B → Bool) (f : A → B) where
  all_case : (b : Bool) (x : A) (rest : List A) (later : Option B) → (later ≡ None → rest ≡ []) → cond b later (Some (f x)) ≡ None → cond (not b) (x ∷ rest) rest ≡ []
  all_case true x rest later next none = next none
  all_case false x rest later next none = absurd cc

  -- where there is no first failure, nothing fails
  none_all : (xs : List A) → first_failing test (map f xs) ≡ None → all_failing (λ x. test (f x)) xs ≡ []
  none_all [] none = refl
  none_all (x ∷ xs) none = all_case (test (f x)) x (all_failing (λ x. test (f x)) xs) (first_failing test (map f xs)) (none_all xs) none

pub same_list : {A : Type 0} (xs : List A) → map (λ x. x) xs ≡ xs
same_list [] = refl
same_list (x ∷ xs) = ap (λ l. x ∷ l) (same_list xs)

nothing_fails : {A : Type 0} (test : A → Bool) (xs : List A) → first_failing test xs ≡ None → all_failing test xs ≡ []
nothing_fails test xs none = none_all test (λ x. x) xs (ap (first_failing test) (same_list xs) ∙ none)

-- ---- the rules

no_circles : (next : ℕ → List ℕ) (circles : List Circle) → AreCircles next circles → map circle_finding circles ≡ [] → HasNoCircle next
no_circles next [] are none = are
no_circles next (circle ∷ circles) are none = absurd cc

triggers_hold : (shape : Shape) (found : List Finding) (left_out : List Note) → AreOfTriggers shape found left_out → found ≡ [] → cut_findings shape ≡ []
    → HasNoCircle (triggered shape) × IsWithinBudget terminal.steps shape
triggers_hold shape found left_out (Cut cut is notes) none whole = absurd (cut whole)
triggers_hold shape found left_out (Circles was circle circles are made notes) none whole = absurd (circle (no_circles (triggered shape) circles are (sym made ∙ none)))
triggers_hold shape found left_out (Costs was no_circle is notes) none whole = (no_circle, within shape (sym is ∙ none))

no_triggers : (shape : Shape) (found : List Finding) (left_out : List Note) → AreOfTriggers shape found left_out → cut_findings shape ≡ []
    → HasNoCircle (triggered shape) → IsWithinBudget terminal.steps shape → found ≡ []
no_triggers shape found left_out (Cut cut is notes) whole no_circle fits = is
no_triggers shape found left_out (Circles was circle circles are made notes) whole no_circle fits = absurd (circle no_circle)
no_triggers shape found left_out (Costs was none is notes) whole no_circle fits = is ∙ none_over shape fits

pub rules_hold : (objects : Objects) (found : List Finding) (left_out : List Note) → AreFindings true objects found left_out → found ≡ [] → IsAcceptable terminal objects
rules_hold objects found left_out is none =
    let shape = shape_of objects in
    let slots = slot_findings true objects in
    let sets = set_findings true (working_set_ids shape) in
    let all = both_none (slots ++ is.chains ++ macro_findings true shape) is.triggers (sym is.are ∙ none) in
    let macro = both_none (slots ++ is.chains) (macro_findings true shape) all.0 in
    let deep = both_none slots is.chains macro.0 in
    let wrong = both_none (sets ++ map findings.Missing (missing_at objects)) (map findings.WrongKind (wrong_kinds_at objects)) deep.0 in
    let missing = both_none sets (map findings.Missing (missing_at objects)) wrong.0 in
    let values = both_none (cut_findings shape ++ command_findings shape ++ target_findings true shape) (value_findings shape) macro.1 in
    let targets = both_none (cut_findings shape ++ command_findings shape) (target_findings true shape) values.0 in
    let commands = both_none (cut_findings shape) (command_findings shape) targets.0 in
    let kinds = both_none (map findings.MacroMissing (failing_targets_at IsThere shape)) (map findings.MacroKind (failing_targets_at Fits shape)) targets.1 in
    let one = one_id (working_set_ids shape) missing.0 in
    let count = ids_are shape in
    let last = triggers_hold shape is.triggers left_out is.of_triggers all.1 commands.0 in
    record {
      working_set = omega arith;
      one_working_set = omega arith;
      references_there = none_missing objects (map_none findings.Missing (missing_at objects) missing.1);
      references_fit = ap (first_failing (fits shape)) (sym (values_are objects objects))
          ∙ none_first (fits shape) (λ (r : ReferenceAt). r.reference) (flat_map (slot_values_at objects) objects) (map_none findings.WrongKind (wrong_kinds_at objects) wrong.1);
      chains_short = subst (IsDeepest (included objects)) deep.1 is.deepest;
      macros_whole = all_whole shape commands.0;
      commands_allowed = none_fails is_allowed (λ (p : Piece). findings.MacroCommand p.id p.at (function_of p.bytes)) (pieces shape) commands.1;
      targets_there = ap (first_failing (is_there shape)) (sym (macro_references_are shape shape))
          ∙ none_first (is_there shape) (λ (r : ReferenceAt). r.reference) (flat_map (own_references_at shape) shape) (map_none findings.MacroMissing (failing_targets_at IsThere shape) kinds.0);
      targets_fit = ap (first_failing (fits shape)) (sym (macro_references_are shape shape))
          ∙ none_first (fits shape) (λ (r : ReferenceAt). r.reference) (flat_map (own_references_at shape) shape) (map_none findings.MacroKind (failing_targets_at Fits shape) kinds.1);
      attributes_there = none_value shape (pieces shape) values.1;
      no_circle = last.0;
      within_budget = last.1;
    }

pub none_found : (objects : Objects) (found : List Finding) (left_out : List Note) → AreFindings true objects found left_out → IsAcceptable terminal objects → found ≡ []
none_found objects found left_out is holds =
    let shape = shape_of objects in
    let count = ids_are shape in
    let low = holds.working_set in
    let high = holds.one_working_set in
    let sets = one_set (working_set_ids shape) (omega arith) in
    let missing = none_all (is_there shape) (λ (r : ReferenceAt). r.reference) (flat_map slots_at objects) (ap (first_failing (is_there shape)) (references_are objects) ∙ holds.references_there) in
    let wrong = none_all (fits shape) (λ (r : ReferenceAt). r.reference) (flat_map (slot_values_at objects) objects) (ap (first_failing (fits shape)) (values_are objects objects) ∙ holds.references_fit) in
    let chains = none_deep (included objects) is.chains is.deepest holds.chains_short in
    let cut : cut_findings shape ≡ [] = ap (map (λ m. findings.MacroBytes m.0)) (nothing_fails is_whole (macros shape) holds.macros_whole) in
    let commands : command_findings shape ≡ [] =
    ap (map (λ (p : Piece). findings.MacroCommand p.id p.at (function_of p.bytes))) (nothing_fails is_allowed (pieces shape) holds.commands_allowed) in
    let there = none_all (is_there shape) (λ (r : ReferenceAt). r.reference) (flat_map (own_references_at shape) shape)
    (ap (first_failing (is_there shape)) (macro_references_are shape shape) ∙ holds.targets_there) in
    let fit = none_all (fits shape) (λ (r : ReferenceAt). r.reference) (flat_map (own_references_at shape) shape)
    (ap (first_failing (fits shape)) (macro_references_are shape shape) ∙ holds.targets_fit) in
    let values : value_findings shape ≡ [] =
    ap (flat_map (λ (p : Piece). value_finding p (macro_command p.bytes))) (nothing_fails (has_attribute shape) (pieces shape) holds.attributes_there) in
    let slots : slot_findings true objects ≡ [] =
    ap₂ (λ (a b : List Finding). a ++ b) (ap₂ (λ (a b : List Finding). a ++ b) sets (ap (map findings.Missing) missing)) (ap (map findings.WrongKind) wrong) in
    let targets : target_findings true shape ≡ [] = ap₂ (λ (a b : List Finding). a ++ b) (ap (map findings.MacroMissing) there) (ap (map findings.MacroKind) fit) in
    let macro : macro_findings true shape ≡ [] =
    ap₂ (λ (a b : List Finding). a ++ b) (ap₂ (λ (a b : List Finding). a ++ b) (ap₂ (λ (a b : List Finding). a ++ b) cut commands) targets) values in
    is.are
    ∙ ap₂ (λ (a b : List Finding). a ++ b)
    (ap₂ (λ (a b : List Finding). a ++ b) (ap₂ (λ (a b : List Finding). a ++ b) slots chains) macro)
    (no_triggers shape is.triggers left_out is.of_triggers cut holds.no_circle holds.within_budget)

-- ---- the bytes

entries_back : (found : List FoundAt) → map entry_of (reverse found) ≡ reverse (map entry_of found)
entries_back [] = refl
entries_back (f ∷ found) =
    ap (map entry_of) (reverse-append (f ∷ []) found)
    ∙ map-append entry_of (reverse found) (f ∷ [])
    ∙ ap (λ (l : List PoolEntry). l ++ entry_of f ∷ []) (entries_back found)
    ∙ sym (reverse-append (entry_of f ∷ []) (map entry_of found))

pub last_objects : (found : List FoundAt) → objects_of found ≡ by_rising_id (reverse (map entry_of found))
last_objects found = ap by_rising_id (entries_back found)

pub nothing_found : FindsNothing
nothing_found bytes i is =
    elim (whole_outcome is.steps bytes is.reading) as (λ _. (i.findings.items ≡ []) ↔ IsAcceptablePool bytes) [
      | Whole faults passed unread records joins ↦
          let found = found_from 0 is.steps in
          let of_pool : i.findings.items ≡ map findings.Record (faults_from 0 is.steps) ++ is.of_rules =
          is.found ∙ ap (λ (l : List Finding). map findings.Record (faults_from 0 is.steps) ++ l) (judged_if_none (passed_from 0 is.steps) is.of_rules passed) in
          let of_all : AreFindings true i.objects is.of_rules is.left_out =
          subst (λ (b : Bool). AreFindings b i.objects is.of_rules is.left_out) (ap is_none unread) is.are_findings in
          let objects = is.objects ∙ last_objects found in (
            λ none. record {
              records = map entry_of found;
              whole = records;
              parts = joins;
              acceptable = subst (IsAcceptable terminal) objects
                  (rules_hold i.objects is.of_rules is.left_out of_all (both_none (map findings.Record (faults_from 0 is.steps)) is.of_rules (sym of_pool ∙ none)).1);
            },
            λ pool.
                let same = joined_one pool.records (map entry_of found) pool.whole records (sym pool.parts ∙ joins) in
                let holds = subst (IsAcceptable terminal) (ap (λ (rs : List PoolEntry). by_rising_id (reverse rs)) same ∙ sym objects) pool.acceptable in
                of_pool ∙ ap₂ (λ (fs : List PoolFault) (l : List Finding). map findings.Record fs ++ l) faults (none_found i.objects is.of_rules is.left_out of_all holds),
          )
      | Faulty fault others faults is_one known ↦ (
        λ none. let never = ap (λ (fs : List PoolFault). map findings.Record fs ++ filter (is_judged (passed_from 0 is.steps)) is.of_rules) (sym faults) ∙ sym is.found ∙ none in absurd cc,
        λ pool. absurd (known (want_of_memory bytes fault pool.records pool.whole pool.parts is_one)),
      )
    ]
