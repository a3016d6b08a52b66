-- The first finding, where `verify` refuses the pool.
use Rattle.std.proofs.Common.{◌≡◌, ℕ, Bool, true, List, [], ◌∷◌, ◌++◌, map, length, reverse, Option, Some, None, refl, sym, ap, subst, ◌∙◌, arith}
use Rattle.std.specs.Prelude.{filter}
use Rattle.std.specs.List.{flat_map}
use Rattle.std.specs.Prelude.{Contains}
use Rattle.std.specs.Ordering.{nat_cmp}
use Rattle.std.specs.FinMap as finite
use Rattle.vt_commands.specs.declared.command.Command.{Command}
use Rattle.vt_commands.specs.declared.command.Command.TheVariants.{ChangeAttribute}
use Rattle.vt_rank.specs.declared.circle.Circle.{Circle}
use Rattle.check_circles.specs.Circles.{AreCircles}
use Rattle.vt_chains.specs.Inclusions.{included}
use Rattle.vt_chains.specs.Limits.{terminal}
use Rattle.vt_chains.proofs.IdIndices.{rising as entries_rise}
use Rattle.vt_pool.specs.Pools.{PoolEntry}
use Rattle.vt_pool.proofs.JoinedRecords.{want_of_memory}
use Rattle.vt_pool.proofs.RoundTrip.{joined_one}
use Rattle.vt_stores.specs.Shapes.{shape_of}
use Rattle.vt_stores.specs.Stores.{Objects, IsRising, by_rising_id}
use Rattle.vt_verify.specs.declared.reference.Test.TheVariants.{IsThere, Fits}
use Rattle.vt_verify.specs.declared.refusal.Refusal.{Refusal}
use Rattle.vt_verify.specs.declared.refusal.Refusal.TheVariants as refusals
use Rattle.vt_verify.specs.Lists.{first_failing}
use Rattle.vt_verify.specs.Macros.{Piece, macros, is_whole, pieces, is_allowed, macro_command}
use Rattle.vt_verify.specs.Orders.{named_macros}
use Rattle.vt_verify.specs.References.{is_there, fits}
use Rattle.vt_verify.specs.Rules.{HoldBefore, IsRefused, IsWantOfMemory, IsWithinBudget, SaysTheSame, ReferencesAreThere, ReferencesFit, ChainsAreShort, MacrosAreWhole, CommandsAreAllowed, TargetsAreThere, TargetsFit, AttributesAreThere, TriggersAreNoCircle, BudgetsAreWithin}
use Rattle.vt_verify.specs.Rules as rules
use Rattle.vt_verify.specs.Targets.{has_attribute}
use Rattle.vt_verify.specs.TriggerGraphs.{listed_events}
use Rattle.vt_verify.specs.Triggers.{triggered}
use Rattle.vt_verify.proofs.lemmas.graphs.EventGroups.{rising_shape}
use Rattle.vt_verify.proofs.lemmas.rules.NoRefusal.{refusals_true}
use Rattle.vt_verify.proofs.lemmas.rules.OneRefusal.{refusals_one}
use Rattle.check_inspect.specs.declared.finding.Finding.{Finding}
use Rattle.check_inspect.specs.declared.finding.Finding.TheVariants as findings
use Rattle.check_inspect.specs.declared.finding.ReferenceAt.{ReferenceAt}
use Rattle.check_inspect.specs.declared.inspection.Note.{Note}
use Rattle.check_inspect.specs.Lists.{all_failing}
use Rattle.check_inspect.specs.Costs.{costs_too_much, event_costs_too_much, macro_finding, event_finding, over_findings}
use Rattle.check_inspect.specs.Findings.{circle_finding, working_set_ids, set_findings, IsDeepest, cut_findings, command_findings, value_finding, value_findings, target_findings, AreOfTriggers, slot_findings, macro_findings, AreFindings}
use Rattle.check_inspect.specs.Findings.AreOfTriggers.{Cut, Circles, Costs}
use Rattle.check_inspect.specs.Inspections.{is_none, is_judged}
use Rattle.check_reading.specs.Readings.{FoundAt, entry_of, found_from, passed_from, objects_of}
use Rattle.check_inspect.specs.References.{function_of, missing_at, wrong_kinds_at, slots_at, slot_values_at, own_references_at, failing_targets_at}
use Rattle.vt_chains.proofs.Elements.{Contains-head}
use Rattle.check_inspect.proofs.lemmas.Whole.{none_fails, all_whole, none_first, references_are, none_missing}
use Rattle.vt_tool_laws.specs.InspectLaws.{refusal_of, FirstIsTheRefusal}
use Rattle.vt_tool_laws.proofs.FirstOver.{first_macro, first_object}
use Rattle.vt_tool_laws.proofs.Heads.{head_case, map_head, first_of_all}
use Rattle.vt_tool_laws.proofs.NoneOver.{map_none, both_none}
use Rattle.vt_tool_laws.proofs.Nothing.{same_list, ids_are, one_id, none_value, some_value, rules_hold, last_objects}
use Rattle.vt_tool_laws.proofs.Truths.{fails}
use Rattle.vt_tool_laws.proofs.SameReferences.{values_are, macro_references_are}
use Rattle.vt_tool_laws.proofs.WholeReadings.{whole_outcome, judged_if_none}
use Rattle.vt_tool_laws.proofs.WholeReadings.Outcome.{Whole, Faulty}

first_fails : {A : Type 0} (test : A → Bool) (xs : List A) (x : A) (rest : List A) → all_failing test xs ≡ x ∷ rest → first_failing test xs ≡ Some x
first_fails test xs x rest is = ap (first_failing test) (sym (same_list xs)) ∙ first_of_all test (λ x. x) xs x rest is

-- a refusal that says the same as a finding
record Says (objects : Objects) (g : Finding) : Type 0 where
  refusal : Refusal
  same : refusal_of g ≡ Some refusal
  refused : IsRefused terminal objects refusal
  by_rule : IsWantOfMemory refusal → ⊥

module _ (objects : Objects) (rising : IsRising objects) (g : Finding) where
  said : (made : Finding) (r : Refusal) → made ≡ g → refusal_of made ≡ Some r → IsRefused terminal objects r → (IsWantOfMemory r → ⊥) → Says objects g
  said made r is same refused by_rule = subst (Says objects) is (record { refusal = r; same = same; refused = refused; by_rule = by_rule })

  -- ---- rules 1 to 5

  sets_say : (ids tail : _) → working_set_ids (shape_of objects) ≡ ids → set_findings true ids ≡ g ∷ tail → Says objects g
  sets_say [] tail are is =
      let same : findings.NoWorkingSet ≡ g = cc in
      said findings.NoWorkingSet refusals.NoWorkingSet same refl (sym (ids_are (shape_of objects)) ∙ ap length are) (λ w. w)
  sets_say (first ∷ []) tail are is = absurd cc
  sets_say (first ∷ id ∷ ids) tail are is =
      let same : findings.TwoWorkingSets id ≡ g = cc in
      let count = ids_are (shape_of objects) in
      let long = ap length are in
      said (findings.TwoWorkingSets id) refusals.TwoWorkingSets same refl (omega arith) (λ w. w)

  sets_hold : set_findings true (working_set_ids (shape_of objects)) ≡ [] → HoldBefore terminal objects ReferencesAreThere
  sets_hold none =
      let one = one_id (working_set_ids (shape_of objects)) none in
      let count = ids_are (shape_of objects) in
      (omega arith, (omega arith, tt))

  missing_say : (tail : List Finding) → HoldBefore terminal objects ReferencesAreThere → map findings.Missing (missing_at objects) ≡ g ∷ tail → Says objects g
  missing_say tail before is =
      let h = map_head findings.Missing (missing_at objects) g tail is in
      let first = ap (first_failing (is_there (shape_of objects))) (sym (references_are objects))
      ∙ first_of_all (is_there (shape_of objects)) (λ (r : ReferenceAt). r.reference) (flat_map slots_at objects) h.0 h.1 h.2 in
      said (findings.Missing h.0) (refusals.Missing h.0.reference.parent h.0.reference.id) h.3 refl (before, (h.0.reference, first, refl, refl)) (λ w. w)

  wrong_say : (tail : List Finding) → HoldBefore terminal objects ReferencesFit → map findings.WrongKind (wrong_kinds_at objects) ≡ g ∷ tail → Says objects g
  wrong_say tail before is =
      let h = map_head findings.WrongKind (wrong_kinds_at objects) g tail is in
      let first = ap (first_failing (fits (shape_of objects))) (sym (values_are objects objects))
      ∙ first_of_all (fits (shape_of objects)) (λ (r : ReferenceAt). r.reference) (flat_map (slot_values_at objects) objects) h.0 h.1 h.2 in
      said (findings.WrongKind h.0) (refusals.WrongKind h.0.reference.parent h.0.reference.id) h.3 refl (before, (h.0.reference, first, refl, refl)) (λ w. w)

  chains_say : (chains tail : List Finding) → HoldBefore terminal objects ChainsAreShort → IsDeepest (included objects) chains → chains ≡ g ∷ tail → Says objects g
  chains_say [] tail before deep is = absurd cc
  chains_say (findings.TooDeep chain ∷ []) tail before deep is =
      let same : findings.TooDeep chain ≡ g = cc in
      said (findings.TooDeep chain) (refusals.TooDeep chain) same refl (before, deep) (λ w. w)
  chains_say others tail before deep is = absurd deep

  -- ---- rules 6 to 10

  cut_say : (tail : List Finding) → HoldBefore terminal objects MacrosAreWhole → cut_findings (shape_of objects) ≡ g ∷ tail → Says objects g
  cut_say tail before is =
      let h = map_head (λ (m : ℕ × List ℕ). findings.MacroBytes m.0) (all_failing is_whole (macros (shape_of objects))) g tail is in
      said (findings.MacroBytes h.0.0) (refusals.MacroBytes h.0.0) h.3 refl (before, (h.0, first_fails is_whole (macros (shape_of objects)) h.0 h.1 h.2, refl)) (λ w. w)

  command_say : (tail : List Finding) → HoldBefore terminal objects CommandsAreAllowed → command_findings (shape_of objects) ≡ g ∷ tail → Says objects g
  command_say tail before is =
      let h = map_head (λ (p : Piece). findings.MacroCommand p.id p.at (function_of p.bytes)) (all_failing is_allowed (pieces (shape_of objects))) g tail is in
      let p = h.0 in
      said (findings.MacroCommand p.id p.at (function_of p.bytes)) (refusals.MacroCommand p.id p.at) h.3 refl
      (before, (p, first_fails is_allowed (pieces (shape_of objects)) p h.1 h.2, refl, refl)) (λ w. w)

  absent_say : (tail : List Finding) → HoldBefore terminal objects TargetsAreThere → map findings.MacroMissing (failing_targets_at IsThere (shape_of objects)) ≡ g ∷ tail → Says objects g
  absent_say tail before is =
      let shape = shape_of objects in
      let h = map_head findings.MacroMissing (failing_targets_at IsThere shape) g tail is in
      let first = ap (first_failing (is_there shape)) (sym (macro_references_are shape shape))
      ∙ first_of_all (is_there shape) (λ (r : ReferenceAt). r.reference) (flat_map (own_references_at shape) shape) h.0 h.1 h.2 in
      said (findings.MacroMissing h.0) (refusals.MacroMissing h.0.reference.parent h.0.reference.id) h.3 refl (before, (h.0.reference, first, refl, refl)) (λ w. w)

  kind_say : (tail : List Finding) → HoldBefore terminal objects TargetsFit → map findings.MacroKind (failing_targets_at Fits (shape_of objects)) ≡ g ∷ tail → Says objects g
  kind_say tail before is =
      let shape = shape_of objects in
      let h = map_head findings.MacroKind (failing_targets_at Fits shape) g tail is in
      let first = ap (first_failing (fits shape)) (sym (macro_references_are shape shape))
      ∙ first_of_all (fits shape) (λ (r : ReferenceAt). r.reference) (flat_map (own_references_at shape) shape) h.0 h.1 h.2 in
      said (findings.MacroKind h.0) (refusals.MacroKind h.0.reference.parent h.0.reference.id) h.3 refl (before, (h.0.reference, first, refl, refl)) (λ w. w)

  value_head : (p : Piece) (command : Option Command) (rest : List Finding) (tail : List Finding) → (value_finding p command ≡ [] → ⊥) → value_finding p command ++ rest ≡ g ∷ tail
      → (o n : ℕ) × (findings.MacroValue p.id p.at o n ≡ g)
  value_head p (Some (ChangeAttribute object number value)) rest tail some is = (object, number, cc)
  value_head p command rest tail some is = absurd (some refl)

  value_case : (ps : List Piece) (tail : List Finding) → HoldBefore terminal objects AttributesAreThere → all_failing (has_attribute (shape_of objects)) (pieces (shape_of objects)) ≡ ps
      → flat_map (λ (p : Piece). value_finding p (macro_command p.bytes)) ps ≡ g ∷ tail → Says objects g
  value_case [] tail before are is = absurd cc
  value_case (p ∷ ps) tail before are is =
      let shape = shape_of objects in
      let wrong = (fails (has_attribute shape) (pieces shape) p (subst (λ (l : List Piece). Contains l p) (sym are) (Contains-head p ps))).1 in
      let h = value_head p (macro_command p.bytes) (flat_map (λ (p : Piece). value_finding p (macro_command p.bytes)) ps) tail
      (some_value p shape (macro_command p.bytes) wrong) is in
      said (findings.MacroValue p.id p.at h.0 h.1) (refusals.MacroValue p.id p.at) h.2 refl
      (before, (p, first_fails (has_attribute shape) (pieces shape) p ps are, refl, refl)) (λ w. w)

  value_say : (tail : List Finding) → HoldBefore terminal objects AttributesAreThere → value_findings (shape_of objects) ≡ g ∷ tail → Says objects g
  value_say tail before is = value_case (all_failing (has_attribute (shape_of objects)) (pieces (shape_of objects))) tail before refl is

  -- ---- rules 11 and 12

  circles_say : (circles : List Circle) (tail : List Finding) → HoldBefore terminal objects TriggersAreNoCircle → AreCircles (triggered (shape_of objects)) circles
      → map circle_finding circles ≡ g ∷ tail → Says objects g
  circles_say [] tail before are is = absurd cc
  circles_say (circle ∷ circles) tail before are is =
      let same : circle_finding circle ≡ g = cc in
      said (circle_finding circle) (refusals.MacroCircle circle.path) same refl
      (before, record { circle = are.0.circle; once = are.0.once; least = are.0.least }) (λ w. w)

  costs_say : (tail : List Finding) → HoldBefore terminal objects BudgetsAreWithin → over_findings (shape_of objects) ≡ g ∷ tail → Says objects g
  costs_say tail before is =
      let shape = shape_of objects in
      let up = rising_shape objects rising in
      let macro_list = filter (costs_too_much shape) (named_macros shape) in
      let events = filter (event_costs_too_much shape) (listed_events shape) in
      head_case (Says objects g) (map macro_finding macro_list) (map event_finding events) g tail is
      (λ rest macro.
      let h = map_head macro_finding macro_list g rest macro in
      said (macro_finding h.0) (refusals.OverBudget h.0) h.3 refl (before, first_macro shape up h.0 h.1 h.2) (λ w. w))
      (λ none event.
      let h = map_head event_finding events g tail event in
      said (event_finding h.0) (refusals.OverBudget h.0.id) h.3 refl
      (before, first_object shape up h.0 h.1 (map_none macro_finding macro_list none) h.2) (λ w. w))

  triggers_say : (found tail : List Finding) (left_out : List Note) → HoldBefore terminal objects TriggersAreNoCircle → cut_findings (shape_of objects) ≡ []
      → AreOfTriggers (shape_of objects) found left_out → found ≡ g ∷ tail → Says objects g
  triggers_say found tail left_out before whole (Cut cut none notes) is = absurd (cut whole)
  triggers_say found tail left_out before whole (Circles was known circles are made notes) is = circles_say circles tail before are (sym made ∙ is)
  triggers_say found tail left_out before whole (Costs was no_circle are notes) is =
      let b = before in
      costs_say tail (b.0, (b.1.0, (b.1.1.0, (b.1.1.1.0, (b.1.1.1.1.0, (b.1.1.1.1.1.0, (b.1.1.1.1.1.1.0, (b.1.1.1.1.1.1.1.0, (b.1.1.1.1.1.1.1.1.0, (b.1.1.1.1.1.1.1.1.1.0, (no_circle, tt))))))))))) (sym are ∙ is)

  -- ---- all rules

  slots_hold : (chains : List Finding) → IsDeepest (included objects) chains → slot_findings true objects ≡ [] → chains ≡ [] → HoldBefore terminal objects MacrosAreWhole
  slots_hold chains deep none short =
      let shape = shape_of objects in
      let sets = set_findings true (working_set_ids shape) in
      let wrong = both_none (sets ++ map findings.Missing (missing_at objects)) (map findings.WrongKind (wrong_kinds_at objects)) none in
      let missing = both_none sets (map findings.Missing (missing_at objects)) wrong.0 in
      let first = sets_hold missing.0 in
      let there = none_missing objects (map_none findings.Missing (missing_at objects) missing.1) in
      let fit = ap (first_failing (fits shape)) (sym (values_are objects objects))
      ∙ none_first (fits shape) (λ (r : ReferenceAt). r.reference) (flat_map (slot_values_at objects) objects) (map_none findings.WrongKind (wrong_kinds_at objects) wrong.1) in
      (first.0, (first.1.0, (there, (fit, (subst (IsDeepest (included objects)) short deep, tt)))))

  chains_before : slot_findings true objects ≡ [] → HoldBefore terminal objects ChainsAreShort
  chains_before none =
      let shape = shape_of objects in
      let sets = set_findings true (working_set_ids shape) in
      let wrong = both_none (sets ++ map findings.Missing (missing_at objects)) (map findings.WrongKind (wrong_kinds_at objects)) none in
      let missing = both_none sets (map findings.Missing (missing_at objects)) wrong.0 in
      let first = sets_hold missing.0 in
      let fit = ap (first_failing (fits shape)) (sym (values_are objects objects))
      ∙ none_first (fits shape) (λ (r : ReferenceAt). r.reference) (flat_map (slot_values_at objects) objects) (map_none findings.WrongKind (wrong_kinds_at objects) wrong.1) in
      (first.0, (first.1.0, (none_missing objects (map_none findings.Missing (missing_at objects) missing.1), (fit, tt))))

  slots_say : (tail : List Finding) → slot_findings true objects ≡ g ∷ tail → Says objects g
  slots_say tail is =
      let shape = shape_of objects in
      let sets = set_findings true (working_set_ids shape) in
      let missing = map findings.Missing (missing_at objects) in
      head_case (Says objects g) (sets ++ missing) (map findings.WrongKind (wrong_kinds_at objects)) g tail is
      (λ rest front. head_case (Says objects g) sets missing g rest front
      (λ rest h. sets_say (working_set_ids shape) rest refl h)
      (λ none h. missing_say rest (sets_hold none) h))
      (λ none h.
      let two = both_none sets missing none in
      let first = sets_hold two.0 in
      wrong_say tail (first.0, (first.1.0, (none_missing objects (map_none findings.Missing (missing_at objects) two.1), tt))) h)

  macros_hold : HoldBefore terminal objects MacrosAreWhole → macro_findings true (shape_of objects) ≡ [] → HoldBefore terminal objects TriggersAreNoCircle × (cut_findings (shape_of objects) ≡ [])
  macros_hold b none =
      let shape = shape_of objects in
      let values = both_none (cut_findings shape ++ command_findings shape ++ target_findings true shape) (value_findings shape) none in
      let targets = both_none (cut_findings shape ++ command_findings shape) (target_findings true shape) values.0 in
      let commands = both_none (cut_findings shape) (command_findings shape) targets.0 in
      let kinds = both_none (map findings.MacroMissing (failing_targets_at IsThere shape)) (map findings.MacroKind (failing_targets_at Fits shape)) targets.1 in
      let allowed = none_fails is_allowed (λ (p : Piece). findings.MacroCommand p.id p.at (function_of p.bytes)) (pieces shape) commands.1 in
      let there = ap (first_failing (is_there shape)) (sym (macro_references_are shape shape))
      ∙ none_first (is_there shape) (λ (r : ReferenceAt). r.reference) (flat_map (own_references_at shape) shape) (map_none findings.MacroMissing (failing_targets_at IsThere shape) kinds.0) in
      let fit = ap (first_failing (fits shape)) (sym (macro_references_are shape shape))
      ∙ none_first (fits shape) (λ (r : ReferenceAt). r.reference) (flat_map (own_references_at shape) shape) (map_none findings.MacroKind (failing_targets_at Fits shape) kinds.1) in
      ((b.0, (b.1.0, (b.1.1.0, (b.1.1.1.0, (b.1.1.1.1.0, (all_whole shape commands.0, (allowed, (there, (fit, (none_value shape (pieces shape) values.1, tt)))))))))), commands.0)

  macros_say : (tail : List Finding) → HoldBefore terminal objects MacrosAreWhole → macro_findings true (shape_of objects) ≡ g ∷ tail → Says objects g
  macros_say tail b is =
      let shape = shape_of objects in
      let cut = cut_findings shape in
      let command = command_findings shape in
      let absent = map findings.MacroMissing (failing_targets_at IsThere shape) in
      let kinds = map findings.MacroKind (failing_targets_at Fits shape) in
      let whole_before : cut ≡ [] → HoldBefore terminal objects CommandsAreAllowed =
      λ none. (b.0, (b.1.0, (b.1.1.0, (b.1.1.1.0, (b.1.1.1.1.0, (all_whole shape none, tt)))))) in
      let allowed_before : cut ++ command ≡ [] → HoldBefore terminal objects TargetsAreThere =
      λ none.
      let two = both_none cut command none in (
        b.0,
        (
          b.1.0,
          (
            b.1.1.0,
            (
              b.1.1.1.0,
              (
                b.1.1.1.1.0,
                (
                  all_whole shape two.0,
                  (none_fails is_allowed (λ (p : Piece). findings.MacroCommand p.id p.at (function_of p.bytes)) (pieces shape) two.1, tt),
                ),
              ),
            ),
          ),
        ),
      ) in
      let there_of : absent ≡ [] → rules.macro_missing shape ≡ None =
      λ none. ap (first_failing (is_there shape)) (sym (macro_references_are shape shape))
      ∙ none_first (is_there shape) (λ (r : ReferenceAt). r.reference) (flat_map (own_references_at shape) shape) (map_none findings.MacroMissing (failing_targets_at IsThere shape) none) in
      let fit_of : kinds ≡ [] → rules.macro_wrong_kind shape ≡ None =
      λ none. ap (first_failing (fits shape)) (sym (macro_references_are shape shape))
      ∙ none_first (fits shape) (λ (r : ReferenceAt). r.reference) (flat_map (own_references_at shape) shape) (map_none findings.MacroKind (failing_targets_at Fits shape) none) in
      head_case (Says objects g) (cut ++ command ++ target_findings true shape) (value_findings shape) g tail is
      (λ rest front. head_case (Says objects g) (cut ++ command) (target_findings true shape) g rest front
      (λ rest first. head_case (Says objects g) cut command g rest first
      (λ rest h. cut_say rest b h)
      (λ none h. command_say rest (whole_before none) h))
      (λ none targets.
      let a = allowed_before none in
      head_case (Says objects g) absent kinds g rest targets
      (λ rest h. absent_say rest a h)
      (λ no_absent h. kind_say rest (a.0, (a.1.0, (a.1.1.0, (a.1.1.1.0, (a.1.1.1.1.0, (a.1.1.1.1.1.0, (a.1.1.1.1.1.1.0, (there_of no_absent, tt)))))))) h)))
      (λ none h.
      let front = both_none (cut ++ command) (target_findings true shape) none in
      let a = allowed_before front.0 in
      let two = both_none absent kinds front.1 in
      value_say tail (a.0, (a.1.0, (a.1.1.0, (a.1.1.1.0, (a.1.1.1.1.0, (a.1.1.1.1.1.0, (a.1.1.1.1.1.1.0, (there_of two.0, (fit_of two.1, tt))))))))) h)

  all_say : (found tail : List Finding) (left_out : List Note) → AreFindings true objects found left_out → found ≡ g ∷ tail → Says objects g
  all_say found tail left_out is made =
      let slots = slot_findings true objects in
      let macro = macro_findings true (shape_of objects) in
      head_case (Says objects g) (slots ++ is.chains ++ macro) is.triggers g tail (sym is.are ∙ made)
      (λ rest front. head_case (Says objects g) (slots ++ is.chains) macro g rest front
      (λ rest first. head_case (Says objects g) slots is.chains g rest first
      (λ rest h. slots_say rest h)
      (λ none h. chains_say is.chains rest (chains_before none) is.deepest h))
      (λ none h.
      let two = both_none slots is.chains none in
      macros_say rest (slots_hold is.chains is.deepest two.0 two.1) h))
      (λ none h.
      let front = both_none (slots ++ is.chains) macro none in
      let two = both_none slots is.chains front.0 in
      let last = macros_hold (slots_hold is.chains is.deepest two.0 two.1) front.1 in
      triggers_say is.triggers tail left_out last.0 last.1 is.of_triggers h)

rising_of : (found : List FoundAt) → IsRising (objects_of found)
unfolding by_rising_id
rising_of found = entries_rise (finite.from_entries {R = nat_cmp} (map entry_of (reverse found)))

nothing_or : (found : List Finding) → (P : Type 0) → (found ≡ [] → P) → ((g : Finding) (others : List Finding) → found ≡ g ∷ others → P) → P
nothing_or [] P none some = none refl
nothing_or (g ∷ others) P none some = some g others refl

pub first_refusal : FirstIsTheRefusal
first_refusal bytes i records refusal is whole parts refused by_rule =
    elim (whole_outcome is.steps bytes is.reading) as (λ _. (first : Finding) × (others : List Finding) × (i.findings.items ≡ first ∷ others)
    × ((same : Refusal) × (refusal_of first ≡ Some same) × SaysTheSame refusal same)) [
      | Whole faults passed unread own joins ↦
          let found = found_from 0 is.steps in
          let of_all : AreFindings true i.objects is.of_rules is.left_out =
          subst (λ (b : Bool). AreFindings b i.objects is.of_rules is.left_out) (ap is_none unread) is.are_findings in
          let same = joined_one records (map entry_of found) whole own (sym parts ∙ joins) in
          let objects : i.objects ≡ by_rising_id (reverse records) =
          is.objects ∙ last_objects found ∙ ap (λ (rs : List PoolEntry). by_rising_id (reverse rs)) (sym same) in
          let theirs = subst (λ (o : Objects). IsRefused terminal o refusal) (sym objects) refused in
          let all : i.findings.items ≡ is.of_rules =
          is.found ∙ ap (λ fs. map findings.Record fs ++ filter (is_judged (passed_from 0 is.steps)) is.of_rules) faults
          ∙ judged_if_none (passed_from 0 is.steps) is.of_rules passed in
          nothing_or is.of_rules _
          (λ none. absurd (by_rule (refusals_true terminal i.objects refusal (rules_hold i.objects is.of_rules is.left_out of_all none) theirs)))
          (λ g others made.
          let says = all_say i.objects (subst IsRising (sym is.objects) (rising_of found)) g is.of_rules others is.left_out of_all made in
          (g, others, all ∙ made, (says.refusal, says.same, refusals_one terminal i.objects refusal says.refusal theirs says.refused by_rule says.by_rule)))
      | Faulty fault others faults is_one known ↦ absurd (known (want_of_memory bytes fault records whole parts is_one))
    ]
