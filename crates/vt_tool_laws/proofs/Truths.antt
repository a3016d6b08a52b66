-- Every finding of a rule is true.
use Rattle.std.proofs.Common.{◌≡◌, ℕ, Bool, true, false, cond, not, eqb, List, [], ◌∷◌, ◌++◌, map, drop, length, Option, Some, refl, sym, ap, subst, ◌∙◌, inl, inr}
use Rattle.std.proofs.lemmas.Bool.{ltb-true}
use Rattle.std.proofs.lemmas.List.Elements.{Contains-append_cases, Contains-append_left, Contains-append_right}
use Rattle.std.specs.Prelude.{Contains, filter, nat_lt}
use Rattle.std.specs.List.{flat_map, list_any}
use Rattle.vt_commands.specs.declared.command.Command.{Command}
use Rattle.vt_commands.specs.declared.command.Command.TheVariants.{ChangeAttribute}
use Rattle.vt_rank.specs.Paths.{IsPath, IsCircle}
use Rattle.vt_rank.specs.declared.circle.Circle.{Circle}
use Rattle.check_circles.specs.Circles.{without, AreCircles}
use Rattle.vt_chains.specs.Inclusions.{included}
use Rattle.vt_chains.specs.Limits.{terminal}
use Rattle.vt_chains.proofs.Elements.{Contains-nil, Contains-head, Contains-tail, cons_case}
use Rattle.vt_stores.specs.Shapes.{Shape, shape_of}
use Rattle.vt_stores.specs.Stores.{Objects}
use Rattle.vt_stores.proofs.SortedEntries.{both_true}
use Rattle.vt_verify.specs.declared.reference.Test.TheVariants.{IsThere, Fits}
use Rattle.vt_verify.specs.Budgets.{cost, budget}
use Rattle.vt_verify.specs.Macros.{Piece, macros, is_whole, pieces, is_allowed, macro_command}
use Rattle.vt_verify.specs.Orders.{named_macros}
use Rattle.vt_verify.specs.Targets.{has_attribute}
use Rattle.vt_verify.specs.TriggerGraphs.{listed_events}
use Rattle.vt_verify.specs.Triggers.{listed, triggered}
use Rattle.check_inspect.specs.declared.finding.Finding.{Finding}
use Rattle.check_inspect.specs.declared.finding.Finding.TheVariants as findings
use Rattle.check_inspect.specs.declared.inspection.Note.{Note}
use Rattle.check_inspect.specs.Lists.{all_failing}
use Rattle.check_inspect.specs.Costs.{costs_too_much, event_costs_too_much, macro_finding, event_finding, over_findings}
use Rattle.check_inspect.specs.Findings.{circle_finding, if_all, working_set_ids, set_findings, IsDeepest, cut_findings, command_findings, value_finding, value_findings, target_findings, AreOfTriggers, slot_findings, macro_findings}
use Rattle.check_inspect.specs.Findings.AreOfTriggers.{Cut, Circles, Costs}
use Rattle.check_inspect.specs.References.{function_of, passes_at, missing_at, wrong_kinds_at, slots_at, slot_values_at, own_references_at, failing_targets_at}
use Rattle.vt_tool_laws.specs.InspectLaws.{IsCulprit, FindingsAreTrue}
use Rattle.vt_tool_laws.proofs.Nothing.{ids_are}

-- ---- elements of lists that are made of others

pub in_either : {X : Type 0} (P : Type 0) (xs ys : List X) (y : X) → Contains (xs ++ ys) y → (Contains xs y → P) → (Contains ys y → P) → P
in_either P xs ys y inside first second = elim (Contains-append_cases xs ys y inside) as (λ _. P) [ inl h ↦ first h | inr h ↦ second h ]

module _ {X Y : Type 0} (f : X → Y) where
  pub in_map : (xs : List X) (y : Y) → Contains (map f xs) y → (x : X) × Contains xs x × (f x ≡ y)
  in_map [] y inside = absurd (Contains-nil y inside)
  in_map (x ∷ xs) y inside =
      cons_case ((z : X) × Contains (x ∷ xs) z × (f z ≡ y)) (f x) y (map f xs) inside
      (λ same. (x, Contains-head x xs, same))
      (λ rest. let found = in_map xs y rest in (found.0, Contains-tail x found.0 xs found.1, found.2))

  pub map_in : (xs : List X) (x : X) → Contains xs x → Contains (map f xs) (f x)
  map_in [] x inside = absurd (Contains-nil x inside)
  map_in (z ∷ xs) x inside =
      cons_case (Contains (map f (z ∷ xs)) (f x)) z x xs inside
      (λ same. subst (λ (y : Y). Contains (map f (z ∷ xs)) y) (ap f same) (Contains-head (f z) (map f xs)))
      (λ rest. Contains-tail (f z) (f x) (map f xs) (map_in xs x rest))

module _ {X Y : Type 0} (f : X → List Y) where
  pub in_flat_map : (xs : List X) (y : Y) → Contains (flat_map f xs) y → (x : X) × Contains xs x × Contains (f x) y
  in_flat_map [] y inside = absurd (Contains-nil y inside)
  in_flat_map (x ∷ xs) y inside =
      in_either ((z : X) × Contains (x ∷ xs) z × Contains (f z) y) (f x) (flat_map f xs) y inside
      (λ here. (x, Contains-head x xs, here))
      (λ rest. let found = in_flat_map xs y rest in (found.0, Contains-tail x found.0 xs found.1, found.2))

  pub flat_map_in : (xs : List X) (x : X) (y : Y) → Contains xs x → Contains (f x) y → Contains (flat_map f xs) y
  flat_map_in [] x y inside here = absurd (Contains-nil x inside)
  flat_map_in (z ∷ xs) x y inside here =
      cons_case (Contains (flat_map f (z ∷ xs)) y) z x xs inside
      (λ same. Contains-append_left (f z) (flat_map f xs) y (subst (λ (w : X). Contains (f w) y) (sym same) here))
      (λ rest. Contains-append_right (f z) (flat_map f xs) y (flat_map_in xs x y rest here))

module _ {X : Type 0} (test : X → Bool) where
  kept_case : (b : Bool) (x y : X) (rest : List X) → test x ≡ b → Contains (cond b (x ∷ rest) rest) y → (Contains rest y → test y ≡ true) → test y ≡ true
  kept_case true x y rest is inside later = cons_case (test y ≡ true) x y rest inside (λ same. ap test (sym same) ∙ is) later
  kept_case false x y rest is inside later = later inside

  among_case : (b : Bool) (x y : X) (kept rest : List X) → Contains (cond b (x ∷ kept) kept) y → (Contains kept y → Contains rest y) → Contains (x ∷ rest) y
  among_case true x y kept rest inside later =
      cons_case (Contains (x ∷ rest) y) x y kept inside (λ same. subst (λ (z : X). Contains (x ∷ rest) z) same (Contains-head x rest)) (λ h. Contains-tail x y rest (later h))
  among_case false x y kept rest inside later = Contains-tail x y rest (later inside)

  -- what is kept passes
  pub kept_passes : (xs : List X) (y : X) → Contains (filter test xs) y → test y ≡ true
  kept_passes [] y inside = absurd (Contains-nil y inside)
  kept_passes (x ∷ xs) y inside = kept_case (test x) x y (filter test xs) refl inside (kept_passes xs y)

  pub kept_among : (xs : List X) (y : X) → Contains (filter test xs) y → Contains xs y
  kept_among [] y inside = absurd (Contains-nil y inside)
  kept_among (x ∷ xs) y inside = among_case (test x) x y (filter test xs) xs inside (kept_among xs y)

  there_case : (b : Bool) (x y : X) (kept : List X) → Contains kept y → Contains (cond b (x ∷ kept) kept) y
  there_case true x y kept h = Contains-tail x y kept h
  there_case false x y kept h = h

  pub passes_kept : (xs : List X) (y : X) → test y ≡ true → Contains xs y → Contains (filter test xs) y
  passes_kept [] y is inside = absurd (Contains-nil y inside)
  passes_kept (x ∷ xs) y is inside =
      cons_case (Contains (filter test (x ∷ xs)) y) x y xs inside
      (λ same. subst (λ (b : Bool). Contains (cond b (x ∷ filter test xs) (filter test xs)) y) (sym (ap test same ∙ is))
      (subst (λ (z : X). Contains (x ∷ filter test xs) z) same (Contains-head x (filter test xs))))
      (λ rest. there_case (test x) x y (filter test xs) (passes_kept xs y is rest))

negated : (b : Bool) → not b ≡ true → b ≡ false
negated true is = absurd cc
negated false is = refl

pub fails : {X : Type 0} (test : X → Bool) (xs : List X) (y : X) → Contains (all_failing test xs) y → Contains xs y × (test y ≡ false)
fails test xs y inside = (kept_among (λ x. not (test x)) xs y inside, negated (test y) (kept_passes (λ x. not (test x)) xs y inside))

-- ---- the sections

module _ (objects : Objects) (g : Finding) where
  shape : Shape
  shape = shape_of objects

  is_it : (made : Finding) → made ≡ g → IsCulprit objects made → IsCulprit objects g
  is_it made same true_of = subst (IsCulprit objects) same true_of

  true_sets : (are_all : Bool) (ids : List ℕ) → working_set_ids (shape_of objects) ≡ ids → Contains (set_findings are_all ids) g → IsCulprit objects g
  true_sets true [] is inside =
      cons_case (IsCulprit objects g) findings.NoWorkingSet g [] inside
      (λ same. is_it findings.NoWorkingSet same (sym (ids_are (shape_of objects)) ∙ ap length is)) (λ rest. absurd (Contains-nil g rest))
  true_sets false [] is inside = absurd (Contains-nil g inside)
  true_sets are_all (first ∷ others) is inside =
      let found = in_map findings.TwoWorkingSets others g inside in
      is_it (findings.TwoWorkingSets found.0) found.2 (subst (λ (l : List ℕ). Contains (drop 1 l) found.0) (sym is) found.1)

  if_true : (are_all : Bool) (l : List Finding) → Contains (if_all are_all l) g → Contains l g
  if_true true l inside = inside
  if_true false l inside = absurd (Contains-nil g inside)

  true_slots : (are_all : Bool) → Contains (slot_findings are_all objects) g → IsCulprit objects g
  true_slots are_all inside =
      let sets = set_findings are_all (working_set_ids (shape_of objects)) in
      let missing = if_all are_all (map findings.Missing (missing_at objects)) in
      in_either (IsCulprit objects g) (sets ++ missing) (map findings.WrongKind (wrong_kinds_at objects)) g inside
      (λ front. in_either (IsCulprit objects g) sets missing g front
      (true_sets are_all (working_set_ids (shape_of objects)) refl)
      (λ h.
      let found = in_map findings.Missing (missing_at objects) g (if_true are_all (map findings.Missing (missing_at objects)) h) in
      is_it (findings.Missing found.0) found.2 (fails (passes_at IsThere (shape_of objects)) (flat_map slots_at objects) found.0 found.1)))
      (λ h.
      let found = in_map findings.WrongKind (wrong_kinds_at objects) g h in
      is_it (findings.WrongKind found.0) found.2 (fails (passes_at Fits (shape_of objects)) (flat_map (slot_values_at objects) objects) found.0 found.1))

  true_chains : (chains : List Finding) → IsDeepest (included objects) chains → Contains chains g → IsCulprit objects g
  true_chains [] is inside = absurd (Contains-nil g inside)
  true_chains (findings.TooDeep chain ∷ []) is inside =
      cons_case (IsCulprit objects g) (findings.TooDeep chain) g [] inside (λ same. is_it (findings.TooDeep chain) same is) (λ rest. absurd (Contains-nil g rest))
  true_chains others is inside = absurd is

  value_case : (p : Piece) (command : Option Command) → macro_command p.bytes ≡ command → Contains (pieces (shape_of objects)) p → has_attribute (shape_of objects) p ≡ false
      → Contains (value_finding p command) g → IsCulprit objects g
  value_case p (Some (ChangeAttribute object number value)) is inside wrong h =
      let made = findings.MacroValue p.id p.at object number in
      cons_case (IsCulprit objects g) made g [] h
      (λ same. is_it made same (p, inside, wrong, subst (λ (c : Option Command). Contains (value_finding p c) made) (sym is) (Contains-head made [])))
      (λ rest. absurd (Contains-nil g rest))
  value_case p command is inside wrong h = absurd (Contains-nil g h)

  true_targets : (are_all : Bool) → Contains (target_findings are_all (shape_of objects)) g → IsCulprit objects g
  true_targets are_all inside =
      let all = flat_map (own_references_at (shape_of objects)) (shape_of objects) in
      in_either (IsCulprit objects g) (if_all are_all (map findings.MacroMissing (failing_targets_at IsThere (shape_of objects))))
      (map findings.MacroKind (failing_targets_at Fits (shape_of objects))) g inside
      (λ h.
      let found = in_map findings.MacroMissing (failing_targets_at IsThere (shape_of objects)) g (if_true are_all (map findings.MacroMissing (failing_targets_at IsThere (shape_of objects))) h) in
      is_it (findings.MacroMissing found.0) found.2 (fails (passes_at IsThere (shape_of objects)) all found.0 found.1))
      (λ h.
      let found = in_map findings.MacroKind (failing_targets_at Fits (shape_of objects)) g h in
      is_it (findings.MacroKind found.0) found.2 (fails (passes_at Fits (shape_of objects)) all found.0 found.1))

  true_macros : (are_all : Bool) → Contains (macro_findings are_all (shape_of objects)) g → IsCulprit objects g
  true_macros are_all inside =
      let command_finding : Piece → Finding = λ p. findings.MacroCommand p.id p.at (function_of p.bytes) in
      let cut_finding : ℕ × List ℕ → Finding = λ m. findings.MacroBytes m.0 in
      let shape = shape_of objects in
      in_either (IsCulprit objects g) (cut_findings shape ++ command_findings shape ++ target_findings are_all shape) (value_findings shape) g inside
      (λ front. in_either (IsCulprit objects g) (cut_findings shape ++ command_findings shape) (target_findings are_all shape) g front
      (λ first. in_either (IsCulprit objects g) (cut_findings shape) (command_findings shape) g first
      (λ h.
      let found = in_map cut_finding (all_failing is_whole (macros shape)) g h in
      let two = fails is_whole (macros shape) found.0 found.1 in
      is_it (cut_finding found.0) found.2 (found.0, two.0, two.1, refl))
      (λ h.
      let found = in_map command_finding (all_failing is_allowed (pieces shape)) g h in
      let two = fails is_allowed (pieces shape) found.0 found.1 in
      is_it (command_finding found.0) found.2 (found.0, two.0, two.1, refl)))
      (true_targets are_all))
      (λ h.
      let found = in_flat_map (λ (p : Piece). value_finding p (macro_command p.bytes)) (all_failing (has_attribute shape) (pieces shape)) g h in
      let two = fails (has_attribute shape) (pieces shape) found.0 found.1 in
      value_case found.0 (macro_command found.0.bytes) refl two.0 two.1 found.2)

  -- ---- circles and costs

  path_kept : (next all : ℕ → List ℕ) → ((m n : ℕ) → Contains (next m) n → Contains (all m) n) → (path : List ℕ) → IsPath next path → IsPath all path
  path_kept next all sub [] is = tt
  path_kept next all sub (m ∷ []) is = tt
  path_kept next all sub (m ∷ n ∷ ns) is = (sub m n is.0, path_kept next all sub (n ∷ ns) is.1)

  circle_kept : (next all : ℕ → List ℕ) → ((m n : ℕ) → Contains (next m) n → Contains (all m) n) → (path : List ℕ) → IsCircle next path → IsCircle all path
  circle_kept next all sub [] is = is
  circle_kept next all sub (n ∷ ns) is = path_kept next all sub ((n ∷ ns) ++ n ∷ []) is

  left_case : (b : Bool) (l : List ℕ) (n : ℕ) → Contains (cond b [] l) n → Contains l n
  left_case true l n inside = absurd (Contains-nil n inside)
  left_case false l n inside = inside

  true_circles : (circles : List Circle) (next : ℕ → List ℕ) → ((m n : ℕ) → Contains (next m) n → Contains (triggered (shape_of objects) m) n) → AreCircles next circles
      → Contains (map circle_finding circles) g → IsCulprit objects g
  true_circles [] next sub are inside = absurd (Contains-nil g inside)
  true_circles (circle ∷ circles) next sub are inside =
      let first = circle_finding circle in
      let ms = circle.path.items in
      cons_case (IsCulprit objects g) first g (map circle_finding circles) inside
      (λ same. is_it first same (circle_kept next (triggered (shape_of objects)) sub ms are.0.circle, are.0.once))
      (true_circles circles (without ms next) (λ m n h. sub m n (left_case (list_any (λ k. eqb m k) ms) (next m) n h)) are.1)

  true_costs : Contains (over_findings (shape_of objects)) g → IsCulprit objects g
  true_costs inside =
      let shape = shape_of objects in
      in_either (IsCulprit objects g) (map macro_finding (filter (costs_too_much shape) (named_macros shape))) (map event_finding (filter (event_costs_too_much shape) (listed_events shape))) g inside
      (λ h.
      let found = in_map macro_finding (filter (costs_too_much shape) (named_macros shape)) g h in
      is_it (macro_finding found.0) found.2 (ltb-true terminal.steps (cost shape found.0) (kept_passes (costs_too_much shape) (named_macros shape) found.0 found.1)))
      (λ h.
      let found = in_map event_finding (filter (event_costs_too_much shape) (listed_events shape)) g h in
      let e = found.0 in
      is_it (event_finding e) found.2
      (ltb-true terminal.steps (budget shape e.id e.event)
      (both_true (nat_lt terminal.steps (budget shape e.id e.event)) (not (list_any (costs_too_much shape) (listed shape e))) (kept_passes (event_costs_too_much shape) (listed_events shape) e found.1)).0))

  true_triggers : (found : List Finding) (left_out : List Note) → AreOfTriggers (shape_of objects) found left_out → Contains found g → IsCulprit objects g
  true_triggers found left_out (Cut cut is notes) inside = absurd (Contains-nil g (subst (λ (l : List Finding). Contains l g) is inside))
  true_triggers found left_out (Circles was circle circles are made notes) inside =
      true_circles circles (triggered (shape_of objects)) (λ m n h. h) are (subst (λ (l : List Finding). Contains l g) made inside)
  true_triggers found left_out (Costs was none is notes) inside = true_costs (subst (λ (l : List Finding). Contains l g) is inside)

pub all_true : FindingsAreTrue
all_true are_all objects found left_out is g inside =
    let slots = slot_findings are_all objects in
    let macro = macro_findings are_all (shape_of objects) in
    in_either (IsCulprit objects g) (slots ++ is.chains ++ macro) is.triggers g (subst (λ (l : List Finding). Contains l g) is.are inside)
    (λ h. in_either (IsCulprit objects g) (slots ++ is.chains) macro g h
    (λ h. in_either (IsCulprit objects g) slots is.chains g h (true_slots objects g are_all) (true_chains objects g is.chains is.deepest))
    (true_macros objects g are_all))
    (true_triggers objects g is.triggers left_out is.of_triggers)
