-- No culprit of a rule that was judged is left out.
use Rattle.std.proofs.Common.{◌≡◌, ℕ, ◌<◌, Bool, true, false, cond, eqb, ◌||◌, List, [], ◌∷◌, ◌++◌, map, length, None, refl, sym, subst, ◌∙◌, arith}
use Rattle.std.proofs.lemmas.Bool.{lt-ltb, eqb-true}
use Rattle.std.proofs.lemmas.List.Elements.{Contains-append_left, Contains-append_right}
use Rattle.std.specs.Prelude.{Contains, filter}
use Rattle.std.specs.List.{flat_map, list_any, AllByRecursion}
use Rattle.vt_rank.specs.Paths.{IsPath, IsCircle}
use Rattle.vt_rank.specs.declared.circle.Circle.{Circle}
use Rattle.check_circles.specs.Circles.{without, AreCircles}
use Rattle.vt_chains.specs.Inclusions.{included, IsShallow}
use Rattle.vt_chains.specs.Limits.{terminal}
use Rattle.vt_chains.proofs.Elements.{Contains-head, Contains-tail}
use Rattle.vt_stores.specs.Shapes.{Shape, shape_of}
use Rattle.vt_verify.specs.declared.reference.Test.TheVariants.{IsThere, Fits}
use Rattle.vt_verify.specs.Budgets.{cost}
use Rattle.vt_verify.specs.Macros.{Piece, macros, is_whole, pieces, is_allowed, macro_command}
use Rattle.vt_verify.specs.Orders.{named_macros}
use Rattle.vt_verify.specs.Targets.{has_attribute}
use Rattle.vt_verify.specs.declared.listing.Listing.{Listing}
use Rattle.vt_verify.specs.TriggerGraphs.{listed_events}
use Rattle.vt_verify.specs.Triggers.{triggered}
use Rattle.check_inspect.specs.declared.finding.Finding.{Finding}
use Rattle.check_inspect.specs.declared.finding.Finding.TheVariants as findings
use Rattle.check_inspect.specs.declared.inspection.Note.{Note}
use Rattle.check_inspect.specs.declared.inspection.Note.TheVariants as notes
use Rattle.check_inspect.specs.Lists.{all_failing}
use Rattle.check_inspect.specs.Costs.{costs_too_much, event_costs_too_much, macro_finding, event_finding}
use Rattle.check_inspect.specs.Findings.{circle_finding, if_all, working_set_ids, set_findings, IsDeepest, cut_findings, command_findings, value_finding, value_findings, target_findings, AreOfTriggers, slot_findings, macro_findings}
use Rattle.check_inspect.specs.Findings.AreOfTriggers.{Cut, Circles, Costs}
use Rattle.check_inspect.specs.References.{function_of, passes_at, missing_at, wrong_kinds_at, slots_at, slot_values_at, own_references_at, failing_targets_at}
use Rattle.check_inspect.proofs.lemmas.Missing.{fails_among}
use Rattle.vt_tool_laws.specs.InspectLaws.{SharesMacro, NoCulpritIsLeftOut}
use Rattle.vt_tool_laws.proofs.NoneOver.{is_named, free}
use Rattle.vt_tool_laws.proofs.Nothing.{ids_are}
use Rattle.vt_tool_laws.proofs.Truths.{map_in, flat_map_in, passes_kept}

no_ids : (ids : List ℕ) → length ids ≡ 0 → Contains (set_findings true ids) findings.NoWorkingSet
no_ids [] none = Contains-head findings.NoWorkingSet []
no_ids (first ∷ others) none = absurd (omega (arith, none))

if_in : (are_all : Bool) (l : List Finding) (g : Finding) → are_all ≡ true → Contains l g → Contains (if_all are_all l) g
if_in true l g is inside = inside
if_in false l g is inside = absurd cc

some_chain : (inside : ℕ → List ℕ) (chains : List Finding) → IsDeepest inside chains → (IsShallow terminal.inclusions inside → ⊥)
    → (f : Finding) × Contains chains f × IsDeepest inside (f ∷ [])
some_chain inside [] is deep = absurd (deep is)
some_chain inside (findings.TooDeep chain ∷ []) is deep = (findings.TooDeep chain, Contains-head (findings.TooDeep chain) [], is)
some_chain inside others is deep = absurd is

over_in : (shape : Shape) (found : List Finding) (left_out : List Note) → AreOfTriggers shape found left_out → left_out ≡ [] → (id : ℕ) → terminal.steps < cost shape id
    → Contains found (findings.OverBudget id None)
over_in shape found left_out (Cut cut is left) none id over = absurd (let never = sym left ∙ none in cc)
over_in shape found left_out (Circles was circle circles are made left) none id over = absurd (let never = sym left ∙ none in cc)
over_in shape found left_out (Costs was no_circle is left) none id over =
    let macro_list = filter (costs_too_much shape) (named_macros shape) in
    let inside = is_named shape id (λ no_commands. let nothing = free shape id no_commands in absurd (omega arith)) in
    subst (λ (l : List Finding). Contains l (findings.OverBudget id None)) (sym is)
    (Contains-append_left (map macro_finding macro_list) (map event_finding (filter (event_costs_too_much shape) (listed_events shape))) (findings.OverBudget id None)
    (map_in macro_finding macro_list id (passes_kept (costs_too_much shape) (named_macros shape) id (lt-ltb terminal.steps (cost shape id) over) inside)))

event_in : (shape : Shape) (found : List Finding) (left_out : List Note) → AreOfTriggers shape found left_out → left_out ≡ [] → (e : Listing)
    → Contains (listed_events shape) e → event_costs_too_much shape e ≡ true → Contains found (event_finding e)
event_in shape found left_out (Cut cut is left) none e inside over = absurd (let never = sym left ∙ none in cc)
event_in shape found left_out (Circles was circle circles are made left) none e inside over = absurd (let never = sym left ∙ none in cc)
event_in shape found left_out (Costs was no_circle is left) none e inside over =
    let events = filter (event_costs_too_much shape) (listed_events shape) in
    subst (λ (l : List Finding). Contains l (event_finding e)) (sym is)
    (Contains-append_right (map macro_finding (filter (costs_too_much shape) (named_macros shape))) (map event_finding events) (event_finding e)
    (map_in event_finding events e (passes_kept (event_costs_too_much shape) (listed_events shape) e over inside)))

-- ---- circles

among_case : (b : Bool) (m : ℕ) (x : ℕ) (xs : List ℕ) → eqb m x ≡ b → (b || list_any (λ k. eqb m k) xs) ≡ true → (list_any (λ k. eqb m k) xs ≡ true → Contains xs m) → Contains (x ∷ xs) m
among_case true m x xs same is later = subst (λ (k : ℕ). Contains (x ∷ xs) k) (sym (eqb-true m x same)) (Contains-head x xs)
among_case false m x xs same is later = Contains-tail x m xs (later is)

among : (m : ℕ) (xs : List ℕ) → list_any (λ k. eqb m k) xs ≡ true → Contains xs m
among m [] is = absurd cc
among m (x ∷ xs) is = among_case (eqb m x) m x xs refl is (among m xs)

-- a list with a common element, or a list without
data Common (listed path : List ℕ) : Type 0 where
  Shared : (m : ℕ) → Contains path m → Contains listed m → Common listed path
  Apart : AllByRecursion (λ m. list_any (λ k. eqb m k) listed ≡ false) path → Common listed path

common_case : (listed path : List ℕ) (m : ℕ) (b : Bool) → list_any (λ k. eqb m k) listed ≡ b → Common listed path → Common listed (m ∷ path)
common_case listed path m true is rest = Shared m (Contains-head m path) (among m listed is)
common_case listed path m false is (Shared n inside there) = Shared n (Contains-tail m n path inside) there
common_case listed path m false is (Apart apart) = Apart (is, apart)

common : (listed path : List ℕ) → Common listed path
common listed [] = Apart tt
common listed (m ∷ path) = common_case listed path m (list_any (λ k. eqb m k) listed) refl (common listed path)

path_left : (next : ℕ → List ℕ) (listed path : List ℕ) → AllByRecursion (λ m. list_any (λ k. eqb m k) listed ≡ false) path → IsPath next path → IsPath (without listed next) path
path_left next listed [] apart is = tt
path_left next listed (m ∷ []) apart is = tt
path_left next listed (m ∷ n ∷ ns) apart is =
    (subst (λ (b : Bool). Contains (cond b [] (next m)) n) (sym apart.0) is.0, path_left next listed (n ∷ ns) apart.1 is.1)

back_to : (listed : List ℕ) (n : ℕ) (path : List ℕ) → AllByRecursion (λ m. list_any (λ k. eqb m k) listed ≡ false) path → list_any (λ k. eqb n k) listed ≡ false
    → AllByRecursion (λ m. list_any (λ k. eqb m k) listed ≡ false) (path ++ n ∷ [])
back_to listed n [] apart is = (is, tt)
back_to listed n (m ∷ path) apart is = (apart.0, back_to listed n path apart.1 is)

circle_left : (next : ℕ → List ℕ) (listed path : List ℕ) → AllByRecursion (λ m. list_any (λ k. eqb m k) listed ≡ false) path → IsCircle next path → IsCircle (without listed next) path
circle_left next listed [] apart is = is
circle_left next listed (n ∷ ns) apart is = path_left next listed ((n ∷ ns) ++ n ∷ []) (back_to listed n (n ∷ ns) apart apart.0) is

later_circle : (first : Finding) (others : List Finding) (path : List ℕ) → (f : Finding) × Contains others f × SharesMacro path f → (f : Finding) × Contains (first ∷ others) f × SharesMacro path f
later_circle first others path found = (found.0, Contains-tail first found.0 others found.1, found.2)

shared : (circles : List Circle) (next : ℕ → List ℕ) → AreCircles next circles → (path : List ℕ) → IsCircle next path
    → (f : Finding) × Contains (map circle_finding circles) f × SharesMacro path f
shared [] next are path is = absurd (are path is)
shared (circle ∷ circles) next are path is =
    let first = circle_finding circle in
    let others = map circle_finding circles in
    let ms = circle.path.items in
    elim (common ms path) as (λ _. (f : Finding) × Contains (first ∷ others) f × SharesMacro path f) [
      | Shared m inside there ↦ (first, Contains-head first others, (m, inside, there))
      | Apart apart ↦ later_circle first others path (shared circles (without ms next) are.1 path (circle_left next ms path apart is))
    ]

circle_in : (shape : Shape) (found : List Finding) (left_out : List Note) → AreOfTriggers shape found left_out → left_out ≡ notes.UnknownCosts ∷ [] → (path : List ℕ)
    → IsCircle (triggered shape) path → (f : Finding) × Contains found f × SharesMacro path f
circle_in shape found left_out (Cut cut is left) costs path circle = absurd (let never = sym left ∙ costs in cc)
circle_in shape found left_out (Circles was known circles are made left) costs path circle =
    subst (λ (l : List Finding). (f : Finding) × Contains l f × SharesMacro path f) (sym made) (shared circles (triggered shape) are path circle)
circle_in shape found left_out (Costs was no_circle is left) costs path circle = absurd (no_circle path circle)

set_in : (are_all : Bool) (ids : List ℕ) (first : ℕ) (others : List ℕ) (id : ℕ) → ids ≡ first ∷ others → Contains others id
    → Contains (set_findings are_all ids) (findings.TwoWorkingSets id)
set_in are_all ids first others id is inside =
    subst (λ (l : List ℕ). Contains (set_findings are_all l) (findings.TwoWorkingSets id)) (sym is) (map_in findings.TwoWorkingSets others id inside)

pub none_left_out : NoCulpritIsLeftOut
none_left_out are_all objects found left_out is =
    let shape = shape_of objects in
    let sets = set_findings are_all (working_set_ids shape) in
    let missing = if_all are_all (map findings.Missing (missing_at objects)) in
    let wrong = map findings.WrongKind (wrong_kinds_at objects) in
    let slots = slot_findings are_all objects in
    let macro = macro_findings are_all shape in
    let cut = cut_findings shape in
    let command = command_findings shape in
    let absent = if_all are_all (map findings.MacroMissing (failing_targets_at IsThere shape)) in
    let kinds = map findings.MacroKind (failing_targets_at Fits shape) in
    let targets = target_findings are_all shape in
    let values = value_findings shape in
    let all = flat_map (own_references_at shape) shape in
    let at : (g : Finding) → Contains (slots ++ is.chains ++ macro ++ is.triggers) g → Contains found g =
    λ g h. subst (λ (l : List Finding). Contains l g) (sym is.are) h in
    let in_front : (g : Finding) → Contains (slots ++ is.chains ++ macro) g → Contains found g =
    λ g h. at g (Contains-append_left (slots ++ is.chains ++ macro) is.triggers g h) in
    let in_slots : (g : Finding) → Contains slots g → Contains found g =
    λ g h. in_front g (Contains-append_left (slots ++ is.chains) macro g (Contains-append_left slots is.chains g h)) in
    let in_macro : (g : Finding) → Contains macro g → Contains found g = λ g h. in_front g (Contains-append_right (slots ++ is.chains) macro g h) in
    let in_targets : (g : Finding) → Contains targets g → Contains found g =
    λ g h. in_macro g (Contains-append_left (cut ++ command ++ targets) values g (Contains-append_right (cut ++ command) targets g h)) in
    record {
      no_set = λ every none.
          let count = ids_are shape in
          in_slots findings.NoWorkingSet (Contains-append_left (sets ++ missing) wrong findings.NoWorkingSet (Contains-append_left sets missing findings.NoWorkingSet
          (subst (λ (b : Bool). Contains (set_findings b (working_set_ids shape)) findings.NoWorkingSet) (sym every) (no_ids (working_set_ids shape) (count ∙ none)))));
      two_sets = λ first others id are inside.
          in_slots (findings.TwoWorkingSets id) (Contains-append_left (sets ++ missing) wrong (findings.TwoWorkingSets id)
          (Contains-append_left sets missing (findings.TwoWorkingSets id) (set_in are_all (working_set_ids shape) first others id are inside)));
      missing = λ r every culprit.
          in_slots (findings.Missing r) (Contains-append_left (sets ++ missing) wrong (findings.Missing r) (Contains-append_right sets missing (findings.Missing r)
          (if_in are_all (map findings.Missing (missing_at objects)) (findings.Missing r) every
          (map_in findings.Missing (missing_at objects) r (fails_among (passes_at IsThere shape) (flat_map slots_at objects) r culprit.1 culprit.0)))));
      wrong_kind = λ r culprit.
          in_slots (findings.WrongKind r) (Contains-append_right (sets ++ missing) wrong (findings.WrongKind r)
          (map_in findings.WrongKind (wrong_kinds_at objects) r (fails_among (passes_at Fits shape) (flat_map (slot_values_at objects) objects) r culprit.1 culprit.0)));
      chain = λ deep.
          let some = some_chain (included objects) is.chains is.deepest deep in
          (some.0, in_front some.0 (Contains-append_left (slots ++ is.chains) macro some.0 (Contains-append_right slots is.chains some.0 some.1)), some.2);
      cut = λ id culprit.
          let m = culprit.0 in
          let g = findings.MacroBytes m.0 in
          subst (λ (k : ℕ). Contains found (findings.MacroBytes k)) culprit.3
          (in_macro g (Contains-append_left (cut ++ command ++ targets) values g (Contains-append_left (cut ++ command) targets g (Contains-append_left cut command g
          (map_in (λ (m : ℕ × List ℕ). findings.MacroBytes m.0) (all_failing is_whole (macros shape)) m (fails_among is_whole (macros shape) m culprit.2 culprit.1))))));
      command = λ id place function culprit.
          let p = culprit.0 in
          let g = findings.MacroCommand p.id p.at (function_of p.bytes) in
          subst (λ (f : Finding). Contains found f) culprit.3
          (in_macro g (Contains-append_left (cut ++ command ++ targets) values g (Contains-append_left (cut ++ command) targets g (Contains-append_right cut command g
          (map_in (λ (p : Piece). findings.MacroCommand p.id p.at (function_of p.bytes)) (all_failing is_allowed (pieces shape)) p (fails_among is_allowed (pieces shape) p culprit.2 culprit.1))))));
      macro_missing = λ r every culprit.
          in_targets (findings.MacroMissing r) (Contains-append_left absent kinds (findings.MacroMissing r)
          (if_in are_all (map findings.MacroMissing (failing_targets_at IsThere shape)) (findings.MacroMissing r) every
          (map_in findings.MacroMissing (failing_targets_at IsThere shape) r (fails_among (passes_at IsThere shape) all r culprit.1 culprit.0))));
      macro_kind = λ r culprit.
          in_targets (findings.MacroKind r) (Contains-append_right absent kinds (findings.MacroKind r)
          (map_in findings.MacroKind (failing_targets_at Fits shape) r (fails_among (passes_at Fits shape) all r culprit.1 culprit.0)));
      value = λ id place object attribute culprit.
          let g = findings.MacroValue id place object attribute in
          in_macro g (Contains-append_right (cut ++ command ++ targets) values g
          (flat_map_in (λ (p : Piece). value_finding p (macro_command p.bytes)) (all_failing (has_attribute shape) (pieces shape)) culprit.0 g
          (fails_among (has_attribute shape) (pieces shape) culprit.0 culprit.2 culprit.1) culprit.3));
      circle = λ path costs circle.
          let some = circle_in shape is.triggers left_out is.of_triggers costs path circle in
          (some.0, at some.0 (Contains-append_right (slots ++ is.chains ++ macro) is.triggers some.0 some.1), some.2);
      event_over = λ e none inside over.
          at (event_finding e) (Contains-append_right (slots ++ is.chains ++ macro) is.triggers (event_finding e) (event_in shape is.triggers left_out is.of_triggers none e inside over));
      over = λ id none over.
          at (findings.OverBudget id None) (Contains-append_right (slots ++ is.chains ++ macro) is.triggers (findings.OverBudget id None) (over_in shape is.triggers left_out is.of_triggers none id over));
    }
