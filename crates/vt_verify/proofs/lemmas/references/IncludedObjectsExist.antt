-- All included objects exist, if no slot refers to a missing object.
use Rattle.std.proofs.Common.{◌≡◌, ℕ, Bool, true, false, cond, not, eqb, List, [], ◌∷◌, map, Option, Some, None, refl, sym, ap, subst, ◌∙◌}
use Rattle.std.specs.Prelude.{is_some, Contains}
use Rattle.std.specs.Option.{option_map}
use Rattle.std.specs.List.{flat_map}
use Rattle.vt_kinds.specs.declared.slot.Slot.{Slot}
use Rattle.vt_kinds.specs.Ids.{null_id}
use Rattle.vt_kinds.specs.Records.{Seen, kind_of}
use Rattle.vt_stores.specs.Stores.{Objects, IsRising, ids, object_at, map_of}
use Rattle.vt_kinds.specs.References.{slots_of}
use Rattle.vt_verify.specs.Lists.{first_failing}
use Rattle.vt_stores.specs.Shapes.{Shape, shape_of, kind_at}
use Rattle.vt_verify.specs.References.{is_there, of_slot, slot_references}
use Rattle.vt_chains.specs.Inclusions.{is_inclusion, included_by, included}
use Rattle.vt_chains.specs.Depths.{IsIdAt, IsClosed, ids_of, inclusions_of}
use Rattle.vt_verify.specs.Rules as rules
use Rattle.vt_verify.proofs.lemmas.rules.FirstFailure.{all_pass}
use Rattle.vt_stores.proofs.SortedEntries.{both_true}
use Rattle.vt_stores.proofs.ObjectShapes.{kind_found}
use Rattle.vt_chains.proofs.InclusionsInStore.{entry_case, object_of, stands, same_ids, same_inclusions}
use Rattle.vt_chains.proofs.Elements.{Contains-nil, option_case}
use Rattle.vt_chains.proofs.Slots.{included_in, slot_case}

-- ---- included objects exist

-- the slots of an entry pass, if all slots pass
entry_passes : (objects all : Objects) (id : ℕ) (o : Seen) → first_failing (is_there (shape_of all)) (flat_map slot_references objects) ≡ None → object_at objects id ≡ Some o
    → first_failing (is_there (shape_of all)) (map (of_slot id) (slots_of o)) ≡ None
entry_passes [] all id o pass is = absurd cc
entry_passes (e ∷ objects) all id o pass is =
    let parts = all_pass (is_there (shape_of all)) (slot_references e) (flat_map slot_references objects) pass in
    entry_case (first_failing (is_there (shape_of all)) (map (of_slot id) (slots_of o)) ≡ None) e objects id o is
    (λ same is_o.
    ap (λ (k : ℕ). first_failing (is_there (shape_of all)) (map (of_slot k) (slots_of o))) same
    ∙ ap (λ (q : Seen). first_failing (is_there (shape_of all)) (map (of_slot e.0) (slots_of q))) (sym is_o) ∙ parts.0)
    (λ rest. entry_passes objects all id o parts.1 rest)

pass_case : {R : Type 0} (b : Bool) (first : Option R) (r : R) → cond b first (Some r) ≡ None → (b ≡ true) × (first ≡ None)
pass_case true first r is = (refl, is)
pass_case false first r is = absurd cc

there_by : (null : Bool) (there : Bool) (b : Bool) → not b ≡ true → cond b null there ≡ true → there ≡ true
there_by null there true differs is = absurd cc
there_by null there false differs is = is

-- objects included by slots that pass exist
slots_there : (shape : Shape) (parent : ℕ) (slots : List Slot) (next : ℕ) → first_failing (is_there shape) (map (of_slot parent) slots) ≡ None
    → Contains (included_in slots) next → is_some (kind_at shape next) ≡ true
slots_there shape parent [] next pass h = absurd (Contains-nil next h)
slots_there shape parent (s ∷ slots) next pass h =
    let parts = pass_case (is_there shape (of_slot parent s)) (first_failing (is_there shape) (map (of_slot parent) slots)) (of_slot parent s) pass in
    slot_case (is_some (kind_at shape next) ≡ true) s slots next h
    (λ in_it same.
    let no_null = (both_true (is_inclusion s.place) (not (eqb s.id null_id)) in_it).1 in
    subst (λ (k : ℕ). is_some (kind_at shape k) ≡ true) same (there_by s.null (is_some (kind_at shape s.id)) (eqb s.id null_id) no_null parts.0))
    (λ rest. slots_there shape parent slots next parts.1 rest)

none_there : (o : Option Seen) → o ≡ None → is_some (option_map kind_of o) ≡ true → ⊥
none_there None is some = absurd cc
none_there (Some o) is some = absurd cc

-- if no slot refers to a missing object, all included objects exist
pub all_there : (objects : Objects) (id next : ℕ) → rules.missing objects ≡ None → Contains (included objects id) next → object_at objects next ≡ None → ⊥
all_there objects id next pass h none =
    let o = object_of objects id next h in
    let inside = subst (λ (q : Option Seen). Contains (included_by q) next) o.1 h in
    none_there (object_at objects next) none
    (subst (λ (k : Option _). is_some k ≡ true) (kind_found objects next)
    (slots_there (shape_of objects) id (slots_of o.0) next (entry_passes objects objects id o.0 pass o.1) inside))

-- ---- stores by rising ID

pub closed : (objects : Objects) → rules.missing objects ≡ None → IsClosed (ids objects) (included objects)
closed objects pass id other h =
    option_case ((place : ℕ) × IsIdAt (ids objects) place other) (object_at objects other)
    (λ none. absurd (all_there objects id other pass h none))
    (λ o some. stands objects other o some)

pub closed_store : (objects : Objects) → IsRising objects → rules.missing objects ≡ None → IsClosed (ids_of (map_of objects)) (inclusions_of (map_of objects))
closed_store objects rising pass =
    subst (λ (included : ℕ → List ℕ). IsClosed (ids_of (map_of objects)) included) (sym (same_inclusions objects rising))
    (subst (λ (list : List ℕ). IsClosed list (included objects)) (sym (same_ids objects rising)) (closed objects pass))
