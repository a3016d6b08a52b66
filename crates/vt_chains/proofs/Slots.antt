-- The inclusions of an object, one slot at a time.
use Rattle.std.proofs.Common.{◌≡◌, ℕ, Bool, true, false, cond, List, ◌∷◌, map, filter, Some, refl, sym, ap, subst, ◌∙◌}
use Rattle.std.specs.Prelude.{Contains}
use Rattle.std.specs.FinMap as finite
use Rattle.vt_kinds.specs.declared.slot.Slot.{Slot}
use Rattle.vt_kinds.specs.declared.object.Object.{Object}
use Rattle.vt_kinds.specs.Records.{seen}
use Rattle.vt_kinds.specs.References.{slots_of}
use Rattle.vt_stores.specs.Stores.{ObjectMap}
use Rattle.vt_chains.specs.Inclusions.{includes, included_by}
use Rattle.vt_chains.specs.Depths.{inclusions_of}
use Rattle.vt_stores.proofs.ObjectShapes.{seen_slots}
use Rattle.vt_chains.proofs.Elements.{Contains-head, Contains-tail, cons_case}

filter_case : (P : Type 0) (b : Bool) (s : Slot) (rest : List Slot) (next : ℕ) → Contains (map (λ (q : Slot). q.id) (cond b (s ∷ rest) rest)) next
    → (b ≡ true → s.id ≡ next → P) → (Contains (map (λ (q : Slot). q.id) rest) next → P) → P
filter_case P true s rest next h here later = cons_case P s.id next (map (λ (q : Slot). q.id) rest) h (here refl) later
filter_case P false s rest next h here later = later h

-- the IDs that slots include
abbrev pub included_in : List Slot → List ℕ
included_in slots = map (λ slot. slot.id) (filter includes slots)

pub inclusions_are : {B : Type 0} (m : ObjectMap) (id : ℕ) (o : Object B) → finite.get m id ≡ Some (seen o) → inclusions_of m id ≡ included_in (slots_of o)
inclusions_are m id o is = ap included_by (sym (finite.get-entries m id) ∙ is) ∙ ap included_in (seen_slots o)

pub in_more : (slot : Slot) (slots : List Slot) (next : ℕ) → Contains (included_in slots) next → Contains (included_in (slot ∷ slots)) next
in_more slot slots next h = more_by (includes slot)
  where
    more_by : (b : Bool) → Contains (map (λ (s : Slot). s.id) (cond b (slot ∷ filter includes slots) (filter includes slots))) next
    more_by true = Contains-tail slot.id next (included_in slots) h
    more_by false = h

pub in_first : (slot : Slot) (slots : List Slot) → includes slot ≡ true → Contains (included_in (slot ∷ slots)) slot.id
in_first slot slots is =
    subst (λ (b : Bool). Contains (map (λ (s : Slot). s.id) (cond b (slot ∷ filter includes slots) (filter includes slots))) slot.id) (sym is) (Contains-head slot.id (included_in slots))

-- an included ID is that of the first slot or one of the later slots
pub slot_case : (P : Type 0) (slot : Slot) (slots : List Slot) (next : ℕ) → Contains (included_in (slot ∷ slots)) next
    → (includes slot ≡ true → slot.id ≡ next → P) → (Contains (included_in slots) next → P) → P
slot_case P slot slots next h here later = filter_case P (includes slot) slot (filter includes slots) next h here later
