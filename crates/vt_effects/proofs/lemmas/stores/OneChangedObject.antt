-- Kinds and pointer values in a store with one changed object.
use Rattle.std.proofs.Common.{◌≡◌, ℕ, Bool, true, false, cond, ◌==◌, ◌&&◌, eqb, Option, Some, None, refl, sym, ap, subst, ◌∙◌}
use Rattle.std.proofs.lemmas.Bool.{eqb-true}
use Rattle.std.specs.Prelude.{IsTrue}
use Rattle.std.specs.Cmp.{unsigned_tied, nat_cmp_total}
use Rattle.std.specs.Option.{option_map}
use Rattle.std.specs.FinMap as finite
use Rattle.vt_kinds.specs.declared.kind.Kind.{Kind}
use Rattle.vt_kinds.specs.declared.slot.Slot.{Slot}
use Rattle.vt_kinds.specs.Records.{Seen, kind_of}
use Rattle.vt_stores.specs.Stores.{ObjectMap}
use Rattle.vt_effects.specs.Changes.{is_one_of}
use Rattle.vt_effects.specs.Effects.{kind_in, pointer_value, allows}
use Rattle.vt_effects.specs.Soundness.{value_fits, is_in_order}
use Rattle.vt_stores.proofs.SortedEntries.{both_true, true_both}

pub get_put : (m : ObjectMap) (id : ℕ) (o : Seen) (q : ℕ) → finite.get (finite.insert m id o) q ≡ cond (eqb q id) (Some o) (finite.get m q)
get_put m id o q = finite.get-insert nat_cmp_total m id o q ∙ ap (λ b. cond b (Some o) (finite.get m q)) (unsigned_tied q id)

-- the object of the ID itself in the changed store
pub get_there : (m : ObjectMap) (id : ℕ) (o : Seen) (q : ℕ) → eqb q id ≡ true → finite.get (finite.insert m id o) q ≡ Some o
get_there m id o q same = get_put m id o q ∙ ap (λ b. cond b (Some o) (finite.get m q)) same

pub get_other : (m : ObjectMap) (id : ℕ) (o : Seen) (q : ℕ) → eqb q id ≡ false → finite.get (finite.insert m id o) q ≡ finite.get m q
get_other m id o q other = get_put m id o q ∙ ap (λ b. cond b (Some o) (finite.get m q)) other

-- if two stores differ in one object alone, restoring the object makes them equal
pub put_back : (m n : ObjectMap) (id : ℕ) (o : Seen) → finite.get m id ≡ Some o → ((q : ℕ) → eqb q id ≡ false → finite.get n q ≡ finite.get m q) → finite.insert n id o ≡ m
put_back m n id o at others = finite.same_map nat_cmp_total finite.nat_cmp-IsAntisymmetric _ _ (λ q. by q (eqb q id) refl)
  where
    by : (q : ℕ) (b : Bool) → eqb q id ≡ b → finite.get (finite.insert n id o) q ≡ finite.get m q
    by q true same = get_there n id o q same ∙ sym at ∙ ap (finite.get m) (sym (eqb-true q id same))
    by q false other = get_other n id o q other ∙ others q other

kinds_by : (m : ObjectMap) (id : ℕ) (old new : Seen) (q : ℕ) (b : Bool) → eqb q id ≡ b → finite.get m id ≡ Some old → kind_of new ≡ kind_of old
    → kind_in (finite.insert m id new) q ≡ kind_in m q
kinds_by m id old new q true same at kinds =
    ap (option_map kind_of) (get_there m id new q same) ∙ ap Some kinds ∙ sym (ap (option_map kind_of) (ap (finite.get m) (eqb-true q id same) ∙ at))
kinds_by m id old new q false other at kinds = ap (option_map kind_of) (get_other m id new q other)

-- each object keeps its kind
pub kinds_stay : (m : ObjectMap) (id : ℕ) (old new : Seen) (q : ℕ) → finite.get m id ≡ Some old → kind_of new ≡ kind_of old
    → kind_in (finite.insert m id new) q ≡ kind_in m q
kinds_stay m id old new q at kinds = kinds_by m id old new q (eqb q id) refl at kinds

pub allows_stays : (m : ObjectMap) (id : ℕ) (old new : Seen) (s : Slot) (v : ℕ) → finite.get m id ≡ Some old → kind_of new ≡ kind_of old
    → allows (finite.insert m id new) s v ≡ allows m s v
allows_stays m id old new s v at kinds = ap (λ (k : Option Kind). cond (v == 0xFFFF) true (is_one_of s.kinds k)) (kinds_stay m id old new v at kinds)

-- ---- slots in order

pub first_of : (a b : Bool) → IsTrue (a && b) → IsTrue a
first_of a b is = (both_true a b is).0

pub second_of : (a b : Bool) → IsTrue (a && b) → IsTrue b
second_of a b is = (both_true a b is).1

pub value_of : (m : ObjectMap) (s : Slot) (v : Option ℕ) → ((w : ℕ) → v ≡ Some w → IsTrue (allows m s w)) → IsTrue (value_fits m s v)
value_of m s None of = refl
value_of m s (Some w) of = of w refl

-- A slot stays in order when one object changes, if the slot allows the new value of its pointer.
pub in_order_stays : (m : ObjectMap) (id : ℕ) (old new : Seen) (s : Slot) → finite.get m id ≡ Some old → kind_of new ≡ kind_of old
    → (eqb s.id id ≡ true → (w : ℕ) → pointer_value (Some new) ≡ Some w → IsTrue (allows m s w)) → IsTrue (is_in_order m s)
    → IsTrue (is_in_order (finite.insert m id new) s)
in_order_stays m id old new s at kinds fits is = by (s.id == 0xFFFF) is
  where
    same : (w : ℕ) → allows (finite.insert m id new) s w ≡ allows m s w
    same w = allows_stays m id old new s w at kinds

    value : (b : Bool) → eqb s.id id ≡ b → IsTrue (value_fits m s (pointer_value (finite.get m s.id)))
        → IsTrue (value_fits (finite.insert m id new) s (pointer_value (finite.get (finite.insert m id new) s.id)))
    value true e before =
        subst (λ (o : Option Seen). IsTrue (value_fits (finite.insert m id new) s (pointer_value o))) (sym (get_there m id new s.id e))
        (value_of (finite.insert m id new) s (pointer_value (Some new)) (λ w is. same w ∙ fits e w is))
    value false e before =
        subst (λ (o : Option Seen). IsTrue (value_fits (finite.insert m id new) s (pointer_value o))) (sym (get_other m id new s.id e))
        (value_of (finite.insert m id new) s (pointer_value (finite.get m s.id)) (λ w is. same w ∙ subst (λ (v : Option ℕ). IsTrue (value_fits m s v)) is before))

    by : (b : Bool) → IsTrue (cond b s.null (is_one_of s.kinds (kind_in m s.id) && value_fits m s (pointer_value (finite.get m s.id))))
        → IsTrue (cond b s.null (is_one_of s.kinds (kind_in (finite.insert m id new) s.id)
        && value_fits (finite.insert m id new) s (pointer_value (finite.get (finite.insert m id new) s.id))))
    by true null = null
    by false there =
        true_both _ _
        (subst (λ (k : Option Kind). IsTrue (is_one_of s.kinds k)) (sym (kinds_stay m id old new s.id at kinds))
        (first_of (is_one_of s.kinds (kind_in m s.id)) (value_fits m s (pointer_value (finite.get m s.id))) there))
        (value (eqb s.id id) refl (second_of (is_one_of s.kinds (kind_in m s.id)) (value_fits m s (pointer_value (finite.get m s.id))) there))
