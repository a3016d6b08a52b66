-- Changes that leave an object's references, macro entries and macro bytes unchanged: macros can run as before.
use Rattle.std.proofs.Common.{◌≡◌, ℕ, Bool, true, false, cond, ◌==◌, ◌&&◌, eqb, List, [], ◌∷◌, map, filter, length, Option, Some, None, refl, sym, ap, subst, ◌∙◌}
use Rattle.std.proofs.lemmas.Option.{same_Some}
use Rattle.std.proofs.lemmas.Bool.{eqb-true}
use Rattle.std.specs.Prelude.{Contains, IsTrue}
use Rattle.std.specs.List.{AllByRecursion}
use Rattle.std.specs.FinMap as finite
use Rattle.vt_kinds.specs.declared.kind.Kind.{Kind}
use Rattle.vt_kinds.specs.declared.slot.Slot.{Slot}
use Rattle.vt_kinds.specs.declared.object.Object.TheVariants as objects
use Rattle.vt_kinds.specs.Ids.{null_id}
use Rattle.vt_kinds.specs.Records.{Seen}
use Rattle.vt_kinds.specs.References.{slots_of}
use Rattle.vt_stores.specs.Stores.{ObjectMap, replaced, with_object}
use Rattle.vt_stores.specs.Shapes.{Shape, Fixed, fixed}
use Rattle.vt_verify.specs.Macros.{commands}
use Rattle.vt_verify.specs.Budgets.{MacroCostsAreTotals}
use Rattle.vt_verify.specs.Rules.{IsWithinBudget, working_sets}
use Rattle.vt_chains.specs.Limits.{terminal}
use Rattle.vt_chains.specs.Inclusions.{includes, included_by}
use Rattle.vt_chains.specs.Depths.{inclusions_of}
use Rattle.vt_macros.specs.declared.index.Index.{Index}
use Rattle.vt_chains.specs.declared.levels.Levels.{Levels}
use Rattle.vt_chains.specs.Certificates.{IsCertificate, AreLevels}
use Rattle.vt_effects.specs.Changes.{is_one_of}
use Rattle.vt_effects.specs.Effects.{kind_in, pointer_value}
use Rattle.vt_machine.specs.OperatorEntries.{put_at, with_number, with_text}
use Rattle.vt_macros.specs.Indexes.{IsIndexOf}
use Rattle.vt_macros.specs.Machines.{fault}
use Rattle.vt_effects.specs.Soundness.{shape_in}
use Rattle.vt_macros.specs.NestedRuns.{IsOfVerified, CanRun}
use Rattle.vt_effects.specs.Soundness.{IsSound, value_fits, is_in_order}
use Rattle.vt_effects.proofs.lemmas.inclusions.NewInclusions.{ids_by}
use Rattle.vt_effects.proofs.lemmas.stores.OneChangedObject.{get_there, get_other, kinds_stay}
use Rattle.vt_effects.proofs.lemmas.stores.SameShape.{shape_same}
use Rattle.vt_effects.proofs.lemmas.inclusions.ShortChains.{fewer_chains}

-- a change that leaves references, macro entries and macro bytes unchanged
pub record IsPlain (change : Seen → Seen) : Type 0 where
  pub slots : (o : Seen) → slots_of (change o) ≡ slots_of o
  pub same : (o : Seen) → fixed (change o) ≡ fixed o
  pub values : (o : Seen) → pointer_value (Some (change o)) ≡ pointer_value (Some o)

pub numbers_plain : (n : ℕ) → IsPlain (with_number n)
numbers_plain n = record { slots = slots; same = same; values = values }
  where
    slots : (o : Seen) → slots_of (with_number n o) ≡ slots_of o
    slots (objects.InputBoolean o) = refl
    slots (objects.InputNumber o) = refl
    slots (objects.InputList o) = refl
    slots (objects.NumberVariable o) = refl
    slots _ = refl

    same : (o : Seen) → fixed (with_number n o) ≡ fixed o
    same (objects.InputBoolean o) = refl
    same (objects.InputNumber o) = refl
    same (objects.InputList o) = refl
    same (objects.NumberVariable o) = refl
    same _ = refl

    values : (o : Seen) → pointer_value (Some (with_number n o)) ≡ pointer_value (Some o)
    values (objects.InputBoolean o) = refl
    values (objects.InputNumber o) = refl
    values (objects.InputList o) = refl
    values (objects.NumberVariable o) = refl
    values _ = refl

pub texts_plain : (text : List ℕ) → IsPlain (with_text text)
texts_plain text = record { slots = slots; same = same; values = values }
  where
    slots : (o : Seen) → slots_of (with_text text o) ≡ slots_of o
    slots (objects.InputString o) = refl
    slots (objects.StringVariable o) = refl
    slots _ = refl

    same : (o : Seen) → fixed (with_text text o) ≡ fixed o
    same (objects.InputString o) = refl
    same (objects.StringVariable o) = refl
    same _ = refl

    values : (o : Seen) → pointer_value (Some (with_text text o)) ≡ pointer_value (Some o)
    values (objects.InputString o) = refl
    values (objects.StringVariable o) = refl
    values _ = refl

-- ---- one changed object

module _ (m : ObjectMap) (id : ℕ) (old new : Seen) (at : finite.get m id ≡ Some old) (slots : slots_of new ≡ slots_of old) (same : fixed new ≡ fixed old)
    (value : pointer_value (Some new) ≡ pointer_value (Some old)) where
  abbrev n : ObjectMap
  n = finite.insert m id new

  kinds : (q : ℕ) → kind_in n q ≡ kind_in m q
  kinds q = kinds_stay m id old new q at (ap (λ (f : Fixed). f.kind) same)

  by_key : {A : Type 0} (f : Option Seen → A) → f (Some new) ≡ f (Some old) → (q : ℕ) (b : Bool) → eqb q id ≡ b → f (finite.get n q) ≡ f (finite.get m q)
  by_key f is q true e = ap f (get_there m id new q e) ∙ is ∙ ap f (sym at) ∙ ap (λ (k : ℕ). f (finite.get m k)) (sym (eqb-true q id e))
  by_key f is q false e = ap f (get_other m id new q e)

  values : (q : ℕ) → pointer_value (finite.get n q) ≡ pointer_value (finite.get m q)
  values q = by_key pointer_value value q (eqb q id) refl

  included : (q : ℕ) → inclusions_of n q ≡ inclusions_of m q
  included q =
      ap included_by (sym (finite.get-entries n q))
      ∙ by_key included_by (ap (λ (l : List Slot). map (λ (s : Slot). s.id) (filter includes l)) slots) q (eqb q id) refl
      ∙ ap included_by (finite.get-entries m q)

  fits_same : (s : Slot) (v : Option ℕ) → value_fits n s v ≡ value_fits m s v
  fits_same s None = refl
  fits_same s (Some w) = ap (λ (k : Option Kind). cond (w == null_id) true (is_one_of s.kinds k)) (kinds w)

  order_same : (s : Slot) → is_in_order n s ≡ is_in_order m s
  order_same s =
      ap (λ (k : Option Kind). cond (s.id == null_id) s.null (is_one_of s.kinds k && value_fits n s (pointer_value (finite.get n s.id)))) (kinds s.id)
      ∙ ap (λ (b : Bool). cond (s.id == null_id) s.null (is_one_of s.kinds (kind_in m s.id) && b))
      (fits_same s (pointer_value (finite.get n s.id)) ∙ ap (value_fits m s) (values s.id))

  all_same : (ss : List Slot) → AllByRecursion (λ s. IsTrue (is_in_order m s)) ss → AllByRecursion (λ s. IsTrue (is_in_order n s)) ss
  all_same [] all = tt
  all_same (s ∷ ss) all = (order_same s ∙ all.0, all_same ss all.1)

  slots_sound : IsSound m → (q : ℕ) (o : Seen) (b : Bool) → eqb q id ≡ b → finite.get n q ≡ Some o → AllByRecursion (λ s. IsTrue (is_in_order n s)) (slots_of o)
  slots_sound sound q o true e there =
      all_same (slots_of o)
      (subst (λ (l : List Slot). AllByRecursion (λ s. IsTrue (is_in_order m s)) l) (sym slots ∙ ap slots_of (same_Some new o (sym (get_there m id new q e) ∙ there)))
      (sound.slots id old at))
  slots_sound sound q o false e there = all_same (slots_of o) (sound.slots q o (sym (get_other m id new q e) ∙ there))

  pub still_sound : IsSound m → IsSound n
  still_sound sound = record {
    slots = λ q o there. slots_sound sound q o (eqb q id) refl there;
    shallow = λ chain is. sound.shallow chain
        (fewer_chains (inclusions_of m) (inclusions_of n) (λ q x h. subst (λ (l : List ℕ). Contains l x) (included q) h) chain is);
  }

  pub still_shaped : shape_in n ≡ shape_in m
  still_shaped = shape_same m id old new at same

  pub still_levelled : (levels : Levels) → AreLevels m levels → AreLevels n levels
  still_levelled levels are = record {
    certificate = subst (λ (l : List ℕ). IsCertificate l (inclusions_of n) levels.levels.items) (sym (ids_by n m still_shaped))
        (record {
          each = are.certificate.each;
          within = are.certificate.within;
          falls = λ place q there x h. are.certificate.falls place q there x (subst (λ (l : List ℕ). Contains l x) (included q) h);
        });
    spare_length = are.spare_length ∙ sym (ap length (ids_by n m still_shaped));
  }

  pub still_runs : (index : Index) (levels : Levels) → CanRun index m levels → CanRun index n levels
  still_runs index levels can = record {
    indexed = subst (λ (s : Shape). IsIndexOf s index) (sym still_shaped) can.indexed;
    levelled = still_levelled levels can.levelled;
    sound = still_sound can.sound;
    working_set = ap working_sets still_shaped ∙ can.working_set;
    totals = subst MacroCostsAreTotals (sym still_shaped) can.totals;
    within = subst (IsWithinBudget terminal.steps) (sym still_shaped) can.within;
    faultless = λ id. subst (λ (s : Shape). AllByRecursion (λ command. fault s command ≡ None) (commands s id)) (sym still_shaped) (can.faultless id);
    shaped = subst IsOfVerified (sym still_shaped) can.shaped;
  }

-- ---- a change of an object that may be missing

changed_runs : (m : ObjectMap) (id : ℕ) (change : Seen → Seen) (found : Option Seen) (index : Index) (levels : Levels) → finite.get m id ≡ found → IsPlain change
    → CanRun index m levels → CanRun index (put_at m id change found) levels
changed_runs m id change None index levels is plain can = can
changed_runs m id change (Some o) index levels is plain can = still_runs m id o (change o) is (plain.slots o) (plain.same o) (plain.values o) index levels can

changed_shape : (m : ObjectMap) (id : ℕ) (change : Seen → Seen) (found : Option Seen) → finite.get m id ≡ found → IsPlain change → shape_in (put_at m id change found) ≡ shape_in m
changed_shape m id change None is plain = refl
changed_shape m id change (Some o) is plain = still_shaped m id o (change o) is (plain.slots o) (plain.same o) (plain.values o)

changed_sound : (m : ObjectMap) (id : ℕ) (change : Seen → Seen) (found : Option Seen) → finite.get m id ≡ found → IsPlain change
    → IsSound m → IsSound (put_at m id change found)
changed_sound m id change None is plain sound = sound
changed_sound m id change (Some o) is plain sound = still_sound m id o (change o) is (plain.slots o) (plain.same o) (plain.values o) sound

pub plain_sound : (m : ObjectMap) (id : ℕ) (change : Seen → Seen) → IsPlain change → IsSound m → IsSound (put_at m id change (finite.get m id))
plain_sound m id change plain sound = changed_sound m id change (finite.get m id) refl plain sound

pub plain_runs : (m n : ObjectMap) (id : ℕ) (change : Seen → Seen) (index : Index) (levels : Levels) → n ≡ put_at m id change (finite.get m id) → IsPlain change
    → CanRun index m levels → CanRun index n levels
plain_runs m n id change index levels is plain can =
    subst (λ (k : ObjectMap). CanRun index k levels) (sym is) (changed_runs m id change (finite.get m id) index levels refl plain can)

pub plain_shape : (m n : ObjectMap) (id : ℕ) (change : Seen → Seen) → n ≡ put_at m id change (finite.get m id) → IsPlain change → shape_in n ≡ shape_in m
plain_shape m n id change is plain = ap shape_in is ∙ changed_shape m id change (finite.get m id) refl plain

-- the store after a write is the store with the changed object
pub put_changed : (m after : ObjectMap) (id : ℕ) (change : Seen → Seen) (old new : Seen) → Some old ≡ finite.get m id → after ≡ with_object m id new → new ≡ change old
    → after ≡ put_at m id change (finite.get m id)
put_changed m after id change old new at wrote is =
    wrote ∙ ap (λ (f : Option Seen). replaced f m id new) (sym at) ∙ ap (finite.insert m id) is ∙ ap (λ (f : Option Seen). put_at m id change f) at
