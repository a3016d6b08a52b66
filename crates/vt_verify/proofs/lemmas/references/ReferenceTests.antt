-- References that exist and fit pass both tests.
use Rattle.std.proofs.Common.{◌≡◌, ◌≢◌, Bool, true, false, cond, List, [], ◌∷◌, Option, Some, None, refl, sym, ap, ◌∙◌}
use Rattle.std.proofs.lemmas.Bool.{eq-eqb, ne_eqb}
use Rattle.std.specs.Prelude.{IsTrue, is_some, ◌&&◌}
use Rattle.std.specs.Option.{option_map}
use Rattle.vt_kinds.specs.declared.kind.Kind.{Kind}
use Rattle.vt_kinds.specs.declared.object.Object.{Object}
use Rattle.vt_kinds.specs.Ids.{null_id}
use Rattle.vt_kinds.specs.Records.{Seen, seen, kind_of}
use Rattle.vt_stores.specs.Stores.{Objects, AreStored, object_at}
use Rattle.vt_stores.proofs.StoreMethods.{get_from, null_free}
use Rattle.vt_verify.specs.declared.reference.Reference.{Reference}
use Rattle.vt_verify.specs.Lists.{first_failing}
use Rattle.vt_stores.specs.Shapes.{shape_of, kind_at}
use Rattle.vt_verify.specs.References.{is_there, fits, may_refer, allows, pointed, with_value}
use Rattle.vt_stores.proofs.ObjectShapes.{kind_found, seen_kind}

-- ---- two tests at once

module _ {R : Type 0} (a b : R → Bool) where
  both_case : (p q : Bool) (x : R) (rest first second : Option R) → (rest ≡ None → (first ≡ None) × (second ≡ None)) → cond (p && q) rest (Some x) ≡ None
      → (cond p first (Some x) ≡ None) × (cond q second (Some x) ≡ None)
  both_case true true x rest first second later is = later is
  both_case true false x rest first second later is = absurd cc
  both_case false q x rest first second later is = absurd cc

  pub both_pass : (xs : List R) → first_failing (λ x. a x && b x) xs ≡ None → (first_failing a xs ≡ None) × (first_failing b xs ≡ None)
  both_pass [] is = (refl, refl)
  both_pass (x ∷ xs) is = both_case (a x) (b x) x (first_failing (λ x. a x && b x) xs) (first_failing a xs) (first_failing b xs) (both_pass xs) is

-- an element that passes is skipped
pub passed : {R : Type 0} (test : R → Bool) (x : R) (xs : List R) → IsTrue (test x) → first_failing test (x ∷ xs) ≡ first_failing test xs
passed test x xs is = ap (λ (b : Bool). cond b (first_failing test xs) (Some x)) is

-- ---- NULL

null_names_none : (objects : Objects) → AreStored objects → object_at objects null_id ≡ None
null_names_none objects stored = sym (get_from objects null_id stored.rising) ∙ null_free objects stored

pub null_fits : (objects : Objects) (r : Reference) → AreStored objects → r.id ≡ null_id → first_failing (fits (shape_of objects)) (with_value objects r) ≡ None
null_fits objects r stored null =
    passed (fits (shape_of objects)) r (pointed r (object_at objects r.id))
    (ap (λ (b : Bool). cond b true (allows r.kinds r.id (kind_at (shape_of objects) r.id))) (eq-eqb r.id null_id null))
    ∙ ap (λ (o : Option Seen). first_failing (fits (shape_of objects)) (pointed r o)) (ap (object_at objects) null ∙ null_names_none objects stored)

-- ---- an object that exists

module _ {B : Type 0} (objects : Objects) (r : Reference) (o : Object B) (found : Some (seen o) ≡ object_at objects r.id) (named : r.id ≢ null_id) where
  kind_is : kind_at (shape_of objects) r.id ≡ Some (kind_of o)
  kind_is = kind_found objects r.id ∙ ap (option_map kind_of) (sym found) ∙ ap Some (seen_kind o)

  pub found_there : IsTrue (is_there (shape_of objects) r)
  found_there =
      ap (λ (b : Bool). cond b r.may_be_null (is_some (kind_at (shape_of objects) r.id))) (ne_eqb r.id null_id named)
      ∙ ap (λ (k : Option Kind). is_some k) kind_is

  pub found_fits : IsTrue (may_refer r.kinds r.id (kind_of o)) → first_failing (fits (shape_of objects)) (pointed r (Some (seen o))) ≡ None
      → first_failing (fits (shape_of objects)) (with_value objects r) ≡ None
  found_fits may value =
      passed (fits (shape_of objects)) r (pointed r (object_at objects r.id))
      (ap (λ (b : Bool). cond b true (allows r.kinds r.id (kind_at (shape_of objects) r.id))) (ne_eqb r.id null_id named)
      ∙ ap (allows r.kinds r.id) kind_is ∙ may)
      ∙ ap (λ (o : Option Seen). first_failing (fits (shape_of objects)) (pointed r o)) (sym found) ∙ value
