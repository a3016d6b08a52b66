-- Stores that look the same show the same objects.
use Rattle.std.proofs.Common.{◌≡◌, ℕ, cond, ◌==◌, List, Option, Some, None, refl, sym, ap, subst, ◌∙◌}
use Rattle.std.specs.Prelude.{IsTrue}
use Rattle.std.specs.Option.{option_map}
use Rattle.std.specs.FinMap as finite
use Rattle.vt_kinds.specs.declared.object.Object.TheVariants as objects
use Rattle.vt_kinds.specs.Ids.{null_id}
use Rattle.vt_kinds.specs.Records.{Seen}
use Rattle.vt_stores.specs.Stores.{ObjectMap}
use Rattle.vt_effects.specs.Looks.{look, HaveSameLook}
use Rattle.vt_macros.specs.Machines.{mask_of}
use Rattle.vt_shown.specs.ShownElements.{behind, resolves_to, is_element, number_in, number_shown, item_of, drawn_in, soft_key_mask_of, keys_of, soft_keys, IsResolved, IsShown}
use Rattle.vt_shown.specs.ShownElements.IsShown.{InMask, AmongKeys, Within}

-- ---- an object and its look have the same parts in a drawing

behind_look : (store : ObjectMap) (id : ℕ) (o : Seen) → behind store id (Some o) ≡ behind store id (Some (look o))
behind_look store id (objects.WorkingSet o) = refl
behind_look store id _ = refl

element_look : (o : Seen) → is_element (Some o) ≡ is_element (Some (look o))
element_look (objects.WorkingSet o) = refl
element_look _ = refl

number_look : (o : Seen) → number_in (Some o) ≡ number_in (Some (look o))
number_look (objects.WorkingSet o) = refl
number_look _ = refl

mask_look : (o : Seen) → soft_key_mask_of (Some o) ≡ soft_key_mask_of (Some (look o))
mask_look (objects.WorkingSet o) = refl
mask_look _ = refl

keys_look : (o : Seen) → keys_of (Some o) ≡ keys_of (Some (look o))
keys_look (objects.WorkingSet o) = refl
keys_look _ = refl

active_look : (o : Seen) → mask_of (Some o) ≡ mask_of (Some (look o))
active_look (objects.WorkingSet o) = refl
active_look _ = refl

drawn_look : (store : ObjectMap) (o : Seen) → drawn_in store (Some o) ≡ drawn_in store (Some (look o))
drawn_look store (objects.WorkingSet o) = refl
drawn_look store _ = refl

module _ (old new : ObjectMap) (same : HaveSameLook old new) where
  -- what is the same for an object and its look is the same in both stores
  pub by_look : {A : Type 0} (f : Option Seen → A) → ((o : Seen) → f (Some o) ≡ f (Some (look o))) → (id : ℕ) → f (finite.get new id) ≡ f (finite.get old id)
  by_look {A = A} f is id = at (finite.get new id) ∙ ap f (same id) ∙ sym (at (finite.get old id))
    where
      at : (o : Option Seen) → f o ≡ f (option_map look o)
      at None = refl
      at (Some o) = is o

  pub same_number : (variable own : ℕ) → number_shown new variable own ≡ number_shown old variable own
  same_number variable own = ap (λ (n : Option ℕ). cond (variable == null_id) (Some own) n) (by_look number_in number_look variable)

  pub same_element : (id : ℕ) → is_element (finite.get new id) ≡ is_element (finite.get old id)
  same_element id = by_look is_element element_look id

  pub same_object : (id : ℕ) → resolves_to new id ≡ resolves_to old id
  same_object id = through (finite.get new id) ∙ by_look (behind old id) (behind_look old id) id
    where
      through : (o : Option Seen) → behind new id o ≡ behind old id o
      through None = refl
      through (Some (objects.ObjectPointer o)) = by_look (option_map (λ value. o.value)) (λ p. refl) o.value
      through (Some _) = refl

  pub same_soft_keys : (mask : ℕ) → soft_keys new mask ≡ soft_keys old mask
  same_soft_keys mask =
      by_look keys_of keys_look (soft_key_mask_of (finite.get new mask))
      ∙ ap (λ (id : ℕ). keys_of (finite.get old id)) (by_look soft_key_mask_of mask_look mask)

  same_drawn : (id : ℕ) → drawn_in new (finite.get new id) ≡ drawn_in old (finite.get old id)
  same_drawn id = through (finite.get new id) ∙ by_look (drawn_in old) (drawn_look old) id
    where
      through : (o : Option Seen) → drawn_in new o ≡ drawn_in old o
      through None = refl
      through (Some (objects.InputList o)) = ap (item_of o.items) (same_number o.variable o.value)
      through (Some _) = refl

  pub same_active : (id : ℕ) → mask_of (finite.get new id) ≡ mask_of (finite.get old id)
  same_active id = by_look mask_of active_look id

  same_resolved : (ids : List ℕ) (id : ℕ) → IsResolved old ids id → IsResolved new ids id
  same_resolved ids id resolved = record {
    id = resolved.id;
    among = resolved.among;
    resolves = same_object resolved.id ∙ resolved.resolves;
    is_element = subst IsTrue (sym (same_element id)) resolved.is_element;
  }

  pub shown_then : (mask id : ℕ) → IsShown old mask id → IsShown new mask id
  shown_then mask id (InMask _ resolved) = InMask id (subst (λ (ids : List ℕ). IsResolved new ids id) (sym (same_drawn mask)) (same_resolved _ id resolved))
  shown_then mask id (AmongKeys _ resolved) = AmongKeys id (subst (λ (ids : List ℕ). IsResolved new ids id) (sym (same_soft_keys mask)) (same_resolved _ id resolved))
  shown_then mask other (Within id _ shown resolved) =
      Within id other (shown_then mask id shown) (subst (λ (ids : List ℕ). IsResolved new ids other) (sym (same_drawn id)) (same_resolved _ other resolved))

pub look_back : (old new : ObjectMap) → HaveSameLook old new → HaveSameLook new old
look_back old new same id = sym (same id)
