-- The look-ups of a drawing: its mask and soft key mask, the IDs in its lists, and the variables of its elements
-- (docs/PROFILE.md, "The drawing").
use Rattle.std.specs.Prelude.{◌≡◌, ℕ, Bool, true, false, List, Option, Some, None, ◌⊎◌, IsTrue}
use Rattle.std.specs.List.{AllByRecursion}
use Rattle.std.specs.FinMap as finite
use Rattle.vt_kinds.specs.declared.kind.Kind.{Kind}
use Rattle.vt_kinds.specs.declared.kind.Kind.TheVariants as kinds
use Rattle.vt_kinds.specs.declared.kinds.Kinds.{Kinds}
use Rattle.vt_kinds.specs.declared.kinds.Kinds.TheVariants as sets
use Rattle.vt_kinds.specs.declared.object.Object.TheVariants as objects
use Rattle.vt_kinds.specs.Ids.{null_id}
use Rattle.vt_kinds.specs.Records.{Seen}
use Rattle.vt_kinds.specs.References.{is_member, is_pointer}
use Rattle.vt_stores.specs.Stores.{ObjectMap}
use Rattle.vt_effects.specs.Changes.{is_one_of}
use Rattle.vt_effects.specs.Effects.{kind_in, pointer_value}
use Rattle.vt_effects.specs.Soundness.{IsSound}
use Rattle.vt_machine.specs.SetStates.{IsActive}
use Rattle.vt_shown.specs.ShownElements.{resolves_to, number_shown, soft_key_mask_of, IsShown}
use Rattle.vt_layout.specs.Drawings.{entries_in, key_entries}
use Rattle.vt_layout.specs.Lines.{text_shown}

-- ---- listed IDs

-- the kinds allowed in the list of an object: all drawn kinds, without Working Set in the list of a Working Set
abbrev pub kinds_listed : Option Kind → Kinds
kinds_listed (Some kinds.WorkingSet) = sets.DrawnInWorkingSet
kinds_listed _ = sets.Drawn

-- NULL is allowed as an item of an input list, and not as a child.
abbrev pub null_listed : Option Kind → Bool
null_listed (Some kinds.InputList) = true
null_listed _ = false

-- A listed ID resolves to an object of these kinds, or is NULL, where NULL is allowed, or a pointer with NULL.
pub data Resolves (store : ObjectMap) (allowed : Kinds) (null : Bool) (id : ℕ) : Type 0 where
  Null : id ≡ null_id → null ≡ true → Resolves store allowed null id
  NullPointer : pointer_value (finite.get store id) ≡ Some null_id → Resolves store allowed null id
  ResolvesTo : (element : ℕ) (kind : Kind) → resolves_to store id ≡ Some element → kind_in store element ≡ Some kind
      → is_member allowed kind ≡ true → is_pointer kind ≡ false → Resolves store allowed null id

-- all IDs that an object draws within itself are found
abbrev pub AllResolveIn : ObjectMap → ℕ → Type 0
AllResolveIn store id =
    AllByRecursion (λ entry. Resolves store (kinds_listed (kind_in store id)) (null_listed (kind_in store id)) entry.id)
    (entries_in store (finite.get store id))

-- ---- values

-- the number or the text of a line exists
abbrev pub HasNumber : ObjectMap → ℕ → ℕ → Type 0
HasNumber store variable own = (n : ℕ) × (number_shown store variable own ≡ Some n)

abbrev pub HasText : ObjectMap → ℕ → List ℕ → Type 0
HasText store variable own = (text : List ℕ) × (text_shown store variable own ≡ Some text)

-- The element exists, with each value of its line. The lines of all other kinds have no values.
abbrev pub HasLineValues : ObjectMap → Option Seen → Type 0
HasLineValues store None = ⊥
HasLineValues store (Some (objects.InputBoolean o)) = HasNumber store o.variable o.value
HasLineValues store (Some (objects.InputString o)) = HasText store o.variable o.text
HasLineValues store (Some (objects.InputNumber o)) = HasNumber store o.variable o.value
HasLineValues store (Some (objects.InputList o)) = HasNumber store o.variable o.value
HasLineValues store (Some (objects.OutputString o)) = HasText store o.variable o.text
HasLineValues store (Some (objects.OutputNumber o)) = HasNumber store o.variable o.value
HasLineValues store (Some (objects.Meter o)) = HasNumber store o.variable o.value
HasLineValues store (Some (objects.LinearBar o)) = HasNumber store o.variable o.value × HasNumber store o.target_variable o.target
HasLineValues store (Some (objects.ArchedBar o)) = HasNumber store o.variable o.value × HasNumber store o.target_variable o.target
HasLineValues store (Some o) = Unit {0}

-- ---- the look-ups of a drawing

-- All that the drawing of a mask looks up exists, and is of an allowed kind.
pub record FindsAll (store : ObjectMap) (mask : ℕ) : Type 0 where
  pub active : IsActive store mask → (mask ≡ null_id) ⊎ IsTrue (is_one_of sets.Masks (kind_in store mask))
  pub in_mask : AllResolveIn store mask
  pub soft_key_mask : (soft_key_mask_of (finite.get store mask) ≡ null_id) ⊎ (kind_in store (soft_key_mask_of (finite.get store mask)) ≡ Some kinds.SoftKeyMask)
  pub keys : AllByRecursion (λ entry. Resolves store sets.Keys true entry.id) (key_entries store mask)
  pub in_elements : (id : ℕ) → IsShown store mask id → AllResolveIn store id
  pub values : (id : ℕ) → IsShown store mask id → HasLineValues store (finite.get store id)

-- A drawing of a store in order finds all that it looks up.
abbrev pub DrawingsFindAll : Type 0
DrawingsFindAll = (store : ObjectMap) (mask : ℕ) → IsSound store → FindsAll store mask
