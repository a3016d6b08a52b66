-- The elements of entries are those of their marks, at their places.
use Rattle.std.proofs.Common.{◌≡◌, ℕ, zero, suc, ◌+◌, Bool, true, false, cond, List, [], ◌∷◌, ◌++◌, map, length, Option, Some, None, refl, ap, ap₂, ◌∙◌}
use Rattle.std.specs.Prelude.{ℤ, ◌+ℤ◌}
use Rattle.std.proofs.lemmas.List.{map-append}
use Rattle.std.specs.FinMap as finite
use Rattle.vt_kinds.specs.declared.entries.Child.{Child}
use Rattle.vt_kinds.specs.Records.{Seen}
use Rattle.vt_stores.specs.Stores.{ObjectMap}
use Rattle.vt_shown.specs.ShownElements.{resolves_to, is_element}
use Rattle.vt_layout.specs.Drawings.{entries_in}
use Rattle.check_needs.specs.declared.sizes.Sizes.{Sizes}
use Rattle.draw_picture.specs.declared.listing.Around.{Around}
use Rattle.draw_picture.specs.declared.listing.ListedElement.{ListedElement}
use Rattle.draw_picture.specs.Listings.{Listing, each_listed, element_at, inside_of, listed, listed_at, listed_for, spot_of}
use Rattle.draw_picture.specs.Marks.{Marks, Mark, each_marked, led_to, marked, marks, spots}

abbrev pub spot : ListedElement → ℕ × ℤ × ℤ
spot e = (e.id, e.at.x, e.at.y)

module _ (sizes : Sizes) (store : ObjectMap) (within : List Child → Marks) (inside : Listing)
    (same : (entries : List Child) (around : Around) (index : ℕ) → map spot (inside entries around index) ≡ spots around.at.x around.at.y (within entries)) where
  -- an entry before others, for the object to which it leads
  object_listed : (entry : Child) (id : ℕ) (object : Option Seen) (around : Around) (index : ℕ) (later : List ListedElement) (others : Marks) → map spot later ≡ spots around.at.x around.at.y others
      → map spot (listed_at inside sizes store id object (spot_of around entry) index ++ later)
      ≡ spots around.at.x around.at.y (cond (is_element object) (Mark (led_to entry id) (within (entries_in store object)) others) others)
  object_listed entry id None around index later others rest = rest
  object_listed entry id (Some object) around index later others rest = by (is_element (Some object))
    where
      at : Around
      at = spot_of around entry

      e : ListedElement
      e = element_at sizes id object at

      by : (b : Bool) → map spot (cond b (e ∷ inside (entries_in store (Some object)) (inside_of index at e.bounds) (suc index)) [] ++ later)
          ≡ spots around.at.x around.at.y (cond b (Mark (led_to entry id) (within (entries_in store (Some object))) others) others)
      by true =
          ap (λ l. (id, around.at.x +ℤ entry.x, around.at.y +ℤ entry.y) ∷ l) (
          map-append spot (inside (entries_in store (Some object)) (inside_of index at e.bounds) (suc index)) later
          ∙ ap₂ (λ a b. a ++ b) (same (entries_in store (Some object)) (inside_of index at e.bounds) (suc index)) rest
          )
      by false = rest

  entry_listed : (entry : Child) (found : Option ℕ) (around : Around) (index : ℕ) (later : List ListedElement) (others : Marks) → map spot later ≡ spots around.at.x around.at.y others
      → map spot (listed_for inside sizes store found (spot_of around entry) index ++ later) ≡ spots around.at.x around.at.y (marked store within entry found others)
  entry_listed entry None around index later others rest = rest
  entry_listed entry (Some id) around index later others rest = object_listed entry id (finite.get store id) around index later others rest

  each_spot : (entries : List Child) (around : Around) (index : ℕ) → map spot (each_listed inside sizes store entries around index) ≡ spots around.at.x around.at.y (each_marked store within entries)
  each_spot [] around index = refl
  each_spot (entry ∷ entries) around index =
      let first = listed_for inside sizes store (resolves_to store entry.id) (spot_of around entry) index in
      entry_listed entry (resolves_to store entry.id) around index (each_listed inside sizes store entries around (index + length first)) (each_marked store within entries)
      (each_spot entries around (index + length first))

pub all_spots : (levels : ℕ) (sizes : Sizes) (store : ObjectMap) (entries : List Child) (around : Around) (index : ℕ)
    → map spot (listed levels sizes store entries around index) ≡ spots around.at.x around.at.y (marks levels store entries)
unfolding listed marks
all_spots zero sizes store entries around index = refl
all_spots (suc levels) sizes store entries around index = each_spot sizes store (marks levels store) (listed levels sizes store) (all_spots levels sizes store) entries around index
