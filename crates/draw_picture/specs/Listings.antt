-- The elements of a picture as a list (docs/PROFILE.md, "The list of elements").
use Rattle.std.specs.Prelude.{◌≡◌, ℕ, zero, suc, ℤ, pos, ◌+ℤ◌, ◌+◌, max, nat_le, int_lt, Bool, not, ◌&&◌, if◌then◌else◌, List, [], ◌∷◌, ◌++◌, length, take, Option, Some, None}
use Rattle.std.specs.FinMap as finite
use Rattle.std.specs.Int.{int_max, int_min}
use Rattle.vt_kinds.specs.declared.entries.Child.{Child}
use Rattle.vt_kinds.specs.Kinds.{kind_number}
use Rattle.vt_kinds.specs.Records.{Seen, kind_of}
use Rattle.vt_stores.specs.Stores.{ObjectMap}
use Rattle.vt_chains.specs.Limits.{terminal}
use Rattle.vt_shown.specs.ShownElements.{resolves_to, is_element, soft_keys}
use Rattle.vt_layout.specs.Drawings.{entries_in, mask_entries}
use Rattle.check_needs.specs.declared.sizes.Sizes.{Sizes}
use Rattle.draw_picture.specs.declared.frame.Framing.{Framing}
use Rattle.draw_picture.specs.declared.frame.Framing.TheVariants as frames
use Rattle.draw_picture.specs.declared.listing.Around.{Around}
use Rattle.draw_picture.specs.declared.listing.Bounds.{Bounds}
use Rattle.draw_picture.specs.declared.listing.ListedElement.{ListedElement}
use Rattle.draw_picture.specs.declared.listing.Position.{Position}
use Rattle.draw_picture.specs.Documents.{gap, key_places, most_marks, width_of}
use Rattle.draw_picture.specs.Frames.{frame_of}

-- ---- an element

-- the end of a span, at most the greatest number of 32 bits
abbrev pub end_of : ℤ → ℕ → ℤ
end_of from count = int_min (from +ℤ pos count) (pos 2147483647)

-- the part of an area that lies within others
abbrev pub within : Bounds → Position → ℕ → ℕ → Bounds
within around at width height = record {
  left = int_max at.x around.left;
  top = int_max at.y around.top;
  right = int_min (end_of at.x width) around.right;
  bottom = int_min (end_of at.y height) around.bottom;
}

-- what is shown of an element lies in its area, or in what is around it where its record has no size, or where its lines may reach out of it
abbrev pub bounds_of : Framing → Position → Bounds → Bounds
bounds_of frames.Whole at around = around
bounds_of (frames.Clipped width height) at around = within around at width height
bounds_of (frames.Fine area) at around = around

abbrev pub width_in : Framing → ℕ
width_in frames.Whole = 0
width_in (frames.Clipped width height) = width
width_in (frames.Fine area) = max 1 area.width

abbrev pub height_in : Framing → ℕ
height_in frames.Whole = 0
height_in (frames.Clipped width height) = height
height_in (frames.Fine area) = max 1 area.height

-- the spot of an entry
abbrev pub spot_of : Around → Child → Around
spot_of around entry = record around { at = record { x = around.at.x +ℤ entry.x; y = around.at.y +ℤ entry.y } }

-- the element of an object at a spot
abbrev pub element_at : Sizes → ℕ → Seen → Around → ListedElement
element_at sizes id object spot = record {
  id = id;
  kind = kind_number (kind_of object);
  depth = spot.depth;
  around = spot.index;
  at = spot.at;
  width = width_in (frame_of sizes object);
  height = height_in (frame_of sizes object);
  bounds = bounds_of (frame_of sizes object) spot.at spot.bounds;
}

-- what is around the elements within an element at a spot
abbrev pub inside_of : ℕ → Around → Bounds → Around
inside_of index spot bounds = record { index = Some index; depth = suc spot.depth; at = spot.at; bounds = bounds }

-- ---- lists of elements

-- the elements of entries, by what is around them and the index of the first
abbrev pub Listing : Type 0
Listing = List Child → Around → ℕ → List ListedElement

-- a list from an index on, and then another one
abbrev pub followed : List ListedElement → (ℕ → List ListedElement) → ℕ → List ListedElement
followed first later index = first ++ later (index + length first)

-- an element with those within it
abbrev pub listed_at : Listing → Sizes → ObjectMap → ℕ → Option Seen → Around → ℕ → List ListedElement
listed_at inside sizes store id None spot index = []
listed_at inside sizes store id (Some object) spot index =
    if is_element (Some object)
    then element_at sizes id object spot ∷ inside (entries_in store (Some object)) (inside_of index spot (element_at sizes id object spot).bounds) (suc index)
    else []

-- the element to which an entry leads
abbrev pub listed_for : Listing → Sizes → ObjectMap → Option ℕ → Around → ℕ → List ListedElement
listed_for inside sizes store None spot index = []
listed_for inside sizes store (Some id) spot index = listed_at inside sizes store id (finite.get store id) spot index

abbrev pub each_listed : Listing → Sizes → ObjectMap → Listing
each_listed inside sizes store [] around index = []
each_listed inside sizes store (entry ∷ entries) around index =
    followed (listed_for inside sizes store (resolves_to store entry.id) (spot_of around entry) index) (each_listed inside sizes store entries around) index

-- the elements of entries, at most `levels` within each other
unfoldable pub listed : ℕ → Sizes → ObjectMap → Listing
listed zero sizes store entries around index = []
listed (suc levels) sizes store entries around index = each_listed (listed levels sizes store) sizes store entries around index

-- as many elements as a picture has
abbrev pub first_of : List ListedElement → List ListedElement
first_of list = take most_marks list

-- a list has got others behind it, as many as fit
abbrev pub Lists : (ℕ → List ListedElement) → List ListedElement → List ListedElement → Type 0
Lists more old new = new ≡ first_of (old ++ more (length old))

-- ---- the elements of a picture

abbrev pub from_corner : ℤ → ℤ → ℕ → Around
from_corner left right height = record {
  index = None;
  depth = 0;
  at = record { x = left; y = pos 0 };
  bounds = record { left = left; top = pos 0; right = right; bottom = pos height };
}

abbrev pub around_mask : Sizes → Around
around_mask sizes = from_corner (pos 0) (pos sizes.mask.width) sizes.mask.height

-- keys are beside their mask, in the columns that some of them take
abbrev pub around_keys : Sizes → ℕ → Around
around_keys sizes keys = from_corner (pos (sizes.mask.width + gap)) (end_of (pos 0) (width_of sizes keys)) sizes.mask.height

-- the elements of a mask, and then its keys with what is in them
abbrev pub elements_of : Sizes → ObjectMap → ℕ → List ListedElement
elements_of sizes store mask =
    first_of (followed (listed terminal.inclusions sizes store (mask_entries store mask) (around_mask sizes) 0)
    (listed terminal.inclusions sizes store (key_places sizes 0 (soft_keys store mask)) (around_keys sizes (length (soft_keys store mask)))) 0)

-- ---- the element at a place

-- keys, buttons and inputs have the kinds 5 to 10
abbrev pub is_operated : ℕ → Bool
is_operated kind = nat_le 5 kind && nat_le kind 10

-- in a span, before its end
abbrev pub is_within : ℤ → ℤ → ℤ → Bool
is_within from number end = not (int_lt number from) && int_lt number end

abbrev pub lies_in : ℤ → ℤ → Bounds → Bool
lies_in x y bounds = is_within bounds.left x bounds.right && is_within bounds.top y bounds.bottom

abbrev pub or_else : Option ℕ → Option ℕ → Option ℕ
or_else None other = other
or_else (Some id) other = Some id

abbrev pub touched_at : ℤ → ℤ → ListedElement → Option ℕ
touched_at x y e = if is_operated e.kind && lies_in x y e.bounds then Some e.id else None

-- the key, button or input at a place: of several the one drawn last
abbrev pub touched : ℤ → ℤ → List ListedElement → Option ℕ
touched x y [] = None
touched x y (e ∷ elements) = or_else (touched x y elements) (touched_at x y e)
