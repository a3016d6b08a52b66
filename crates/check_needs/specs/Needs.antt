-- What the objects of a pool need of a terminal (docs/PROFILE.md, "Needs").
use Rattle.std.specs.Prelude.{ℕ, suc, ℤ, pos, negsuc, ◌+◌, ◌-◌, max, nat_lt, Bool, false, ◌||◌, ◌==◌, if◌then◌else◌, List, [], ◌∷◌, ◌++◌, length, map, Option, Some, None}
use Rattle.std.specs.List.{list_any}
use Rattle.vt_kinds.specs.declared.entries.Child.{Child}
use Rattle.vt_kinds.specs.declared.kind.Kind.{Kind}
use Rattle.vt_kinds.specs.declared.object.Object.TheVariants as object
use Rattle.vt_kinds.specs.Ids.{null_id}
use Rattle.vt_kinds.specs.Kinds.{kind_number}
use Rattle.vt_kinds.specs.Records.{Seen, kind_of}
use Rattle.vt_stores.specs.Stores.{Objects}
use Rattle.check_needs.specs.declared.elements.Extent.{Extent}
use Rattle.check_needs.specs.declared.needs.Lack.{Lack}
use Rattle.check_needs.specs.declared.needs.Lack.TheVariants as lacks
use Rattle.check_needs.specs.declared.needs.Needs.{Needs}
use Rattle.check_needs.specs.declared.sizes.Area.{Area}
use Rattle.check_needs.specs.declared.sizes.Sizes.{Sizes}
use Rattle.check_needs.specs.declared.warning.PlacedElement.{PlacedElement}
use Rattle.check_needs.specs.Elements.{element}

-- ---- the greatest of some numbers

-- the greatest of some numbers; 0 for none
abbrev pub greatest : List ℕ → ℕ
greatest [] = 0
greatest (n ∷ ns) = max n (greatest ns)

-- ---- areas

-- the end of an element of a size at a position: 0 if it ends before the area
abbrev pub end_of : ℤ → ℕ → ℕ
end_of (pos n) size = n + size
end_of (negsuc n) size = size - suc n

-- the right and the lower end of an element
abbrev pub ends_of : Option PlacedElement → Extent
ends_of None = record { width = 0; height = 0 }
ends_of (Some e) = record { width = end_of e.x e.width; height = end_of e.y e.height }

abbrev pub ends_in : Objects → Child → Extent
ends_in objects child = ends_of (element objects null_id 0 child)

abbrev pub mask_children : Seen → List Child
mask_children (object.DataMask o) = o.children
mask_children (object.AlarmMask o) = o.children
mask_children o = []

abbrev pub key_children : Seen → List Child
key_children (object.Key o) = o.children
key_children o = []

-- ---- keys and colours

abbrev pub key_count : Seen → ℕ
key_count (object.SoftKeyMask o) = length o.keys
key_count o = 0

-- the greatest colour number of a picture's format: 2, 16 or 256 colours
abbrev pub format_colour : ℕ → ℕ
format_colour format = if format == 0 then 1 else if format == 1 then 15 else 255

-- the greatest colour number of an object
abbrev pub colour_of : Seen → ℕ
colour_of (object.WorkingSet o) = o.colour
colour_of (object.DataMask o) = o.colour
colour_of (object.AlarmMask o) = o.colour
colour_of (object.SoftKeyMask o) = o.colour
colour_of (object.Key o) = o.colour
colour_of (object.Button o) = max o.colour o.border
colour_of (object.InputBoolean o) = o.colour
colour_of (object.InputString o) = o.colour
colour_of (object.InputNumber o) = o.colour
colour_of (object.OutputString o) = o.colour
colour_of (object.OutputNumber o) = o.colour
colour_of (object.Meter o) = max o.needle_colour (max o.border_colour o.arc_colour)
colour_of (object.LinearBar o) = max o.colour o.target_colour
colour_of (object.ArchedBar o) = max o.colour o.target_colour
colour_of (object.Picture o) = format_colour o.format
colour_of (object.Font o) = o.colour
colour_of (object.LineAttributes o) = o.colour
colour_of (object.FillAttributes o) = o.colour
colour_of o = 0

-- ---- needs

-- the area in which some children are whole, to the right and below
abbrev pub extent_needed : Objects → List Child → Extent
extent_needed objects children = record {
  width = greatest (map (λ child. (ends_in objects child).width) children);
  height = greatest (map (λ child. (ends_in objects child).height) children);
}

-- what one object needs
abbrev pub needs_at : Objects → Seen → Needs
needs_at objects o = record {
  mask = extent_needed objects (mask_children o);
  key = extent_needed objects (key_children o);
  keys = key_count o;
  colour = colour_of o;
}

-- each number the greater of two
abbrev pub both_extents : Extent → Extent → Extent
both_extents a b = record { width = max a.width b.width; height = max a.height b.height }

abbrev pub both : Needs → Needs → Needs
both a b = record {
  mask = both_extents a.mask b.mask;
  key = both_extents a.key b.key;
  keys = max a.keys b.keys;
  colour = max a.colour b.colour;
}

abbrev pub no_extent : Extent
no_extent = record { width = 0; height = 0 }

abbrev pub no_needs : Needs
no_needs = record { mask = no_extent; key = no_extent; keys = 0; colour = 0 }

-- each number the greatest of all
abbrev pub all_of : List Needs → Needs
all_of [] = no_needs
all_of (needs ∷ more) = both needs (all_of more)

-- what objects need together
abbrev pub needs_of : Objects → Needs
needs_of objects = all_of (map (λ e. needs_at objects e.1) objects)

-- a font of the objects has this size
abbrev pub is_font_of : ℕ → Seen → Bool
is_font_of size (object.Font o) = o.size == size
is_font_of size o = false

abbrev pub has_font : Objects → ℕ → Bool
has_font objects size = list_any (λ e. is_font_of size e.1) objects

-- an object is of this kind
abbrev pub has_kind : Objects → Kind → Bool
has_kind objects kind = list_any (λ e. kind_number (kind_of e.1) == kind_number kind) objects

-- ---- what a terminal lacks

abbrev pub exceeds : Extent → Area → Bool
exceeds extent area = nat_lt area.width extent.width || nat_lt area.height extent.height

abbrev pub lack_if : Bool → Lack → List Lack
lack_if b lack = if b then lack ∷ [] else []

-- what a terminal of some sizes lacks for a pool; nothing if the pool fits
abbrev pub lacks_of : Needs → Sizes → List Lack
lacks_of needs sizes =
    lack_if (exceeds needs.mask sizes.mask) lacks.MaskArea ++ lack_if (exceeds needs.key sizes.key) lacks.KeyArea
    ++ lack_if (nat_lt sizes.keys needs.keys) lacks.Keys
