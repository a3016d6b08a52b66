-- The sizes of the characters of a font (ISO 11783-6; docs/PROFILE.md, "Kind 23, Font", "Warnings").
use Rattle.std.specs.Prelude.{ℕ, List, [], ◌∷◌, Option, Some, None, slice_get}
use Rattle.vt_kinds.specs.declared.object.Object.TheVariants as object
use Rattle.vt_kinds.specs.Records.{Seen}
use Rattle.check_needs.specs.declared.sizes.Area.{Area}
use Rattle.vt_stores.specs.Stores.{Objects, object_at}

abbrev pub cell : ℕ → ℕ → Area
cell width height = record { width = width; height = height }

-- the areas of a character, by the number of the font's size
abbrev pub cells : List Area
cells =
    cell 6 8 ∷ cell 8 8 ∷ cell 8 12 ∷ cell 12 16 ∷ cell 16 16 ∷ cell 16 24 ∷ cell 24 32 ∷ cell 32 32 ∷ cell 32 48
    ∷ cell 48 64 ∷ cell 64 64 ∷ cell 64 96 ∷ cell 96 128 ∷ cell 128 128 ∷ cell 128 192 ∷ []

-- the area of a character in a font; None for other objects and for a size that is not in the table
abbrev pub cell_of : Option Seen → Option Area
cell_of (Some (object.Font o)) = slice_get cells o.size
cell_of _ = None

abbrev pub cell_at : Objects → ℕ → Option Area
cell_at objects font = cell_of (object_at objects font)
