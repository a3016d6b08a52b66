-- The elements of a list of entries, in their order, with paths of at most `depth` indices.
use Rattle.std.specs.Prelude.{ℕ, zero, suc, List, [], ◌∷◌, ◌++◌, Option, Some, None}
use Rattle.std.specs.FinMap as finite
use Rattle.vt_kinds.specs.declared.entries.Child.{Child}
use Rattle.vt_stores.specs.Stores.{ObjectMap}
use Rattle.vt_chains.specs.Limits.{terminal}
use Rattle.vt_shown.specs.ShownElements.{resolves_to}
use Rattle.vt_layout.specs.declared.element.Element.{Element}
use Rattle.vt_layout.specs.declared.element.Position.{Position}
use Rattle.vt_layout.specs.Drawings.{origin, shifted, element, entries_in, mask_entries, key_entries}

-- the elements of entries drawn from a position
abbrev pub Draws : Type 0
Draws = List Child → Position → List Element

-- an element, followed by the elements within it
abbrev pub with_drawn : Draws → ObjectMap → Option Element → List Element
with_drawn draws store None = []
with_drawn draws store (Some e) = e ∷ draws (entries_in store (finite.get store e.id)) e.at

-- the elements of entries, the first of them at index `place`
abbrev pub each_from : Draws → ObjectMap → ℕ → List Child → Position → List Element
each_from draws store place [] from = []
each_from draws store place (entry ∷ entries) from =
    with_drawn draws store (element store place (shifted from entry) (resolves_to store entry.id)) ++ each_from draws store (suc place) entries from

unfoldable pub elements : ℕ → ObjectMap → Draws
elements zero store entries from = []
elements (suc depth) store entries from = each_from (elements depth store) store 0 entries from

-- the elements of a mask and of its soft key mask
abbrev pub drawing : ObjectMap → ℕ → List Element
drawing store mask =
    elements terminal.inclusions store (mask_entries store mask) origin ++ elements terminal.inclusions store (key_entries store mask) origin
