-- The elements that entries show, as a tree (docs/PROFILE.md, "The drawing").
use Rattle.std.specs.Prelude.{ℕ, zero, suc, ℤ, ◌+ℤ◌, ◌+◌, ◌-◌, if◌then◌else◌, List, [], ◌∷◌, ◌++◌, Option, Some, None}
use Rattle.std.specs.FinMap as finite
use Rattle.vt_kinds.specs.declared.entries.Child.{Child}
use Rattle.vt_stores.specs.Stores.{ObjectMap}
use Rattle.vt_shown.specs.ShownElements.{resolves_to, is_element}
use Rattle.vt_layout.specs.Drawings.{entries_in}

-- Nothing, or an element with those within it, followed by others: its own ID, and its position in the element around it.
pub data Marks : Type 0 where
  Nothing : Marks
  Mark : Child → Marks → Marks → Marks

-- the object that an entry leads to, at the position of the entry
abbrev pub led_to : Child → ℕ → Child
led_to entry id = record { id = id; x = entry.x; y = entry.y }

-- an entry, if its ID resolves to an element, where `within` gives the marks of the entries in an element
abbrev pub marked : ObjectMap → (List Child → Marks) → Child → Option ℕ → Marks → Marks
marked store within entry None later = later
marked store within entry (Some id) later =
    if is_element (finite.get store id)
    then Mark (led_to entry id) (within (entries_in store (finite.get store id))) later
    else later

abbrev pub each_marked : ObjectMap → (List Child → Marks) → List Child → Marks
each_marked store within [] = Nothing
each_marked store within (entry ∷ entries) = marked store within entry (resolves_to store entry.id) (each_marked store within entries)

-- the marks of entries, at most `depth` elements within each other
unfoldable pub marks : ℕ → ObjectMap → List Child → Marks
marks zero store entries = Nothing
marks (suc depth) store entries = each_marked store (marks depth store) entries

-- ---- the first of them

abbrev pub count : Marks → ℕ
count Nothing = 0
count (Mark entry inside later) = suc (count inside + count later)

-- the first n marks: an element is before those within it
unfoldable pub cut : ℕ → Marks → Marks
cut n Nothing = Nothing
cut zero (Mark entry inside later) = Nothing
cut (suc n) (Mark entry inside later) = Mark entry (cut n inside) (cut (n - count (cut n inside)) later)

-- the IDs in their order
abbrev pub ids : Marks → List ℕ
ids Nothing = []
ids (Mark entry inside later) = entry.id ∷ (ids inside ++ ids later)

-- the IDs with their places from a place: each has that of its entry from the one around it
abbrev pub spots : ℤ → ℤ → Marks → List (ℕ × ℤ × ℤ)
spots x y Nothing = []
spots x y (Mark entry inside later) =
    (entry.id, x +ℤ entry.x, y +ℤ entry.y) ∷ (spots (x +ℤ entry.x) (y +ℤ entry.y) inside ++ spots x y later)
