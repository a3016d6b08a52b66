-- The changes of a screen, as a difference of its lines.
use Rattle.std.specs.Prelude.{◌≡◌, ◌==◌, ◌≤◌, ◌<◌, ◌↔◌, ℕ, false, List, [], ◌∷◌, ◌++◌, length, take, get_or, codes, Some}
use Rattle.std.specs.Borrow.{Bor}
use Rattle.std.specs.BTreeMap.{BTreeMap, get_by}
use Rattle.std.specs.Cmp.Lexicographic.{slice_cmp}
use Rattle.std.specs.List.{flat_map, list_any, slice_split}
use Rattle.std.specs.Ordering.{nat_cmp}
use Rattle.std.specs.Set.{is_member}
use Rattle.std.specs.Str.{bytes_eq}
use Rattle.vt_logs.specs.Texts.{newline}
use Rattle.log_trace.specs.Lines.{dotted}

-- the lines of a screen
abbrev pub lines_in : List ℕ → List (List ℕ)
lines_in screen = slice_split (λ byte. byte == 10) screen

-- each line behind a mark
abbrev pub marked : List ℕ → List (List ℕ) → List ℕ
marked mark lines = flat_map (λ line. mark ++ dotted line ++ newline) lines

abbrev pub gone : List (List ℕ) → List ℕ
gone lines = marked (codes "  - ") lines

abbrev pub come : List (List ℕ) → List ℕ
come lines = marked (codes "  + ") lines

-- no line of a list is among others
abbrev pub AreNotAmong : List (List ℕ) → List (List ℕ) → Type 0
AreNotAmong others lines = list_any (is_member bytes_eq others) lines ≡ false

-- The text of the changes from an old screen's lines to those of a new one.
pub data AreChanges : (old new : List (List ℕ)) → (text : List ℕ) → Type 0 where
  -- No new line is in the old screen: the old lines go, and the new ones come.
  replaced : (old new : List (List ℕ)) → AreNotAmong old new → AreChanges old new (gone old ++ come new)
  -- The first new line that is in the old screen stays, at its first place there. Old lines before it go, and new ones come.
  stays : (goes comes : List (List ℕ)) (line : List ℕ) (old new : List (List ℕ)) (text : List ℕ) → AreNotAmong (goes ++ line ∷ old) comes
      → is_member bytes_eq goes line ≡ false → AreChanges old new text → AreChanges (goes ++ line ∷ old) (comes ++ line ∷ new) (gone goes ++ come comes ++ text)

-- The changes are unique. There are none exactly if the lines are the same.
abbrev pub ChangesAreOne : Type 0
ChangesAreOne = (old new : List (List ℕ)) (a b : List ℕ) → AreChanges old new a → AreChanges old new b → a ≡ b

-- A line that is not left behind it is replaced by one that the old screen does not have there: these two lines are written.
abbrev pub OneReplacedLine : Type 0
OneReplacedLine = (before behind : List (List ℕ)) (old new : List ℕ) → is_member bytes_eq behind old ≡ false → is_member bytes_eq (old ∷ behind) new ≡ false
    → AreChanges (before ++ old ∷ behind) (before ++ new ∷ behind) (codes "  - " ++ dotted old ++ newline ++ (codes "  + " ++ dotted new ++ newline))

abbrev pub SameLinesHaveNone : Type 0
SameLinesHaveNone = (old new : List (List ℕ)) (text : List ℕ) → AreChanges old new text → (text ≡ []) ↔ (old ≡ new)

-- the text of the changes from a screen to another
abbrev pub AreScreenChanges : List ℕ → List ℕ → List ℕ → Type 0
AreScreenChanges old new text = AreChanges (lines_in old) (lines_in new) text

-- The first of some lines that is equal to a line is behind so many others.
abbrev pub IsNext : List ℕ → List (List ℕ) → ℕ → Type 0
IsNext line lines before = (behind : List (List ℕ)) × (lines ≡ take before lines ++ line ∷ behind) × (is_member bytes_eq (take before lines) line ≡ false)

-- A map finds each line at the last of its places.
abbrev pub AreLastPlaces : List (List ℕ) → BTreeMap (Bor (List ℕ)) ℕ → Type 0
AreLastPlaces lines map =
    (line : List ℕ) (place : ℕ) → place < length lines → get_or lines place [] ≡ line
    → (last : ℕ) × (get_by (λ (key : Bor (List ℕ)). slice_cmp nat_cmp line key.now) map ≡ Some last) × (place ≤ last) × (last < length lines) × (get_or lines last [] ≡ line)
