-- The screen of a working set as text (docs/PROFILE.md, "The drawing and the screen text").
use Rattle.std.specs.Prelude.{◌≡◌, ℕ, None, ◌==◌, if◌then◌else◌, nat_lt, List, [], ◌∷◌, ◌++◌, map, length, take, codes}
use Rattle.std.specs.Fmt.{decimal}
use Rattle.std.specs.List.{flat_map}
use Rattle.std.specs.FinMap as finite
use Rattle.vt_kinds.specs.Ids.{null_id}
use Rattle.hex.specs.Hex.{encode_upper}
use Rattle.vt_stores.specs.Stores.{ObjectMap}
use Rattle.vt_verify.specs.Rules.{working_sets}
use Rattle.vt_machine.specs.SetStates.{IsActive}
use Rattle.vt_effects.specs.Looks.{HaveSameLook}
use Rattle.vt_effects.specs.Soundness.{shape_in}
use Rattle.vt_effects.specs.Soundness.{IsSound}
use Rattle.vt_layout.specs.Drawings.{Placed, IsDrawing}
use Rattle.vt_layout.specs.Lines.{line}

-- the most lines of elements
abbrev pub most_lines : ℕ
most_lines = 2000

-- all lines, or the first of them and a last line `more`
abbrev pub shortened : List (List ℕ) → List ℕ
shortened lines = flat_map (λ line. line) (take most_lines lines) ++ (if nat_lt most_lines (length lines) then codes "more\n" else [])

abbrev pub mask_name : ℕ → List ℕ
mask_name mask = if mask == null_id then codes "none" else decimal mask

-- the first line: the address of the working set, and its active mask
abbrev pub heading : ℕ → ℕ → List ℕ
heading address mask = codes "screen " ++ (encode_upper (address ∷ []) ++ (codes " mask " ++ (mask_name mask ++ codes "\n")))

-- The text is that of the drawing of the active mask.
pub record IsScreen (address : ℕ) (store : ObjectMap) (text : List ℕ) : Type 0 where
  pub mask : ℕ
  pub active : IsActive store mask
  pub drawing : List Placed
  pub drawn : IsDrawing store mask drawing
  pub is : text ≡ heading address mask ++ shortened (map (λ p. line store p.element) drawing)

-- The screen has been appended to a vector.
pub record GainsScreen (address : ℕ) (store : ObjectMap) (old new : List ℕ) : Type 0 where
  pub text : List ℕ
  pub is_screen : IsScreen address store text
  pub gained : new ≡ old ++ text

-- The screen of a working set is unique. It exists in a store in order without an object with the ID NULL.
pub record ScreensAreOne : Type 0 where
  pub there : (address : ℕ) (store : ObjectMap) (mask : ℕ) → IsSound store → finite.get store null_id ≡ None → IsActive store mask
      → (text : List ℕ) × IsScreen address store text
  pub one : (address : ℕ) (store : ObjectMap) (one other : List ℕ) → working_sets (shape_in store) ≡ 1
      → IsScreen address store one → IsScreen address store other → one ≡ other

-- Stores that look the same have the same screens: the text of a screen shows no field that a look leaves out.
abbrev pub ScreensShowLooks : Type 0
ScreensShowLooks = (address : ℕ) (old new : ObjectMap) (text : List ℕ) → HaveSameLook old new → IsScreen address old text → IsScreen address new text
