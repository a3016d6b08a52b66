-- Runs stand at their places in the image data.
use Rattle.std.proofs.Common.{◌≡◌, ℕ, suc, ◌+◌, ◌*◌, ◌-◌, ◌/◌, ◌<◌, ◌≤◌, Bool, true, false, cond, eqb, List, [], ◌∷◌, ◌++◌, take, drop, length, Option, Some, None, inl, inr, refl, sym, ap, ap₂, subst, ◌∙◌, arith}
use Rattle.std.proofs.lemmas.Bool.{cases_lt, eqb-true, eq-eqb}
use Rattle.std.proofs.lemmas.List.{length-append, length-replicate, length-take, drop_all, take_all, take_at, drop-take, drop-drop, take-take}
use Rattle.std.proofs.lemmas.Nat.{row_fits, mul-le}
use Rattle.std.specs.Prelude.{max, filter}
use Rattle.std.specs.List.{flat_map, AllByRecursion}
use Rattle.vt_kinds.specs.declared.pictures.Picture.{Picture}
use Rattle.draw_svg.specs.declared.format.PixelFormat.{PixelFormat}
use Rattle.draw_svg.specs.declared.format.PixelFormat.TheVariants.{OneBit, FourBits, EightBits}
use Rattle.draw_svg.specs.declared.raster.Raster.{Raster}
use Rattle.draw_svg.specs.declared.run.Run.{Run}
use Rattle.draw_svg.specs.FilledRows.{IsFilled}
use Rattle.draw_svg.specs.Formats.{format_of, pixels_in_byte, bytes_in_row}
use Rattle.draw_svg.specs.ImageLaws.{row_of, run_bytes, bytes_of_runs, IsAtPlace, RunsAreTheImage, RowsHoldTheirPixels}
use Rattle.draw_svg.specs.Rasters.{image_data, AreRuns, AreRunsIn, row_size, AreFewRuns}

abbrev or_eight : Option PixelFormat → PixelFormat
or_eight None = EightBits
or_eight (Some format) = format

-- ---- lists in two parts

take_both : {A : Type 0} (xs ys : List A) (n k : ℕ) → n ≡ length xs + k → take n (xs ++ ys) ≡ xs ++ take k ys
take_both [] ys n k is = let same : n ≡ k = omega (arith, is) in ap (λ (m : ℕ). take m ys) same
take_both (x ∷ xs) ys n k is =
    let same : n ≡ suc (length xs + k) = omega (arith, is) in
    ap (λ (m : ℕ). take m (x ∷ (xs ++ ys))) same ∙ ap (λ l. x ∷ l) (take_both xs ys (length xs + k) k refl)

drop_both : {A : Type 0} (xs ys : List A) (n k : ℕ) → n ≡ length xs + k → drop n (xs ++ ys) ≡ drop k ys
drop_both [] ys n k is = let same : n ≡ k = omega (arith, is) in ap (λ (m : ℕ). drop m ys) same
drop_both (x ∷ xs) ys n k is =
    let same : n ≡ suc (length xs + k) = omega (arith, is) in
    ap (λ (m : ℕ). drop m (x ∷ (xs ++ ys))) same ∙ drop_both xs ys (length xs + k) k refl

-- ---- the bytes between two places

-- the bytes from `low` up to `high`, of some that begin at `at`
abbrev pub between : ℕ → ℕ → ℕ → List ℕ → List ℕ
between low high at bytes = take (high - max low at) (drop (low - at) bytes)

-- ---- the runs of a row

module _ (size row : ℕ) where
  abbrev pub low : ℕ
  low = row * size

  abbrev pub high : ℕ
  high = row * size + size

  abbrev kept : Bool → Run → List Run → List ℕ
  kept b r runs = flat_map run_bytes (cond b (r ∷ filter (λ x. eqb x.row row) runs) (filter (λ x. eqb x.row row) runs))

  here : (at : ℕ) (r : Run) (rest : List ℕ) (runs : List Run) → r.row * size + r.start ≡ at → r.start + r.count ≤ size → r.row ≡ row
      → bytes_of_runs row runs ≡ between low high (at + r.count) rest
      → run_bytes r ++ bytes_of_runs row runs ≡ between low high at (run_bytes r ++ rest)
  here at r rest runs place fits is later =
      let same : r.row * size ≡ row * size = ap (λ (n : ℕ). n * size) is in
      let long = length-replicate r.count r.byte in
      let none : low - at ≡ 0 = omega arith in
      let none_later : low - (at + r.count) ≡ 0 = omega arith in
      let left : high - max low at ≡ length (run_bytes r) + (high - max low (at + r.count)) = omega arith in
      ap (λ l. run_bytes r ++ l) (later ∙ ap (λ (n : ℕ). take (high - max low (at + r.count)) (drop n rest)) none_later)
      ∙ sym (take_both (run_bytes r) rest (high - max low at) (high - max low (at + r.count)) left)
      ∙ ap (λ (n : ℕ). take (high - max low at) (drop n (run_bytes r ++ rest))) (sym none)

  before : (at : ℕ) (r : Run) (rest : List ℕ) (runs : List Run) → r.row * size + r.start ≡ at → r.start + r.count ≤ size → r.row < row
      → bytes_of_runs row runs ≡ between low high (at + r.count) rest → bytes_of_runs row runs ≡ between low high at (run_bytes r ++ rest)
  before at r rest runs place fits is later =
      let below : r.row * size + size ≤ row * size = row_fits r.row size row size is (omega arith) in
      let long = length-replicate r.count r.byte in
      let passed : low - at ≡ length (run_bytes r) + (low - (at + r.count)) = omega arith in
      let same : high - max low (at + r.count) ≡ high - max low at = omega arith in
      later
      ∙ ap₂ (λ (n : ℕ) (l : List ℕ). take n l) same (sym (drop_both (run_bytes r) rest (low - at) (low - (at + r.count)) passed))

  after : (at : ℕ) (r : Run) (rest : List ℕ) (runs : List Run) → r.row * size + r.start ≡ at → row < r.row
      → bytes_of_runs row runs ≡ between low high (at + r.count) rest → bytes_of_runs row runs ≡ between low high at (run_bytes r ++ rest)
  after at r rest runs place is later =
      let above : row * size + size ≤ r.row * size = row_fits row size r.row size is (omega arith) in
      let none : high - max low (at + r.count) ≡ 0 = omega arith in
      let none_here : high - max low at ≡ 0 = omega arith in
      later
      ∙ ap (λ (n : ℕ). take n (drop (low - (at + r.count)) rest)) none
      ∙ ap (λ (n : ℕ). take n (drop (low - at) (run_bytes r ++ rest))) (sym none_here)

  joined_case : (at : ℕ) (r : Run) (rest : List ℕ) (runs : List Run) (b : Bool) → eqb r.row row ≡ b → r.row * size + r.start ≡ at → r.start + r.count ≤ size
      → bytes_of_runs row runs ≡ between low high (at + r.count) rest → kept b r runs ≡ between low high at (run_bytes r ++ rest)
  joined_case at r rest runs true is place fits later = here at r rest runs place fits (eqb-true r.row row is) later
  joined_case at r rest runs false is place fits later =
      elim (cases_lt r.row row) [
        | inl lower ↦ before at r rest runs place fits lower later
        | inr not_lower ↦ elim (cases_lt row r.row) [
          | inl higher ↦ after at r rest runs place higher later
          | inr not_higher ↦
              let same : r.row ≡ row = omega arith in
              let never : true ≡ false = sym (eq-eqb r.row row same) ∙ is in
              absurd cc
        ]
      ]

  nothing : (n m : ℕ) (bytes : List ℕ) → bytes ≡ [] → take n (drop m bytes) ≡ []
  nothing n m bytes none =
      let short = ap length none in
      ap (take n) (drop_all m bytes (omega arith)) ∙ take_all n (let empty : List ℕ = [] in empty) (omega arith)

  pub joined : (at : ℕ) (runs : List Run) (bytes : List ℕ) → AreRuns size at runs bytes → bytes_of_runs row runs ≡ between low high at bytes
  joined at [] bytes is = sym (nothing (high - max low at) (low - at) bytes is)
  joined at (r ∷ runs) bytes is =
      joined_case at r is.3.0 runs (eqb r.row row) refl is.0 is.2 (joined (at + r.count) runs is.3.0 is.3.2)
      ∙ ap (between low high at) (sym is.3.1)

  -- the bytes of a row, of as many as there are rows
  row_within : (height : ℕ) (bytes : List ℕ) → row < height → between low high 0 (take (height * size) bytes) ≡ row_of size row bytes
  row_within height bytes lt =
      let fits : row * size + size ≤ height * size = row_fits row size height size lt (omega arith) in
      let whole : height * size ≡ low + (height * size - low) = omega arith in
      let left : high - max low 0 ≡ size = omega arith in
      let from : low - 0 ≡ low = omega arith in
      ap₂ (λ (n m : ℕ). take n (drop m (take (height * size) bytes))) left from
      ∙ ap (λ (n : ℕ). take size (drop low (take n bytes))) whole
      ∙ ap (take size) (drop-take low (height * size - low) bytes)
      ∙ take-take size (height * size - low) (drop low bytes) (omega arith)

-- ---- no run is past the last row

in_rows : (size height at : ℕ) (runs : List Run) (bytes : List ℕ) → AreRuns size at runs bytes → at + length bytes ≤ height * size
    → AllByRecursion (λ r. r.row < height) runs
in_rows size height at [] bytes is most = tt
in_rows size height at (r ∷ runs) bytes is most =
    let long = ap length is.3.1 ∙ length-append (run_bytes r) is.3.0 in
    let part = length-replicate r.count r.byte in
    (before_end, in_rows size height (at + r.count) runs is.3.0 is.3.2 (omega arith))
  where
    before_end : r.row < height
    before_end =
        elim (cases_lt r.row height) [
          | inl lower ↦ lower
          | inr not_lower ↦
              let long = ap length is.3.1 ∙ length-append (run_bytes r) is.3.0 in
              let part = length-replicate r.count r.byte in
              let past : height * size ≤ r.row * size = mul-le height size r.row size not_lower (omega arith) in
              absurd (omega arith)
        ]

-- ---- each run is at its place

at_places : (size at k : ℕ) (runs : List Run) (bytes all : List ℕ) → AreRuns size at runs bytes → bytes ≡ take k (drop at all)
    → AllByRecursion (IsAtPlace size all) runs
at_places size at k [] bytes all is parts = tt
at_places size at k (r ∷ runs) bytes all is parts =
    let rest = is.3.0 in
    let long = ap length is.3.1 ∙ length-append (run_bytes r) rest in
    let part = length-replicate r.count r.byte in
    let cut = ap length parts ∙ length-take k (drop at all) in
    let fits : r.count ≤ k = omega arith in
    let left : k ≡ r.count + (k - r.count) = omega arith in
    let none : r.count ≡ length (run_bytes r) + 0 = omega arith in
    let nothing : r.count ≡ length (run_bytes r) = omega arith in (
      ap (λ (n : ℕ). take r.count (drop n all)) is.0
          ∙ sym (take-take r.count k (drop at all) fits)
          ∙ ap (take r.count) (sym parts ∙ is.3.1)
          ∙ take_at (run_bytes r) rest r.count (sym nothing),
      at_places size (at + r.count) (k - r.count) runs rest all is.3.2
          (sym (drop_both (run_bytes r) rest r.count 0 none)
          ∙ ap (drop r.count) (sym is.3.1 ∙ parts ∙ ap (λ (n : ℕ). take n (drop at all)) left)
          ∙ drop-take r.count (k - r.count) (drop at all)
          ∙ ap (take (k - r.count)) (drop-drop r.count at all)),
    )

-- ---- the laws

module _ (p : Picture (List ℕ)) (runs : List Run) where
  row_case : (found : Option PixelFormat) (format : PixelFormat) (row : ℕ) → found ≡ Some format → AreRunsIn p runs found → row < p.actual_height
      → bytes_of_runs row runs ≡ row_of (bytes_in_row format p.actual_width) row (image_data p)
  row_case None format row known is lt = absurd cc
  row_case (Some other) format row known is lt =
      let size = bytes_in_row other p.actual_width in
      joined size row 0 runs (take (p.actual_height * size) (image_data p)) is
      ∙ row_within size row p.actual_height (image_data p) lt
      ∙ ap (λ (f : Option PixelFormat). row_of (bytes_in_row (or_eight f) p.actual_width) row (image_data p)) known

  place_case : (found : Option PixelFormat) (format : PixelFormat) → found ≡ Some format → AreRunsIn p runs found
      → AllByRecursion (IsAtPlace (bytes_in_row format p.actual_width) (image_data p)) runs
  place_case None format known is = absurd cc
  place_case (Some other) format known is =
      let size = bytes_in_row other p.actual_width in
      subst (λ (f : Option PixelFormat). AllByRecursion (IsAtPlace (bytes_in_row (or_eight f) p.actual_width) (image_data p)) runs) known
      (at_places size 0 (p.actual_height * size) runs (take (p.actual_height * size) (image_data p)) (image_data p) is refl)

  past_case : (found : Option PixelFormat) → AreRunsIn p runs found → AllByRecursion (λ r. r.row < p.actual_height) runs
  past_case None is = subst (AllByRecursion (λ (r : Run). r.row < p.actual_height)) (sym is) tt
  past_case (Some format) is =
      let size = bytes_in_row format p.actual_width in
      let long = length-take (p.actual_height * size) (image_data p) in
      in_rows size p.actual_height 0 runs (take (p.actual_height * size) (image_data p)) is (omega arith)

pub image_of_runs : RunsAreTheImage
image_of_runs = record {
  in_rows = λ p runs format row is known lt. row_case p runs (format_of p.format) format row known is lt;
  places = λ p runs format is known. place_case p runs (format_of p.format) format known is;
  past = λ p runs is. past_case p runs (format_of p.format) is;
  none = λ p runs is known. subst (AreRunsIn p runs) known is;
}

each_pixel : (format : PixelFormat) (width column : ℕ) → column < width → column / pixels_in_byte format < bytes_in_row format width
each_pixel OneBit width column lt = omega arith
each_pixel FourBits width column lt = omega arith
each_pixel EightBits width column lt = omega arith

no_more : (format : PixelFormat) (width : ℕ) → bytes_in_row format width * pixels_in_byte format < width + pixels_in_byte format
no_more OneBit width = omega arith
no_more FourBits width = omega arith
no_more EightBits width = omega arith

pub pixels_in_rows : RowsHoldTheirPixels
pixels_in_rows = record { each = each_pixel; least = no_more }

-- ---- the number of runs

size_case : (found : Option PixelFormat) (format : PixelFormat) (width : ℕ) → found ≡ Some format → row_size found width ≡ bytes_in_row format width
size_case None format width known = absurd cc
size_case (Some other) format width known = ap (λ (f : Option PixelFormat). bytes_in_row (or_eight f) width) known

pub few_runs : (p : Picture (List ℕ)) (format : PixelFormat) (r : Raster) → format_of p.format ≡ Some format → r.size ≡ bytes_in_row format p.actual_width
    → r.height ≤ p.actual_height → IsFilled r (image_data p) → r.row ≤ r.height → length r.runs.items ≤ length p.bytes + r.row → AreFewRuns p r.runs.items
few_runs p format r known size height is last most = record {
  rows = r.row;
  most = most;
  within = omega (arith, height, last);
  filled =
      let long = length-take (r.height * r.size) (image_data p) in
      let next = is.next in
      let same : r.row * row_size (format_of p.format) p.actual_width ≡ r.row * r.size =
      ap (λ (n : ℕ). r.row * n) (size_case (format_of p.format) format p.actual_width known ∙ sym size) in
      omega (arith, same);
}
