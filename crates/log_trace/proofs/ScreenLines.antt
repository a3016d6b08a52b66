-- The lines of a screen: where they are next, and where they are last.
use Rattle.std.proofs.Common.{◌≡◌, ◌∙◌, ◌+◌, ◌-◌, ◌<◌, ◌≤◌, ◌||◌, ◌⊎◌, inl, inr, ℕ, suc, Bool, true, false, not, cond, nat_lt, List, [], ◌∷◌, ◌++◌, length, get_or, map, take, drop, Option, Some, None, refl, sym, ap, subst, Bor, arith}
use Rattle.std.specs.BTreeMap.{BTreeMap, get, get_by, is_at}
use Rattle.std.specs.Cmp.Lexicographic.{slice_cmp}
use Rattle.std.specs.List.{position_or_len}
use Rattle.std.specs.Ordering.{nat_cmp}
use Rattle.std.specs.Prelude.{MatchOption, position, unwrap_or}
use Rattle.std.specs.Set.{is_member}
use Rattle.std.specs.Str.{bytes_eq}
use Rattle.std.specs.declared.cmp.Ordering.{Ordering}
use Rattle.std.proofs.Math.Seq.{get_or-append_seam, take-length}
use Rattle.std.proofs.lemmas.List.{drop-map, get_or-drop, get_or_append_left, length-append, length-drop, length-map, length-take-le, map-append, take-map, take_more}
use Rattle.std.proofs.lemmas.Map.Text.{is_eq-slice_cmp}
use Rattle.std.proofs.lemmas.Slice.Eq.{bytes_eq-Decides}
use Rattle.log_trace.specs.Changes.{AreLastPlaces, IsNext}

abbrev pub line_of : Bor (List ℕ) → List ℕ
line_of line = line.now

-- ---- the next place

-- the answer of a search, and what is known of it
abbrev Found : List ℕ → List (List ℕ) → Option ℕ → Type 0
Found line lines found = MatchOption found (is_member bytes_eq lines line ≡ false) (IsNext line lines)

next_behind : (line first : List ℕ) (rest : List (List ℕ)) (n : ℕ) (c : Bool) → bytes_eq line first ≡ false
    → Found line rest (cond c (Some n) None) → Found line (first ∷ rest) (cond c (Some (suc n)) None)
next_behind line first rest n true other found =
    (found.0, ap (λ (ls : List (List ℕ)). first ∷ ls) found.1, ap (λ (b : Bool). b || is_member bytes_eq (take n rest) line) other ∙ found.2)
next_behind line first rest n false other absent = ap (λ (b : Bool). b || is_member bytes_eq rest line) other ∙ absent

one_more : (n len : ℕ) → nat_lt (1 + n) (suc len) ≡ nat_lt n len
one_more n len = grind arith

none_before : (len : ℕ) → nat_lt 0 (suc len) ≡ true
none_before len = grind arith

abbrev some_below : ℕ → ℕ → Option ℕ
some_below m len = cond (nat_lt m len) (Some m) None

-- where a line is next among others
abbrev pub next_of : List ℕ → List (Bor (List ℕ)) → Option ℕ
next_of line lines = position (λ (other : Bor (List ℕ)). bytes_eq line other.now) lines

next_by_case : (line : List ℕ) (first : Bor (List ℕ)) (rest : List (Bor (List ℕ))) (b : Bool) → bytes_eq line first.now ≡ b → Found line (map line_of rest) (next_of line rest)
    → Found line (map line_of (first ∷ rest)) (next_of line (first ∷ rest))
next_by_case line first rest true same found =
    let here : line ≡ first.now = (bytes_eq-Decides line first.now).0 same in
    let is : next_of line (first ∷ rest) ≡ Some 0 =
    ap (λ (b : Bool). some_below (cond (not b) (1 + position_or_len (λ (other : Bor (List ℕ)). bytes_eq line other.now) rest) 0) (length (first ∷ rest))) same
    ∙ ap (λ (c : Bool). cond c (Some 0) None) (none_before (length rest)) in
    subst (Found line (map line_of (first ∷ rest))) (sym is) (map line_of rest, ap (λ (l : List ℕ). l ∷ map line_of rest) (sym here), refl)
next_by_case line first rest false other found =
    let n = position_or_len (λ (other : Bor (List ℕ)). bytes_eq line other.now) rest in
    let more : suc n ≡ 1 + n = omega arith in
    let is : next_of line (first ∷ rest) ≡ cond (nat_lt n (length rest)) (Some (1 + n)) None =
    ap (λ (b : Bool). some_below (cond (not b) (1 + n) 0) (length (first ∷ rest))) other ∙ ap (λ (c : Bool). cond c (Some (1 + n)) None) (one_more n (length rest)) in
    subst (Found line (map line_of (first ∷ rest))) (sym is) (subst (λ (m : ℕ). Found line (map line_of (first ∷ rest)) (cond (nat_lt n (length rest)) (Some m) None)) more
    (next_behind line first.now (map line_of rest) n (nat_lt n (length rest)) other found))

found_next : (line : List ℕ) (lines : List (Bor (List ℕ))) → Found line (map line_of lines) (next_of line lines)
found_next line [] = refl
found_next line (first ∷ rest) = next_by_case line first rest (bytes_eq line first.now) refl (found_next line rest)

-- The same from a place on.
pub finds_next : (line : List ℕ) (lines : List (Bor (List ℕ))) (from : ℕ) (found : Option ℕ) → found ≡ next_of line (drop from lines) → Found line (drop from (map line_of lines)) found
finds_next line lines from found is =
    subst (λ (ls : List (List ℕ)). Found line ls found) (sym (drop-map line_of from lines)) (subst (Found line (map line_of (drop from lines))) (sym is) (found_next line (drop from lines)))

-- the lines from a place on, as a slice of them
pub from_slice : (lines : List (Bor (List ℕ))) (from : ℕ) → take (length lines - from) (drop from lines) ≡ drop from lines
from_slice lines from = ap (λ (n : ℕ). take n (drop from lines)) (sym (length-drop from lines)) ∙ take-length (drop from lines)

-- The lines of a slice are a part of the lines.
pub part_lines : (lines : List (Bor (List ℕ))) (from n m : ℕ) → n ≡ m → map line_of (take n (drop from lines)) ≡ take m (drop from (map line_of lines))
part_lines lines from n m same =
    sym (take-map line_of n (drop from lines)) ∙ ap (take n) (sym (drop-map line_of from lines)) ∙ ap (λ (k : ℕ). take k (drop from (map line_of lines))) same

pub rest_lines : (lines : List (Bor (List ℕ))) (from : ℕ) → map line_of (take (length lines - from) (drop from lines)) ≡ drop from (map line_of lines)
rest_lines lines from = ap (map line_of) (from_slice lines from) ∙ sym (drop-map line_of from lines)

-- ---- the last places

-- the order of lines behind references
abbrev pub line_cmp : Bor (List ℕ) → Bor (List ℕ) → Ordering
line_cmp a b = slice_cmp nat_cmp a.now b.now

member_by_case : (line first : List ℕ) (rest : List (List ℕ)) (b : Bool) → bytes_eq line first ≡ b → (b || is_member bytes_eq rest line) ≡ true
    → (is_member bytes_eq rest line ≡ true → (k : ℕ) × (k < length rest) × (get_or rest k [] ≡ line))
    → (k : ℕ) × (k < length (first ∷ rest)) × (get_or (first ∷ rest) k [] ≡ line)
member_by_case line first rest true same is later = (0, omega arith, sym ((bytes_eq-Decides line first).0 same))
member_by_case line first rest false other is later = let at = later is in (suc at.0, (let below = at.1 in omega arith), at.2)

-- A member has a place.
member_place : (line : List ℕ) (lines : List (List ℕ)) → is_member bytes_eq lines line ≡ true → (k : ℕ) × (k < length lines) × (get_or lines k [] ≡ line)
member_place line [] is = absurd cc
member_place line (first ∷ rest) is = member_by_case line first rest (bytes_eq line first) refl is (member_place line rest)

-- A line whose last place is before another is not behind that.
absent_by_case : (line : List ℕ) (lines : List (List ℕ)) (from : ℕ) (b : Bool) → is_member bytes_eq (drop from lines) line ≡ b
    → ((k : ℕ) → k < length lines → get_or lines k [] ≡ line → k < from) → b ≡ false
absent_by_case line lines from true is before =
    let at = member_place line (drop from lines) is in
    let below : at.0 < length (drop from lines) = at.1 in
    let len : length (drop from lines) ≡ length lines - from = length-drop from lines in
    let place : get_or lines (from + at.0) [] ≡ line = sym (get_or-drop from lines at.0 []) ∙ at.2 in
    let never : from + at.0 < from = before (from + at.0) (omega (arith, below, len)) place in
    absurd (omega (arith, never))
absent_by_case line lines from false is before = refl

pub absent : (line : List ℕ) (lines : List (List ℕ)) (from : ℕ) → ((k : ℕ) → k < length lines → get_or lines k [] ≡ line → k < from) → is_member bytes_eq (drop from lines) line ≡ false
absent line lines from before = absent_by_case line lines from (is_member bytes_eq (drop from lines) line) refl before

-- No line is found in the map, or one before the place.
pub absent_without : (line : List ℕ) (lines : List (List ℕ)) (from : ℕ) (places : BTreeMap (Bor (List ℕ)) ℕ) → AreLastPlaces lines places
    → get_by (λ (key : Bor (List ℕ)). slice_cmp nat_cmp line key.now) places ≡ None → is_member bytes_eq (drop from lines) line ≡ false
absent_without line lines from places known none =
    absent line lines from (λ k below is. let last = known line k below is in absurd (let has = last.1 in cc))

pub absent_before : (line : List ℕ) (lines : List (List ℕ)) (from last : ℕ) (places : BTreeMap (Bor (List ℕ)) ℕ) → AreLastPlaces lines places
    → get_by (λ (key : Bor (List ℕ)). slice_cmp nat_cmp line key.now) places ≡ Some last → last < from → is_member bytes_eq (drop from lines) line ≡ false
absent_before line lines from last places known has before =
    absent line lines from (λ k below is. let at = known line k below is in
    let same : at.0 ≡ last = ap (λ (o : Option ℕ). unwrap_or o 0) (sym at.1 ∙ has) in
    let most : k ≤ at.0 = at.2 in omega (arith, same, most, before))

-- ---- a map that gains a line at its place

inside_or_at : (k n : ℕ) (b : Bool) → nat_lt k n ≡ b → k < n + 1 → (k < n) ⊎ (k ≡ n)
inside_or_at k n true is below = inl (grind (arith, is))
inside_or_at k n false is below = inr (grind (arith, is, below))

-- a found place: not before another, and one of the line
abbrev IsPlaceFrom : List (List ℕ) → List ℕ → ℕ → Option ℕ → Type 0
IsPlaceFrom lines line k found = (last : ℕ) × (found ≡ Some last) × (k ≤ last) × (last < length lines) × (get_or lines last [] ≡ line)

gains_by_case : (line q : List ℕ) (lines : List (List ℕ)) (k : ℕ) (b : Bool) (old new : Option ℕ) → bytes_eq line q ≡ b → new ≡ cond b (Some (length lines)) old
    → k < length (lines ++ line ∷ []) → get_or (lines ++ line ∷ []) k [] ≡ q
    → (k < length lines → get_or lines k [] ≡ q → IsPlaceFrom lines q k old) → IsPlaceFrom (lines ++ line ∷ []) q k new
gains_by_case line q lines k true old new same is below at before =
    let len : length (lines ++ line ∷ []) ≡ length lines + 1 = length-append lines (line ∷ []) in
    (length lines, is, omega (arith, below, len), omega (arith, len), get_or-append_seam lines line [] [] ∙ (bytes_eq-Decides line q).0 same)
gains_by_case line q lines k false old new other is below at before =
    let len : length (lines ++ line ∷ []) ≡ length lines + 1 = length-append lines (line ∷ []) in
    elim (inside_or_at k (length lines) (nat_lt k (length lines)) refl (omega (arith, below, len))) [
      | inl inside ↦
          let earlier = before inside (sym (get_or_append_left lines (line ∷ []) [] k inside) ∙ at) in
          let within : earlier.0 < length lines = earlier.3 in
          (earlier.0, is ∙ earlier.1, earlier.2, omega (arith, within, len), get_or_append_left lines (line ∷ []) [] earlier.0 within ∙ earlier.4)
      | inr here ↦
          let same : line ≡ q = sym (get_or-append_seam lines line [] []) ∙ ap (λ (n : ℕ). get_or (lines ++ line ∷ []) n []) (sym here) ∙ at in
          let true_too : bytes_eq line q ≡ true = (bytes_eq-Decides line q).1 same in
          absurd cc
    ]

-- Each line up to a place is at its last place in a map, also when the line at it is inserted.
pub gains_place : (lines : List (Bor (List ℕ))) (i : ℕ) (d : Bor (List ℕ)) (old new : BTreeMap (Bor (List ℕ)) ℕ) → i < length lines → AreLastPlaces (map line_of (take i lines)) old
    → ((q : Bor (List ℕ)) → get line_cmp new q ≡ cond (is_at (line_cmp (get_or lines i d)) q) (Some i) (get line_cmp old q)) → AreLastPlaces (map line_of (take (i + 1) lines)) new
gains_place lines i d old new inside known inserted =
    let before : List (List ℕ) = map line_of (take i lines) in
    let line : List ℕ = (get_or lines i d).now in
    let len : length before ≡ i = length-map (take i lines) line_of ∙ length-take-le i lines (omega (arith, inside)) in
    subst (λ (ls : List (List ℕ)). AreLastPlaces ls new) (sym (map_line_next lines i d inside))
    (λ q k below at.
    let query : Bor (List ℕ) = record { ref_ptr = (0, 0); now = q } in
    gains_by_case line q before k (bytes_eq line q) (get line_cmp old query) (get line_cmp new query) refl
    (inserted query ∙ ap (λ (b : Bool). cond b (Some i) (get line_cmp old query)) (is_eq-slice_cmp line q) ∙ ap (λ (n : ℕ). cond (bytes_eq line q) (Some n) (get line_cmp old query)) (sym len))
    below at (known q k))
  where
    map_line_next : (lines : List (Bor (List ℕ))) (i : ℕ) (d : Bor (List ℕ)) → i < length lines → map line_of (take (i + 1) lines) ≡ map line_of (take i lines) ++ (get_or lines i d).now ∷ []
    map_line_next lines i d below = ap (map line_of) (take_more lines i d below) ∙ map-append line_of (take i lines) (get_or lines i d ∷ [])

-- At the end of the lines each of them is.
pub all_placed : (lines : List (Bor (List ℕ))) (i : ℕ) (places : BTreeMap (Bor (List ℕ)) ℕ) → i ≡ length lines → AreLastPlaces (map line_of (take i lines)) places
    → AreLastPlaces (map line_of lines) places
all_placed lines i places end known =
    subst (λ (ls : List (Bor (List ℕ))). AreLastPlaces (map line_of ls) places) (ap (λ (n : ℕ). take n lines) end ∙ take-length lines) known
