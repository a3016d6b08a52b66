-- Lists that are written one entry after the other, and the room for them.
use Rattle.std.proofs.Common.{◌≡◌, ℕ, ◌+◌, ◌*◌, ◌<◌, ◌≤◌, List, [], ◌∷◌, ◌++◌, drop, take, length, map, get_or, Some, Vec, Global, sym, ap, ◌∙◌, arith}
use Rattle.std.specs.List.{flat_map}
use Rattle.std.specs.Prelude.{slice_get}
use Rattle.std.proofs.lemmas.List.{append_assoc, append-nil, drop_more, at_drop_all, map-append, take_more}
use Rattle.std.proofs.lemmas.Option.{slice_get-get_or, slice_get_within, get_or_from_slice_get}
use Rattle.vt_server.specs.Outputs.{HasSpare, UsesAtMost}

module _ {A B : Type 0} (f : A → List B) where
  -- what is written so far, and what is still to come
  abbrev pub IsWriting : List A → ℕ → List B → List B → Type 0
  IsWriting all i written old = written ++ flat_map f (drop i all) ≡ old ++ flat_map f all

  pub next_item : (all : List A) (i : ℕ) (entry default : A) (before after old : List B) → i < length all → get_or all i default ≡ entry → after ≡ before ++ f entry
      → IsWriting all i before old → IsWriting all (i + 1) after old
  next_item all i entry default before after old within is written left =
      let here : slice_get all i ≡ Some entry = slice_get-get_or all i default within ∙ ap (λ (e : A). Some e) is in
      let rest = flat_map f (drop (i + 1) all) in
      let next : drop i all ≡ entry ∷ drop (i + 1) all =
      drop_more all i entry (slice_get_within all i entry here) ∙ ap (λ (e : A). e ∷ drop (i + 1) all) (get_or_from_slice_get all i entry entry here) in
      ap (λ (l : List B). l ++ rest) written ∙ append_assoc before (f entry) rest ∙ ap (λ (l : List A). before ++ flat_map f l) (sym next) ∙ left

  pub all_written : (all : List A) (i : ℕ) (written old : List B) → length all ≤ i → IsWriting all i written old → written ≡ old ++ flat_map f all
  all_written all i written old past left =
      sym (append-nil written) ∙ ap (λ (l : List A). written ++ flat_map f l) (sym (at_drop_all (λ (l : List A). l) all i past)) ∙ left

-- one entry more of a list that is mapped
pub map_next : {A B : Type 0} (f : A → B) (all : List A) (i : ℕ) (entry : A) (value : B) (before after : List B) → slice_get all i ≡ Some entry → value ≡ f entry
    → before ≡ map f (take i all) → after ≡ before ++ value ∷ [] → after ≡ map f (take (i + 1) all)
map_next f all i entry value before after here is so_far more =
    let at : get_or all i entry ≡ entry = get_or_from_slice_get all i entry entry here in
    more
    ∙ ap (λ l. l ++ value ∷ []) so_far
    ∙ ap (λ v. map f (take i all) ++ v ∷ []) (is ∙ sym (ap f at))
    ∙ sym (ap (map f) (take_more all i entry (slice_get_within all i entry here)) ∙ map-append f (take i all) (get_or all i entry ∷ []))

-- two entries more, with room for two each
pub two_more : {E : Type 0} (n i : ℕ) (first before middle after : Vec E Global) → i < n → HasSpare (2 * n) first → UsesAtMost (2 * i) first before
    → UsesAtMost 1 before middle → UsesAtMost 1 middle after → UsesAtMost (2 * (i + 1)) first after
two_more n i first before middle after less spare so_far one other = omega (arith, less, spare, so_far, one, other)

pub room_for_two : {E : Type 0} (n i : ℕ) (first before : Vec E Global) → i < n → HasSpare (2 * n) first → UsesAtMost (2 * i) first before → HasSpare 2 before
room_for_two n i first before less spare so_far = omega (arith, less, spare, so_far)

-- four parts are written one after the other
pub four_parts : {E : Type 0} (none one two three four a b c d : List E) → none ≡ [] → one ≡ none ++ a → two ≡ one ++ b → three ≡ two ++ c → four ≡ three ++ d
    → four ≡ a ++ b ++ c ++ d
four_parts none one two three four a b c d empty first second third fourth =
    fourth
    ∙ ap (λ l. l ++ d) (third ∙ ap (λ l. l ++ c) (second ∙ ap (λ l. l ++ b) (first ∙ ap (λ l. l ++ a) empty)))
