-- Lists that are written one entry after the other.
use Rattle.std.proofs.Common.{◌≡◌, ℕ, ◌+◌, ◌<◌, ◌≤◌, List, ◌∷◌, ◌++◌, drop, length, get_or, Some, sym, ap, ◌∙◌}
use Rattle.std.specs.List.{flat_map}
use Rattle.std.specs.Prelude.{slice_get, OnOk, Result, Ok, Err}
use Rattle.std.proofs.lemmas.List.{append_assoc, append-nil, drop_more, at_drop_all}
use Rattle.std.proofs.lemmas.Option.{slice_get-get_or, slice_get_within, get_or_from_slice_get}

module _ {A : Type 0} (f : A → List ℕ) where
  -- what is written so far, and what is still to come
  abbrev pub IsWriting : List A → ℕ → List ℕ → List ℕ → Type 0
  IsWriting all i text old = text ++ flat_map f (drop i all) ≡ old ++ flat_map f all

  pub next_written : (all : List A) (i : ℕ) (entry : A) (before after old : List ℕ) → slice_get all i ≡ Some entry → after ≡ before ++ f entry
      → IsWriting all i before old → IsWriting all (i + 1) after old
  next_written all i entry before after old here written left =
      let rest = flat_map f (drop (i + 1) all) in
      let next : drop i all ≡ entry ∷ drop (i + 1) all =
      drop_more all i entry (slice_get_within all i entry here) ∙ ap (λ (e : A). e ∷ drop (i + 1) all) (get_or_from_slice_get all i entry entry here) in
      ap (λ (l : List ℕ). l ++ rest) written ∙ append_assoc before (f entry) rest ∙ ap (λ (l : List A). before ++ flat_map f l) (sym next) ∙ left

  pub next_item : (all : List A) (i : ℕ) (entry default : A) (before after old : List ℕ) → i < length all → get_or all i default ≡ entry → after ≡ before ++ f entry
      → IsWriting all i before old → IsWriting all (i + 1) after old
  next_item all i entry default before after old within is written left =
      next_written all i entry before after old (slice_get-get_or all i default within ∙ ap (λ (e : A). Some e) is) written left

  pub all_written : (all : List A) (i : ℕ) (text old : List ℕ) → length all ≤ i → IsWriting all i text old → text ≡ old ++ flat_map f all
  all_written all i text old past left = sym (append-nil text) ∙ ap (λ (l : List A). text ++ flat_map f l) (sym (at_drop_all (λ (l : List A). l) all i past)) ∙ left

-- ---- results

pub on_ok : {T E P Q : Type 0} (r : Result T E) → OnOk r P → (P → Q) → OnOk r Q
on_ok (Ok x) is step = step is
on_ok (Err e) is step = tt
