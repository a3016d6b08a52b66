-- Objects that are split by whether they were reached.
use Rattle.std.proofs.Common.{◌≡◌, ◌&&◌, ℕ, Bool, true, false, cond, not, List, [], ◌∷◌, ◌++◌, map, ap, sym, ◌∙◌, refl}
use Rattle.std.proofs.lemmas.List.{map-append}
use Rattle.std.proofs.lemmas.List.Elements.{filter-append}
use Rattle.std.specs.List.{AllZip, filter}
use Rattle.vt_kinds.specs.declared.kind.Kind.{Kind}
use Rattle.log_reach.specs.declared.split.Split.{Split}
use Rattle.log_reach.specs.Reports.{IsSplitBy, object_of, objects_that, object_if}

-- one more object is listed if it passes the test
last_of : (passes : Bool) (entry : ℕ × Kind) → map object_of (cond passes (entry ∷ []) []) ≡ object_if passes (object_of entry)
last_of true entry = refl
last_of false entry = refl

one_more : (test : ℕ × Kind → Bool) (entries : List (ℕ × Kind)) (entry : ℕ × Kind)
    → objects_that test (entries ++ entry ∷ []) ≡ objects_that test entries ++ object_if (test entry) (object_of entry)
one_more test entries entry =
    ap (map object_of) (filter-append test entries (entry ∷ []))
    ∙ map-append object_of (filter test entries) (filter test (entry ∷ []))
    ∙ ap (λ last. objects_that test entries ++ last) (last_of (test entry) entry)

pub split_more : (was could : ℕ × Kind → Bool) (entries : List (ℕ × Kind)) (entry : ℕ × Kind) (old new : Split) (was_reached could_be : Bool)
    → IsSplitBy was could entries old → was_reached ≡ was entry → could_be ≡ could entry
    → new.reached.items ≡ old.reached.items ++ object_if was_reached (object_of entry)
    → new.never.items ≡ old.never.items ++ object_if (not was_reached && could_be) (object_of entry)
    → IsSplitBy was could (entries ++ entry ∷ []) new
split_more was could entries entry old new was_reached could_be split is could_is reached never = record {
  reached = reached ∙ ap (λ list. list ++ object_if was_reached (object_of entry)) split.reached
      ∙ ap (λ b. objects_that was entries ++ object_if b (object_of entry)) is
      ∙ sym (one_more was entries entry);
  never = never ∙ ap (λ list. list ++ object_if (not was_reached && could_be) (object_of entry)) split.never
      ∙ ap (λ b. objects_that (λ entry. not (was entry) && could entry) entries ++ object_if (not b && could_be) (object_of entry)) is
      ∙ ap (λ b. objects_that (λ entry. not (was entry) && could entry) entries ++ object_if (not (was entry) && b) (object_of entry)) could_is
      ∙ sym (one_more (λ entry. not (was entry) && could entry) entries entry);
}

-- a pair joins two lists whose elements correspond
pub AllZip-joins : {A B : Type 0} (R : A → B → Type 0) (xs : List A) (ys : List B) (x : A) (y : B) → AllZip R xs ys → R x y → AllZip R (xs ++ x ∷ []) (ys ++ y ∷ [])
AllZip-joins R [] [] x y h r = (r, tt)
AllZip-joins R [] (b ∷ ys) x y h r = absurd h
AllZip-joins R (a ∷ xs) [] x y h r = absurd h
AllZip-joins R (a ∷ xs) (b ∷ ys) x y h r = (h.0, AllZip-joins R xs ys x y h.1 r)
