-- A macro's bytes split into macro commands in at most one way.
use Rattle.std.proofs.Common.{◌≡◌, ℕ, zero, suc, ◌+◌, ◌≤◌, ◌<◌, Bool, true, false, cond, leb, max, List, [], ◌∷◌, ◌++◌, length, take, drop, Option, Some, None, refl, sym, ap, subst, ◌∙◌, arith}
use Rattle.std.specs.Option.{option_map}
use Rattle.std.proofs.lemmas.List.{length-append, length-take, length-drop, take_at, drop_at, take-append-drop}
use Rattle.std.proofs.lemmas.Bool.{le-leb, leb-true}
use Rattle.std.specs.List.{AllByRecursion, flat_map}
use Rattle.std.specs.Prelude.{◌==◌}
use Rattle.vt_commands.specs.Commands.{byte, word, CHANGE_CHILD_POSITION, CHANGE_STRING_VALUE}
use Rattle.vt_commands.specs.Pieces.{IsPiece, IsCut, IsSplit, CutIsOne, command_length, cut, cut_within}

lengths : (a b : Bool) (n : ℕ) → 8 ≤ cond a 9 (cond b (max 8 n) 8)
lengths true b n = omega arith
lengths false true n = omega arith
lengths false false n = omega arith

pub at_least : (bytes : List ℕ) → 8 ≤ command_length bytes
at_least bytes = lengths (byte bytes 0 == CHANGE_CHILD_POSITION) (byte bytes 0 == CHANGE_STRING_VALUE) (5 + word bytes 3)

-- bytes after a command do not change its length
pub length_front : (p rest : List ℕ) → 5 ≤ length p → command_length (p ++ rest) ≡ command_length p
length_front [] rest le = absurd (omega arith)
length_front (a ∷ []) rest le = absurd (omega arith)
length_front (a ∷ b ∷ []) rest le = absurd (omega arith)
length_front (a ∷ b ∷ c ∷ []) rest le = absurd (omega arith)
length_front (a ∷ b ∷ c ∷ d ∷ []) rest le = absurd (omega arith)
length_front (a ∷ b ∷ c ∷ d ∷ e ∷ p) rest le = refl

same_front : (p q r s : List ℕ) → length p ≡ length q → p ++ r ≡ q ++ s → (p ≡ q) × (r ≡ s)
same_front [] [] r s len e = (refl, e)
same_front [] (y ∷ q) r s len e = absurd (omega arith)
same_front (x ∷ p) [] r s len e = absurd (omega arith)
same_front (x ∷ p) (y ∷ q) r s len e =
    let head : x ≡ y = cc in
    let tail : p ++ r ≡ q ++ s = cc in
    let later = same_front p q r s (omega arith) tail in
    let front = later.0 in
    (cc, later.1)

pub same_piece : (p q r s : List ℕ) → IsPiece p → IsPiece q → p ++ r ≡ q ++ s → (p ≡ q) × (r ≡ s)
same_piece p q r s first second e =
    let long = at_least p in
    let other = at_least q in
    same_front p q r s (first ∙ sym (length_front p r (omega arith)) ∙ ap command_length e ∙ length_front q s (omega arith) ∙ sym second) e

not_nothing : (p rest : List ℕ) → IsPiece p → [] ≡ p ++ rest → ⊥
not_nothing p rest whole e =
    let long = at_least p in
    let none = ap length e in
    let sum = length-append p rest in
    omega arith

cut_lists : (a b : List (List ℕ)) → AllByRecursion IsPiece a → AllByRecursion IsPiece b → flat_map (λ p. p) a ≡ flat_map (λ p. p) b → a ≡ b
cut_lists [] [] one other e = refl
cut_lists [] (q ∷ b) one other e = absurd (not_nothing q (flat_map (λ p. p) b) other.0 e)
cut_lists (p ∷ a) [] one other e = absurd (not_nothing p (flat_map (λ p. p) a) one.0 (sym e))
cut_lists (p ∷ a) (q ∷ b) one other e =
    let same = same_piece p q (flat_map (λ p. p) a) (flat_map (λ p. p) b) one.0 other.0 e in
    let first = same.0 in
    let later = cut_lists a b one.1 other.1 same.1 in
    cc

cut_one : (bytes : List ℕ) (a b : List (List ℕ)) → IsCut bytes a → IsCut bytes b → a ≡ b
cut_one bytes a b one other = cut_lists a b one.each other.each (sym one.joined ∙ other.joined)

-- ---- the macro commands found by `cut`

-- the first macro command of a split has the length of the bytes' command
split_length : (bytes piece rest : List ℕ) → IsSplit bytes piece rest → command_length bytes ≡ length piece
split_length bytes piece rest split =
    let long = at_least piece in
    let whole = split.whole in
    ap command_length split.parts ∙ length_front piece rest (omega arith) ∙ sym whole

-- one more macro command fits if the limit is one higher
within_first : (most : ℕ) (bytes piece rest : List ℕ) → IsSplit bytes piece rest
    → cut_within (suc most) bytes ≡ option_map (λ pieces. piece ∷ pieces) (cut_within most rest)
unfolding cut_within
within_first most [] piece rest split = absurd (not_nothing piece rest split.whole split.parts)
within_first most (b ∷ bytes) piece rest split =
    let n = split_length (b ∷ bytes) piece rest split in
    let sum = length-append piece rest in
    let all = ap length split.parts in
    let fits : leb (command_length (b ∷ bytes)) (length (b ∷ bytes)) ≡ true = le-leb _ _ (omega arith) in
    let front : take (command_length (b ∷ bytes)) (b ∷ bytes) ≡ piece = ap (λ (k : ℕ). take k (b ∷ bytes)) n ∙ ap (take (length piece)) split.parts ∙ take_at piece rest (length piece) refl in
    let back : drop (command_length (b ∷ bytes)) (b ∷ bytes) ≡ rest = ap (λ (k : ℕ). drop k (b ∷ bytes)) n ∙ ap (drop (length piece)) split.parts ∙ drop_at piece rest (length piece) refl in
    rw (fits, front, back) refl

-- all limits of at least the number of bytes give the same result
within_same : (most other : ℕ) (bytes : List ℕ) → length bytes ≤ most → length bytes ≤ other → cut_within most bytes ≡ cut_within other bytes
unfolding cut_within
within_same zero zero [] le le2 = refl
within_same zero (suc other) [] le le2 = refl
within_same (suc most) zero [] le le2 = refl
within_same (suc most) (suc other) [] le le2 = refl
within_same zero other (b ∷ bytes) le le2 = absurd (omega arith)
within_same (suc most) zero (b ∷ bytes) le le2 = absurd (omega arith)
within_same (suc most) (suc other) (b ∷ bytes) le le2 =
    let n = command_length (b ∷ bytes) in
    let long = at_least (b ∷ bytes) in
    let left = length-drop n (b ∷ bytes) in
    ap (λ (found : Option (List (List ℕ))). cond (leb n (length (b ∷ bytes))) (option_map (λ pieces. take n (b ∷ bytes) ∷ pieces) found) None)
    (within_same most other (drop n (b ∷ bytes)) (omega arith) (omega arith))

cut_first : (bytes piece rest : List ℕ) → IsSplit bytes piece rest → cut bytes ≡ option_map (λ pieces. piece ∷ pieces) (cut rest)
cut_first [] piece rest split = absurd (not_nothing piece rest split.whole split.parts)
cut_first (b ∷ bytes) piece rest split =
    let long = at_least piece in
    let whole = split.whole in
    let sum = length-append piece rest in
    let all = ap length split.parts in
    within_first (length bytes) (b ∷ bytes) piece rest split
    ∙ ap (λ (found : Option (List (List ℕ))). option_map (λ pieces. piece ∷ pieces) found) (within_same (length bytes) (length rest) rest (omega arith) (omega arith))

-- a command's full length of bytes splits off as a macro command
split_at : (bytes : List ℕ) → command_length bytes ≤ length bytes → IsSplit bytes (take (command_length bytes) bytes) (drop (command_length bytes) bytes)
split_at bytes le =
    let n = command_length bytes in
    let long = at_least bytes in
    let size : length (take n bytes) ≡ n = omega (arith, length-take n bytes) in
    let parts : bytes ≡ take n bytes ++ drop n bytes = sym (take-append-drop n bytes) in
    record { whole = size ∙ ap command_length parts ∙ length_front (take n bytes) (drop n bytes) (omega arith); parts = parts }

none_within : (most b : ℕ) (bytes : List ℕ) (test : Bool) → leb (command_length (b ∷ bytes)) (length (b ∷ bytes)) ≡ test
    → ((piece rest : List ℕ) → IsSplit (b ∷ bytes) piece rest → ⊥) → cut_within (suc most) (b ∷ bytes) ≡ None
unfolding cut_within
none_within most b bytes true is never = absurd (never _ _ (split_at (b ∷ bytes) (leb-true _ _ is)))
none_within most b bytes false is never = rw is refl

cut_none : (bytes : List ℕ) → 0 < length bytes → ((piece rest : List ℕ) → IsSplit bytes piece rest → ⊥) → cut bytes ≡ None
cut_none [] some never = absurd (omega arith)
cut_none (b ∷ bytes) some never = none_within (length bytes) b bytes _ refl never

-- without its first macro command, a cut is still a cut
cut_rest : (bytes piece : List ℕ) (pieces : List (List ℕ)) → IsCut bytes (piece ∷ pieces)
    → IsSplit bytes piece (flat_map (λ p. p) pieces) × IsCut (flat_map (λ p. p) pieces) pieces
cut_rest bytes piece pieces c = (record { whole = c.each.0; parts = c.joined }, record { each = c.each.1; joined = refl })

cut_is : (bytes : List ℕ) (pieces : List (List ℕ)) → IsCut bytes pieces → cut bytes ≡ Some pieces
unfolding cut_within
cut_is bytes [] c = ap cut c.joined
cut_is bytes (piece ∷ pieces) c =
    let parts = cut_rest bytes piece pieces c in
    cut_first bytes piece _ parts.0 ∙ ap (option_map (λ (ps : List (List ℕ)). piece ∷ ps)) (cut_is (flat_map (λ p. p) pieces) pieces parts.1)

-- a value of an option_map comes from a value of its argument
mapped_some : {A B : Type 0} (f : A → B) (x : Option A) (y : B) → option_map f x ≡ Some y → (a : A) × (x ≡ Some a) × (y ≡ f a)
mapped_some f None y e = absurd cc
mapped_some f (Some a) y e = (a, refl, cc)

cut_after : (most b : ℕ) (bytes : List ℕ) (pieces : List (List ℕ)) (test : Bool) → leb (command_length (b ∷ bytes)) (length (b ∷ bytes)) ≡ test
    → ((ps : List (List ℕ)) → cut_within most (drop (command_length (b ∷ bytes)) (b ∷ bytes)) ≡ Some ps → IsCut (drop (command_length (b ∷ bytes)) (b ∷ bytes)) ps)
    → cond test (option_map (λ ps. take (command_length (b ∷ bytes)) (b ∷ bytes) ∷ ps) (cut_within most (drop (command_length (b ∷ bytes)) (b ∷ bytes)))) None ≡ Some pieces
    → IsCut (b ∷ bytes) pieces
cut_after most b bytes pieces false is later e = absurd cc
cut_after most b bytes pieces true is later e =
    let split = split_at (b ∷ bytes) (leb-true _ _ is) in
    let found = mapped_some (λ (ps : List (List ℕ)). take (command_length (b ∷ bytes)) (b ∷ bytes) ∷ ps) _ pieces e in
    let rest = later found.0 found.1 in
    subst (IsCut (b ∷ bytes)) (sym found.2)
    (record { each = (split.whole, rest.each); joined = split.parts ∙ ap (λ (r : List ℕ). take (command_length (b ∷ bytes)) (b ∷ bytes) ++ r) rest.joined })

no_pieces : (pieces : List (List ℕ)) → [] ≡ pieces → IsCut [] pieces
no_pieces [] e = record { each = tt; joined = refl }
no_pieces (p ∷ ps) e = absurd cc

is_cut_within : (most : ℕ) (bytes : List ℕ) (pieces : List (List ℕ)) → cut_within most bytes ≡ Some pieces → IsCut bytes pieces
unfolding cut_within
is_cut_within zero [] pieces e = no_pieces pieces cc
is_cut_within (suc most) [] pieces e = no_pieces pieces cc
is_cut_within zero (b ∷ bytes) pieces e = absurd cc
is_cut_within (suc most) (b ∷ bytes) pieces e =
    cut_after most b bytes pieces _ refl (λ ps found. is_cut_within most (drop (command_length (b ∷ bytes)) (b ∷ bytes)) ps found) e

pub cut_is_one : CutIsOne
cut_is_one = record {
  one = cut_one;
  found = λ bytes pieces. (cut_is bytes pieces, is_cut_within (length bytes) bytes pieces);
  first = cut_first;
  none = cut_none;
}
