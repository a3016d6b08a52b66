-- The macro commands of a macro's bytes, tested one after the other.
use Rattle.std.proofs.Common.{◌≡◌, ℕ, ◌+◌, ◌-◌, ◌≤◌, Bool, true, false, cond, List, ◌∷◌, length, Some, refl, ap, ◌∙◌, arith}
use Rattle.std.proofs.lemmas.List.{length-append}
use Rattle.vt_commands.specs.Pieces.{IsSplit}
use Rattle.vt_verify.specs.declared.macros.PieceTest.{PieceTest}
use Rattle.vt_verify.specs.declared.macros.PieceTest.TheVariants.{IsAllowed, HasAttribute}
use Rattle.vt_verify.specs.Lists.{first_failing}
use Rattle.vt_stores.specs.Shapes.{Shape}
use Rattle.vt_verify.specs.Macros.{with_offsets, cut_or_none}
use Rattle.vt_verify.specs.Targets.{piece_passes}

-- a test depends on the bytes alone
same_test : (t : PieceTest) (shape : Shape) (id at : ℕ) (bytes : List ℕ)
    → piece_passes t shape (record { id = id; at = at; bytes = bytes }) ≡ piece_passes t shape (record { id = 0; at = 0; bytes = bytes })
same_test IsAllowed shape id at bytes = refl
same_test HasAttribute shape id at bytes = refl

pub fails_here : (t : PieceTest) (shape : Shape) (id at : ℕ) (rest piece : List ℕ) (ps : List (List ℕ)) → cut_or_none rest ≡ piece ∷ ps
    → piece_passes t shape (record { id = 0; at = 0; bytes = piece }) ≡ false
    → first_failing (piece_passes t shape) (with_offsets id at (cut_or_none rest)) ≡ Some (record { id = id; at = at; bytes = piece })
fails_here t shape id at rest piece ps is fails =
    ap (λ (pieces : List (List ℕ)). first_failing (piece_passes t shape) (with_offsets id at pieces)) is
    ∙ ap (λ (b : Bool). cond b (first_failing (piece_passes t shape) (with_offsets id (at + length piece) ps)) (Some (record { id = id; at = at; bytes = piece })))
    (same_test t shape id at piece ∙ fails)

pub passes_here : (t : PieceTest) (shape : Shape) (id at : ℕ) (rest piece : List ℕ) (ps : List (List ℕ)) → cut_or_none rest ≡ piece ∷ ps
    → piece_passes t shape (record { id = 0; at = 0; bytes = piece }) ≡ true
    → first_failing (piece_passes t shape) (with_offsets id at (cut_or_none rest)) ≡ first_failing (piece_passes t shape) (with_offsets id (at + length piece) ps)
passes_here t shape id at rest piece ps is passes =
    ap (λ (pieces : List (List ℕ)). first_failing (piece_passes t shape) (with_offsets id at pieces)) is
    ∙ ap (λ (b : Bool). cond b (first_failing (piece_passes t shape) (with_offsets id (at + length piece) ps)) (Some (record { id = id; at = at; bytes = piece })))
    (same_test t shape id at piece ∙ passes)

-- the offset of the next macro command
pub next_at : (bytes rest piece next : List ℕ) → IsSplit rest piece next → length rest ≤ length bytes
    → (length bytes - length rest) + length piece ≡ length bytes - length next
next_at bytes rest piece next split le =
    let all = ap length split.parts in
    let sum = length-append piece next in
    omega arith

pub shorter : (bytes rest piece next : List ℕ) → IsSplit rest piece next → length rest ≤ length bytes → length next ≤ length bytes
shorter bytes rest piece next split le =
    let all = ap length split.parts in
    let sum = length-append piece next in
    omega arith
