-- Loops over the commands of a macro's bytes, where each command adds a list.
use Rattle.std.proofs.Common.{◌≡◌, ℕ, ◌-◌, ◌≤◌, List, ◌++◌, length, sym, ap, ◌∙◌}
use Rattle.std.proofs.lemmas.List.{append_assoc, append-nil}
use Rattle.std.specs.Prelude.{IsTrue, is_some}
use Rattle.std.specs.List.{flat_map}
use Rattle.vt_commands.specs.Pieces.{cut, IsSplit, CutIsOne}
use Rattle.vt_verify.specs.Macros.{Piece, with_offsets, cut_or_none}
use Rattle.vt_verify.proofs.lemmas.macros.MacroBytes.{next_piece, no_piece}
use Rattle.vt_verify.proofs.lemmas.macros.CommandTests.{next_at}

module _ {A : Type 0} (adds : Piece → List A) (law : CutIsOne) (id : ℕ) (bytes rest : List ℕ) (whole : IsTrue (is_some (cut rest))) where
  pub put_piece : (all found new : List A) (piece next : List ℕ) → IsSplit rest piece next → length rest ≤ length bytes
      → found ++ flat_map adds (with_offsets id (length bytes - length rest) (cut_or_none rest)) ≡ all
      → new ≡ found ++ adds (record { id = id; at = length bytes - length rest; bytes = piece })
      → new ++ flat_map adds (with_offsets id (length bytes - length next) (cut_or_none next)) ≡ all
  put_piece all found new piece next split le left made =
      let at = length bytes - length rest in
      let part = adds (record { id = id; at = at; bytes = piece }) in
      ap (λ l. l ++ flat_map adds (with_offsets id (length bytes - length next) (cut_or_none next))) made
      ∙ append_assoc found part (flat_map adds (with_offsets id (length bytes - length next) (cut_or_none next)))
      ∙ ap (λ (k : ℕ). found ++ (part ++ flat_map adds (with_offsets id k (cut_or_none next)))) (sym (next_at bytes rest piece next split le))
      ∙ ap (λ (ps : List (List ℕ)). found ++ flat_map adds (with_offsets id at ps)) (sym (next_piece law rest piece next split whole))
      ∙ left

  pub put_none : (all found : List A) → ((piece next : List ℕ) → IsSplit rest piece next → ⊥)
      → found ++ flat_map adds (with_offsets id (length bytes - length rest) (cut_or_none rest)) ≡ all → found ≡ all
  put_none all found never left =
      sym (append-nil found)
      ∙ ap (λ (ps : List (List ℕ)). found ++ flat_map adds (with_offsets id (length bytes - length rest) ps)) (sym (no_piece law rest never whole))
      ∙ left
