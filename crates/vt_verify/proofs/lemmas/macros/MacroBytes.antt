-- The bytes of a macro, cut command by command.
use Rattle.std.proofs.Common.{◌≡◌, ℕ, eqb, List, [], ◌∷◌, ◌++◌, length, Option, Some, None, refl, sym, ap, ◌∙◌, arith}
use Rattle.std.proofs.lemmas.Bool.{ne_eqb}
use Rattle.std.specs.Prelude.{is_some, IsTrue}
use Rattle.std.specs.Option.{option_map, option_to_list}
use Rattle.std.specs.List.{flat_map}
use Rattle.vt_commands.specs.Pieces.{cut, cut_within, IsSplit, CutIsOne}
use Rattle.vt_verify.specs.Macros.{cut_or_none, macro_command, commands_of}

pub some_mapped : {A B : Type 0} (f : A → B) (x : Option A) → is_some (option_map f x) ≡ is_some x
some_mapped f None = refl
some_mapped f (Some x) = refl

pub whole_rest : CutIsOne → (bytes piece rest : List ℕ) → IsSplit bytes piece rest → is_some (cut bytes) ≡ is_some (cut rest)
whole_rest law bytes piece rest split =
    ap is_some (law.first bytes piece rest split) ∙ some_mapped (λ (pieces : List (List ℕ)). piece ∷ pieces) (cut rest)

-- the bytes are whole exactly if none remain when no further command can be cut
pub whole_end : CutIsOne → (rest : List ℕ) → ((piece next : List ℕ) → IsSplit rest piece next → ⊥) → eqb (length rest) 0 ≡ is_some (cut rest)
unfolding cut_within
whole_end law [] never = refl
whole_end law (b ∷ rest) never = ne_eqb (length (b ∷ rest)) 0 (λ e. absurd (omega (arith, e))) ∙ sym (ap is_some (law.none (b ∷ rest) (omega arith) never))

-- ---- the commands of whole bytes

pieces_case : (piece : List ℕ) (found : Option (List (List ℕ))) → IsTrue (is_some found)
    → flat_map (λ pieces. pieces) (option_to_list (option_map (λ pieces. piece ∷ pieces) found)) ≡ piece ∷ flat_map (λ pieces. pieces) (option_to_list found)
pieces_case piece None is = absurd cc
pieces_case piece (Some pieces) is = refl

pub rest_is_whole : CutIsOne → (bytes piece rest : List ℕ) → IsSplit bytes piece rest → IsTrue (is_some (cut bytes)) → IsTrue (is_some (cut rest))
rest_is_whole law bytes piece rest split whole = sym (whole_rest law bytes piece rest split) ∙ whole

pub next_piece : CutIsOne → (bytes piece rest : List ℕ) → IsSplit bytes piece rest → IsTrue (is_some (cut bytes)) → cut_or_none bytes ≡ piece ∷ cut_or_none rest
unfolding cut_or_none
next_piece law bytes piece rest split whole =
    ap (λ (found : Option (List (List ℕ))). flat_map (λ pieces. pieces) (option_to_list found)) (law.first bytes piece rest split)
    ∙ pieces_case piece (cut rest) (rest_is_whole law bytes piece rest split whole)

no_pieces_case : (found : Option (List (List ℕ))) → found ≡ None → IsTrue (is_some found) → ⊥
no_pieces_case None is whole = absurd cc
no_pieces_case (Some pieces) is whole = absurd cc

-- whole bytes have no commands, if none can be cut from them
pub no_piece : CutIsOne → (rest : List ℕ) → ((piece next : List ℕ) → IsSplit rest piece next → ⊥) → IsTrue (is_some (cut rest)) → cut_or_none rest ≡ []
unfolding cut_or_none cut_within
no_piece law [] never whole = refl
no_piece law (b ∷ rest) never whole = absurd (no_pieces_case _ (law.none (b ∷ rest) (omega arith) never) whole)

-- ---- the commands read from the bytes

pub next_command : CutIsOne → (bytes piece rest : List ℕ) → IsSplit bytes piece rest → IsTrue (is_some (cut bytes))
    → commands_of bytes ≡ option_to_list (macro_command piece) ++ commands_of rest
unfolding commands_of
next_command law bytes piece rest split whole =
    ap (λ (pieces : List (List ℕ)). flat_map (λ piece. option_to_list (macro_command piece)) pieces) (next_piece law bytes piece rest split whole)

pub no_command : CutIsOne → (rest : List ℕ) → ((piece next : List ℕ) → IsSplit rest piece next → ⊥) → IsTrue (is_some (cut rest)) → commands_of rest ≡ []
unfolding commands_of
no_command law rest never whole =
    ap (λ (pieces : List (List ℕ)). flat_map (λ piece. option_to_list (macro_command piece)) pieces) (no_piece law rest never whole)
