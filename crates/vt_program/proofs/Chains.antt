-- Clap's conditions on the arguments of the program, under which FILE has a value.
use Rattle.std.proofs.Common.{◌≡◌, ◌<◌, ◌∙◌, ◌==◌, ℕ, zero, suc, [], ◌∷◌, false, sym, ap, inl, inr, codes, slice_index, if◌then◌else◌, arith}
use Rattle.std.specs.List.{All, slice_index_or}
use Rattle.std.proofs.lemmas.Slice.Eq.{bytes_eq-Decides}
use Rattle.clap.specs.Words.{IsPlainArg, Text}
use Rattle.clap.specs.Built.{FitsChain, HasDistinctIds}
use Rattle.clap.specs.declared.builder.arg.Arg.{Arg}

-- An argument fits where the first byte of its ID shows that the ID is neither empty nor one of the flags that clap adds.
pub fits_chain : (a : Arg) (id : Text) → a.id.now ≡ id → IsPlainArg a → a.global ≡ false
    → (slice_index id 0 ≡ 0 → ⊥) → (slice_index id 0 ≡ 104 → ⊥) → (slice_index id 0 ≡ 118 → ⊥) → FitsChain a
fits_chain a id named plain local some no_help no_version = (
  plain,
  local,
  λ e. some (ap (λ (t : Text). slice_index t 0) (sym named ∙ e)),
  λ auto. elim auto [
    | inl e ↦ no_help (ap (λ (t : Text). slice_index t 0) (sym named ∙ e))
    | inr e ↦ no_version (ap (λ (t : Text). slice_index t 0) (sym named ∙ e))
  ],
)

-- The index of each ID, by its first byte, and by the fourth for the two IDs with the same first byte.
abbrev place : Text → ℕ
place id =
    if slice_index id 0 == 70 then 0 else (if slice_index id 0 == 110 then 2 else (if slice_index id 0 == 112 then 3
    else (if slice_index id 0 == 114 then 5 else (if slice_index id 3 == 101 then 4 else 1))))

module _ (file own name pool owner report : Arg) (is_file : file.id.now ≡ codes "FILE") (is_own : own.id.now ≡ codes "own")
    (is_name : name.id.now ≡ codes "name") (is_pool : pool.id.now ≡ codes "pool") (is_owner : owner.id.now ≡ codes "owner")
    (is_report : report.id.now ≡ codes "report") where
  place_at : (k : ℕ) (d : Arg) → k < 6 → place (slice_index_or (file ∷ own ∷ name ∷ pool ∷ owner ∷ report ∷ []) k d).id.now ≡ k
  place_at zero d low = ap place is_file
  place_at (suc zero) d low = ap place is_own
  place_at (suc (suc zero)) d low = ap place is_name
  place_at (suc (suc (suc zero))) d low = ap place is_pool
  place_at (suc (suc (suc (suc zero)))) d low = ap place is_owner
  place_at (suc (suc (suc (suc (suc zero))))) d low = ap place is_report
  place_at (suc (suc (suc (suc (suc (suc k)))))) d low = absurd (omega arith)

  pub six_ids : HasDistinctIds (file ∷ own ∷ name ∷ pool ∷ owner ∷ report ∷ [])
  six_ids j k d e low high same =
      let t = (slice_index_or (file ∷ own ∷ name ∷ pool ∷ owner ∷ report ∷ []) j e).id.now in
      let u = (slice_index_or (file ∷ own ∷ name ∷ pool ∷ owner ∷ report ∷ []) k d).id.now in
      let equal : t ≡ u = (bytes_eq-Decides t u).0 same in
      sym (place_at j e low) ∙ ap place equal ∙ place_at k d high

  pub six_fit : FitsChain file → FitsChain own → FitsChain name → FitsChain pool → FitsChain owner → FitsChain report
      → All FitsChain (file ∷ own ∷ name ∷ pool ∷ owner ∷ report ∷ [])
  six_fit a b n c e r zero d low = a
  six_fit a b n c e r (suc zero) d low = b
  six_fit a b n c e r (suc (suc zero)) d low = n
  six_fit a b n c e r (suc (suc (suc zero))) d low = c
  six_fit a b n c e r (suc (suc (suc (suc zero)))) d low = e
  six_fit a b n c e r (suc (suc (suc (suc (suc zero))))) d low = r
  six_fit a b n c e r (suc (suc (suc (suc (suc (suc k)))))) d low = absurd (omega arith)
