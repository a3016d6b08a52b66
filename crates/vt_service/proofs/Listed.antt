-- Lists of which each entry is told by one value.
use Rattle.std.proofs.Common.{◌≡◌, ℕ, ◌+◌, ◌<◌, List, [], ◌∷◌, ◌++◌, drop, get_or, length, map, Some, sym, ap, ◌∙◌}
use Rattle.std.specs.Prelude.{slice_get}
use Rattle.std.proofs.lemmas.List.{append_assoc, drop_more, map-append}
use Rattle.std.proofs.lemmas.Option.{slice_get-get_or, slice_get_within, get_or_from_slice_get}
use Rattle.serde_json.specs.Data.{Data}

module _ {V E : Type 0} (view : V → Data) (told : E → Data) where
  -- what is told so far, and what is still to come
  abbrev pub IsTelling : List E → ℕ → List V → Type 0
  IsTelling all i values = map view values ++ map told (drop i all) ≡ map told all

  pub next_told : (all : List E) (i : ℕ) (entry : E) (value : V) (before after : List V) → slice_get all i ≡ Some entry
      → after ≡ before ++ value ∷ [] → view value ≡ told entry → IsTelling all i before → IsTelling all (i + 1) after
  next_told all i entry value before after here pushed is left =
      let rest = map told (drop (i + 1) all) in
      let next : drop i all ≡ entry ∷ drop (i + 1) all =
      drop_more all i entry (slice_get_within all i entry here) ∙ ap (λ (e : E). e ∷ drop (i + 1) all) (get_or_from_slice_get all i entry entry here) in
      ap (λ (l : List V). map view l ++ rest) pushed
      ∙ ap (λ (l : List Data). l ++ rest) (map-append view before (value ∷ []))
      ∙ append_assoc (map view before) (view value ∷ []) rest
      ∙ ap (λ (d : Data). map view before ++ d ∷ rest) is
      ∙ ap (λ (l : List E). map view before ++ map told l) (sym next) ∙ left

  pub next_entry : (all : List E) (i : ℕ) (entry default : E) (value : V) (before after : List V) → i < length all → get_or all i default ≡ entry
      → after ≡ before ++ value ∷ [] → view value ≡ told entry → IsTelling all i before → IsTelling all (i + 1) after
  next_entry all i entry default value before after within is pushed seen left =
      next_told all i entry value before after (slice_get-get_or all i default within ∙ ap (λ (e : E). Some e) is) pushed seen left
