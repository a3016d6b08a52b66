-- The first time at which a set is silent.
use Rattle.std.proofs.Common.{◌≡◌, ℕ, ◌⊎◌, inl, inr, suc, Bool, true, false, cond, is_some, List, [], ◌∷◌, drop, Option, Some, None, refl, sym, subst}
use Rattle.std.proofs.lemmas.Bool.{false≢true}
use Rattle.std.specs.List.{slice_get}
use Rattle.vt_can.specs.transport.FirstTimes.{IsFirstTime, earlier}
use Rattle.vt_can.proofs.lemmas.transport.FirstTimes.{first_same, first_either, first_never}
use Rattle.vt_names.specs.Registry.{Set}
use Rattle.vt_node.specs.Watches.{is_silent, first_silent_of, SomeSilent}
use Rattle.vt_node.proofs.RestOfList.{dropped}

pub no_set_silent : (heard : ℕ → Option ℕ) → IsFirstTime (SomeSilent heard []) None
no_set_silent heard = first_never (SomeSilent heard []) (λ now is. false≢true is)

module _ (heard : ℕ → Option ℕ) (set : Set) (sets : List Set) (now : ℕ) where
  some_in : (b : Bool) → is_silent now (heard set.address) ≡ b → SomeSilent heard sets now ⊎ (b ≡ true)
      → is_some (cond b (Some set.address) (first_silent_of now heard sets)) ≡ true
  some_in true is some = refl
  some_in false is (inl rest) = rest
  some_in false is (inr same) = absurd (false≢true same)

  some_out : (b : Bool) → is_some (cond b (Some set.address) (first_silent_of now heard sets)) ≡ true → SomeSilent heard sets now ⊎ (b ≡ true)
  some_out true is = inr refl
  some_out false is = inl is

  to_all : SomeSilent heard sets now ⊎ (is_silent now (heard set.address) ≡ true) → SomeSilent heard (set ∷ sets) now
  to_all some = some_in (is_silent now (heard set.address)) refl some

  from_all : SomeSilent heard (set ∷ sets) now → SomeSilent heard sets now ⊎ (is_silent now (heard set.address) ≡ true)
  from_all is = some_out (is_silent now (heard set.address)) is

first_of_sets : (heard : ℕ → Option ℕ) (set : Set) (sets : List Set) (a b : Option ℕ) → IsFirstTime (SomeSilent heard sets) a
    → IsFirstTime (λ now. is_silent now (heard set.address) ≡ true) b → IsFirstTime (SomeSilent heard (set ∷ sets)) (earlier a b)
first_of_sets heard set sets a b rest own =
    first_same (λ now. SomeSilent heard sets now ⊎ (is_silent now (heard set.address) ≡ true)) (SomeSilent heard (set ∷ sets)) (earlier a b)
    (to_all heard set sets) (from_all heard set sets)
    (first_either (SomeSilent heard sets) (λ now. is_silent now (heard set.address) ≡ true) a b rest own)

-- the sets from an index on, by the set there and those after it
pub first_from : (heard : ℕ → Option ℕ) (sets : List Set) (place : ℕ) (set : Set) (address : ℕ) (a b : Option ℕ) → slice_get sets place ≡ Some set → address ≡ set.address
    → IsFirstTime (SomeSilent heard (drop (suc place) sets)) a → IsFirstTime (λ now. is_silent now (heard address) ≡ true) b
    → IsFirstTime (SomeSilent heard (drop place sets)) (earlier a b)
first_from heard sets place set address a b there same rest own =
    subst (λ (xs : List Set). IsFirstTime (SomeSilent heard xs) (earlier a b)) (sym (dropped sets place set there))
    (first_of_sets heard set (drop (suc place) sets) a b rest (subst (λ (q : ℕ). IsFirstTime (λ now. is_silent now (heard q) ≡ true) b) same own))
