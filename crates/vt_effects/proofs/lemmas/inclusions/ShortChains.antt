-- All chains of a store are short after a command.
use Rattle.std.proofs.Common.{◌≡◌, ◌≤◌, ◌==◌, ⊎_elim, ℕ, zero, suc, true, List, [], ◌∷◌, length, Option, Some, None, refl, sym, subst, ◌∙◌, arith}
use Rattle.std.proofs.lemmas.Bool.{eqb-true}
use Rattle.std.proofs.lemmas.Option.{slice_get_within, get_or_from_slice_get}
use Rattle.std.proofs.lemmas.List.Elements.{All-contains}
use Rattle.std.proofs.lemmas.List.Sums.{AllPass-from_list_all}
use Rattle.std.specs.Prelude.{Contains}
use Rattle.std.specs.FinMap as finite
use Rattle.vt_commands.specs.declared.command.Command.{Command}
use Rattle.vt_kinds.specs.Records.{Seen}
use Rattle.vt_stores.specs.Stores.{ObjectMap}
use Rattle.vt_chains.specs.Inclusions.{IsChain, IsShallow}
use Rattle.vt_chains.specs.Limits.{terminal}
use Rattle.vt_chains.specs.Depths.{ids_of, inclusions_of}
use Rattle.vt_chains.proofs.Elements.{Contains-nil}
use Rattle.vt_chains.proofs.InclusionsInStore.{index_of}
use Rattle.vt_effects.specs.declared.replacements.Replacement.{Replacement}
use Rattle.vt_effects.specs.Effects.{is_short, chains_are_short}
use Rattle.vt_effects.specs.Replacements.{replacement_by, new_id_fits}
use Rattle.vt_effects.proofs.lemmas.stores.OneChangedObject.{second_of}
use Rattle.vt_effects.proofs.lemmas.stores.ObjectBeforeAndAfter.{Made}
use Rattle.vt_effects.proofs.lemmas.stores.IdReplacements.{parts_of}
use Rattle.vt_effects.proofs.lemmas.inclusions.NewInclusions.{inclusions_after, none_added}

-- ---- the test of chains passes only if the chains are short

short_chain : (next : ℕ → List ℕ) (most id : ℕ) (rest : List ℕ) → is_short most next id ≡ true → IsChain next (id ∷ rest) → length rest ≤ most
unfolding is_short
short_chain next most id [] short chain = omega arith
short_chain next zero id (b ∷ rest) short chain = absurd (nothing (next id) short chain.0)
  where
    nothing : (xs : List ℕ) → (length xs == 0) ≡ true → Contains xs b → ⊥
    nothing [] none h = Contains-nil b h
    nothing (x ∷ xs) none h = omega (arith, eqb-true (length (x ∷ xs)) 0 none)
short_chain next (suc most) id (b ∷ rest) short chain =
    let all = AllPass-from_list_all (is_short most next) (next id) short in
    let fewer : length rest ≤ most = short_chain next most b rest (All-contains (λ (x : ℕ). is_short most next x ≡ true) (next id) b all chain.0) chain.1 in
    omega (arith, fewer)

pub shallow_by_test : (m : ObjectMap) → chains_are_short m ≡ true → IsShallow terminal.inclusions (inclusions_of m)
shallow_by_test m short [] chain = omega arith
shallow_by_test m short (id ∷ []) chain = omega arith
shallow_by_test m short (id ∷ b ∷ rest) chain =
    let at = index_of (finite.entries m) id b chain.0 in
    let first : is_short terminal.inclusions (inclusions_of m) id ≡ true =
    subst (λ (i : ℕ). is_short terminal.inclusions (inclusions_of m) i ≡ true) (get_or_from_slice_get (ids_of m) at.0 id id at.1)
    (AllPass-from_list_all (is_short terminal.inclusions (inclusions_of m)) (ids_of m) short at.0 id (slice_get_within (ids_of m) at.0 id at.1)) in
    let fewer : length (b ∷ rest) ≤ 32 = short_chain (inclusions_of m) 32 id (b ∷ rest) first chain in
    omega (arith, fewer)

-- ---- fewer inclusions make fewer chains

pub fewer_chains : (next less : ℕ → List ℕ) → ((q x : ℕ) → Contains (less q) x → Contains (next q) x) → (chain : List ℕ) → IsChain less chain → IsChain next chain
fewer_chains next less of [] is = tt
fewer_chains next less of (a ∷ []) is = tt
fewer_chains next less of (a ∷ b ∷ rest) is = (of a b is.0, fewer_chains next less of (b ∷ rest) is.1)

-- the chains are short afterwards: they were tested, or no inclusion was added
pub shallow_after : (m : ObjectMap) (id : ℕ) (old new : Seen) (command : Command) → Made m id old new command → IsShallow terminal.inclusions (inclusions_of m)
    → IsShallow terminal.inclusions (inclusions_of (finite.insert m id new))
shallow_after m id old new command c shallow = by (replacement_by m command) refl
  where
    by : (r : Option Replacement) → replacement_by m command ≡ r → IsShallow terminal.inclusions (inclusions_of (finite.insert m id new))
    by (Some r) is =
        shallow_by_test (finite.insert m id new) (second_of (new_id_fits m command) _ (sym ((parts_of m command r is).order (finite.insert m id new)) ∙ c.kept))
    by None is = λ chain in_new. shallow chain
        (fewer_chains (inclusions_of m) (inclusions_of (finite.insert m id new))
        (λ q x h. ⊎_elim (λ there. there) (λ more. absurd (none_added m id old new command c.change is x more.1)) (inclusions_after m id old new command c.change q x h))
        chain in_new)
