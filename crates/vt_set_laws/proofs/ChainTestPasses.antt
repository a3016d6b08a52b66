-- The test of chains passes, if no chain is too long.
use Rattle.std.proofs.Common.{◌≡◌, ◌≤◌, ℕ, zero, suc, Bool, true, false, ◌==◌, ◌&&◌, List, [], ◌∷◌, length, refl, arith}
use Rattle.std.specs.Prelude.{Contains}
use Rattle.std.specs.List.{list_all}
use Rattle.vt_stores.specs.Stores.{ObjectMap}
use Rattle.vt_chains.specs.Inclusions.{IsChain, IsShallow}
use Rattle.vt_chains.specs.Depths.{ids_of, inclusions_of}
use Rattle.vt_chains.specs.Limits.{terminal}
use Rattle.vt_effects.specs.Effects.{is_short, chains_are_short}
use Rattle.vt_chains.proofs.Elements.{Contains-head, Contains-tail}

no_elements : (xs : List ℕ) → ((b : ℕ) → Contains xs b → ⊥) → (length xs == 0) ≡ true
no_elements [] never = refl
no_elements (x ∷ xs) never = absurd (never x (Contains-head x xs))

both : (a b : Bool) → a ≡ true → b ≡ true → (a && b) ≡ true
both true b one other = other
both false b one other = absurd cc

all_pass : (test : ℕ → Bool) (xs : List ℕ) → ((b : ℕ) → Contains xs b → test b ≡ true) → list_all test xs ≡ true
all_pass test [] of = refl
all_pass test (x ∷ xs) of = both (test x) (list_all test xs) (of x (Contains-head x xs)) (all_pass test xs (λ b h. of b (Contains-tail x b xs h)))

short_from : (next : ℕ → List ℕ) (most id : ℕ) → ((rest : List ℕ) → IsChain next (id ∷ rest) → length rest ≤ most) → is_short most next id ≡ true
unfolding is_short
short_from next zero id short = no_elements (next id) (λ b h. omega (arith, short (b ∷ []) (h, tt)))
short_from next (suc most) id short =
    all_pass (is_short most next) (next id) (λ b h. short_from next most b (λ rest chain. let le = short (b ∷ rest) (h, chain) in omega (arith, le)))

pub short_by_shallow : (m : ObjectMap) → IsShallow terminal.inclusions (inclusions_of m) → chains_are_short m ≡ true
short_by_shallow m shallow =
    all_pass (is_short terminal.inclusions (inclusions_of m)) (ids_of m)
    (λ id h. short_from (inclusions_of m) 32 id (λ rest chain. let le = shallow (id ∷ rest) chain in omega (arith, le)))
