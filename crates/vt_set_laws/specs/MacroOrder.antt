-- The order of a pool's macros (docs/PROFILE.md, "Triggers and circles").
use Rattle.std.specs.Prelude.{◌≡◌, ℕ, List, ◌∷◌, ◌++◌, Contains}
use Rattle.vt_chains.specs.Limits.{terminal}
use Rattle.vt_stores.specs.Shapes.{shape_of}
use Rattle.vt_stores.specs.Stores.{Objects}
use Rattle.vt_verify.specs.Orders.{IsByRank}
use Rattle.vt_verify.specs.Rules.{IsAcceptable}
use Rattle.vt_verify.specs.Triggers.{triggered}

-- Each macro that a macro of the order triggers is in the order too, before it.
abbrev pub TriggeredStandBefore : Type 0
TriggeredStandBefore = (pool : Objects) (order front back : List ℕ) (m n : ℕ) → IsAcceptable terminal pool → IsByRank (shape_of pool) order
    → order ≡ front ++ m ∷ back → Contains (triggered (shape_of pool) m) n → Contains front n
