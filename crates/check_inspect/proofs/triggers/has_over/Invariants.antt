use Rattle.std.proofs.Common.{◌≡◌, drop}
use Rattle.std.specs.Prelude.{nat_lt, slice_index}
use Rattle.std.specs.List.{list_any}
use Rattle.vt_chains.specs.Limits.{terminal}
use Rattle.check_inspect.proofs.triggers.has_over.Given as goal

abbrev pub invariant-loop-id : goal.invariant-loop-id
invariant-loop-id l =
    list_any (λ m. nat_lt terminal.steps (slice_index l.costs m)) l.macros
    ≡ list_any (λ m. nat_lt terminal.steps (slice_index l.costs m)) (drop l.id-index l.macros)
