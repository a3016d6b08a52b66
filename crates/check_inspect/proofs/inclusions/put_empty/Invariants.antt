use Rattle.std.proofs.Common.{◌≡◌, ◌++◌, drop, map}
use Rattle.vt_stores.specs.Stores.{seen_entry}
use Rattle.check_inspect.specs.Missing.{empty_at}
use Rattle.check_inspect.proofs.inclusions.put_empty.Given as goal

abbrev pub invariant-loop-place : goal.invariant-loop-place
invariant-loop-place l =
    map seen_entry l.entries.items ++ map empty_at (drop l.place l.ids.keys) ≡ map seen_entry l.fn.entries.items ++ map empty_at l.ids.keys
