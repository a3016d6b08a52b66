use Rattle.std.proofs.Common.{◌≡◌, map, drop}
use Rattle.std.specs.Prelude.{◌==◌}
use Rattle.std.specs.List.{list_any}
use Rattle.vt_kinds.specs.Kinds.{kind_number}
use Rattle.vt_kinds.specs.Records.{kind_of}
use Rattle.vt_stores.specs.Stores.{seen_entry}
use Rattle.check_needs.specs.Needs.{has_kind}
use Rattle.check_needs.proofs.needs.has_kind.Given as goal

abbrev pub invariant-loop-object : goal.invariant-loop-object
invariant-loop-object l =
    (map seen_entry l.object-items ≡ l.objects)
    × (has_kind l.objects l.kind ≡ list_any (λ e. kind_number (kind_of e.1) == kind_number l.kind) (map seen_entry (drop l.object-index l.object-items)))
