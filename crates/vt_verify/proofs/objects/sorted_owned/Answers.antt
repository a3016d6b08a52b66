use Rattle.std.proofs.Common.{ap, ◌∙◌}
use Rattle.vt_stores.specs.Stores.{by_rising_id}
use Rattle.vt_verify.proofs.lemmas.stores.DistinctIds.{named_of}
use Rattle.vt_verify.proofs.objects.sorted_owned.Goals as goal

pub from_vec-requires : goal.from_vec-requires
from_vec-requires c = rw c.in_ok-entries.ensures.entries (named_of c.args.pool c.in_ok-entries.ensures.each)

pub returns : goal.returns
returns c = record {
  made = c.in_ok-objects.ensures.made ∙ ap by_rising_id c.in_ok-entries.ensures.entries;
  stored = c.in_ok-objects.ensures.stored;
}
