use Rattle.vt_set_laws.proofs.OneFieldPerWrite.{attributes_written}
use Rattle.vt_set_laws.proofs.attributes_are_written.Goals as goal

pub returns : goal.returns
returns c = attributes_written c.changes_keep.ensures
