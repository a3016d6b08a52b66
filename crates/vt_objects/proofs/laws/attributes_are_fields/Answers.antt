use Rattle.vt_objects.proofs.OneFieldPerAttribute.{attributes_are}
use Rattle.vt_objects.proofs.laws.attributes_are_fields.Goals as goal

pub returns : goal.returns
returns c = attributes_are
