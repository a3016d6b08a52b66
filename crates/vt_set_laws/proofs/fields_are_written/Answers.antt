use Rattle.vt_set_laws.proofs.FieldsPerCommand.{fields_written}
use Rattle.vt_set_laws.proofs.fields_are_written.Goals as goal

pub returns : goal.returns
returns c = fields_written c.attributes_are_fields.ensures
