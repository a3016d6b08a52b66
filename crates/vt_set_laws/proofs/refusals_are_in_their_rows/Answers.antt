use Rattle.vt_set_laws.proofs.BitsOfRefusals.{refusals_in_rows}
use Rattle.vt_set_laws.proofs.refusals_are_in_their_rows.Goals as goal

pub returns : goal.returns
returns c = refusals_in_rows
