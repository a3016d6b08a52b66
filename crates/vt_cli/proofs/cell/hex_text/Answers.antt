use Rattle.std.proofs.Common.{true, arith}
use Rattle.std.proofs.lemmas.Fmt.{hex_byte}
use Rattle.vt_cli.proofs.cell.hex_text.Goals as goal

pub returns : goal.returns
returns c = rw (← hex_byte true c.args.byte (omega arith)) (rw (c.in_radix.ensures, c.laid_out.ensures) at c.format.ensures.ok)
