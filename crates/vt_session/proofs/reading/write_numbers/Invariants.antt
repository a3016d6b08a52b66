use Rattle.byteorder.specs.Endian.{little_bytes}
use Rattle.vt_session.proofs.Written.{IsWriting}
use Rattle.vt_session.proofs.reading.write_numbers.Given as goal

abbrev pub invariant-loop-number : goal.invariant-loop-number
invariant-loop-number l = IsWriting (little_bytes 4) l.numbers l.number-index l.text.items l.fn.text.items
