use Rattle.vt_session.specs.Readings.{element_bytes}
use Rattle.vt_session.proofs.Written.{IsWriting}
use Rattle.vt_session.proofs.reading.write_elements.Given as goal

abbrev pub invariant-loop-element : goal.invariant-loop-element
invariant-loop-element l = IsWriting element_bytes l.element-items l.element-index l.text.items l.fn.text.items
