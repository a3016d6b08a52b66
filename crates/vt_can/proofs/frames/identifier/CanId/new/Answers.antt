use Rattle.std.proofs.Common.{arith}
use Rattle.vt_can.proofs.lemmas.frames.Sums.{identifier_bits-raw, identifier_bits-parts, identifier_bits-small}
use Rattle.vt_can.proofs.frames.identifier.CanId.new.Goals as goal

pub invariant_of-result : goal.invariant_of-result
invariant_of-result c =
    let a = c.args in
    rw (c.from.ensures, c.from-2.ensures, c.from-3.ensures) (identifier_bits-small a.priority a.pgn a.destination a.source c.requires.priority c.requires.group (omega arith) (omega arith))

pub returns-clause-raw : goal.returns-clause-raw
returns-clause-raw c =
    let a = c.args in
    rw (c.from.ensures, c.from-2.ensures, c.from-3.ensures) (identifier_bits-raw a.priority a.pgn a.destination a.source c.requires.priority c.requires.group (omega arith) (omega arith))

pub returns-clause-parts : goal.returns-clause-parts
returns-clause-parts c =
    let a = c.args in
    rw (c.from.ensures, c.from-2.ensures, c.from-3.ensures) (identifier_bits-parts a.priority a.pgn a.destination a.source c.requires.priority c.requires.group (omega arith) (omega arith))
