use Rattle.std.proofs.Common.{length, ap, arith}
use Rattle.vt_can.proofs.lemmas.lines.WrittenDigits.{seconds-short}
use Rattle.vt_can.proofs.lines.write.write_line.Goals as goal

pub push_decimal-requires : goal.push_decimal-requires
push_decimal-requires c =
    let short = seconds-short c.args.time c.requires in
    let empty = ap length c.new-text.ensures in
    omega arith

pub push-requires-2 : goal.push-requires-2
push-requires-2 c =
    let short = seconds-short c.args.time c.requires in
    let empty = ap length c.new-text.ensures in
    (omega arith, omega arith)

pub push_lowest-requires : goal.push_lowest-requires
push_lowest-requires c =
    let short = seconds-short c.args.time c.requires in
    let empty = ap length c.new-text.ensures in
    omega arith

pub push_all-requires : goal.push_all-requires
push_all-requires c =
    let short = seconds-short c.args.time c.requires in
    let empty = ap length c.new-text.ensures in
    omega arith

pub push_all-requires-2 : goal.push_all-requires-2
push_all-requires-2 c =
    let short = seconds-short c.args.time c.requires in
    let empty = ap length c.new-text.ensures in
    let fits = c.as_slice.ensures.fits in
    omega arith
