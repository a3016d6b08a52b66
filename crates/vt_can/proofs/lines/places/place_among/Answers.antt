use Rattle.std.proofs.Common.{sym, ◌∙◌}
use Rattle.vt_can.proofs.lemmas.lines.Places.{first-among, marks-made, none-among}
use Rattle.vt_can.proofs.lines.places.place_among.Goals as goal

pub returns-then-marks-eq0 : goal.returns-then-marks-eq0
returns-then-marks-eq0 c =
    let made = marks-made c.args.byte c.args.from c.args.text.now c.requires.within in
    none-among c.args.byte c.args.from c.args.text.now c.requires.within c.requires.before (sym made ∙ c.if-marks-eq0.true)

pub returns : goal.returns
returns c =
    let made = marks-made c.args.byte c.args.from c.args.text.now c.requires.within in
    rw made (first-among c.args.byte c.args.from c.args.text.now c.requires.within c.requires.before (λ none. c.if-marks-eq0.false (made ∙ none)))
