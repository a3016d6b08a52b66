use Rattle.std.proofs.Common.{◌∙◌, ◌++◌, sym, ap}
use Rattle.std.specs.Option.{option_map}
use Rattle.vt_layout.specs.Lines.{quoted}
use Rattle.vt_layout.proofs.EntriesOnPage.{quoted_whole, when_ok}
use Rattle.vt_layout.proofs.texts.write_quoted.Goals as goal

pub returns : goal.returns
returns c =
    when_ok c.extend_from_slice-2.result _ _ _ c.extend_from_slice-2.ensures.items
    (λ last. quoted_whole c.extend_from_slice-2.new.self.items c.args.text.now.items c.loop-byte.text.items c.in-Some.bytes.now c.loop-byte.byte-index c.min.result c.min.ensures
    c.loop-byte.invariant c.loop-byte-test.false last
    ∙ ap (λ bytes. c.args.text.now.items ++ quoted (option_map (λ b. b.now) bytes)) (sym c.in-Some.is))
