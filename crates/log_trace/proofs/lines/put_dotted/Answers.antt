use Rattle.std.proofs.Common.{◌∙◌, ◌++◌, ap, sym}
use Rattle.log_trace.proofs.PlainLines.{dotted_stays}
use Rattle.log_trace.proofs.lines.put_dotted.Goals as goal

pub returns-then-not-has_control : goal.returns-then-not-has_control
returns-then-not-has_control c =
    c.in_ok-extend_from_slice.ensures.items
    ∙ ap (λ added. c.args.text.now.items ++ added) (sym (dotted_stays c.args.shown.now (sym c.has_control.ensures ∙ c.if-not-has_control.true)))
