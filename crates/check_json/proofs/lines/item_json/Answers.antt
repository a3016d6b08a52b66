use Rattle.std.proofs.Common.{◌≤◌, Some, sym, ap, subst, ◌∙◌}
use Rattle.std.proofs.lemmas.Result.{IfOk-weaker}
use Rattle.serde_json.specs.Data.{Data, depth}
use Rattle.check_json.specs.Json.{line_data, head_of, details_of}
use Rattle.check_json.proofs.Depths.{details_depth, line_depth}
use Rattle.check_json.proofs.lines.item_json.Goals as goal

pub returns : goal.returns
returns c =
    let head = head_of c.args.message.now in
    let is = c.in_ok-value.ensures ∙ ap (line_data (head_of c.args.message.now)) c.in_ok-details.ensures in
    let deep = line_depth (head_of c.args.message.now) (details_of c.args.source.now c.args.item) (details_depth c.args.source.now c.args.item) in
    record {
      reads_back = IfOk-weaker c.to_string.result _ _
          (λ line h. h (subst (λ (d : Data). depth d ≤ 127) (sym is) deep) ∙ ap Some is) c.to_string.ensures.reads_back;
    }
