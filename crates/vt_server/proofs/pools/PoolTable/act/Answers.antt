use Rattle.std.proofs.Common.{◌<◌, get_or, length, Some, None, sym, ap, subst, ◌∙◌, arith}
use Rattle.std.proofs.lemmas.List.{get_or_default}
use Rattle.vt_can.specs.lines.Actions.{action_value}
use Rattle.vt_server.specs.operator.ActionContracts.{PerformsAt}
use Rattle.vt_node.specs.AddressFunctions.{with_at}
use Rattle.vt_server.specs.state.PoolTables.{Kept, content_of}
use Rattle.vt_server.proofs.lemmas.operator.ActionStep.{performed-at, pools-written}
use Rattle.vt_server.proofs.pools.PoolTable.act.Goals as goal

pub returns : goal.returns
returns c =
    let a = c.args.address in
    let pools = c.self.inside.pools in
    let live = c.act.new.self in
    let within : a < length pools = omega (arith, c.self.invariant.pools_each) in
    record {
      pool = Some live;
      performs =
          subst (λ (k : Kept). PerformsAt (get_or k.pools a None) (action_value c.args.action.now) c.act.result (Some live)) c.self.view_is
          (performed-at (get_or pools a None) c.in-Some.held live (action_value c.args.action.now) c.act.result
          (get_or_default pools a None c.index-self-from.result within ∙ ap (λ k. get_or pools k c.index-self-from.result) (sym c.from.ensures) ∙ c.in-Some.is)
          c.act.ensures);
      content =
          pools-written pools c.self.inside.transfers a c.from.result (Some live) c.from.ensures within
          ∙ ap (λ (k : Kept). with_at a (record (content_of k a) { pool = Some live }) (content_of k)) c.self.view_is;
    }
