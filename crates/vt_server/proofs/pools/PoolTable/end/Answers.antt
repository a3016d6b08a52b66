use Rattle.std.proofs.Common.{None, [], sym, ap, ◌∙◌, subst, arith}
use Rattle.std.specs.Prelude.{slice_set}
use Rattle.vt_server.specs.message.Judgements.{IsJudgement, IsEnded}
use Rattle.vt_node.specs.AddressFunctions.{with_at}
use Rattle.vt_server.specs.state.PoolTables.{Kept, content_of}
use Rattle.vt_server.proofs.lemmas.message.RefusedUpload.{ends-refused}
use Rattle.vt_server.proofs.lemmas.state.WritesByAddress.{upload-written}
use Rattle.vt_server.proofs.pools.PoolTable.end.Goals as goal

pub returns-in-Refused : goal.returns-in-Refused
returns-in-Refused c =
    let old = c.args.self.now in
    let inside = c.self.inside in
    let new = content_of record { pools = inside.pools; transfers = slice_set inside.transfers c.from.result None } in
    subst (λ j. IsEnded (content_of old) c.args.address j c.in-Refused.reply new) (sym c.in-Refused.is)
    (ends-refused (content_of old) new c.args.address c.in-Refused.reply _ (subst (IsJudgement (content_of old c.args.address)) c.in-Refused.is c.requires)
    (upload-written inside.pools inside.transfers c.args.address c.from.result None c.from.ensures (omega (arith, c.self.invariant.transfers_each))
    ∙ ap (λ (k : Kept). with_at c.args.address (record (content_of k c.args.address) { transfer = [] }) (content_of k)) c.self.view_is))
