use Rattle.std.proofs.Common.{None, ap, ◌∙◌, arith}
use Rattle.vt_server.specs.state.AddressStates.{no_content}
use Rattle.vt_node.specs.AddressFunctions.{with_at}
use Rattle.vt_server.specs.state.PoolTables.{Kept, content_of}
use Rattle.vt_server.proofs.lemmas.state.PoolTableInvariant.{kept-removed}
use Rattle.vt_server.proofs.lemmas.state.WritesByAddress.{contents-written}
use Rattle.vt_server.proofs.pools.PoolTable.remove.Goals as goal

pub invariant_of-self : goal.invariant_of-self
invariant_of-self c = kept-removed _ _ _ c.self.invariant _ _ _ (omega arith)

pub returns-clause-content : goal.returns-clause-content
returns-clause-content c =
    contents-written c.self.inside.pools c.self.inside.transfers c.args.address c.from.result c.from-2.result None None
    c.from.ensures c.from-2.ensures (omega (arith, c.self.invariant.pools_each)) (omega (arith, c.self.invariant.transfers_each))
    ∙ ap (λ (k : Kept). with_at c.args.address no_content (content_of k)) c.self.view_is
