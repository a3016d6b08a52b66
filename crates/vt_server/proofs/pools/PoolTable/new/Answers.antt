use Rattle.std.proofs.Common.{None}
use Rattle.vt_server.specs.state.PoolTables.{bytes_arrived}
use Rattle.vt_node.proofs.ByAddress.{all-default}
use Rattle.vt_server.proofs.pools.PoolTable.new.Goals as goal

pub invariant_of-result : goal.invariant_of-result
invariant_of-result c = record {
  pools_each = c.default.ensures.long;
  transfers_each = c.default-2.ensures.long;
  none = λ _. all-default c.default.result None c.default.ensures.long (λ q h. c.default.ensures.at q None h);
}

pub returns : goal.returns
returns c address = λ i. record {
  pool = all-default c.default.result None c.default.ensures.long (λ q h. c.default.ensures.at q None h) address i;
  transfer = bytes_arrived (all-default c.default-2.result None c.default-2.ensures.long (λ q h. c.default-2.ensures.at q None h) address i);
}
