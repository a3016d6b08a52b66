use Rattle.log_reach.proofs.PairSets.{joins, joins_again, last_is_in}
use Rattle.log_reach.proofs.pairs.Pairs.put.Goals as goal

pub returns : goal.returns
returns c = joins c.args.self.now.pairs c.insert.new.self c.args.pair c.in_ok-insert.ensures.updates

pub returns-then-eq : goal.returns-then-eq
returns-then-eq c =
    joins_again c.args.self.now.pairs c.args.pair
    (last_is_in c.args.self.now.pairs c.args.self.now.last c.in-Some.last c.args.pair c.in-Some.is c.args.self.now.is_in c.if-eq.ensures)
