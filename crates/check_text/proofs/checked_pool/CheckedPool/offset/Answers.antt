use Rattle.std.proofs.Common.{sym, subst}
use Rattle.check_text.specs.declared.item.Item.{Item}
use Rattle.check_text.specs.Messages.{IsItemOffset}
use Rattle.check_text.proofs.checked_pool.CheckedPool.offset.Goals as goal

pub returns-in-Finding : goal.returns-in-Finding
returns-in-Finding c =
    subst (λ (item : Item). IsItemOffset c.args.self.now.inspection.now item c.finding_at.result) (sym c.in-Finding.is) c.finding_at.ensures
