use Rattle.std.proofs.Common.{[], sym, ap, subst}
use Rattle.std.specs.Map.{lookup}
use Rattle.std.specs.BTreeMap.{is_at}
use Rattle.std.specs.Ordering.{nat_cmp}
use Rattle.log_listen.specs.Listeners.{IsEntryOf}
use Rattle.log_listen.proofs.Entries.{without, never_opened}
use Rattle.log_listen.proofs.listener.Listener.new.Goals as goal

pub returns : goal.returns
returns c = λ channel.
    subst (IsEntryOf []) (sym (ap (lookup (is_at (nat_cmp channel))) c.new.ensures.empty)) (without [] never_opened)
