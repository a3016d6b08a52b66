use Rattle.std.proofs.Common.{None, Some, refl, sym}
use Rattle.log_listen.specs.declared.part.Part.TheVariants.{Offset}
use Rattle.log_listen.specs.Steps.{channel_between}
use Rattle.log_listen.proofs.Entries.{standing, moved, still_without, offset_is_no_request}
use Rattle.log_listen.proofs.Maps.{found, written, unchanged, takes_between}
use Rattle.log_listen.proofs.listener.Listener.move_to.Goals as goal

pub returns-in-Some : goal.returns-in-Some
returns-in-Some c =
    let own = channel_between c.args.ends in
    let old = c.args.self.now.transfers in
    let transfer = c.in-Some.transfer.now in
    let new = record transfer { offset = c.args.packets } in
    takes_between c.args.ends (Offset c.args.packets) old (c.get_mut.follows.lender new) (Some new) refl refl
    (written c.channel.result own old (c.get_mut.follows.lender new) new transfer c.channel.ensures (sym c.in-Some.ensures.value) (c.get_mut.follows.holds new))
    (λ parts has. standing _ new (moved parts c.args.packets transfer
    (has.stands transfer (found c.channel.result own old (Some transfer) (Some transfer) c.channel.ensures c.in-Some.ensures.value refl))))

pub returns-in_default : goal.returns-in_default
returns-in_default c =
    let own = channel_between c.args.ends in
    let old = c.args.self.now.transfers in
    let none = found c.channel.result own old None None c.channel.ensures c.in_default.ensures.value refl in
    takes_between c.args.ends (Offset c.args.packets) old c.get_mut.follows.lender-at-none None refl refl
    (unchanged own old c.get_mut.follows.lender-at-none c.get_mut.follows.holds-at-none none)
    (λ parts has. still_without (Offset c.args.packets) parts _ (offset_is_no_request c.args.packets) none has)
