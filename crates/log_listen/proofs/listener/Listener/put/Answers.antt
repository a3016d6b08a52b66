use Rattle.std.proofs.Common.{◌≡◌, None, Some, is_some, refl, sym, ap, ◌∙◌}
use Rattle.log_listen.specs.declared.part.Part.TheVariants.{Packet}
use Rattle.log_listen.specs.Steps.{channel_between}
use Rattle.log_listen.proofs.Entries.{standing, without, still_without, packet_is_no_request, not_whole, put_open, put_lacks, put_closes, taken_whole}
use Rattle.log_listen.proofs.Maps.{found, written, unchanged, removed_after, takes_between}
use Rattle.log_listen.proofs.listener.Listener.put.Goals as goal

pub returns-in_default-clause-heard : goal.returns-in_default-clause-heard
returns-in_default-clause-heard c =
    let own = channel_between c.args.ends in
    let old = c.args.self.now.transfers in
    let none = found c.channel-channel.result own old None None c.channel-channel.ensures c.in_default.ensures.value refl in
    takes_between c.args.ends (Packet c.args.number c.args.packet) old c.get_mut.follows.lender-at-none None refl refl
    (unchanged own old c.get_mut.follows.lender-at-none c.get_mut.follows.holds-at-none none)
    (λ parts has. still_without (Packet c.args.number c.args.packet) parts _ (packet_is_no_request c.args.number c.args.packet) none has)

pub returns-in_default-clause-answer : goal.returns-in_default-clause-answer
returns-in_default-clause-answer c = λ parts has message whole.
    has.closed (found c.channel-channel.result (channel_between c.args.ends) c.args.self.now.transfers None None c.channel-channel.ensures c.in_default.ensures.value refl)
    whole.size message.pgn whole.since whole.transfer

pub returns-then-not-is_whole-clause-heard : goal.returns-then-not-is_whole-clause-heard
returns-then-not-is_whole-clause-heard c =
    let own = channel_between c.args.ends in
    let old = c.args.self.now.transfers in
    let transfer = c.in-Some.transfer.now in
    let new = c.put.new.self in
    takes_between c.args.ends (Packet c.args.number c.args.packet) old (c.get_mut.follows.lender new) (Some new) refl refl
    (written c.channel-channel.result own old (c.get_mut.follows.lender new) new transfer c.channel-channel.ensures (sym c.in-Some.ensures.value) (c.get_mut.follows.holds new))
    (λ parts has. standing _ new (put_open parts c.args.number c.args.packet transfer new c.put.ensures.size c.put.ensures.pgn c.in_ok-put.ensures.packets
    (has.stands transfer (found c.channel-channel.result own old (Some transfer) (Some transfer) c.channel-channel.ensures c.in-Some.ensures.value refl))
    (not_whole _ new c.is_whole.ensures c.if-not-is_whole.true)))

pub returns-then-not-is_whole-clause-answer : goal.returns-then-not-is_whole-clause-answer
returns-then-not-is_whole-clause-answer c = λ parts has.
    let transfer = c.in-Some.transfer.now in
    put_lacks parts c.args.number c.args.packet transfer c.put.new.self c.put.ensures.size c.put.ensures.pgn c.in_ok-put.ensures.packets
    (has.stands transfer (found c.channel-channel.result (channel_between c.args.ends) c.args.self.now.transfers (Some transfer) (Some transfer) c.channel-channel.ensures
    c.in-Some.ensures.value refl))
    (not_whole _ c.put.new.self c.is_whole.ensures c.if-not-is_whole.true)

pub returns-clause-heard : goal.returns-clause-heard
returns-clause-heard c =
    let own = channel_between c.args.ends in
    let old = c.args.self.now.transfers in
    let transfer = c.in-Some.transfer.now in
    let new = c.put.new.self in
    takes_between c.args.ends (Packet c.args.number c.args.packet) old c.remove.new.self None refl refl
    (removed_after c.channel-channel.result own old (c.get_mut.follows.lender new) c.remove.new.self new
    c.channel-channel.ensures (written c.channel-channel.result own old (c.get_mut.follows.lender new) new transfer c.channel-channel.ensures (sym c.in-Some.ensures.value) (c.get_mut.follows.holds new))
    c.remove.ensures.updates)
    (λ parts has. without _ (put_closes parts c.args.number c.args.packet transfer new c.put.ensures.size c.put.ensures.pgn c.in_ok-put.ensures.packets
    (has.stands transfer (found c.channel-channel.result own old (Some transfer) (Some transfer) c.channel-channel.ensures c.in-Some.ensures.value refl))
    (c.is_whole.ensures.0 c.if-not-is_whole.false)))

pub returns-clause-answer : goal.returns-clause-answer
returns-clause-answer c = λ parts has.
    let transfer = c.in-Some.transfer.now in
    let new = c.put.new.self in
    let there = found c.channel-channel.result (channel_between c.args.ends) c.args.self.now.transfers (Some transfer) (Some transfer) c.channel-channel.ensures
    c.in-Some.ensures.value refl in
    let after = ((c.get_mut.follows.holds new).3 (ap is_some (sym c.in-Some.ensures.value))).1 in
    let taken : Some c.unwrap-whole.result ≡ Some new = sym c.unwrap-whole.ensures ∙ c.remove.ensures.value ∙ after in (
      refl,
      refl,
      taken_whole parts c.args.number c.args.packet transfer new c.put.ensures.size c.put.ensures.pgn c.in_ok-put.ensures.packets (has.stands transfer there)
          (c.is_whole.ensures.0 c.if-not-is_whole.false) c.unwrap-whole.result (cc) c.into_bytes.result.items c.into_bytes.ensures,
    )
