use Rattle.std.proofs.Common.{◌≡◌, Some, None, List, [], ◌++◌, Vec, Global, sym, ap, ◌∙◌, subst, append-nil}
use Rattle.std.proofs.lemmas.Result.{IfOk-weaker, on_ok_weaker}
use Rattle.std.specs.Ordering.{nat_cmp}
use Rattle.std.specs.BTreeMap.{get}
use Rattle.std.specs.List.{cons_option}
use Rattle.log_listen.specs.declared.broken.Broken.{Broken}
use Rattle.log_listen.specs.declared.part.Part.{Part}
use Rattle.log_listen.specs.declared.part.Part.TheVariants.{Request, Packet, Offset, Abort}
use Rattle.log_listen.specs.declared.listener.Ends.{Ends}
use Rattle.log_listen.specs.declared.listener.Listener.{Listener}
use Rattle.log_listen.specs.Parts.{is_extended}
use Rattle.log_listen.specs.Channels.{said, parts_in}
use Rattle.log_listen.specs.Listeners.{IsEntryOf}
use Rattle.log_listen.specs.Steps.{channel_between, said_between, told_in_both}
use Rattle.log_listen.proofs.Channels.{says_nothing}
use Rattle.log_listen.proofs.Maps.{takes_nothing}
use Rattle.log_listen.proofs.Hearing.{IsFrameOf, none_broken, hears, answers, are_told, told_at_request, told_at_packet, told_at_offset, said_is}
use Rattle.log_listen.proofs.listener.Listener.hear.Goals as goal
use Rattle.log_listen.proofs.listener.Listener.hear.Goals.{After-is_extended, in-Request+in_ok-open-in-Request, in-Offset, in-Abort+in_ok-abort-in-Abort}

pub returns-in_default-part_in-clause-heard : goal.returns-in_default-part_in-clause-heard
returns-in_default-part_in-clause-heard c = λ frames heard channel.
    hears frames c.args.frame.now (λ _. None) (says_nothing c.args.frame.now (sym c.part_in.ensures ∙ c.in_default-part_in.is)) c.args.self.now.transfers c.args.self.now.transfers
    (takes_nothing c.args.self.now.transfers) channel (heard channel)

pub returns-in_default-part_in-clause-told : goal.returns-in_default-part_in-clause-told
returns-in_default-part_in-clause-told c = λ frames heard.
    ([], sym (append-nil c.args.broken.now.items), none_broken frames c.args.frame.now (says_nothing c.args.frame.now (sym c.part_in.ensures ∙ c.in_default-part_in.is)))

abbrev ends_of : After-is_extended → Ends
ends_of c = record { source = c.source.result; destination = c.in-Some.destination; is_extended = c.is_extended.result }

frame_of : (c : After-is_extended) (part : Part) → c.in-Some-part_in.part ≡ part → IsFrameOf c.args.frame.now (ends_of c) part
frame_of c part is = record {
  destination_is = sym c.destination.ensures ∙ c.in-Some.is;
  source_is = c.source.ensures;
  extended_is = c.is_extended.ensures ∙ ap is_extended c.pgn.ensures;
  part_is = sym c.part_in.ensures ∙ c.in-Some-part_in.is ∙ ap (λ (p : Part). Some p) is;
}

pub returns-in-Packet-clause-answer : goal.returns-in-Packet-clause-answer
returns-in-Packet-clause-answer c =
    let at = (goal.at.returns-in-Packet-clause-answer c).After-is_extended in
    IfOk-weaker c.put.result _ _ (λ answer made frames heard.
    answers frames c.args.frame.now (ends_of at) c.in-Packet.number c.in-Packet.bytes (frame_of at (Packet c.in-Packet.number c.in-Packet.bytes) c.in-Packet.is) answer
    (made (parts_in (channel_between (ends_of at)) frames) (heard (channel_between (ends_of at))))) c.put.ensures.answer

pub returns-in-Packet-clause-told : goal.returns-in-Packet-clause-told
returns-in-Packet-clause-told c =
    let at = (goal.at.returns-in-Packet-clause-told c).After-is_extended in
    on_ok_weaker c.put.result (λ _ frames heard. (
      told_in_both (ends_of at) (Packet c.in-Packet.number c.in-Packet.bytes) c.args.self.now,
      sym (ap (λ l. c.args.broken.now.items ++ l) (told_at_packet (ends_of at) c.in-Packet.number c.in-Packet.bytes c.args.self.now) ∙ append-nil c.args.broken.now.items),
      are_told frames c.args.frame.now (ends_of at) (Packet c.in-Packet.number c.in-Packet.bytes) (frame_of at (Packet c.in-Packet.number c.in-Packet.bytes) c.in-Packet.is) c.args.self.now heard,
    ))
    c.put.ensures.heard

pub returns-clause-heard : goal.returns-clause-heard
returns-clause-heard c = λ frames heard channel.
    let at = (goal.at.returns-clause-heard c).After-is_extended in
    let frame = c.args.frame.now in
    let old = c.args.self.now.transfers in
    let P = λ (l : Listener). IsEntryOf (cons_option (said channel frame) (parts_in channel frames)) (get nat_cmp l.transfers channel) in
    elim c.match-part.branch [
      | in-Request+in_ok-open-in-Request w ↦
          let part = Request w.in-Request.size w.in-Request.pgn in
          subst P (sym w.self-is) (hears frames frame (said_between (ends_of at) part) (said_is frame (ends_of at) part (frame_of at part w.in-Request.is)) old w.open.new.self.transfers
          w.in_ok-open-in-Request.ensures.heard channel (heard channel))
      | in-Offset w ↦
          let part = Offset w.in-Offset.packets in
          subst P (sym w.self-is) (hears frames frame (said_between (ends_of at) part) (said_is frame (ends_of at) part (frame_of at part w.in-Offset.is)) old w.move_to.new.self.transfers
          w.move_to.ensures channel (heard channel))
      | in-Abort+in_ok-abort-in-Abort w ↦
          let part = Abort w.in-Abort.pgn in
          subst P (sym w.self-is) (hears frames frame (said_between (ends_of at) part) (said_is frame (ends_of at) part (frame_of at part w.in-Abort.is)) old w.abort.new.self.transfers
          w.in_ok-abort-in-Abort.ensures.heard channel (heard channel))
    ]

pub returns-clause-told : goal.returns-clause-told
returns-clause-told c = λ frames heard.
    let at = (goal.at.returns-clause-told c).After-is_extended in
    let frame = c.args.frame.now in
    let old = c.args.self.now in
    let before = c.args.broken.now.items in
    let items = λ (v : Vec Broken Global). v.items in
    let more = λ (l : List Broken). before ++ l in
    elim c.match-part.branch [
      | in-Request+in_ok-open-in-Request w ↦
          let part = Request w.in-Request.size w.in-Request.pgn in (
            told_in_both (ends_of at) part old,
            ap items w.broken-is ∙ w.in_ok-open-in-Request.ensures.told ∙ ap more (sym (told_at_request (ends_of at) w.in-Request.size w.in-Request.pgn old)),
            are_told frames frame (ends_of at) part (frame_of at part w.in-Request.is) old heard,
          )
      | in-Offset w ↦
          let part = Offset w.in-Offset.packets in (
            told_in_both (ends_of at) part old,
            ap items w.broken-is ∙ sym (ap more (told_at_offset (ends_of at) w.in-Offset.packets old) ∙ append-nil before),
            are_told frames frame (ends_of at) part (frame_of at part w.in-Offset.is) old heard,
          )
      | in-Abort+in_ok-abort-in-Abort w ↦
          let part = Abort w.in-Abort.pgn in
          (told_in_both (ends_of at) part old, ap items w.broken-is ∙ w.in_ok-abort-in-Abort.ensures.told, are_told frames frame (ends_of at) part (frame_of at part w.in-Abort.is) old heard)
    ]
