use Rattle.std.proofs.Common.{Bool, ◌++◌, sym, subst, ◌∙◌}
use Rattle.std.specs.List.{flat_map}
use Rattle.std.specs.Option.{option_map}
use Rattle.vt_server.specs.States.{state_of}
use Rattle.vt_server.specs.message.UploadEnds.{upload_end}
use Rattle.vt_host_events.specs.Events.{TellsBy, acknowledged_by, set_events, shown_events, sound_events, source_events}
use Rattle.vt_host_events.proofs.Written.{four_parts}
use Rattle.vt_host_events.proofs.observer.Observer.tell.Goals as goal

pub returns-clause-told : goal.returns-clause-told
returns-clause-told c =
    let seen = c.args.self.now in
    let after = c.args.terminal.now in
    let s = state_of after in
    let sent = c.args.outputs.now in
    let frame = option_map (λ f. f.now) c.args.frame in
    subst (λ (lost : Bool). TellsBy lost seen frame sent after c.tell_sounds.new.events.items) (sym c.if-self.false)
    (four_parts seen.events.items c.tell_sets.new.events.items c.tell_source.new.events.items c.tell_shown.new.events.items c.tell_sounds.new.events.items
    (flat_map (set_events s (acknowledged_by s.claims.own frame)) seen.sets.items) (source_events s (upload_end after) sent seen.source)
    (shown_events s seen.display seen.alarm) (flat_map (sound_events s) seen.sets.items) c.requires.none
    (c.tell_sets.ensures.items ∙ (λ i. seen.events.items ++ flat_map (set_events s (c.acknowledged_by-acknowledged.ensures i)) (c.deref.ensures.value i)))
    c.tell_source.ensures.items c.tell_shown.ensures.items
    (c.tell_sounds.ensures.items ∙ (λ i. c.tell_shown.new.events.items ++ flat_map (sound_events s) (c.deref-2.ensures.value i))))
