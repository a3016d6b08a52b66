use Rattle.std.proofs.Common.{Option, Some, sym, ap, ◌∙◌}
use Rattle.std.specs.Option.{option_map}
use Rattle.vt_kinds.specs.declared.kind.Kind.{Kind}
use Rattle.vt_kinds.specs.Records.{Seen, kind_of}
use Rattle.vt_stores.proofs.ObjectShapes.{seen_kind}
use Rattle.vt_effects.specs.Soundness.{shape_in}
use Rattle.vt_macros.specs.QuietMacros.{is_unseen_of, is_unseen_for}
use Rattle.vt_macros.proofs.QuietRuns.{kind_there}
use Rattle.vt_macros.proofs.quiet.is_unseen.Goals as goal

pub returns-in-Some-get : goal.returns-in-Some-get
returns-in-Some-get g c =
    let m = g.S.Store.contents c.args.store.now in
    let command = c.args.command.now in
    c.writes_unseen.ensures ∙ ap (λ (kind : Kind). is_unseen_of command (Some kind)) (c.kind.ensures ∙ sym (seen_kind c.in-Some-get.object.now))
    ∙ ap (λ (o : Option Seen). is_unseen_of command (option_map kind_of o)) c.in-Some-get.ensures.value
    ∙ ap (is_unseen_of command) (sym (kind_there m c.in-Some.id))
    ∙ ap (is_unseen_for (shape_in m) command) c.in-Some.ensures

pub returns-in-None : goal.returns-in-None
returns-in-None g c =
    let m = g.S.Store.contents c.args.store.now in
    let command = c.args.command.now in
    ap (λ (o : Option Seen). is_unseen_of command (option_map kind_of o)) c.in-None.ensures.value
    ∙ ap (is_unseen_of command) (sym (kind_there m c.in-Some.id))
    ∙ ap (is_unseen_for (shape_in m) command) c.in-Some.ensures
