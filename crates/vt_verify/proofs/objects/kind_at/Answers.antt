use Rattle.std.proofs.Common.{sym, ap, ◌∙◌, Some}
use Rattle.std.specs.Option.{option_map}
use Rattle.vt_kinds.specs.Records.{kind_of}
use Rattle.vt_stores.proofs.ObjectShapes.{kind_found, seen_kind}
use Rattle.vt_verify.proofs.objects.kind_at.Goals as goal

pub returns-in-None : goal.returns-in-None
returns-in-None c = sym (kind_found c.args.objects.now c.args.id ∙ ap (option_map kind_of) (sym c.in-None.ensures.found))

pub returns-in-Some : goal.returns-in-Some
returns-in-Some c =
    ap Some (c.kind.ensures ∙ sym (seen_kind c.in-Some.object.now))
    ∙ sym (kind_found c.args.objects.now c.args.id ∙ ap (option_map kind_of) (sym c.in-Some.ensures.found))
