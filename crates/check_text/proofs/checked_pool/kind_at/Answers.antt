use Rattle.std.proofs.Common.{Some, sym, ap, ◌∙◌}
use Rattle.std.specs.Option.{option_map}
use Rattle.vt_kinds.specs.Records.{kind_of}
use Rattle.vt_stores.proofs.ObjectShapes.{seen_kind}
use Rattle.check_text.proofs.checked_pool.kind_at.Goals as goal

pub returns-in-Some : goal.returns-in-Some
returns-in-Some c =
    ap Some (c.kind.ensures ∙ sym (seen_kind c.in-Some.object.now))
    ∙ ap (option_map kind_of) c.in-Some.ensures.found
