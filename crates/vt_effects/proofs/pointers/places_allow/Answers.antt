use Rattle.std.proofs.Common.{true, sym, ◌∙◌}
use Rattle.vt_effects.specs.declared.pointers.Pointed.{Pointed}
use Rattle.vt_effects.proofs.lemmas.order.SlotTests.{allow_is}
use Rattle.vt_effects.proofs.lemmas.order.PointerKinds.{same_kind_allowed}
use Rattle.vt_effects.proofs.pointers.places_allow.Goals as goal

pub returns-then-has_that_kind : goal.returns-then-has_that_kind
returns-then-has_that_kind g c =
    let m = g.S.Store.contents c.args.store.now in
    let pointed : Pointed = record { pointer = c.args.pointer; value = c.args.value; kind = c.kind_in-kind.result } in
    c.if-has_that_kind.true
    ∙ allow_is m c.args.pointer c.args.value c.kind_in-kind.result true c.kind_in-kind.ensures
    (same_kind_allowed m pointed c.requires (c.has_that_kind.ensures.named c.if-has_that_kind.true) (c.has_that_kind.ensures.kind c.if-has_that_kind.true))

pub returns-else-has_that_kind : goal.returns-else-has_that_kind
returns-else-has_that_kind g c =
    let m = g.S.Store.contents c.args.store.now in
    allow_is m c.args.pointer c.args.value c.kind_in-kind.result c.all_allow.result c.kind_in-kind.ensures (sym c.all_allow.ensures)
