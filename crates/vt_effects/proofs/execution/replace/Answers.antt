use Rattle.std.proofs.Common.{◌∙◌, refl, sym, subst}
use Rattle.vt_stores.specs.Stores.{ObjectMap}
use Rattle.vt_chains.specs.Certificates.{AreLevels}
use Rattle.vt_effects.proofs.lemmas.stores.CommandExecution.{effect_replacing, effect_refused, replaces, levels_replacing, levels_back, put_back_is, done, refused, made_is, failed_is, answers_done, answers_failed, after_done, after_failed, unchanged, unfit, answers_error}
use Rattle.vt_effects.proofs.execution.replace.Goals as goal

pub is_in_order-requires : goal.is_in_order-requires
is_in_order-requires g c =
    let m = g.S.Store.contents c.args.store.now in
    let n = g.S.Store.contents c.change_in.new.store in
    let made = made_is m n c.args.command.now c.args.kind_of_other c.requires.kind_of_other c.in-Ok.ensures.result c.change_in.ensures.objects in
    levels_replacing m n c.args.command.now c.args.replacement.now c.args.levels.now c.requires.replaces
    (replaces m n c.args.command.now c.args.replacement.now c.requires.replaces made) c.requires.levels

pub returns-then-is_in_order-clause-result : goal.returns-then-is_in_order-clause-result
returns-then-is_in_order-clause-result g c =
    let m = g.S.Store.contents c.args.store.now in
    let n = g.S.Store.contents c.change_in.new.store in
    let made = made_is m n c.args.command.now c.args.kind_of_other c.requires.kind_of_other c.in-Ok.ensures.result c.change_in.ensures.objects in
    answers_done m n c.args.command.now
    (done m n c.args.command.now c.is_in_order.new.levels (sym c.fits-fits.ensures ∙ c.if-is_in_order.ensures.fits refl) (c.if-is_in_order.ensures.levels refl)
    (effect_replacing m n c.args.command.now c.args.replacement.now c.requires.replaces made))

pub returns-then-is_in_order-clause-objects : goal.returns-then-is_in_order-clause-objects
returns-then-is_in_order-clause-objects g c =
    let m = g.S.Store.contents c.args.store.now in
    let n = g.S.Store.contents c.change_in.new.store in
    let made = made_is m n c.args.command.now c.args.kind_of_other c.requires.kind_of_other c.in-Ok.ensures.result c.change_in.ensures.objects in
    after_done m n c.args.command.now
    (done m n c.args.command.now c.is_in_order.new.levels (sym c.fits-fits.ensures ∙ c.if-is_in_order.ensures.fits refl) (c.if-is_in_order.ensures.levels refl)
    (effect_replacing m n c.args.command.now c.args.replacement.now c.requires.replaces made))

pub returns-in-Err-clause-result : goal.returns-in-Err-clause-result
returns-in-Err-clause-result g c =
    let m = g.S.Store.contents c.args.store.now in
    let failed = failed_is m c.args.command.now c.args.kind_of_other c.in-Err.error c.requires.kind_of_other c.in-Err.ensures.result in
    answers_failed m c.args.command.now c.in-Err.error
    (effect_refused m c.args.command.now c.args.replacement.now c.in-Err.error c.requires.replaces failed)

pub returns-in-Err-clause-objects : goal.returns-in-Err-clause-objects
returns-in-Err-clause-objects g c =
    let m = g.S.Store.contents c.args.store.now in
    let n = g.S.Store.contents c.change_in.new.store in
    let failed = failed_is m c.args.command.now c.args.kind_of_other c.in-Err.error c.requires.kind_of_other c.in-Err.ensures.result in
    after_failed m n c.args.command.now c.in-Err.error
    (effect_refused m c.args.command.now c.args.replacement.now c.in-Err.error c.requires.replaces failed)
    (unchanged m n c.args.command.now c.args.kind_of_other c.in-Err.error c.in-Err.ensures.result c.change_in.ensures.objects)

pub returns-else-is_in_order-clause-result : goal.returns-else-is_in_order-clause-result
returns-else-is_in_order-clause-result g c =
    let m = g.S.Store.contents c.args.store.now in
    let n = g.S.Store.contents c.change_in.new.store in
    let made = made_is m n c.args.command.now c.args.kind_of_other c.requires.kind_of_other c.in-Ok.ensures.result c.change_in.ensures.objects in
    answers_error m c.args.command.now c.value_error.result _ c.value_error.ensures
    (refused m n c.args.command.now (unfit (c.if-is_in_order.ensures.refused refl) c.fits-fits.ensures)
    (effect_replacing m n c.args.command.now c.args.replacement.now c.requires.replaces made))

pub returns-else-is_in_order-clause-objects : goal.returns-else-is_in_order-clause-objects
returns-else-is_in_order-clause-objects g c =
    let m = g.S.Store.contents c.args.store.now in
    let n = g.S.Store.contents c.change_in.new.store in
    let last = g.S.Store.contents c.put_back.new.store in
    let made = made_is m n c.args.command.now c.args.kind_of_other c.requires.kind_of_other c.in-Ok.ensures.result c.change_in.ensures.objects in
    after_failed m last c.args.command.now _
    (refused m n c.args.command.now (unfit (c.if-is_in_order.ensures.refused refl) c.fits-fits.ensures)
    (effect_replacing m n c.args.command.now c.args.replacement.now c.requires.replaces made))
    (put_back_is m n last c.args.command.now c.args.replacement.now c.requires.replaces
    (replaces m n c.args.command.now c.args.replacement.now c.requires.replaces made) c.put_back.ensures)

pub returns-else-is_in_order-clause-levels : goal.returns-else-is_in_order-clause-levels
returns-else-is_in_order-clause-levels g c =
    let m = g.S.Store.contents c.args.store.now in
    let n = g.S.Store.contents c.change_in.new.store in
    let last = g.S.Store.contents c.put_back.new.store in
    let made = made_is m n c.args.command.now c.args.kind_of_other c.requires.kind_of_other c.in-Ok.ensures.result c.change_in.ensures.objects in
    subst (λ (k : ObjectMap). AreLevels k c.is_in_order.new.levels)
    (sym (put_back_is m n last c.args.command.now c.args.replacement.now c.requires.replaces
    (replaces m n c.args.command.now c.args.replacement.now c.requires.replaces made) c.put_back.ensures))
    (levels_back m c.args.levels.now c.is_in_order.new.levels c.requires.levels (c.if-is_in_order.ensures.kept refl))
