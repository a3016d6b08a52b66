use Rattle.vt_kinds.specs.Records.{seen}
use Rattle.vt_effects.proofs.lemmas.stores.StoreAfterCommand.{put_answers, put_left}
use Rattle.vt_effects.proofs.effects.change_object.Goals as goal

pub returns-in-Some-clause-result : goal.returns-in-Some-clause-result
returns-in-Some-clause-result g c =
    put_answers c.change.result (g.S.Store.contents c.args.store.now) c.args.id _ c.args.kind_of_other (seen c.in-Some.object.now) c.in-Some.ensures.value c.change.ensures.result

pub returns-in-Some-clause-objects : goal.returns-in-Some-clause-objects
returns-in-Some-clause-objects g c =
    put_left (g.S.Store.contents c.args.store.now) _ c.args.id _ c.args.kind_of_other (seen c.in-Some.object.now) (seen c.change.new.object) c.in-Some.ensures.value (c.get_mut.follows.holds c.change.new.object) c.change.ensures.object
