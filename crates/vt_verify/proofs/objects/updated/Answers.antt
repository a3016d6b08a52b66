use Rattle.std.proofs.Common.{◌≡◌, IfOk, map, sym, subst, arith}
use Rattle.std.specs.FinMap as finite
use Rattle.vt_kinds.specs.Records.{seen}
use Rattle.vt_stores.specs.Stores.{Objects, seen_entry}
use Rattle.vt_verify.proofs.lemmas.stores.DistinctIds.{named_of}
use Rattle.vt_chains.proofs.IdIndices.{count_is}
use Rattle.vt_verify.proofs.lemmas.stores.UpdatedStore.{IsUpdating, updating_begins, updating_step, updating_ends}
use Rattle.vt_verify.proofs.objects.updated.Goals as goal

pub loop-place-init : goal.loop-place-init
loop-place-init g c =
    let m = g.S.Store.contents c.args.store.now in
    subst (λ (l : Objects). IsUpdating m c.args.update.now l 0) (sym c.in_ok-entries.ensures.entries)
    (updating_begins m c.args.update.now (named_of c.args.update.now c.in_ok-entries.ensures.each))

pub entry-id-requires : goal.entry-id-requires
entry-id-requires g c =
    let m = g.S.Store.contents c.args.store.now in
    let all = count_is m in
    let len = c.count-place-end.ensures.count in
    let lt = c.loop-place-test.true in
    omega (arith, all, len, lt)

pub loop-place-preserved : goal.loop-place-preserved
loop-place-preserved g c =
    updating_step (g.S.Store.contents c.args.store.now) c.args.update.now (map seen_entry c.loop-place.entries.items) _ c.loop-place.place c.entry-id.result.0 (seen c.entry-id.result.1.now)
    c.entry-id.ensures.stands c.entry-id.ensures.object c.count-place-end.ensures.named c.in_ok-put_unless_updated.ensures c.loop-place.invariant

pub from_vec-requires : goal.from_vec-requires
from_vec-requires g c = c.loop-place.invariant.named

pub returns-clause-made : goal.returns-clause-made
returns-clause-made g c =
    let m = g.S.Store.contents c.args.store.now in
    let all = finite.len-entries m in
    let len = c.count-place-end.ensures.count in
    let end = c.loop-place-test.false in
    subst (λ (l : Objects). IfOk c.from_vec.result (λ objects. objects ≡ l))
    (updating_ends m c.args.update.now (map seen_entry c.loop-place.entries.items) c.loop-place.place (omega (arith, all, len, end)) c.loop-place.invariant) c.from_vec.ensures.made
