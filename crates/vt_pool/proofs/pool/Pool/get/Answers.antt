use Rattle.std.proofs.Common.{List, sym, ◌∙◌, ap}
use Rattle.std.specs.FinMap as finite
use Rattle.vt_pool.specs.Pools.{PoolEntry, contents}
use Rattle.vt_pool.proofs.EntryIndices.{got_none, got_some}
use Rattle.vt_pool.proofs.pool.Pool.get.Goals as goal

pub returns-in-None : goal.returns-in-None
returns-in-None c =
    got_none c.args.id c.self.inside.objects.items c.self.inside.places.keys c.self.invariant.0 (sym c.in-None.ensures.index)
    ∙ ap (λ (es : List PoolEntry). finite.get (contents es) c.args.id) c.self.view_is

pub returns-in-Some : goal.returns-in-Some
returns-in-Some c =
    got_some c.args.id c.self.inside.objects.items c.self.inside.places.keys c.in-Some.place c.index.result.now c.self.invariant.0 (sym c.in-Some.ensures.index) c.index.ensures
    ∙ ap (λ (es : List PoolEntry). finite.get (contents es) c.args.id) c.self.view_is
