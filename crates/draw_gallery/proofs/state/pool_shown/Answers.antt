use Rattle.std.proofs.Common.{◌∙◌, ap, sym, rules}
use Rattle.std.specs.FinMap as finite
use Rattle.vt_pool.specs.Pools.{joined}
use Rattle.vt_stores.specs.Stores.{ObjectMap}
use Rattle.draw_gallery.proofs.state.pool_shown.Goals as goal

pub returns-clause-pool : goal.returns-clause-pool
returns-clause-pool c = record {
  address = c.in-Some.address;
  shown = sym c.shown.ensures ∙ c.in-Some.is;
  set = c.in-Some-set.live.now;
  of_address = search rules;
  written = c.in_ok-bytes_of.ensures ∙ ap (λ (m : ObjectMap). joined (finite.entries m)) c.store.ensures.objects;
}
