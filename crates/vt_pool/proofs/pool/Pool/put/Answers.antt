use Rattle.std.proofs.Common.{◌≡◌, Bool, true, false, not, List, ◌∷◌, [], ◌++◌, set, map, eqb, sym, ap, ◌∙◌}
use Rattle.std.specs.List.{list_any}
use Rattle.vt_kinds.specs.Records.{seen}
use Rattle.vt_stores.specs.Stores.{seen_entry}
use Rattle.vt_pool.specs.Pools.{PoolEntry}
use Rattle.vt_pool.specs.EntryWrites.{with_entry}
use Rattle.vt_pool.proofs.EntryIndices.{shown_set, shown_push, same_ids}
use Rattle.vt_pool.proofs.RoundTrip.{objects_with}
use Rattle.vt_pool.proofs.pool.Pool.put.Goals as goal

not_is : (b t : Bool) → b ≡ not t → t ≡ not b
not_is b true e = ap not (sym e)
not_is b false e = ap not (sym e)

pub invariant_of-self-else-is_new : goal.invariant_of-self-else-is_new
invariant_of-self-else-is_new c =
    let items = c.self.inside.objects.items in
    let keys = c.self.inside.places.keys in
    let any : list_any (eqb c.args.id) keys ≡ true = not_is _ _ c.in_ok-place.ensures.added ∙ ap not c.if-is_new.false in
    let left = c.replace.ensures ∙ ap (λ (l : List _). set l c.in_ok-place.place (c.args.id, c.args.object)) c.in_ok-reserve.ensures.items in
    let gives = ap (map seen_entry) left ∙ shown_set items keys c.args.id c.in_ok-place.place c.args.object c.self.invariant.0 c.in_ok-place.ensures.index any in (
      same_ids keys c.insert_full.new.self.keys (map seen_entry items) _ c.args.id (seen c.args.object) c.self.invariant.0 c.in_ok-place.ensures.keys gives,
      objects_with (map seen_entry items) _ c.args.id (seen c.args.object) c.self.invariant.1 c.requires gives,
    )

pub returns-in_ok-push-clause-ok : goal.returns-in_ok-push-clause-ok
returns-in_ok-push-clause-ok c =
    let items = c.self.inside.objects.items in
    let keys = c.self.inside.places.keys in
    let none : list_any (eqb c.args.id) keys ≡ false = not_is _ _ c.in_ok-place.ensures.added ∙ ap not c.if-is_new.true in
    let left = c.in_ok-push.ensures.items ∙ ap (λ (l : List _). l ++ (c.args.id, c.args.object) ∷ []) c.in_ok-reserve.ensures.items in
    ap (map seen_entry) left ∙ shown_push items keys c.args.id c.args.object c.self.invariant.0 none
    ∙ ap (λ (es : List PoolEntry). with_entry es c.args.id (seen c.args.object)) c.self.view_is

pub returns-else-is_new-clause-ok : goal.returns-else-is_new-clause-ok
returns-else-is_new-clause-ok c =
    let items = c.self.inside.objects.items in
    let keys = c.self.inside.places.keys in
    let any : list_any (eqb c.args.id) keys ≡ true = not_is _ _ c.in_ok-place.ensures.added ∙ ap not c.if-is_new.false in
    let left = c.replace.ensures ∙ ap (λ (l : List _). set l c.in_ok-place.place (c.args.id, c.args.object)) c.in_ok-reserve.ensures.items in
    ap (map seen_entry) left ∙ shown_set items keys c.args.id c.in_ok-place.place c.args.object c.self.invariant.0 c.in_ok-place.ensures.index any
    ∙ ap (λ (es : List PoolEntry). with_entry es c.args.id (seen c.args.object)) c.self.view_is
