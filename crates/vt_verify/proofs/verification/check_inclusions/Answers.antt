use Rattle.std.proofs.Common.{◌≡◌, ℕ, List, length, rules, ◌∙◌, subst, sym}
use Rattle.std.proofs.lemmas.List.{with_items_is}
use Rattle.vt_stores.specs.Stores.{map_of}
use Rattle.vt_chains.specs.Depths.{AreDepths, ids_of, inclusions_of}
use Rattle.vt_chains.specs.Inclusions.{IsShallow, IsTooDeep}
use Rattle.vt_verify.proofs.lemmas.references.IncludedObjectsExist.{closed_store}
use Rattle.vt_chains.proofs.InclusionsInStore.{same_inclusions}
use Rattle.vt_chains.proofs.IdIndices.{count_is}
use Rattle.vt_verify.proofs.verification.check_inclusions.Goals as goal

pub find_depths-requires-clause-each : goal.find_depths-requires-clause-each
find_depths-requires-clause-each c =
    let len : length c.deref_mut.result.now ≡ c.count.result = search rules in
    len ∙ c.count.ensures.count ∙ count_is (map_of c.args.objects.now)

pub find_depths-requires-clause-closed : goal.find_depths-requires-clause-closed
find_depths-requires-clause-closed c = closed_store c.args.objects.now c.requires.stored.rising c.requires.before.1.1.0

pub returns-in-Ok-clause-ok : goal.returns-in-Ok-clause-ok
returns-in-Ok-clause-ok c =
    let b = c.requires.before in
    (b.0, (b.1.0, (b.1.1.0, (b.1.1.1.0, (subst (IsShallow c.args.limits.inclusions) (same_inclusions c.args.objects.now c.requires.stored.rising) c.in-Ok.ensures.shallow, tt)))))

pub returns-in-Ok-clause-depths : goal.returns-in-Ok-clause-depths
returns-in-Ok-clause-depths c =
    let m = map_of c.args.objects.now in
    let was : c.in_ok-depths.depths.len ≡ c.count.result = search rules in
    let long : length c.find_depths.new.depths ≡ c.in_ok-depths.depths.len =
    c.in-Ok.ensures.ok.each ∙ sym (was ∙ c.count.ensures.count ∙ count_is m) in
    subst (AreDepths (ids_of m) (inclusions_of m) c.args.limits.inclusions) (sym (with_items_is c.in_ok-depths.depths c.find_depths.new.depths long)) c.in-Ok.ensures.ok

pub returns-in-Err-clause-refused : goal.returns-in-Err-clause-refused
returns-in-Err-clause-refused c = (
  c.requires.before,
  subst (λ (included : ℕ → List ℕ). IsTooDeep c.args.limits.inclusions included c.in-Err.chain.items) (same_inclusions c.args.objects.now c.requires.stored.rising) c.in-Err.ensures.err,
)
