use Rattle.std.proofs.Common.{◌≡◌, ℕ, List, length, rules, ◌∙◌, subst, sym}
use Rattle.vt_chains.specs.Depths.{IsClosed, ids_of}
use Rattle.vt_chains.specs.Inclusions.{included, IsShallow, IsTooDeep}
use Rattle.vt_chains.specs.Limits.{terminal}
use Rattle.vt_chains.proofs.InclusionsInStore.{same_ids, same_inclusions}
use Rattle.vt_chains.proofs.IdIndices.{count_is}
use Rattle.vt_stores.specs.Stores.{map_of}
use Rattle.check_inspect.proofs.inclusions.deep_chain.Goals as goal

pub find_depths-requires-clause-each : goal.find_depths-requires-clause-each
find_depths-requires-clause-each c =
    let len : length c.deref_mut.result.now ≡ c.count.result = search rules in
    len ∙ c.count.ensures.count ∙ count_is (map_of c.args.objects.now)

pub find_depths-requires-clause-closed : goal.find_depths-requires-clause-closed
find_depths-requires-clause-closed c =
    let objects = c.args.objects.now in
    let rising = c.requires.stored.rising in
    subst (λ (inside : ℕ → List ℕ). IsClosed (ids_of (map_of objects)) inside) (sym (same_inclusions objects rising))
    (subst (λ (list : List ℕ). IsClosed list (included objects)) (sym (same_ids objects rising)) c.requires.closed)

pub returns-in-Ok : goal.returns-in-Ok
returns-in-Ok c = subst (IsShallow terminal.inclusions) (same_inclusions c.args.objects.now c.requires.stored.rising) c.in-Ok.ensures.shallow

pub returns : goal.returns
returns c =
    subst (λ (inside : ℕ → List ℕ). IsTooDeep terminal.inclusions inside c.in-Err.chain.items) (same_inclusions c.args.objects.now c.requires.stored.rising) c.in-Err.ensures.err
