use Rattle.std.proofs.Common.{◌≡◌, length, rules, ◌∙◌, subst, sym}
use Rattle.std.proofs.lemmas.List.{with_items_is}
use Rattle.vt_chains.specs.Depths.{ids_of, inclusions_of}
use Rattle.vt_chains.proofs.IdIndices.{count_is}
use Rattle.vt_chains.specs.Certificates.{IsCertificate}
use Rattle.vt_chains.proofs.FallingLevels.{depths_fall}
use Rattle.vt_chains.proofs.levels.Levels.of_store.Goals as goal

pub find_depths-requires-clause-each : goal.find_depths-requires-clause-each
find_depths-requires-clause-each g c =
    let len : length c.deref_mut.result.now ≡ c.count.result = search rules in
    len ∙ c.count.ensures.count ∙ count_is (g.S.Store.contents c.args.store.now)

pub returns : goal.returns
returns g c =
    let m = g.S.Store.contents c.args.store.now in
    let was : c.in_ok-levels.levels.len ≡ c.count.result = search rules in
    let spare : length c.in_ok-spare.spare.items ≡ c.count-2.result = search rules in
    let long : length c.find_depths.new.depths ≡ c.in_ok-levels.levels.len =
    c.in-Ok.ensures.ok.each ∙ sym (was ∙ c.count.ensures.count ∙ count_is m) in
    record {
      certificate =
          subst (IsCertificate (ids_of m) (inclusions_of m)) (sym (with_items_is c.in_ok-levels.levels c.find_depths.new.depths long))
          (depths_fall (ids_of m) (inclusions_of m) c.find_depths.new.depths c.in-Ok.ensures.ok);
      spare_length = spare ∙ c.count-2.ensures.count ∙ count_is m;
    }
