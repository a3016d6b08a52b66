use Rattle.std.proofs.Common.{◌≡◌, length, ◌∙◌, subst, sym, ap}
use Rattle.std.proofs.lemmas.List.{with_items_is}
use Rattle.vt_chains.specs.Depths.{ids_of, inclusions_of}
use Rattle.vt_chains.specs.Certificates.{IsCertificate}
use Rattle.vt_chains.proofs.FallingLevels.{depths_fall}
use Rattle.vt_chains.proofs.levels.Levels.search.Goals as goal

pub returns-in-Ok-clause-short : goal.returns-in-Ok-clause-short
returns-in-Ok-clause-short g c is =
    let m = g.S.Store.contents c.args.store.now in
    let long : length c.find_depths.new.depths ≡ c.args.self.now.spare.len = c.in-Ok.ensures.ok.each ∙ sym c.requires.spare_length ∙ sym c.args.self.now.spare.ok.0 in
    record {
      certificate =
          subst (IsCertificate (ids_of m) (inclusions_of m)) (sym (ap (λ v. v.items) c.swap.ensures.x_after ∙ with_items_is c.args.self.now.spare c.find_depths.new.depths long))
          (depths_fall (ids_of m) (inclusions_of m) c.find_depths.new.depths c.in-Ok.ensures.ok);
      spare_length = ap (λ v. length v.items) c.swap.ensures.y_after ∙ c.requires.levels;
    }
