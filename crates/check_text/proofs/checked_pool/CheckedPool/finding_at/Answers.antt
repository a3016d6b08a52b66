use Rattle.std.proofs.Common.{◌≡◌, Option, None, Some, refl, subst, rules}
use Rattle.check_inspect.specs.declared.finding.FindingPlace.{FindingPlace}
use Rattle.check_inspect.specs.Places.{place_of, IsOffset}
use Rattle.check_text.proofs.checked_pool.CheckedPool.finding_at.Goals as goal

pub returns-in-Some : goal.returns-in-Some
returns-in-Some c = record {
  whole = λ none. absurd (subst (λ (p : Option FindingPlace). IsOffset c.args.self.now.inspection.now p c.in-Some.at) none (search rules));
  placed = λ all has. search rules;
}
