use Rattle.std.proofs.Common.{◌≡◌, ℕ, Bool, true, false, Option, None, Some, refl, sym, ap, subst, rules, ◌∙◌}
use Rattle.std.specs.Prelude.{is_some, not}
use Rattle.check_reading.specs.Readings.{unread_from}
use Rattle.check_inspect.specs.Findings.{AreFindings}
use Rattle.check_inspect.specs.Inspections.{is_none}
use Rattle.check_inspect.proofs.inspection.inspect.Goals as goal

none_if_not_some : (o : Option ℕ) (b : Bool) → not b ≡ is_some o → b ≡ is_none o
none_if_not_some None true is = refl
none_if_not_some None false is = absurd cc
none_if_not_some (Some n) true is = absurd cc
none_if_not_some (Some n) false is = refl

pub returns : goal.returns
returns c =
    let read = c.in_ok-objects.ensures.reading in
    let puts = c.in_ok-put_findings.ensures in
    let none : c.is_none.result ≡ is_none (unread_from 0 read.steps) =
    none_if_not_some c.in_ok-objects.field-0.unread c.is_none.result (sym c.is_none.ensures) ∙ ap is_none read.unread in
    record {
      steps = read.steps;
      reading = read.reading;
      objects = read.objects;
      records = read.records;
      replaced = read.replaced;
      passed = read.passed;
      of_rules = puts.found;
      left_out = puts.left_out;
      found = search rules;
      are_findings = subst (λ (b : Bool). AreFindings b c.in_ok-objects.field-0.objects puts.found puts.left_out) none puts.are;
      not_judged = search rules;
    }
