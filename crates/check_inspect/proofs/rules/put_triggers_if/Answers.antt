use Rattle.std.proofs.Common.{◌≡◌, true, false, [], ◌∷◌, refl, sym, ◌∙◌}
use Rattle.std.proofs.lemmas.List.{append-nil}
use Rattle.check_inspect.specs.declared.inspection.Note.TheVariants as notes
use Rattle.check_inspect.specs.Findings.AreOfTriggers.{Cut}
use Rattle.check_inspect.proofs.rules.put_triggers_if.Goals as goal

pub returns : goal.returns
returns c = record {
  found = [];
  left_out = notes.UnknownTriggers ∷ [];
  findings_are = sym (append-nil c.args.findings.now.items);
  notes_are = c.in_ok-push.ensures.items;
  are = Cut (λ none. let yes : c.args.are_whole ≡ true = c.requires.1 none in let never : false ≡ true = sym c.if-are_whole.false ∙ yes in absurd cc) refl refl;
}
