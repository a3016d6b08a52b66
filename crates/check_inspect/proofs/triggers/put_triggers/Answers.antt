use Rattle.std.proofs.Common.{◌≡◌, ℕ, List, [], ◌∷◌, map, refl, sym, subst}
use Rattle.std.proofs.lemmas.List.{append-nil}
use Rattle.vt_rank.specs.Graphs as graphs
use Rattle.check_circles.specs.Circles.{AreCircles}
use Rattle.vt_stores.specs.Shapes.{shape_of}
use Rattle.vt_verify.specs.Triggers.{triggered}
use Rattle.vt_verify.proofs.lemmas.graphs.SameTriggers.{everywhere, triggered_is, circle_is, no_circle}
use Rattle.check_inspect.specs.declared.inspection.Note.TheVariants as notes
use Rattle.check_inspect.specs.Costs.{over_findings}
use Rattle.check_inspect.specs.Findings.{circle_finding}
use Rattle.check_inspect.specs.Findings.AreOfTriggers.{Circles, Costs}
use Rattle.check_inspect.proofs.lemmas.Commands.{on_ok}
use Rattle.check_inspect.proofs.lemmas.Whole.{all_whole}
use Rattle.check_inspect.proofs.triggers.put_triggers.Goals as goal

pub of_objects-requires : goal.of_objects-requires
of_objects-requires c = all_whole (shape_of c.args.objects.now) c.requires

pub returns-in-Ok : goal.returns-in-Ok
returns-in-Ok c =
    let shape = shape_of c.args.objects.now in
    let t = c.in_ok-triggers.triggers in
    on_ok c.put_over.result c.put_over.ensures
    (λ made. record {
      found = over_findings shape;
      left_out = [];
      findings_are = made;
      notes_are = sym (append-nil c.args.notes.now.items);
      are = Costs c.requires (no_circle shape t.events.keys t.graph c.in_ok-triggers.ensures c.in-Ok.ensures.none) refl refl;
    })

pub returns : goal.returns
returns c =
    let shape = shape_of c.args.objects.now in
    let t = c.in_ok-triggers.triggers in
    let circles = c.in_ok-put_circles-in-Err.ensures in
    let same : graphs.triggered t.graph ≡ triggered shape = everywhere (triggered_is shape t.events.keys t.graph c.in_ok-triggers.ensures) in
    record {
      found = map circle_finding circles.0;
      left_out = notes.UnknownCosts ∷ [];
      findings_are = circles.2;
      notes_are = c.in_ok-push-in-Err.ensures.items;
      are = Circles c.requires
          (λ none. none c.in-Err.field-0.path.items (circle_is shape t.events.keys t.graph c.in_ok-triggers.ensures c.in-Err.field-0.path.items c.in-Err.ensures.circle))
          circles.0 (subst (λ (next : ℕ → List ℕ). AreCircles next circles.0) same circles.1) refl refl;
    }
