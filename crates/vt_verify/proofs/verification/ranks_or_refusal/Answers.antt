use Rattle.std.proofs.Common.{Result, List, ℕ, OnOk, IfErr, subst, slice_index}
use Rattle.vt_rank.specs.declared.circle.Circle.{Circle}
use Rattle.vt_rank.specs.Graphs.{triggered}
use Rattle.vt_rank.specs.Paths.{HasNoCircle, IsCircle, IsDistinct, IsLeastOnCircles}
use Rattle.vt_stores.specs.Shapes.{shape_of}
use Rattle.vt_verify.proofs.lemmas.rules.Acceptance.{before_budgets}
use Rattle.vt_chains.specs.Limits.{terminal}
use Rattle.vt_verify.proofs.lemmas.graphs.SameTriggers.{no_circle, least_circle}
use Rattle.vt_verify.proofs.verification.ranks_or_refusal.Goals as goal

pub returns-in-Ok-clause-ok : goal.returns-in-Ok-clause-ok
returns-in-Ok-clause-ok c =
    let none = subst (λ (ranked : Result (List ℕ) Circle). OnOk ranked (HasNoCircle (triggered c.args.triggers.now.graph))) c.in-Ok.is c.requires.none in
    before_budgets terminal c.args.objects.now c.requires.before
    (no_circle (shape_of c.args.objects.now) c.args.triggers.now.events.keys c.args.triggers.now.graph c.requires.triggers none)

pub returns-in-Err-clause-refused : goal.returns-in-Err-clause-refused
returns-in-Err-clause-refused c =
    let next = triggered c.args.triggers.now.graph in
    let about = λ (P : Circle → Type 0) (told : IfErr c.args.ranked P). subst (λ (ranked : Result (List ℕ) Circle). IfErr ranked P) c.in-Err.is told in (
      c.requires.before,
      least_circle (shape_of c.args.objects.now) c.args.triggers.now.events.keys c.args.triggers.now.graph c.requires.triggers c.in-Err.circle.path.items
          (about (λ circle. IsCircle next circle.path.items) c.requires.circle)
          (about (λ circle. IsDistinct circle.path.items) c.requires.once)
          (about (λ circle. IsLeastOnCircles next (slice_index circle.path.items 0)) c.requires.least),
    )
