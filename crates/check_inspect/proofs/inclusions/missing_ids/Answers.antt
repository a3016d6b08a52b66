use Rattle.std.proofs.Common.{◌≡◌, ℕ, ◌+◌, List, [], ◌∷◌, ◌++◌, take, subst, sym, ap, ◌∙◌, arith}
use Rattle.std.proofs.lemmas.List.{take_more}
use Rattle.std.specs.Prelude.{eqb}
use Rattle.std.specs.List.{IsDistinct}
use Rattle.check_inspect.specs.declared.finding.ReferenceAt.{ReferenceAt}
use Rattle.check_inspect.specs.Missing.{AreMissingIds}
use Rattle.check_inspect.proofs.lemmas.Missing.{skips_null, puts_id}
use Rattle.check_inspect.proofs.inclusions.missing_ids.Goals as goal
use Rattle.check_inspect.proofs.inclusions.missing_ids.Goals.{then-raw+in_ok-insert, else-raw}

pub loop-found-preserved : goal.loop-found-preserved
loop-found-preserved c =
    let r = c.found-item.result in
    let absent = c.args.absent.now in
    let i = c.loop-found.found-index in
    let one : take (i + 1) absent ≡ take i absent ++ r ∷ [] =
    take_more absent i r c.loop-found-test.true ∙ ap (λ (s : ReferenceAt). take i absent ++ s ∷ []) (sym c.found-item.is) in
    subst (λ (rs : List ReferenceAt). AreMissingIds rs c.if-raw.ids.keys) (sym one)
    (elim c.if-raw.branch as (λ _. AreMissingIds (take i absent ++ r ∷ []) c.if-raw.ids.keys) [
      | then-raw+in_ok-insert w ↦
          let keys = ap (λ s. s.keys) w.ids-is in
          puts_id (take i absent) c.loop-found.ids.keys r c.loop-found.invariant c.if-raw.ids.keys (omega arith)
          (keys ∙ w.in_ok-insert.ensures.keys)
          (subst (IsDistinct eqb) (sym keys) w.in_ok-insert.ensures.unique)
      | else-raw w ↦
          subst (λ (ks : List ℕ). AreMissingIds (take i absent ++ r ∷ []) ks) (sym (ap (λ s. s.keys) w.ids-is))
          (skips_null (take i absent) c.loop-found.ids.keys r c.loop-found.invariant (omega arith))
    ])
