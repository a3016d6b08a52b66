use Rattle.std.proofs.Common.{ℕ, Option, Result, ◌≡◌, ◌∙◌, sym, ap, subst}
use Rattle.vt_kinds.specs.declared.kind.Kind.{Kind}
use Rattle.vt_stores.specs.Stores.{ObjectMap}
use Rattle.vt_effects.specs.Changes.{HasResult, left, other_id}
use Rattle.vt_effects.specs.Effects.{changed_by, other_kind}
use Rattle.vt_chains.specs.Certificates.{AreLevels}
use Rattle.vt_effects.proofs.lemmas.stores.CommandExecution.{effect_plain, levels_plain}
use Rattle.vt_effects.proofs.execution.execute.Goals as goal

pub returns-in-None-clause-result : goal.returns-in-None-clause-result
returns-in-None-clause-result g c =
    let m = g.S.Store.contents c.args.store.now in
    let kind_of_other : c.other_kind-kind_of_other.result ≡ other_kind m (other_id c.args.command.now) = c.other_kind-kind_of_other.ensures ∙ ap (other_kind m) c.other_id.ensures in
    subst (λ (x : Result ObjectMap ℕ). HasResult c.change_in.result x)
    (ap (changed_by m c.args.command.now) kind_of_other ∙ sym (effect_plain m c.args.command.now (sym c.in-None.ensures))) c.change_in.ensures.result

pub returns-in-None-clause-objects : goal.returns-in-None-clause-objects
returns-in-None-clause-objects g c =
    let m = g.S.Store.contents c.args.store.now in
    let kind_of_other : c.other_kind-kind_of_other.result ≡ other_kind m (other_id c.args.command.now) = c.other_kind-kind_of_other.ensures ∙ ap (other_kind m) c.other_id.ensures in
    c.change_in.ensures.objects
    ∙ ap (left m) (ap (changed_by m c.args.command.now) kind_of_other ∙ sym (effect_plain m c.args.command.now (sym c.in-None.ensures)))

pub returns-in-None-clause-levels : goal.returns-in-None-clause-levels
returns-in-None-clause-levels g c =
    let m = g.S.Store.contents c.args.store.now in
    let kind_of_other : c.other_kind-kind_of_other.result ≡ other_kind m (other_id c.args.command.now) = c.other_kind-kind_of_other.ensures ∙ ap (other_kind m) c.other_id.ensures in
    subst (λ (n : ObjectMap). AreLevels n c.args.levels.now) (sym (c.change_in.ensures.objects ∙ ap (λ (k : Option Kind). left m (changed_by m c.args.command.now k)) kind_of_other))
    (levels_plain m c.args.command.now c.args.levels.now (sym c.in-None.ensures) c.requires.levels)
