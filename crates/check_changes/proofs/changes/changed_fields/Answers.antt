use Rattle.std.proofs.Common.{refl, map, ◌∙◌, ap}
use Rattle.vt_writing.specs.declared.value.Value.{Value}
use Rattle.vt_writing.specs.Values.{value_of}
use Rattle.check_changes.specs.ChangedFields.{Row}
use Rattle.check_changes.specs.Changes.{Change}
use Rattle.check_changes.specs.Names.{name_bytes, not_counts}
use Rattle.check_changes.proofs.Steps.{in_changed, map_twice, unlike}
use Rattle.check_changes.proofs.changes.changed_fields.Goals as goal

pub returns-then-number-clause-names : goal.returns-then-number-clause-names
returns-then-number-clause-names c =
    ap name_bytes c.new.ensures.items ∙ ap (map (λ (f : Change). f.name)) (unlike c.args.old.now c.args.new.now (λ same. c.if-number.true (cc)))

pub returns-then-number-clause-old : goal.returns-then-number-clause-old
returns-then-number-clause-old c =
    ap (map value_of) c.new-then-number.ensures.items ∙ ap (map (λ (f : Change). f.old)) (unlike c.args.old.now c.args.new.now (λ same. c.if-number.true (cc)))

pub returns-then-number-clause-new : goal.returns-then-number-clause-new
returns-then-number-clause-new c =
    ap (map value_of) c.new-then-number-2.ensures.items ∙ ap (map (λ (f : Change). f.new)) (unlike c.args.old.now c.args.new.now (λ same. c.if-number.true (cc)))

pub returns-clause-names : goal.returns-clause-names
returns-clause-names c =
    in_changed (name_bytes c.in_ok-changed_names.changed_names.items) (λ (row : Row Value). row.0.0.now) (λ (f : Change). f.name) (λ row. refl)
    c.args.old.now c.args.new.now c.names_of-names.result.now c.values_of.result.items c.values_of-2.result.items c.deref-3.result.now c.deref-4.result.now
    (cc) (cc) c.values_of.ensures c.values_of-2.ensures
    (c.deref-3.ensures.value ∙ c.in_ok-old_values.ensures ∙ ap not_counts c.deref.ensures.0)
    (c.deref-4.ensures.value ∙ c.in_ok-new_values.ensures ∙ ap not_counts c.deref-2.ensures.0)
    (ap name_bytes c.in_ok-changed_names.ensures ∙ map_twice (λ n. n.now) (λ (row : Row Value). row.0.0) _)

pub returns-clause-old : goal.returns-clause-old
returns-clause-old c =
    in_changed (map value_of c.in_ok-changed_old.changed_old.items) (λ (row : Row Value). value_of row.0.1) (λ (f : Change). f.old) (λ row. refl)
    c.args.old.now c.args.new.now c.names_of-names.result.now c.values_of.result.items c.values_of-2.result.items c.deref-5.result.now c.deref-6.result.now
    (cc) (cc) c.values_of.ensures c.values_of-2.ensures
    (c.deref-5.ensures.value ∙ c.in_ok-old_values.ensures ∙ ap not_counts c.deref.ensures.0)
    (c.deref-6.ensures.value ∙ c.in_ok-new_values.ensures ∙ ap not_counts c.deref-2.ensures.0)
    (ap (map value_of) c.in_ok-changed_old.ensures ∙ map_twice value_of (λ (row : Row Value). row.0.1) _)

pub returns-clause-new : goal.returns-clause-new
returns-clause-new c =
    in_changed (map value_of c.in_ok-changed_new.changed_new.items) (λ (row : Row Value). value_of row.1) (λ (f : Change). f.new) (λ row. refl)
    c.args.old.now c.args.new.now c.names_of-names.result.now c.values_of.result.items c.values_of-2.result.items c.deref-7.result.now c.deref-8.result.now
    (cc) (cc) c.values_of.ensures c.values_of-2.ensures
    (c.deref-7.ensures.value ∙ c.in_ok-old_values.ensures ∙ ap not_counts c.deref.ensures.0)
    (c.deref-8.ensures.value ∙ c.in_ok-new_values.ensures ∙ ap not_counts c.deref-2.ensures.0)
    (ap (map value_of) c.in_ok-changed_new.ensures ∙ map_twice value_of (λ (row : Row Value). row.1) _)
