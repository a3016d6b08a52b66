use Rattle.std.proofs.Common.{◌≡◌, ℕ, [], ◌∷◌, ◌++◌, List, map, sym, ap, ◌∙◌, rules}
use Rattle.std.proofs.lemmas.List.{map-append}
use Rattle.std.specs.Prelude.{nat_eq}
use Rattle.std.specs.Map.{lookup}
use Rattle.indexmap.specs.IndexMap.{get}
use Rattle.vt_kinds.specs.declared.kind.Kind.{Kind}
use Rattle.vt_stores.proofs.ObjectShapes.{seen_kind}
use Rattle.vt_stores.specs.Stores.{seen_entry}
use Rattle.check_reading.specs.declared.pool_reading.ReplacedRecord.{ReplacedRecord}
use Rattle.check_reading.specs.Readings.{found_at}
use Rattle.check_reading.proofs.lemmas.InForce.{collecting_begins, collects_replaced, collects_object, collected_objects}
use Rattle.check_reading.proofs.in_force.in_force.Goals as goal

pub loop-record-init : goal.loop-record-init
loop-record-init c =
    collecting_begins (map found_at c.args.found.items) (map seen_entry c.in_ok-entries.entries.items) (λ q. get nat_eq c.new-places.result q) c.new-replaced.result.items
    (ap (λ (l : List _). map seen_entry l) c.in_ok-entries.ensures.items)
    (λ q. ap (λ (es : List (ℕ × ℕ)). lookup (nat_eq q) es) c.new-places.ensures.empty)
    c.new-replaced.ensures.items

pub loop-record-preserved-in-Some-get : goal.loop-record-preserved-in-Some-get
loop-record-preserved-in-Some-get c =
    let f = found_at c.in-Some.record in
    let made : Kind → ReplacedRecord = λ kind. record { id = f.id; kind = kind; at = f.at; by = c.in-Some-get.by.now } in
    collects_replaced (map found_at c.args.found.items) (map found_at c.loop-record.found.items) (map found_at c.pop.new.self.items) f
    (map seen_entry c.loop-record.entries.items) (λ q. get nat_eq c.loop-record.places q) c.loop-record.replaced.items c.loop-record.invariant
    (ap (map found_at) c.in-Some.ensures.items ∙ map-append found_at c.pop.new.self.items (c.in-Some.record ∷ []))
    c.in-Some-get.by.now c.push.new.self.items (sym c.in-Some-get.ensures.value)
    (c.in_ok-push-in-Some-get.ensures.items
    ∙ ap (λ (kind : Kind). c.loop-record.replaced.items ++ made kind ∷ []) (c.kind.ensures ∙ sym (seen_kind c.in-Some.record.object)))

pub loop-record-preserved : goal.loop-record-preserved
loop-record-preserved c =
    let f = found_at c.in-Some.record in
    collects_object (map found_at c.args.found.items) (map found_at c.loop-record.found.items) (map found_at c.pop.new.self.items) f
    (map seen_entry c.loop-record.entries.items) (λ q. get nat_eq c.loop-record.places q) c.loop-record.replaced.items c.loop-record.invariant
    (ap (map found_at) c.in-Some.ensures.items ∙ map-append found_at c.pop.new.self.items (c.in-Some.record ∷ []))
    (map seen_entry c.push-in-None.new.self.items) (λ q. get nat_eq c.insert.new.self q) (sym c.in-None.ensures.value) c.requires
    (ap (λ (l : List _). map seen_entry l) c.in_ok-push-in-None.ensures.items ∙ map-append seen_entry c.loop-record.entries.items _)
    c.in_ok-insert-in-None.ensures.updates.0

pub returns-clause-objects : goal.returns-clause-objects
returns-clause-objects c =
    let none : c.loop-record.found.items ≡ [] = search rules in
    c.in_ok-objects.ensures.made
    ∙ collected_objects (map found_at c.args.found.items) (map found_at c.loop-record.found.items) (map seen_entry c.loop-record.entries.items)
    (λ q. get nat_eq c.loop-record.places q) c.loop-record.replaced.items c.loop-record.invariant (ap (map found_at) none)
