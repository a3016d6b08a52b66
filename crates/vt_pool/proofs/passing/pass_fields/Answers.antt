use Rattle.std.proofs.Common.{ℕ, List, Bor, arith}
use Rattle.std.proofs.lemmas.List.{take_rest}
use Rattle.vt_kinds.specs.Records.{fields_of}
use Rattle.vt_pool.proofs.FieldSkips.{begins, next_field, returns_short, returns_fault, returns_rest}
use Rattle.vt_pool.proofs.passing.pass_fields.Goals as goal

pub loop-field-init : goal.loop-field-init
loop-field-init c =
    rw (take_rest c.args.bytes.now 3, c.none-counts.ensures) (begins (fields_of c.args.kind) c.args.bytes.now c.args.at (λ i. omega (arith, c.type_inv.bytes i)) c.requires.head)

pub loop-field-preserved : goal.loop-field-preserved
loop-field-preserved c =
    next_field (fields_of c.args.kind) c.layout-field-items.result.now c.args.bytes.now c.args.at c.loop-field.field-index c.loop-field.met c.loop-field.counts c.loop-field.rest.now _
    c.in-Some.front.now c.in-Some.behind.now c.fault.result c.or-met.result c.count-counts.result
    c.layout-field-items.ensures.layout c.loop-field-test.true c.loop-field.invariant
    c.in-Some.ensures.there c.in-Some.ensures.front c.in-Some.ensures.rest c.fault.ensures c.or-met.ensures c.count-counts.ensures

pub returns-in-None-clause-passes : goal.returns-in-None-clause-passes
returns-in-None-clause-passes c =
    returns_short {X = Bor (List ℕ)} (λ r. r.now) (fields_of c.args.kind) c.layout-field-items.result.now c.args.bytes.now c.args.at c.loop-field.field-index c.loop-field.met c.loop-field.counts c.loop-field.rest.now _
    c.layout-field-items.ensures.layout c.loop-field-test.true c.loop-field.invariant c.in-None.ensures.none

pub returns-in-Some-met-clause-passes : goal.returns-in-Some-met-clause-passes
returns-in-Some-met-clause-passes c =
    returns_fault {X = Bor (List ℕ)} (λ r. r.now) (fields_of c.args.kind) c.layout-field-items.result.now c.args.bytes.now c.args.at c.loop-field.field-index c.loop-field.met c.loop-field.counts c.loop-field.rest.now c.in-Some-met.fault
    c.layout-field-items.ensures.layout c.loop-field-test.false c.loop-field.invariant c.in-Some-met.is

pub returns-in-None-met-clause-passes : goal.returns-in-None-met-clause-passes
returns-in-None-met-clause-passes c =
    returns_rest {X = Bor (List ℕ)} (λ r. r.now) (fields_of c.args.kind) c.layout-field-items.result.now c.args.bytes.now c.args.at c.loop-field.field-index c.loop-field.met c.loop-field.counts c.loop-field.rest
    c.layout-field-items.ensures.layout c.loop-field-test.false c.loop-field.invariant c.in-None-met.is
