use Rattle.std.proofs.Common.{◌≡◌, ◌≢◌, length, vec_len, sym, ◌∙◌, eq-eqb, arith}
use Rattle.std.proofs.lemmas.Bool.{eqb-true, false≢true}
use Rattle.vt_can.proofs.lemmas.transport.Places.{inside_table, table_read, table_removed, read_none, removed_none, is_allocated, for_some, ArePlaces-removed}
use Rattle.vt_can.proofs.transport.sessions.Sessions.take.Goals as goal

pub returns-then-is_empty-clause-found : goal.returns-then-is_empty-clause-found
returns-then-is_empty-clause-found g c =
    let none : length c.self.inside.places.items ≡ 0 = omega (arith, eqb-true (vec_len c.self.inside.places) 0 (sym c.if-is_empty.ensures), c.self.inside.places.ok.0) in
    read_none _ _ _ none c.self.view_is

pub returns-then-is_empty-clause-left : goal.returns-then-is_empty-clause-left
returns-then-is_empty-clause-left g c =
    let none : length c.self.inside.places.items ≡ 0 = omega (arith, eqb-true (vec_len c.self.inside.places) 0 (sym c.if-is_empty.ensures), c.self.inside.places.ok.0) in
    sym c.self.view_is ∙ removed_none _ _ _ none c.self.view_is

pub invariant_of-self : goal.invariant_of-self
invariant_of-self g c =
    let some : length c.self.inside.places.items ≢ 0 = λ none. false≢true (sym c.if-is_empty.false ∙ c.is_empty.ensures ∙ eq-eqb (vec_len c.self.inside.places) 0 (omega (arith, none, c.self.inside.places.ok.0))) in
    let here = inside_table _ _ c.from.result c.self.invariant some (omega (arith, c.from.ensures)) in
    ArePlaces-removed _ _ _ _ c.take.ensures.after c.self.invariant here

pub returns-clause-found : goal.returns-clause-found
returns-clause-found g c =
    let some : length c.self.inside.places.items ≢ 0 = λ none. false≢true (sym c.if-is_empty.false ∙ c.is_empty.ensures ∙ eq-eqb (vec_len c.self.inside.places) 0 (omega (arith, none, c.self.inside.places.ok.0))) in
    let here = inside_table _ _ c.from.result c.self.invariant some (omega (arith, c.from.ensures)) in
    table_read c.self.inside.places.items c.from.result _ _ _ _ (c.take.ensures.value ∙ c.index_mut.ensures.value) c.from.ensures here c.self.view_is

pub returns-clause-left : goal.returns-clause-left
returns-clause-left g c =
    let some : length c.self.inside.places.items ≢ 0 = λ none. false≢true (sym c.if-is_empty.false ∙ c.is_empty.ensures ∙ eq-eqb (vec_len c.self.inside.places) 0 (omega (arith, none, c.self.inside.places.ok.0))) in
    let here = inside_table _ _ c.from.result c.self.invariant some (omega (arith, c.from.ensures)) in
    table_removed _ _ _ _ _ c.take.ensures.after c.from.ensures here c.self.view_is

pub returns-clause-allocated : goal.returns-clause-allocated
returns-clause-allocated g c =
    let some : length c.self.inside.places.items ≢ 0 = λ none. false≢true (sym c.if-is_empty.false ∙ c.is_empty.ensures ∙ eq-eqb (vec_len c.self.inside.places) 0 (omega (arith, none, c.self.inside.places.ok.0))) in
    for_some _ _ (is_allocated _ _ _ c.self.invariant some c.self.view_is)
