use Rattle.std.proofs.Common.{◌≡◌, ◌≢◌, length, vec_len, sym, ◌∙◌, eq-eqb, arith, refl}
use Rattle.std.proofs.lemmas.Bool.{eqb-true, false≢true}
use Rattle.vt_can.proofs.lemmas.transport.Places.{inside_table, table_removed, removed_none, ArePlaces-removed}
use Rattle.vt_can.proofs.transport.sessions.Sessions.remove.Goals as goal

pub returns-then-is_empty : goal.returns-then-is_empty
returns-then-is_empty g c =
    let none : length c.self.inside.places.items ≡ 0 = omega (arith, eqb-true (vec_len c.self.inside.places) 0 (sym c.if-is_empty.ensures), c.self.inside.places.ok.0) in
    sym c.self.view_is ∙ removed_none _ _ _ none c.self.view_is

pub invariant_of-self : goal.invariant_of-self
invariant_of-self g c =
    let some : length c.self.inside.places.items ≢ 0 = λ none. false≢true (sym c.if-is_empty.false ∙ c.is_empty.ensures ∙ eq-eqb (vec_len c.self.inside.places) 0 (omega (arith, none, c.self.inside.places.ok.0))) in
    let here = inside_table _ _ c.from.result c.self.invariant some (omega (arith, c.from.ensures)) in
    ArePlaces-removed _ _ _ _ refl c.self.invariant here

pub returns : goal.returns
returns g c =
    let some : length c.self.inside.places.items ≢ 0 = λ none. false≢true (sym c.if-is_empty.false ∙ c.is_empty.ensures ∙ eq-eqb (vec_len c.self.inside.places) 0 (omega (arith, none, c.self.inside.places.ok.0))) in
    let here = inside_table _ _ c.from.result c.self.invariant some (omega (arith, c.from.ensures)) in
    table_removed _ _ _ _ _ refl c.from.ensures here c.self.view_is
