use Rattle.std.proofs.Common.{◌≡◌, ◌≢◌, length, vec_len, sym, ◌∙◌, eq-eqb, arith}
use Rattle.std.proofs.lemmas.Bool.{eqb-true, false≢true}
use Rattle.vt_can.proofs.lemmas.transport.Places.{inside_table, table_read, read_none}
use Rattle.vt_can.proofs.transport.sessions.Sessions.get.Goals as goal

pub returns-then-is_empty : goal.returns-then-is_empty
returns-then-is_empty g c =
    let none : length c.self.inside.places.items ≡ 0 = omega (arith, eqb-true (vec_len c.self.inside.places) 0 (sym c.if-is_empty.ensures), c.self.inside.places.ok.0) in
    read_none _ _ _ none c.self.view_is

pub returns : goal.returns
returns g c =
    let some : length c.self.inside.places.items ≢ 0 = λ none. false≢true (sym c.if-is_empty.false ∙ c.is_empty.ensures ∙ eq-eqb (vec_len c.self.inside.places) 0 (omega (arith, none, c.self.inside.places.ok.0))) in
    let here = inside_table _ _ c.from.result c.self.invariant some (omega (arith, c.from.ensures)) in
    table_read c.self.inside.places.items c.from.result _ _ _ _ (c.as_ref.ensures.value ∙ c.index.ensures) c.from.ensures here c.self.view_is
