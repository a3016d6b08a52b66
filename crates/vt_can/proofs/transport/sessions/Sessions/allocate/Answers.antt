use Rattle.std.proofs.Common.{◌≡◌, length, vec_len, sym, arith}
use Rattle.std.proofs.lemmas.Bool.{eqb-true}
use Rattle.vt_can.proofs.lemmas.transport.Places.{table_allocated}
use Rattle.vt_can.proofs.transport.sessions.Sessions.allocate.Goals as goal

pub returns-in_ok-self-inside-clause-ok : goal.returns-in_ok-self-inside-clause-ok
returns-in_ok-self-inside-clause-ok g c =
    let none : length c.self.inside.places.items ≡ 0 = omega (arith, eqb-true (vec_len c.self.inside.places) 0 (sym c.if-is_empty.ensures), c.self.inside.places.ok.0) in
    table_allocated _ _ _ none c.self.view_is c.in_ok-self-inside.ensures.all c.in_ok-self-inside.ensures.empty
