use Rattle.std.proofs.Common.{◌<◌, length, arith}
use Rattle.vt_can.proofs.lemmas.transport.Places.{table_put, has_places, ArePlaces-put}
use Rattle.vt_can.proofs.transport.sessions.Sessions.put.Goals as goal

pub invariant_of-self : goal.invariant_of-self
invariant_of-self g c =
    let here : c.from.result < length c.self.inside.places.items = omega (arith, has_places _ _ c.requires c.self.view_is, c.from.ensures) in
    ArePlaces-put _ _ _ _ _ c.self.invariant here c.min-self-inside.ensures

pub returns : goal.returns
returns g c =
    let here : c.from.result < length c.self.inside.places.items = omega (arith, has_places _ _ c.requires c.self.view_is, c.from.ensures) in
    table_put _ _ _ _ _ c.from.ensures here c.self.view_is
