use Rattle.std.proofs.Common.{List, Option, sym, ap, subst}
use Rattle.vt_can.specs.declared.transport.sessions.Timed.{Timed}
use Rattle.vt_can.specs.transport.Sessions.{ArePlaces, table_of_places}
use Rattle.vt_can.proofs.lemmas.transport.Places.{ArePlaces-none}
use Rattle.vt_can.proofs.transport.sessions.Sessions.new.Goals as goal

pub invariant_of-result : goal.invariant_of-result
invariant_of-result g c = subst (λ (places : List (Option (Timed _))). ArePlaces places _) (sym c.new.ensures.items) (ArePlaces-none _)

pub returns : goal.returns
returns g c = ap (table_of_places _) c.new.ensures.items
