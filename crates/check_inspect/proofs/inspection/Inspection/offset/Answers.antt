use Rattle.std.proofs.Common.{◌≡◌, Some, subst, rules}
use Rattle.check_inspect.specs.declared.finding.FindingPlace.TheVariants as places
use Rattle.check_inspect.specs.Places.{HasOffset, IsRecordOf, place_of}
use Rattle.check_inspect.proofs.inspection.Inspection.offset.Goals as goal

pub returns-in_ok-record-in-Command-clause-found : goal.returns-in_ok-record-in-Command-clause-found
returns-in_ok-record-in-Command-clause-found c many has =
    let i = c.args.self.now in
    let id = c.in-Command.id in
    let record_there = c.in_ok-record-in-Command.field-0.now in
    let place : place_of c.args.finding.now ≡ Some (places.Command id c.in-Command.at) = search rules in
    let there : HasOffset i (Some (places.Command id c.in-Command.at)) = subst (HasOffset i) place has in
    let is : IsRecordOf i id record_there = search rules in
    c.command_at.ensures.found (there.1 record_there is)
