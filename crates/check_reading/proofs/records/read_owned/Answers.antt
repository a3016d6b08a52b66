use Rattle.std.proofs.Common.{◌≡◌, ℕ, List, ◌++◌, ap₂, sym, ◌∙◌}
use Rattle.vt_kinds.specs.Records.{Seen, seen, record_of}
use Rattle.check_reading.proofs.lemmas.Bytes.{drop_front}
use Rattle.check_reading.proofs.records.read_owned.Goals as goal

pub returns-clause-parts : goal.returns-clause-parts
returns-clause-parts c =
    let bytes = c.args.bytes.now in
    let front = record_of c.in_ok-record.record.id (seen c.in_ok-record.record.object) in
    let rest = c.in_ok-record.record.rest.now in
    let parts : bytes ≡ front ++ rest = c.in_ok-record.ensures.parts in
    parts
    ∙ ap₂ (λ (o : Seen) (l : List ℕ). record_of c.in_ok-record.record.id o ++ l) (sym c.in_ok-object.ensures) (sym (drop_front bytes front rest parts))
