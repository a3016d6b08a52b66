use Rattle.std.proofs.Common.{ℕ, List, ◌++◌, sym, ap, ◌∙◌}
use Rattle.vt_kinds.specs.Records.{record_of}
use Rattle.check_needs.proofs.lemmas.SeenRecords.{seen_record}
use Rattle.check_needs.proofs.differences.record_of.Goals as goal

pub returns : goal.returns
returns c =
    c.in_ok-write_object.ensures.ok
    ∙ ap (λ (front : List ℕ). front ++ record_of c.from_raw.result c.args.object.now) c.new-record.ensures.items
    ∙ ap (λ (id : ℕ). record_of id c.args.object.now) c.from_raw.ensures
    ∙ sym (seen_record 0 c.args.object.now)
