use Rattle.std.proofs.Common.{arith}
use Rattle.vt_records.proofs.ResultsOfReadRecord.{has_record, has_parts, is_shorter, is_stop}
use Rattle.vt_records.proofs.record.read_record.Goals as goal

pub returns-clause-record : goal.returns-clause-record
returns-clause-record c =
    has_record (λ r. r.id) (λ r. r.object) (λ r. r.rest.now) c.args.bytes.now (λ i. omega (arith, c.type_inv.bytes i)) c.parse_record.result c.parse_record.ensures

pub returns-clause-parts : goal.returns-clause-parts
returns-clause-parts c =
    has_parts (λ r. r.id) (λ r. r.object) (λ r. r.rest.now) c.args.bytes.now (λ i. omega (arith, c.type_inv.bytes i)) c.parse_record.result c.parse_record.ensures

pub returns-clause-shorter : goal.returns-clause-shorter
returns-clause-shorter c =
    is_shorter (λ r. r.id) (λ r. r.object) (λ r. r.rest.now) c.args.bytes.now (λ i. omega (arith, c.type_inv.bytes i)) c.parse_record.result c.parse_record.ensures

pub returns-clause-fault : goal.returns-clause-fault
returns-clause-fault c = is_stop (λ r. r.id) (λ r. r.object) (λ r. r.rest.now) c.args.bytes.now c.parse_record.result (λ i. omega (arith, c.type_inv.bytes i)) c.parse_record.ensures
