use Rattle.vt_kinds.specs.Records.{seen}
use Rattle.vt_writing.proofs.Fitting.{listed_has_record}
use Rattle.vt_writing.proofs.write.write_object.Goals as goal

pub returns-in_err-put_u16-clause-record : goal.returns-in_err-put_u16-clause-record
returns-in_err-put_u16-clause-record g c =
    listed_has_record c.args.id (seen c.args.object.now) _ c.requires c.values_of-values.ensures (rw (← c.deref.ensures.0) c.each_fits.ensures)

pub returns-in_err-push-clause-record : goal.returns-in_err-push-clause-record
returns-in_err-push-clause-record g c =
    listed_has_record c.args.id (seen c.args.object.now) _ c.requires c.values_of-values.ensures (rw (← c.deref.ensures.0) c.each_fits.ensures)

pub returns-in_err-write_each-clause-record : goal.returns-in_err-write_each-clause-record
returns-in_err-write_each-clause-record g c =
    listed_has_record c.args.id (seen c.args.object.now) _ c.requires c.values_of-values.ensures (rw (← c.deref.ensures.0) c.each_fits.ensures)

pub returns-clause-record : goal.returns-clause-record
returns-clause-record g c =
    listed_has_record c.args.id (seen c.args.object.now) _ c.requires c.values_of-values.ensures (rw (← c.deref.ensures.0) c.each_fits.ensures)
