use Rattle.vt_kinds.specs.Records.{seen}
use Rattle.vt_writing.proofs.Fitting.{listed_has_record}
use Rattle.vt_writing.proofs.laws.objects_have_records.Goals as goal

pub returns : goal.returns
returns g c =
    listed_has_record c.args.id (seen c.args.object.now) c.values_of.result.items c.requires c.values_of.ensures
    (rw (← c.deref.ensures.0) c.each_fits.ensures)
