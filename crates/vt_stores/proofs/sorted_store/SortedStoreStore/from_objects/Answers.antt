use Rattle.vt_stores.proofs.StoreMethods.{made_of}
use Rattle.vt_stores.proofs.sorted_store.SortedStoreStore.from_objects.Goals as goal

pub sort-requires : goal.sort-requires
sort-requires c = rw c.in_ok-entries.ensures c.requires

pub returns : goal.returns
returns c = made_of c.sort.new.entries.items c.in_ok-entries.entries.items c.args.objects.now c.in_ok-sort.ensures.sorted c.in_ok-entries.ensures
