-- NULL is not the ID of an object in the store of an acceptable pool, whatever has run on it.
use Rattle.std.proofs.Common.{◌≡◌, ◌<◌, map, Option, Some, None, refl, sym, ap, subst, ◌∙◌}
use Rattle.std.specs.List.{All}
use Rattle.std.specs.Option.{option_map}
use Rattle.std.specs.FinMap as finite
use Rattle.vt_kinds.specs.Ids.{null_id}
use Rattle.vt_kinds.specs.Records.{Seen, kind_of}
use Rattle.vt_stores.specs.Stores.{Objects, ids, map_of}
use Rattle.vt_macros.specs.Runs.{NullIsNoObject}
use Rattle.vt_machine.proofs.StateBeforeAndAfter.{kind_stays}
use Rattle.vt_shown.proofs.DrawnElements.{null_nowhere}
use Rattle.vt_macros.proofs.StoreInOrder.{entries_are, shape_is}

none_there : (o : Option Seen) → option_map kind_of o ≡ None → o ≡ None
none_there None is = refl
none_there (Some o) is = absurd cc

pub null_is_no_object : NullIsNoObject
null_is_no_object pool store stored ready =
    let named : All (λ id. id < null_id) (map (λ e. e.0) (finite.entries (map_of pool))) =
    subst (λ (es : Objects). All (λ id. id < null_id) (ids es)) (sym (entries_are pool stored)) stored.named.named in
    none_there (finite.get store null_id)
    (kind_stays store (map_of pool) null_id (ready.shape ∙ sym (shape_is pool stored)) ∙ ap (option_map kind_of) (null_nowhere (map_of pool) named))
