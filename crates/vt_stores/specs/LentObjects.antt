-- The representation of the objects that a store lends, for the contracts of `get_mut`.
use denote.RattleType.{RattleType}
use Rattle.std.specs.Borrow.{u8}
use Rattle.std.specs.contracts.vec.Vec as vec
use Rattle.std.specs.contracts.alloc.Global as global
use Rattle.std.specs.contracts.impls.GlobalAllocator.TheImpl.{ghosts}
use Rattle.vt_kinds.specs.contracts.object.Object as object

abbrev pub bytes_row : RattleType
bytes_row = vec.the_row u8 global.the_row ghosts

abbrev pub object_row : RattleType
object_row = object.the_row bytes_row (record { items = λ v. v.items })
