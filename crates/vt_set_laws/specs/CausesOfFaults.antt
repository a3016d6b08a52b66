-- What the fault of a macro's command is: an object that is missing, or an object of a kind that is not allowed (docs/PROFILE.md,
-- "Commands in macros").
use Rattle.std.specs.Prelude.{◌≡◌, ◌≢◌, ◌≤◌, ◌↔◌, IsTrue, ℕ, false, List, Option, Some, None}
use Rattle.std.specs.List.{Any}
use Rattle.std.specs.Option.{option_map}
use Rattle.std.specs.FinMap as finite
use Rattle.vt_kinds.specs.declared.kind.Kind.{Kind}
use Rattle.vt_kinds.specs.declared.kinds.Kinds.TheVariants as sets
use Rattle.vt_kinds.specs.Ids.{null_id}
use Rattle.vt_kinds.specs.Records.{Seen, kind_of}
use Rattle.vt_kinds.specs.References.{is_member}
use Rattle.vt_stores.specs.Stores.{ObjectMap}
use Rattle.vt_commands.specs.declared.command.Command.{Command}
use Rattle.vt_commands.specs.declared.target.Target.{Target}
use Rattle.vt_commands.specs.Targets.{object_of, targets}
use Rattle.vt_effects.specs.Soundness.{shape_in}
use Rattle.vt_macros.specs.Machines as machines
use Rattle.vt_macros.specs.Machines.{fault}

-- the kind of a command's object, or None if there is no such object
abbrev pub object_kind : ObjectMap → Option ℕ → Option Kind
object_kind store None = None
object_kind store (Some id) = option_map kind_of (finite.get store id)

-- the IDs that a command names, each with the kinds allowed there; whether its value is an ID depends on the kind of its object
abbrev pub named_by : ObjectMap → Command → List Target
named_by store command = targets (object_kind store (object_of command)) command

-- NULL where NULL is not allowed, or an ID that no object has
pub data IsMissing (store : ObjectMap) (t : Target) : Type 0 where
  null : t.id ≡ null_id → t.may_be_null ≡ false → IsMissing store t
  absent : t.id ≢ null_id → finite.get store t.id ≡ None → IsMissing store t

-- an object of this kind may be named here; the ID of a macro is at most 255
pub record MayBe (t : Target) (kind : Kind) : Type 0 where
  pub member : IsTrue (is_member t.kinds kind)
  pub macro_id : t.kinds ≡ sets.Macros → t.id ≤ 255

-- an object of a kind that is not allowed
pub record IsOfWrongKind (store : ObjectMap) (t : Target) : Type 0 where
  pub object : Seen
  pub is_there : finite.get store t.id ≡ Some object
  pub wrong : MayBe t (kind_of object) → ⊥

-- no ID is missing, but an object is of a wrong kind
pub record HasWrongKind (store : ObjectMap) (command : Command) : Type 0 where
  pub none_missing : Any (IsMissing store) (named_by store command) → ⊥
  pub one_wrong : Any (IsOfWrongKind store) (named_by store command)

-- A command's fault is Missing exactly if an ID that it names is missing. It is Kind exactly if none is missing and an object is of a
-- wrong kind. It is never Spent: of that the machine speaks when it has no step left, whatever the command.
pub record FaultsHaveCauses : Type 0 where
  pub missing : (store : ObjectMap) (command : Command)
      → (fault (shape_in store) command ≡ Some machines.Missing) ↔ Any (IsMissing store) (named_by store command)
  pub kind : (store : ObjectMap) (command : Command) → finite.get store null_id ≡ None
      → (fault (shape_in store) command ≡ Some machines.Kind) ↔ HasWrongKind store command
  pub never_spent : (store : ObjectMap) (command : Command) → fault (shape_in store) command ≢ Some machines.Spent
