-- The kinds allowed for a command's object are those that the command can change (docs/PROFILE.md, "Commands in macros",
-- "Commands: form, tests, error byte and events").
use Rattle.std.specs.Prelude.{◌≡◌, IsTrue, ℕ, Bool, true, false, not, ◌==◌, List, [], ◌∷◌, Option, Some, None, Result, Err}
use Rattle.vt_kinds.specs.declared.kind.Kind.{Kind}
use Rattle.vt_kinds.specs.declared.entries.Child.{Child}
use Rattle.vt_kinds.specs.declared.object.Object.TheVariants as objects
use Rattle.vt_kinds.specs.Records.{Seen, kind_of}
use Rattle.vt_kinds.specs.References.{is_member}
use Rattle.vt_commands.specs.declared.command.Command.{Command}
use Rattle.vt_commands.specs.declared.command.Command.TheVariants.{HideShow, EnableDisable, ChangeChildLocation, ChangeSoftKeyMask, ChangeStringValue, ChangeChildPosition, ExecuteMacro}
use Rattle.vt_commands.specs.declared.target.Target.{Target}
use Rattle.vt_commands.specs.Targets.{object_of, targets}
use Rattle.vt_effects.specs.Changes.{changed, stands_in}
use Rattle.vt_effects.specs.Errors.{bit}

-- the error byte for an object of a kind that the command cannot change
abbrev pub kind_error : Command → ℕ
kind_error (HideShow id state) = bit 1
kind_error (EnableDisable id state) = bit 1
kind_error (ChangeStringValue id count text) = bit 1
kind_error (ExecuteMacro id) = bit 1
kind_error _ = bit 0

-- the children of an object, if its kind has children with positions
abbrev pub children_in : Seen → Option (List Child)
children_in (objects.WorkingSet o) = Some o.children
children_in (objects.DataMask o) = Some o.children
children_in (objects.AlarmMask o) = Some o.children
children_in (objects.Container o) = Some o.children
children_in (objects.Key o) = Some o.children
children_in (objects.Button o) = Some o.children
children_in _ = None

-- the child is not among the children of the parent
abbrev pub lacks : Option (List Child) → ℕ → Bool
lacks None child = false
lacks (Some children) child = not (stands_in child children)

-- the type of a mask in Change Soft Key Mask
abbrev pub mask_type : Seen → ℕ
mask_type (objects.DataMask o) = 1
mask_type (objects.AlarmMask o) = 2
mask_type _ = 0

-- The same error byte has another cause in three commands: the child is not in its parent, or the type is not that of
-- the mask.
abbrev pub has_other_cause : Command → Seen → Bool
has_other_cause (ChangeChildLocation parent child dx dy) o = lacks (children_in o) child
has_other_cause (ChangeChildPosition parent child x y) o = lacks (children_in o) child
has_other_cause (ChangeSoftKeyMask type mask keys) o = not (type == mask_type o)
has_other_cause _ o = false

-- the first ID of a list of targets
abbrev pub first_id : List Target → Option ℕ
first_id [] = None
first_id (t ∷ ts) = Some t.id

-- The first ID of a command is that of its object. The command is refused for its object's kind if that kind is not
-- allowed there; an object of an allowed kind gets the same error byte only for another cause.
pub record KindsAreThoseOfChanges : Type 0 where
  pub object : (kind : Option Kind) (command : Command) → first_id (targets kind command) ≡ object_of command
  pub others : (command : Command) (kind_of_other : Option Kind) (o : Seen) (t : Target) (ts : List Target) → targets (Some (kind_of o)) command ≡ t ∷ ts
      → is_member t.kinds (kind_of o) ≡ false → ◌≡◌ {A = Result Seen ℕ} (changed command kind_of_other o) (Err (kind_error command))
  pub these : (command : Command) (kind_of_other : Option Kind) (o : Seen) (t : Target) (ts : List Target) → targets (Some (kind_of o)) command ≡ t ∷ ts
      → is_member t.kinds (kind_of o) ≡ true → ◌≡◌ {A = Result Seen ℕ} (changed command kind_of_other o) (Err (kind_error command))
      → IsTrue (has_other_cause command o)
