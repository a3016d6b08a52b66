-- A command has no fault exactly if all its targets stand: each is NULL, where NULL is allowed, or an object of an allowed kind.
use Rattle.std.proofs.Common.{◌≡◌, ℕ, Bool, true, false, cond, ◌==◌, ◌&&◌, List, [], ◌∷◌, map, Option, Some, None, is_some, refl, sym, ap, ap₂, ◌∙◌}
use Rattle.std.proofs.lemmas.Bool.{and_left, cond-false, ne_eqb}
use Rattle.std.proofs.lemmas.Option.{same_Some}
use Rattle.std.specs.List.{list_all}
use Rattle.std.specs.Option.{option_map}
use Rattle.std.specs.FinMap as finite
use Rattle.vt_kinds.specs.declared.kind.Kind.{Kind}
use Rattle.vt_kinds.specs.declared.kinds.Kinds.{Kinds}
use Rattle.vt_kinds.specs.Ids.{null_id}
use Rattle.vt_kinds.specs.Records.{Seen, kind_of}
use Rattle.vt_commands.specs.declared.command.Command.{Command}
use Rattle.vt_commands.specs.declared.command.Command.TheVariants.{HideShow}
use Rattle.vt_commands.specs.declared.target.Target.{Target}
use Rattle.vt_commands.specs.Targets.{object_of, targets}
use Rattle.vt_stores.specs.Shapes.{kind_at}
use Rattle.vt_stores.specs.Stores.{ObjectMap}
use Rattle.vt_stores.proofs.ObjectShapes.{kind_found}
use Rattle.vt_verify.specs.References.{is_there, fits, may_refer, allows}
use Rattle.vt_verify.specs.Targets.{of_target, kind_for}
use Rattle.vt_effects.specs.Effects.{kind_in, other_kind}
use Rattle.vt_effects.specs.Soundness.{shape_in}
use Rattle.vt_macros.specs.Machines as machines
use Rattle.vt_macros.specs.Machines.{Stuck, fault}
use Rattle.vt_set_laws.specs.CommandKinds.{KindsAreThoseOfChanges, first_id}
use Rattle.vt_set_laws.proofs.AllowedPointersAndItems.{not_null}
use Rattle.vt_set_laws.proofs.KindsOfChanges.{kinds_of_changes}

-- an object is there, and is of an allowed kind
abbrev pub is_of : Kinds → ℕ → Option Kind → Bool
is_of kinds id None = false
is_of kinds id (Some kind) = may_refer kinds id kind

-- a target is NULL, where NULL is allowed, or an object of an allowed kind
abbrev pub stands : ObjectMap → Target → Bool
stands m t = cond (t.id == null_id) t.may_be_null (is_of t.kinds t.id (kind_in m t.id))

-- the targets of a command in a store
abbrev pub targets_in : ObjectMap → Command → List Target
targets_in m command = targets (other_kind m (object_of command)) command

abbrev pub all_stand : ObjectMap → Command → Bool
all_stand m command = list_all (stands m) (targets_in m command)

-- ---- the two tests of a fault

pub kind_is : (m : ObjectMap) (id : ℕ) → kind_in m id ≡ kind_at (shape_in m) id
unfolding shape_in
kind_is m id = ap (option_map kind_of) (finite.get-entries m id) ∙ sym (kind_found (finite.entries m) id)

kind_for_is : (m : ObjectMap) (object : Option ℕ) → kind_for (shape_in m) object ≡ other_kind m object
kind_for_is m None = refl
kind_for_is m (Some id) = sym (kind_is m id)

tests_of : (kinds : Kinds) (id : ℕ) (null may : Bool) (kind : Option Kind)
    → cond null may (is_of kinds id kind) ≡ (cond null may (is_some kind) && cond null true (allows kinds id kind))
tests_of kinds id true true kind = refl
tests_of kinds id true false kind = refl
tests_of kinds id false may None = refl
tests_of kinds id false may (Some kind) = refl

-- a target stands exactly if it passes both tests
stands_by : (m : ObjectMap) (t : Target) → stands m t ≡ (is_there (shape_in m) (of_target 0 t) && fits (shape_in m) (of_target 0 t))
stands_by m t =
    ap (λ (kind : Option Kind). cond (t.id == null_id) t.may_be_null (is_of t.kinds t.id kind)) (kind_is m t.id)
    ∙ tests_of t.kinds t.id (t.id == null_id) t.may_be_null (kind_at (shape_in m) t.id)

and_swap : (a b c d : Bool) → ((a && c) && (b && d)) ≡ ((a && b) && (c && d))
and_swap true true c d = refl
and_swap true false true d = refl
and_swap true false false d = refl
and_swap false b c d = refl

abbrev pub all_there : ObjectMap → List Target → Bool
all_there m ts = list_all (is_there (shape_in m)) (map (of_target 0) ts)

abbrev pub all_fit : ObjectMap → List Target → Bool
all_fit m ts = list_all (fits (shape_in m)) (map (of_target 0) ts)

all_stand_by : (m : ObjectMap) (ts : List Target) → list_all (stands m) ts ≡ (all_there m ts && all_fit m ts)
all_stand_by m [] = refl
all_stand_by m (t ∷ ts) =
    ap₂ (λ (a b : Bool). a && b) (stands_by m t) (all_stand_by m ts)
    ∙ and_swap (is_there (shape_in m) (of_target 0 t)) (all_there m ts) (fits (shape_in m) (of_target 0 t)) (all_fit m ts)

-- ---- a fault

abbrev pub fault_by : Bool → Bool → Option Stuck
fault_by there fit = cond there (cond fit None (Some machines.Kind)) (Some machines.Missing)

pub fault_is : (m : ObjectMap) (command : Command)
    → fault (shape_in m) command ≡ fault_by (all_there m (targets_in m command)) (all_fit m (targets_in m command))
unfolding fault
fault_is m command =
    ap (λ (kind : Option Kind). fault_by (all_there m (targets kind command)) (all_fit m (targets kind command)))
    (kind_for_is m (object_of command))

none_if : (there fit : Bool) → (there && fit) ≡ true → fault_by there fit ≡ None
none_if true true is = refl
none_if true false is = absurd cc
none_if false fit is = absurd cc

both_if : (there fit : Bool) → fault_by there fit ≡ None → (there && fit) ≡ true
both_if true true is = refl
both_if true false is = absurd cc
both_if false fit is = absurd cc

-- a command whose targets all stand has no fault
pub faultless_if : (m : ObjectMap) (command : Command) → all_stand m command ≡ true → fault (shape_in m) command ≡ None
faultless_if m command all =
    fault_is m command
    ∙ none_if (all_there m (targets_in m command)) (all_fit m (targets_in m command)) (sym (all_stand_by m (targets_in m command)) ∙ all)

-- all targets of a command without a fault stand
pub stand_if : (m : ObjectMap) (command : Command) → fault (shape_in m) command ≡ None → all_stand m command ≡ true
stand_if m command none =
    all_stand_by m (targets_in m command)
    ∙ both_if (all_there m (targets_in m command)) (all_fit m (targets_in m command)) (sym (fault_is m command) ∙ none)

-- ---- the object of a command among its targets

first_is : (kind : Option Kind) (command : Command) → first_id (targets kind command) ≡ object_of command
first_is = KindsAreThoseOfChanges.object kinds_of_changes

none_falls : (m : ObjectMap) (ts : List Target) → first_id ts ≡ None → list_all (stands m) ts ≡ true
none_falls m [] is = refl
none_falls m (t ∷ ts) is = absurd cc

-- a command without an object has no fault
pub faultless_without : (m : ObjectMap) (command : Command) → object_of command ≡ None → fault (shape_in m) command ≡ None
faultless_without m command names =
    faultless_if m command (none_falls m (targets_in m command) (first_is (other_kind m (object_of command)) command ∙ names))

abbrev first_null : List Target → Bool
first_null [] = false
first_null (t ∷ ts) = t.may_be_null

-- no object of a command may be NULL
first_never : (kind : Option Kind) (command : Command) → first_null (targets kind command) ≡ false
first_never kind (HideShow id state) = refl
first_never kind _ = refl

never : (null : Bool) → cond null false false ≡ false
never true = refl
never false = refl

first_falls : (m : ObjectMap) (id : ℕ) (ts : List Target) → finite.get m id ≡ None → first_id ts ≡ Some id → first_null ts ≡ false
    → list_all (stands m) ts ≡ false
first_falls m id [] at is null = absurd cc
first_falls m id (t ∷ ts) at is null = and_left (stands m t) (list_all (stands m) ts) falls
  where
    missing : kind_in m t.id ≡ None
    missing = ap (option_map kind_of) (ap (finite.get m) (same_Some t.id id is) ∙ at)

    falls : stands m t ≡ false
    falls =
        ap (λ (kind : Option Kind). cond (t.id == null_id) t.may_be_null (is_of t.kinds t.id kind)) missing
        ∙ ap (λ (may : Bool). cond (t.id == null_id) may false) null ∙ never (t.id == null_id)

-- a missing object does not stand
pub missing_falls : (m : ObjectMap) (command : Command) (id : ℕ) → object_of command ≡ Some id → finite.get m id ≡ None
    → all_stand m command ≡ false
missing_falls m command id names at =
    first_falls m id (targets_in m command) at (first_is (other_kind m (object_of command)) command ∙ names)
    (first_never (other_kind m (object_of command)) command)

-- whether the targets of an object's command stand: the object is of an allowed kind, and the others stand
abbrev pub own_stand : ObjectMap → Seen → List Target → Bool
own_stand m o [] = true
own_stand m o (t ∷ ts) = may_refer t.kinds t.id (kind_of o) && list_all (stands m) ts

own_is : (m : ObjectMap) (id : ℕ) (o : Seen) (ts : List Target) → finite.get m null_id ≡ None → finite.get m id ≡ Some o
    → first_id ts ≡ Some id
    → list_all (stands m) ts ≡ own_stand m o ts
own_is m id o [] null at is = refl
own_is m id o (t ∷ ts) null at is = ap (λ (b : Bool). b && list_all (stands m) ts) own
  where
    there : finite.get m t.id ≡ Some o
    there = ap (finite.get m) (same_Some t.id id is) ∙ at

    own : stands m t ≡ may_refer t.kinds t.id (kind_of o)
    own =
        cond-false (t.id == null_id) t.may_be_null (is_of t.kinds t.id (kind_in m t.id))
        (ne_eqb t.id null_id (not_null m t.id o null there))
        ∙ ap (λ (found : Option Seen). is_of t.kinds t.id (option_map kind_of found)) there

pub all_own : (m : ObjectMap) (command : Command) (id : ℕ) (o : Seen) → finite.get m null_id ≡ None → object_of command ≡ Some id
    → finite.get m id ≡ Some o
    → all_stand m command ≡ own_stand m o (targets (Some (kind_of o)) command)
all_own m command id o null names at =
    ap (λ (kind : Option Kind). list_all (stands m) (targets kind command)) (ap (other_kind m) names ∙ ap (option_map kind_of) at)
    ∙ own_is m id o (targets (Some (kind_of o)) command) null at (first_is (Some (kind_of o)) command ∙ names)
