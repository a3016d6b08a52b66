-- The tests of a fault find a missing ID, and an object of a wrong kind.
use Rattle.std.proofs.Common.{◌≡◌, ◌≢◌, ◌≤◌, ℕ, zero, suc, Bool, true, false, cond, ◌==◌, ◌&&◌, List, [], ◌∷◌, Option, Some, None, is_some, refl, sym, ap, ap₂, ◌∙◌, arith}
use Rattle.std.proofs.lemmas.Bool.{and_left, and_right, and_from, and_parts, both_ways, cond-false, eqb-true, eqb-false, eq-eqb, ne_eqb, leb-true, le-leb, false_from_ne_true, true_from_ne_false}
use Rattle.std.proofs.lemmas.List.Folds.{list_all-map}
use Rattle.std.specs.Prelude.{nat_le}
use Rattle.std.specs.List.{Any, list_all}
use Rattle.std.specs.Option.{option_map}
use Rattle.std.specs.FinMap as finite
use Rattle.vt_kinds.specs.declared.kind.Kind.{Kind}
use Rattle.vt_kinds.specs.declared.kinds.Kinds.{Kinds}
use Rattle.vt_kinds.specs.declared.kinds.Kinds.TheVariants as sets
use Rattle.vt_kinds.specs.Ids.{null_id}
use Rattle.vt_kinds.specs.Records.{Seen, kind_of}
use Rattle.vt_kinds.specs.References.{is_member}
use Rattle.vt_stores.specs.Stores.{ObjectMap}
use Rattle.vt_commands.specs.declared.command.Command.{Command}
use Rattle.vt_commands.specs.declared.target.Target.{Target}
use Rattle.vt_commands.specs.Targets.{object_of, targets}
use Rattle.vt_verify.specs.References.{is_there, fits, may_refer, allows}
use Rattle.vt_verify.specs.Targets.{of_target}
use Rattle.vt_effects.specs.Effects.{other_kind}
use Rattle.vt_effects.specs.Soundness.{shape_in}
use Rattle.vt_macros.specs.Machines as machines
use Rattle.vt_macros.specs.Machines.{Stuck, fault}
use Rattle.vt_set_laws.specs.CausesOfFaults.{object_kind, named_by, IsMissing, MayBe, IsOfWrongKind, HasWrongKind, FaultsHaveCauses}
use Rattle.vt_set_laws.specs.CausesOfFaults as causes
use Rattle.vt_set_laws.proofs.AllowedPointersAndItems.{not_null}
use Rattle.vt_set_laws.proofs.StandingTargets.{targets_in, kind_is, all_there, all_fit, fault_by, fault_is}

-- ---- one of a list

-- a test of all that fails fails at one
one_fails : {X : Type 0} (test : X → Bool) (P : X → Type 0) → ((x : X) → test x ≡ false → P x) → (xs : List X)
    → list_all test xs ≡ false → Any P xs
one_fails test P of [] is = absurd cc
one_fails {X} test P of (x ∷ xs) is = by (test x) refl (λ rest. one_fails test P of xs rest)
  where
    by : (b : Bool) → test x ≡ b → (list_all test xs ≡ false → Any P xs) → Any P (x ∷ xs)
    by false fails later = (0, x, omega (arith), refl, of x fails)
    by true passes later =
        let found = later (sym (ap (λ (b : Bool). b && list_all test xs) passes) ∙ is) in
        let lt = found.2 in
        (suc found.0, found.1, omega (arith, lt), found.3, found.4)

-- one that fails a test fails that of all
fails_all : {X : Type 0} (test : X → Bool) (P : X → Type 0) → ((x : X) → P x → test x ≡ false) → (xs : List X) → Any P xs
    → list_all test xs ≡ false
fails_all test P of [] (k, x, lt, is, holds) = absurd (omega (arith, lt))
fails_all test P of (y ∷ xs) (zero, x, lt, is, holds) = and_left (test y) (list_all test xs) (ap test is ∙ of x holds)
fails_all test P of (y ∷ xs) (suc k, x, lt, is, holds) =
    and_right (test y) (list_all test xs) (fails_all test P of xs (k, x, omega (arith, lt), is, holds))

-- ---- a missing ID

there : ObjectMap → Target → Bool
there m t = is_there (shape_in m) (of_target 0 t)

some_kind : (found : Option Seen) → is_some (option_map kind_of found) ≡ is_some found
some_kind None = refl
some_kind (Some o) = refl

there_by : (m : ObjectMap) (t : Target) → there m t ≡ cond (t.id == null_id) t.may_be_null (is_some (finite.get m t.id))
unfolding there
there_by m t =
    ap (λ (kind : Option Kind). cond (t.id == null_id) t.may_be_null (is_some kind)) (sym (kind_is m t.id))
    ∙ ap (cond (t.id == null_id) t.may_be_null) (some_kind (finite.get m t.id))

none_of : {A : Type 0} (o : Option A) → is_some o ≡ false → o ≡ None
none_of None is = refl
none_of (Some a) is = absurd cc

missing_from : (m : ObjectMap) (t : Target) → there m t ≡ false → IsMissing m t
missing_from m t is = by (t.id == null_id) refl (sym (there_by m t) ∙ is)
  where
    by : (null : Bool) → (t.id == null_id) ≡ null → cond null t.may_be_null (is_some (finite.get m t.id)) ≡ false → IsMissing m t
    by true null fails = causes.null (eqb-true t.id null_id null) fails
    by false other fails = causes.absent (eqb-false t.id null_id other) (none_of (finite.get m t.id) fails)

from_missing : (m : ObjectMap) (t : Target) → IsMissing m t → there m t ≡ false
from_missing m t (causes.null is may) =
    there_by m t ∙ ap (λ (null : Bool). cond null t.may_be_null (is_some (finite.get m t.id))) (eq-eqb t.id null_id is) ∙ may
from_missing m t (causes.absent not is) =
    there_by m t ∙ ap (λ (null : Bool). cond null t.may_be_null (is_some (finite.get m t.id))) (ne_eqb t.id null_id not)
    ∙ ap is_some is

-- ---- an object of a wrong kind

fitting : ObjectMap → Target → Bool
fitting m t = fits (shape_in m) (of_target 0 t)

fitting_by : (m : ObjectMap) (t : Target)
    → fitting m t ≡ cond (t.id == null_id) true (allows t.kinds t.id (option_map kind_of (finite.get m t.id)))
unfolding fitting
fitting_by m t = ap (λ (kind : Option Kind). cond (t.id == null_id) true (allows t.kinds t.id kind)) (sym (kind_is m t.id))

-- the test of a kind is that of the table of kinds, and of the ID of a macro
macro_low : (id : ℕ) (kind : Kind) → may_refer sets.Macros id kind ≡ true → id ≤ 255
macro_low id kind may = leb-true id 255 (and_parts (is_member sets.Macros kind) (nat_le id 255) may).1

member_if : (kinds : Kinds) (id : ℕ) (kind : Kind) → may_refer kinds id kind ≡ true → is_member kinds kind ≡ true
member_if sets.Macros id kind may = (and_parts (is_member sets.Macros kind) (nat_le id 255) may).0
member_if kinds id kind may = may

low_if : (kinds : Kinds) (id : ℕ) (kind : Kind) → may_refer kinds id kind ≡ true → kinds ≡ sets.Macros → id ≤ 255
low_if kinds id kind may is = macro_low id kind (ap (λ (k : Kinds). may_refer k id kind) (sym is) ∙ may)

may_if : (kinds : Kinds) (id : ℕ) (kind : Kind) → is_member kinds kind ≡ true → (kinds ≡ sets.Macros → id ≤ 255)
    → may_refer kinds id kind ≡ true
may_if sets.Macros id kind member low = and_from (is_member sets.Macros kind) (nat_le id 255) member (le-leb id 255 (low refl))
may_if kinds id kind member low = member

may_be : (t : Target) (kind : Kind) → may_refer t.kinds t.id kind ≡ true → MayBe t kind
may_be t kind may = record { member = member_if t.kinds t.id kind may; macro_id = low_if t.kinds t.id kind may }

wrong_from : (m : ObjectMap) (t : Target) → fitting m t ≡ false → IsOfWrongKind m t
wrong_from m t is = by (t.id == null_id) (finite.get m t.id) refl (sym (fitting_by m t) ∙ is)
  where
    by : (null : Bool) (found : Option Seen) → finite.get m t.id ≡ found
        → cond null true (allows t.kinds t.id (option_map kind_of found)) ≡ false
        → IsOfWrongKind m t
    by true found at fails = absurd cc
    by false None at fails = absurd cc
    by false (Some o) at fails = record {
      object = o;
      is_there = at;
      wrong = λ may. both_ways (may_refer t.kinds t.id (kind_of o)) fails (may_if t.kinds t.id (kind_of o) may.member may.macro_id);
    }

from_wrong : (m : ObjectMap) → finite.get m null_id ≡ None → (t : Target) → IsOfWrongKind m t → fitting m t ≡ false
from_wrong m null t wrong =
    fitting_by m t
    ∙ cond-false (t.id == null_id) true (allows t.kinds t.id (option_map kind_of (finite.get m t.id)))
    (ne_eqb t.id null_id (not_null m t.id wrong.object null wrong.is_there))
    ∙ ap (λ (found : Option Seen). allows t.kinds t.id (option_map kind_of found)) wrong.is_there
    ∙ false_from_ne_true (may_refer t.kinds t.id (kind_of wrong.object)) (λ may. wrong.wrong (may_be t (kind_of wrong.object) may))

-- ---- the fault of a command

kind_is_own : (m : ObjectMap) (object : Option ℕ) → other_kind m object ≡ object_kind m object
kind_is_own m None = refl
kind_is_own m (Some id) = refl

named_is : (m : ObjectMap) (command : Command) → targets_in m command ≡ named_by m command
named_is m command = ap (λ (kind : Option Kind). targets kind command) (kind_is_own m (object_of command))

all_named_there : ObjectMap → Command → Bool
all_named_there m command = list_all (there m) (named_by m command)

all_named_fit : ObjectMap → Command → Bool
all_named_fit m command = list_all (fitting m) (named_by m command)

fault_found : (m : ObjectMap) (command : Command)
    → fault (shape_in m) command ≡ fault_by (all_named_there m command) (all_named_fit m command)
unfolding there fitting all_named_there all_named_fit
fault_found m command =
    fault_is m command ∙ ap (λ (ts : List Target). fault_by (all_there m ts) (all_fit m ts)) (named_is m command)
    ∙ ap₂ fault_by (list_all-map (is_there (shape_in m)) (of_target 0) (named_by m command))
    (list_all-map (fits (shape_in m)) (of_target 0) (named_by m command))

only_missing : (there fit : Bool) → fault_by there fit ≡ Some machines.Missing → there ≡ false
only_missing false fit is = refl
only_missing true true is = absurd cc
only_missing true false is = absurd cc

only_kind : (there fit : Bool) → fault_by there fit ≡ Some machines.Kind → (there ≡ true) × (fit ≡ false)
only_kind false fit is = absurd cc
only_kind true true is = absurd cc
only_kind true false is = (refl, refl)

no_spent : (there fit : Bool) → fault_by there fit ≢ Some machines.Spent
no_spent false fit is = cc
no_spent true true is = cc
no_spent true false is = cc

missing_named : (m : ObjectMap) (command : Command) → all_named_there m command ≡ false → Any (IsMissing m) (named_by m command)
unfolding all_named_there
missing_named m command is = one_fails (there m) (IsMissing m) (missing_from m) (named_by m command) is

named_missing : (m : ObjectMap) (command : Command) → Any (IsMissing m) (named_by m command) → all_named_there m command ≡ false
unfolding all_named_there
named_missing m command any = fails_all (there m) (IsMissing m) (from_missing m) (named_by m command) any

wrong_named : (m : ObjectMap) (command : Command) → all_named_fit m command ≡ false → Any (IsOfWrongKind m) (named_by m command)
unfolding all_named_fit
wrong_named m command is = one_fails (fitting m) (IsOfWrongKind m) (wrong_from m) (named_by m command) is

named_wrong : (m : ObjectMap) (command : Command) → finite.get m null_id ≡ None → Any (IsOfWrongKind m) (named_by m command)
    → all_named_fit m command ≡ false
unfolding all_named_fit
named_wrong m command null any = fails_all (fitting m) (IsOfWrongKind m) (from_wrong m null) (named_by m command) any

if_missing : (m : ObjectMap) (command : Command) → fault (shape_in m) command ≡ Some machines.Missing
    → Any (IsMissing m) (named_by m command)
if_missing m command is =
    missing_named m command (only_missing (all_named_there m command) (all_named_fit m command) (sym (fault_found m command) ∙ is))

then_missing : (m : ObjectMap) (command : Command) → Any (IsMissing m) (named_by m command)
    → fault (shape_in m) command ≡ Some machines.Missing
then_missing m command any =
    fault_found m command ∙ ap (λ (b : Bool). fault_by b (all_named_fit m command)) (named_missing m command any)

if_kind : (m : ObjectMap) (command : Command) → fault (shape_in m) command ≡ Some machines.Kind → HasWrongKind m command
if_kind m command is =
    let tests = only_kind (all_named_there m command) (all_named_fit m command) (sym (fault_found m command) ∙ is) in
    record {
      none_missing = λ any. both_ways (all_named_there m command) (named_missing m command any) tests.0;
      one_wrong = wrong_named m command tests.1;
    }

then_kind : (m : ObjectMap) (command : Command) → finite.get m null_id ≡ None → HasWrongKind m command
    → fault (shape_in m) command ≡ Some machines.Kind
then_kind m command null wrong =
    fault_found m command
    ∙ ap₂ fault_by (true_from_ne_false (all_named_there m command) (λ is. wrong.none_missing (missing_named m command is)))
    (named_wrong m command null wrong.one_wrong)

pub causes_found : FaultsHaveCauses
causes_found = record {
  missing = λ store command. (if_missing store command, then_missing store command);
  kind = λ store command null. (if_kind store command, then_kind store command null);
  never_spent = λ store command is.
      no_spent (all_named_there store command) (all_named_fit store command) (sym (fault_found store command) ∙ is);
}
