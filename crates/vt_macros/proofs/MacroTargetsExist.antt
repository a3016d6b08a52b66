-- The commands of an acceptable pool's macros refer to existing objects of allowed kinds.
use Rattle.std.proofs.Common.{◌≡◌, ◌++◌, ◌&&◌, ℕ, Bool, true, false, cond, List, [], ◌∷◌, Option, Some, None, refl, sym, subst, ◌∙◌}
use Rattle.std.proofs.lemmas.Option.{same_Some}
use Rattle.std.proofs.lemmas.Bool.{eqb-true}
use Rattle.std.proofs.lemmas.List.Folds.{list_all-map}
use Rattle.std.specs.Cmp.{unsigned_tied}
use Rattle.std.specs.Option.{option_to_list}
use Rattle.std.specs.Ordering.{nat_cmp, eq_by_cmp}
use Rattle.std.specs.List.{AllByRecursion, list_all, flat_map}
use Rattle.vt_commands.specs.declared.command.Command.{Command}
use Rattle.vt_commands.specs.Targets.{object_of, targets}
use Rattle.vt_stores.specs.Stores.{Objects}
use Rattle.vt_verify.specs.Lists.{first_failing}
use Rattle.vt_stores.specs.Shapes.{Shape, Fixed, shape_of, fixed_at}
use Rattle.vt_verify.specs.Macros.{commands_in, commands}
use Rattle.vt_verify.specs.References.{is_there, fits}
use Rattle.vt_verify.specs.Targets.{of_target, kind_for, target_references, entry_references, command_references, own_references, macro_references}
use Rattle.vt_verify.specs.Rules.{IsAcceptable}
use Rattle.vt_chains.specs.Limits.{terminal}
use Rattle.vt_macros.specs.Machines.{fault}

-- ---- lists without a failing element

pub all_append : {A : Type 0} (P : A → Type 0) (xs ys : List A) → AllByRecursion P xs → AllByRecursion P ys → AllByRecursion P (xs ++ ys)
all_append P [] ys all more = more
all_append P (x ∷ xs) ys all more = (all.0, all_append P xs ys all.1 more)

pub all_flat : {A B : Type 0} (P : B → Type 0) (h : A → List B) (xs : List A) → AllByRecursion (λ x. AllByRecursion P (h x)) xs → AllByRecursion P (flat_map h xs)
all_flat P h [] all = tt
all_flat P h (x ∷ xs) all = all_append P (h x) (flat_map h xs) all.0 (all_flat P h xs all.1)

pub all_of : {A : Type 0} (P : A → Type 0) (xs : List A) → ((x : A) → P x) → AllByRecursion P xs
all_of P [] of = tt
all_of P (x ∷ xs) of = (of x, all_of P xs of)

passes_both : {A : Type 0} (b : Bool) (x : A) (more all : Option A) → cond b all (Some x) ≡ None → (all ≡ None → (more ≡ None)) → cond b more (Some x) ≡ None
passes_both true x more all none of = of none
passes_both false x more all none of = absurd cc

pub front_passes : {A : Type 0} (test : A → Bool) (xs ys : List A) → first_failing test (xs ++ ys) ≡ None → first_failing test xs ≡ None
front_passes test [] ys none = refl
front_passes test (x ∷ xs) ys none = passes_both (test x) x (first_failing test xs) (first_failing test (xs ++ ys)) none (front_passes test xs ys)

rest_passes_by : {A : Type 0} (b : Bool) (x : A) (all more : Option A) → cond b all (Some x) ≡ None → (all ≡ None → more ≡ None) → more ≡ None
rest_passes_by true x all more none of = of none
rest_passes_by false x all more none of = absurd cc

pub rest_passes : {A : Type 0} (test : A → Bool) (xs ys : List A) → first_failing test (xs ++ ys) ≡ None → first_failing test ys ≡ None
rest_passes test [] ys none = none
rest_passes test (x ∷ xs) ys none = rest_passes_by (test x) x (first_failing test (xs ++ ys)) (first_failing test ys) none (rest_passes test xs ys)

pub each_passes : {A B : Type 0} (test : B → Bool) (h : A → List B) (xs : List A) → first_failing test (flat_map h xs) ≡ None
    → AllByRecursion (λ x. first_failing test (h x) ≡ None) xs
each_passes test h [] none = tt
each_passes test h (x ∷ xs) none =
    (front_passes test (h x) (flat_map h xs) none, each_passes test h xs (rest_passes test (h x) (flat_map h xs) none))

all_pass_by : {A : Type 0} (b : Bool) (x : A) (rest : Option A) (all : Bool) → cond b rest (Some x) ≡ None → (rest ≡ None → all ≡ true) → (b && all) ≡ true
all_pass_by true x rest all none of = of none
all_pass_by false x rest all none of = absurd cc

all_pass : {A : Type 0} (test : A → Bool) (xs : List A) → first_failing test xs ≡ None → list_all test xs ≡ true
all_pass test [] none = refl
all_pass test (x ∷ xs) none = all_pass_by (test x) x (first_failing test xs) (list_all test xs) none (all_pass test xs)

-- ---- the object of an ID

entry_or : (Q : ℕ × Fixed → Type 0) (q k : ℕ) (y f : Fixed) (rest : Option Fixed) (b : Bool) → eq_by_cmp nat_cmp q k ≡ b → cond b (Some y) rest ≡ Some f → Q (k, y)
    → (rest ≡ Some f → Q (q, f)) → Q (q, f)
entry_or Q q k y f rest true same found here later =
    subst (λ (n : ℕ). Q (n, f)) (sym (eqb-true q k (sym (unsigned_tied q k) ∙ same))) (subst (λ (z : Fixed). Q (k, z)) (same_Some y f found) here)
entry_or Q q k y f rest false same found here later = later found

found_entry : (Q : ℕ × Fixed → Type 0) (shape : Shape) (q : ℕ) (f : Fixed) → fixed_at shape q ≡ Some f → AllByRecursion Q shape → Q (q, f)
found_entry Q [] q f found all = absurd cc
found_entry Q (e ∷ shape) q f found all =
    entry_or Q q e.0 e.1 f (fixed_at shape q) (eq_by_cmp nat_cmp q e.0) refl found all.0 (λ later. found_entry Q shape q f later all.1)

-- ---- the commands of macros

fault_none : (shape : Shape) (command : Command) → list_all (is_there shape) (target_references shape 0 command) ≡ true
    → list_all (fits shape) (target_references shape 0 command) ≡ true → fault shape command ≡ None
unfolding fault
fault_none shape command there fit = rw there (rw fit refl)

commands_pass : (shape : Shape) (id : ℕ) (cs : List Command)
    → AllByRecursion (λ c. first_failing (is_there shape) (target_references shape id c) ≡ None) cs
    → AllByRecursion (λ c. first_failing (fits shape) (target_references shape id c) ≡ None) cs → AllByRecursion (λ c. fault shape c ≡ None) cs
commands_pass shape id [] there fit = tt
commands_pass shape id (c ∷ cs) there fit = (
  fault_none shape c
      (list_all-map (is_there shape) (of_target 0) (targets (kind_for shape (object_of c)) c)
      ∙ sym (list_all-map (is_there shape) (of_target id) (targets (kind_for shape (object_of c)) c)) ∙ all_pass (is_there shape) (target_references shape id c) there.0)
      (list_all-map (fits shape) (of_target 0) (targets (kind_for shape (object_of c)) c)
      ∙ sym (list_all-map (fits shape) (of_target id) (targets (kind_for shape (object_of c)) c)) ∙ all_pass (fits shape) (target_references shape id c) fit.0),
  commands_pass shape id cs there.1 fit.1,
)

faultless_by : (shape : Shape) (id : ℕ) (found : Option Fixed) → fixed_at shape id ≡ found → first_failing (is_there shape) (macro_references shape) ≡ None
    → first_failing (fits shape) (macro_references shape) ≡ None → AllByRecursion (λ c. fault shape c ≡ None) (flat_map (commands_in id) (option_to_list found))
faultless_by shape id None is there fit = tt
faultless_by shape id (Some f) is there fit =
    all_append (λ c. fault shape c ≡ None) (commands_in id f) []
    (commands_pass shape id (commands_in id f)
    (each_passes (is_there shape) (target_references shape id) (commands_in id f)
    (rest_passes (is_there shape) (entry_references id f.macros) (command_references shape id f)
    (found_entry (λ e. first_failing (is_there shape) (own_references shape e) ≡ None) shape id f is (each_passes (is_there shape) (own_references shape) shape there))))
    (each_passes (fits shape) (target_references shape id) (commands_in id f)
    (rest_passes (fits shape) (entry_references id f.macros) (command_references shape id f)
    (found_entry (λ e. first_failing (fits shape) (own_references shape e) ≡ None) shape id f is (each_passes (fits shape) (own_references shape) shape fit)))))
    tt

-- no command of a macro has a fault
pub faultless : (pool : Objects) (id : ℕ) → IsAcceptable terminal pool → AllByRecursion (λ c. fault (shape_of pool) c ≡ None) (commands (shape_of pool) id)
unfolding commands
faultless pool id acceptable =
    faultless_by (shape_of pool) id (fixed_at (shape_of pool) id) refl (IsAcceptable.targets_there acceptable) (IsAcceptable.targets_fit acceptable)
