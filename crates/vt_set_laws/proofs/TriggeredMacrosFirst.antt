-- The macros triggered by a macro of an acceptable pool are in the order of the macros, before it.
use Rattle.std.proofs.Common.{◌≡◌, ◌≢◌, ℕ, Bool, true, false, cond, ◌||◌, eqb, leb, List, [], ◌∷◌, ◌++◌, map, Option, Some, None, is_some, refl, sym, ap, subst, ◌∙◌, arith, inl, inr, eqb-true, le-leb}
use Rattle.std.proofs.lemmas.Bool.{and_from, eqb-false}
use Rattle.std.proofs.lemmas.List.Elements.{All-contains, All-from_recursion, Contains-append_left, Contains-append_right, Contains-append_cases}
use Rattle.std.proofs.lemmas.List.Sorted.{Contains-permutation}
use Rattle.std.proofs.lemmas.Option.{same_Some}
use Rattle.std.specs.List.{AllByRecursion, filter, flat_map}
use Rattle.std.specs.Option.{option_map, option_to_list}
use Rattle.std.specs.Ordering.{nat_cmp, eq_by_cmp}
use Rattle.std.specs.Prelude.{Contains}
use Rattle.vt_kinds.specs.declared.entries.MacroEntry.{MacroEntry}
use Rattle.vt_kinds.specs.declared.kind.Kind.{Kind}
use Rattle.vt_kinds.specs.declared.kind.Kind.TheVariants as kinds
use Rattle.vt_kinds.specs.declared.kinds.Kinds.TheVariants as sets
use Rattle.vt_kinds.specs.Ids.{null_id}
use Rattle.vt_kinds.specs.Kinds.{kind_number, kind_of_type}
use Rattle.vt_kinds.specs.References.{is_member}
use Rattle.vt_commands.specs.declared.command.Command.{Command}
use Rattle.vt_commands.specs.Events.{is_listable}
use Rattle.vt_stores.specs.Shapes.{Shape, Fixed, shape_of, fixed_at}
use Rattle.vt_verify.specs.declared.listing.Listing.{Listing}
use Rattle.vt_verify.specs.Lists.{first_failing}
use Rattle.vt_verify.specs.Macros.{is_macro, may_be_named, commands}
use Rattle.vt_verify.specs.Orders.{named_macros}
use Rattle.vt_verify.specs.References.{is_there, fits, allows, may_refer}
use Rattle.vt_verify.specs.Rules.{IsAcceptable}
use Rattle.vt_verify.specs.Targets.{macro_reference, entry_references, command_references, own_references, macro_references}
use Rattle.vt_verify.specs.Triggers.{is_event, run_by_name, macros_at, listed_in, listed, may_raise, triggered_by, triggered}
use Rattle.vt_set_laws.specs.MacroOrder.{TriggeredStandBefore}
use Rattle.vt_macros.proofs.MacroTargetsExist.{all_append, all_flat, all_of, front_passes, each_passes}
use Rattle.vt_records.proofs.RecordHeads.{kind_of_type-kind_number}
use Rattle.vt_stores.proofs.SortedEntries.{both_true}
use Rattle.vt_verify.proofs.lemmas.graphs.EventGroups.{tied_same}

-- ---- the object of an ID

-- a property of all entries holds for the entry found
module _ (Q : ℕ × Fixed → Type 0) (id : ℕ) (f : Fixed) where
  entry-case : (e : ℕ × Fixed) (rest : Option Fixed) (b : Bool) → (b ≡ true → id ≡ e.0) → (rest ≡ Some f → Q (id, f)) → Q e
      → cond b (Some e.1) rest ≡ Some f → Q (id, f)
  entry-case e rest true alike later here found =
      subst (λ (n : ℕ). Q (n, f)) (sym (alike refl)) (subst (λ (g : Fixed). Q (e.0, g)) (same_Some e.1 f found) here)
  entry-case e rest false alike later here found = later found

  found-entry : (shape : Shape) → AllByRecursion Q shape → fixed_at shape id ≡ Some f → Q (id, f)
  found-entry [] all found = absurd cc
  found-entry (e ∷ shape) all found =
      entry-case e (fixed_at shape id) (eq_by_cmp nat_cmp id e.0) (tied_same id e.0) (found-entry shape all.1) all.0 found

-- each macro with an ID of at most 255 is in the list
abbrev IsAmongNamed : List ℕ → ℕ × Fixed → Type 0
IsAmongNamed names e = may_be_named e.0 e.1 ≡ true → Contains names e.0

among-more : (front names : List ℕ) (shape : Shape) → AllByRecursion (IsAmongNamed names) shape → AllByRecursion (IsAmongNamed (front ++ names)) shape
among-more front names [] all = tt
among-more front names (e ∷ shape) all = (λ may. Contains-append_right front names e.0 (all.0 may), among-more front names shape all.1)

among-named : (shape : Shape) → AllByRecursion (IsAmongNamed (named_macros shape)) shape
among-named [] = tt
among-named (e ∷ shape) = (
  λ may. Contains-append_left (run_by_name e.0 e.1) (named_macros shape) e.0
      (subst (λ (b : Bool). Contains (cond b (e.0 ∷ []) []) e.0) (sym may) (0, omega arith, refl)),
  among-more (run_by_name e.0 e.1) (named_macros shape) shape (among-named shape),
)

-- ---- references to macros

or-false : (b : Bool) → (b || false) ≡ true → b ≡ true
or-false true is = refl
or-false false is = is

-- macros are the only kind allowed in references to macros
macro-only : (kind : Kind) → is_member sets.Macros kind ≡ true → kind ≡ kinds.Macro
macro-only kind is =
    let number : kind_number kinds.Macro ≡ kind_number kind =
    eqb-true (kind_number kinds.Macro) (kind_number kind) (or-false (eqb (kind_number kinds.Macro) (kind_number kind)) is) in
    same_Some kind kinds.Macro (sym (kind_of_type-kind_number kind) ∙ ap kind_of_type (sym number) ∙ kind_of_type-kind_number kinds.Macro)

may-be : (n : ℕ) (f : Fixed) → may_refer sets.Macros n f.kind ≡ true → may_be_named n f ≡ true
may-be n f may =
    let both = both_true (is_member sets.Macros f.kind) (leb n 255) may in
    and_from (is_macro f.kind) (leb n 255) (ap is_macro (macro-only f.kind both.0)) both.1

passing : {A : Type 0} (b : Bool) (x : A) (rest : Option A) → cond b rest (Some x) ≡ None → (b ≡ true) × (rest ≡ None)
passing true x rest none = (refl, none)
passing false x rest none = absurd cc

-- the macros of the entries at an event, if each reference passes both tests
module _ {R : Type 0} (refer : MacroEntry → R) (there fit : R → Bool) (IsNamed : ℕ → Type 0)
    (named : (e : MacroEntry) → there (refer e) ≡ true → fit (refer e) ≡ true → IsNamed e.macro_id)
    (event : ℕ) (listable : is_listable event ≡ true) where
  entry-step : (e : MacroEntry) (kept at : List MacroEntry) (l m : Bool) → (m ≡ true → l ≡ true)
      → (first_failing there (map refer kept) ≡ None → first_failing fit (map refer kept) ≡ None
      → AllByRecursion IsNamed (map (λ (e : MacroEntry). e.macro_id) at))
      → first_failing there (map refer (cond l (e ∷ kept) kept)) ≡ None → first_failing fit (map refer (cond l (e ∷ kept) kept)) ≡ None
      → AllByRecursion IsNamed (map (λ (e : MacroEntry). e.macro_id) (cond m (e ∷ at) at))
  entry-step e kept at true true so later first second =
      let one = passing (there (refer e)) (refer e) (first_failing there (map refer kept)) first in
      let two = passing (fit (refer e)) (refer e) (first_failing fit (map refer kept)) second in
      (named e one.0 two.0, later one.1 two.1)
  entry-step e kept at true false so later first second =
      later
      (passing (there (refer e)) (refer e) (first_failing there (map refer kept)) first).1
      (passing (fit (refer e)) (refer e) (first_failing fit (map refer kept)) second).1
  entry-step e kept at false true so later first second = let no = so refl in absurd cc
  entry-step e kept at false false so later first second = later first second

  entries-in : (entries : List MacroEntry) → first_failing there (map refer (filter (λ (e : MacroEntry). is_listable e.event) entries)) ≡ None
      → first_failing fit (map refer (filter (λ (e : MacroEntry). is_listable e.event) entries)) ≡ None → AllByRecursion IsNamed (macros_at event entries)
  entries-in [] first second = tt
  entries-in (e ∷ entries) first second =
      entry-step e (filter (λ (e : MacroEntry). is_listable e.event) entries) (filter (λ (e : MacroEntry). eqb e.event event) entries)
      (is_listable e.event) (eqb e.event event)
      (λ same. ap is_listable (eqb-true e.event event same) ∙ listable) (entries-in entries) first second

module _ (shape : Shape) where
  abbrev IsIn : ℕ → Type 0
  IsIn n = Contains (named_macros shape) n

  -- an existing macro with an ID of at most 255 is in the order
  named-in : (n : ℕ) (f : Fixed) → fixed_at shape n ≡ Some f → may_be_named n f ≡ true → IsIn n
  named-in n f found = found-entry (IsAmongNamed (named_macros shape)) n f shape (among-named shape) found

  -- a reference that passes both tests refers to such a macro
  named-by : (n : ℕ) (null : Bool) (found : Option Fixed) → fixed_at shape n ≡ found
      → cond null false (is_some (option_map (λ (f : Fixed). f.kind) found)) ≡ true
      → cond null true (allows sets.Macros n (option_map (λ (f : Fixed). f.kind) found)) ≡ true → IsIn n
  named-by n true found at there fit = absurd cc
  named-by n false None at there fit = absurd cc
  named-by n false (Some f) at there fit = named-in n f at (may-be n f fit)

  reference-in : (id n : ℕ) → is_there shape (macro_reference id n) ≡ true → fits shape (macro_reference id n) ≡ true → IsIn n
  reference-in id n there fit = named-by n (eqb n null_id) (fixed_at shape n) refl there fit

  -- ---- macros listed at an event

  module _ (there : first_failing (is_there shape) (macro_references shape) ≡ None) (fit : first_failing (fits shape) (macro_references shape) ≡ None) where
    listable : (event : ℕ) → is_event event ≡ true → eqb event 0 ≡ false → is_listable event ≡ true
    listable event is other =
        let some : event ≢ 0 = eqb-false event 0 other in
        and_from (leb 1 event) (leb event 26) (le-leb 1 event (omega (arith, some))) is

    found-in : (event id : ℕ) (f : Fixed) → is_event event ≡ true → fixed_at shape id ≡ Some f → AllByRecursion IsIn (listed_in event id f)
    found-in event id f is found = cases (eqb event 0) refl
      where
        own : (b : Bool) → may_be_named id f ≡ b → AllByRecursion IsIn (cond b (id ∷ []) [])
        own true may = (named-in id f found may, tt)
        own false may = tt

        cases : (b : Bool) → eqb event 0 ≡ b → AllByRecursion IsIn (cond b (run_by_name id f) (macros_at event f.macros))
        cases true named = own (may_be_named id f) refl
        cases false other =
            entries-in (λ (e : MacroEntry). macro_reference id e.macro_id) (is_there shape) (fits shape) IsIn (λ e. reference-in id e.macro_id)
            event (listable event is other) f.macros
            (front_passes (is_there shape) (entry_references id f.macros) (command_references shape id f)
            (found-entry (λ e. first_failing (is_there shape) (own_references shape e) ≡ None) id f shape
            (each_passes (is_there shape) (own_references shape) shape there) found))
            (front_passes (fits shape) (entry_references id f.macros) (command_references shape id f)
            (found-entry (λ e. first_failing (fits shape) (own_references shape e) ≡ None) id f shape
            (each_passes (fits shape) (own_references shape) shape fit) found))

    listed-is : (raised : Listing) → listed shape raised
        ≡ cond (is_event raised.event) (flat_map (listed_in raised.event raised.id) (option_to_list (fixed_at shape raised.id))) []
    unfolding listed
    listed-is raised = refl

    all-listed : (raised : Listing) → AllByRecursion IsIn (listed shape raised)
    all-listed raised =
        subst (λ (l : List ℕ). AllByRecursion IsIn l) (sym (listed-is raised)) (cases (is_event raised.event) refl (fixed_at shape raised.id) refl)
      where
        cases : (b : Bool) → is_event raised.event ≡ b → (o : Option Fixed) → fixed_at shape raised.id ≡ o
            → AllByRecursion IsIn (cond b (flat_map (listed_in raised.event raised.id) (option_to_list o)) [])
        cases false is o found = tt
        cases true is None found = tt
        cases true is (Some f) found = all_append IsIn (listed_in raised.event raised.id f) [] (found-in raised.event raised.id f is found) tt

    all-triggered : (m : ℕ) → AllByRecursion IsIn (triggered shape m)
    all-triggered m =
        all_flat IsIn (triggered_by shape) (commands shape m)
        (all_of (λ (c : Command). AllByRecursion IsIn (triggered_by shape c)) (commands shape m) (λ c.
        all_flat IsIn (listed shape) (may_raise shape c) (all_of (λ (r : Listing). AllByRecursion IsIn (listed shape r)) (may_raise shape c) all-listed)))

-- ---- the law of the order

pub stand-before : TriggeredStandBefore
stand-before pool order front back m n acceptable by_rank split triggers =
    let shape = shape_of pool in
    let all = all-triggered shape (IsAcceptable.targets_there acceptable) (IsAcceptable.targets_fit acceptable) m in
    let named : Contains (named_macros shape) n =
    All-contains (IsIn shape) (triggered shape m) n (All-from_recursion (IsIn shape) (triggered shape m) all) triggers in
    let there : Contains order n = Contains-permutation (named_macros shape) order n by_rank.all named in
    elim (Contains-append_cases front (m ∷ back) n (subst (λ (l : List ℕ). Contains l n) split there)) [
      | inl h ↦ h
      | inr h ↦ absurd (by_rank.before front back m n split triggers h)
    ]
