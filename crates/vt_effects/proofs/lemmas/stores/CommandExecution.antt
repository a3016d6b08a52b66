-- The execution of a command on a store, and the restored ID after a refusal.
use Rattle.std.proofs.Common.{◌≡◌, ◌≤◌, ◌&&◌, ◌==◌, ◌⊎◌, inl, inr, ℕ, zero, suc, Bool, true, false, List, [], ◌∷◌, length, get_or, Option, Some, None, Result, Ok, Err, refl, sym, ap, subst, ◌∙◌, arith}
use Rattle.std.proofs.lemmas.Bool.{eq-eqb}
use Rattle.std.proofs.lemmas.List.Elements.{Contains-get_or}
use Rattle.std.proofs.lemmas.List.Sums.{list_all-from_AllPass}
use Rattle.std.specs.Prelude.{Contains}
use Rattle.std.specs.FinMap as finite
use Rattle.vt_kinds.specs.declared.kind.Kind.{Kind}
use Rattle.vt_commands.specs.declared.command.Command.{Command}
use Rattle.vt_kinds.specs.Records.{Seen}
use Rattle.vt_stores.specs.Stores.{ObjectMap}
use Rattle.vt_commands.specs.Targets.{object_of}
use Rattle.vt_chains.specs.Inclusions.{IsChain}
use Rattle.vt_chains.specs.Limits.{terminal}
use Rattle.vt_chains.specs.Depths.{ids_of, inclusions_of}
use Rattle.vt_effects.specs.Changes.{HasResult, if_passed, left, other_id}
use Rattle.vt_effects.specs.Effects.{is_short, chains_are_short, value_error, in_order, other_kind, changed_for, changed_by, effect_on, effect, after}
use Rattle.vt_chains.specs.declared.levels.Levels.{Levels}
use Rattle.vt_effects.specs.declared.replacements.Replacement.{Replacement}
use Rattle.vt_chains.specs.Certificates.{IsCertificate, AreLevels, AreLevelsBut, HasLongChain, HasSameLevels}
use Rattle.vt_effects.specs.Replacements.{replacement_by, new_id_fits, restored}
use Rattle.vt_chains.proofs.Elements.{Contains-head}
use Rattle.vt_chains.proofs.FallingLevels.{levels_shallow}
use Rattle.vt_effects.proofs.lemmas.stores.OneChangedObject.{get_there, get_other, put_back}
use Rattle.vt_effects.proofs.lemmas.stores.ObjectBeforeAndAfter.{Changed, changed_case}
use Rattle.vt_effects.proofs.lemmas.stores.IdReplacements.{parts_of, kept_none}
use Rattle.vt_effects.proofs.lemmas.inclusions.NewInclusions.{none_added}
use Rattle.vt_effects.proofs.lemmas.inclusions.ShortChains.{shallow_by_test}
use Rattle.vt_effects.proofs.lemmas.order.OrderAfterCommand.{by_changed}
use Rattle.vt_effects.proofs.lemmas.inclusions.Levels.{levels_kept, levels_but}

-- ---- the test of chains passes, if the chains are short

shallow_from : (next : ℕ → List ℕ) (most id : ℕ) → ((rest : List ℕ) → IsChain next (id ∷ rest) → length rest ≤ most) → is_short most next id ≡ true
unfolding is_short
shallow_from next zero id short = none (next id) (λ b h. omega (arith, short (b ∷ []) (h, tt)))
  where
    none : (xs : List ℕ) → ((b : ℕ) → Contains xs b → ⊥) → (length xs == 0) ≡ true
    none [] never = refl
    none (x ∷ xs) never = absurd (never x (Contains-head x xs))
shallow_from next (suc most) id short =
    list_all-from_AllPass (is_short most next) (next id)
    (λ k d lt. shallow_from next most (get_or (next id) k d)
    (λ rest chain. let le = short (get_or (next id) k d ∷ rest) (Contains-get_or (next id) k d lt, chain) in omega (arith, le)))

pub test_of_levels : (m : ObjectMap) (levels : Levels) → AreLevels m levels → chains_are_short m ≡ true
test_of_levels m levels are =
    list_all-from_AllPass (is_short terminal.inclusions (inclusions_of m)) (ids_of m)
    (λ k d lt. shallow_from (inclusions_of m) terminal.inclusions (get_or (ids_of m) k d)
    (λ rest chain. let le = levels_shallow m levels.levels.items are.certificate (get_or (ids_of m) k d ∷ rest) chain in omega (arith, le)))

test_fails : (m : ObjectMap) (b : Bool) → chains_are_short m ≡ b → HasLongChain m → b ≡ false
test_fails m true is long = absurd (long (shallow_by_test m is))
test_fails m false is long = refl

-- ---- a command without a replacement

passed : (b : Bool) (error : ℕ) (n : ObjectMap) → b ≡ true → if_passed b error n ≡ Ok n
passed true error n is = refl
passed false error n is = absurd cc

pub effect_plain : (m : ObjectMap) (command : Command) → replacement_by m command ≡ None → effect m command ≡ changed_by m command (other_kind m (other_id command))
unfolding effect
effect_plain m command none = by (object_of command) refl
  where
    by : (object : Option ℕ) → object_of command ≡ object → effect_on m command object ≡ changed_for m command (other_kind m (other_id command)) object
    by None for = refl
    by (Some id) for =
        changed_case (λ made. in_order m command made ≡ made) m id command for (λ error. refl)
        (λ old new c. passed _ (value_error command) (finite.insert m id new) (kept_none m (finite.insert m id new) id old new command c none))

pub levels_plain : (m : ObjectMap) (command : Command) (levels : Levels) → replacement_by m command ≡ None → AreLevels m levels
    → AreLevels (left m (changed_by m command (other_kind m (other_id command)))) levels
levels_plain m command levels none are =
    by_changed (λ n. AreLevels n levels) m command are (λ id old new c. levels_kept m id old new command levels c (none_added m id old new command c none) are)

-- ---- a command that replaces an ID

effect_of : (m : ObjectMap) (command : Command) (r : Replacement) (made : Result ObjectMap ℕ) → replacement_by m command ≡ Some r
    → changed_by m command (other_kind m (other_id command)) ≡ made → effect m command ≡ in_order m command made
unfolding effect
effect_of m command r made is by =
    let for = (parts_of m command r is).for in
    ap (effect_on m command) for ∙ ap (in_order m command) (sym (ap (changed_for m command (other_kind m (other_id command))) for) ∙ by)

pub effect_replacing : (m n : ObjectMap) (command : Command) (r : Replacement) → replacement_by m command ≡ Some r
    → ◌≡◌ {A = Result ObjectMap ℕ} (changed_by m command (other_kind m (other_id command))) (Ok n)
    → effect m command ≡ if_passed (new_id_fits m command && chains_are_short n) (value_error command) n
effect_replacing m n command r is made =
    effect_of m command r (Ok n) is made ∙ ap (λ (b : Bool). if_passed b (value_error command) n) ((parts_of m command r is).order n)

pub effect_refused : (m : ObjectMap) (command : Command) (r : Replacement) (error : ℕ) → replacement_by m command ≡ Some r
    → ◌≡◌ {A = Result ObjectMap ℕ} (changed_by m command (other_kind m (other_id command))) (Err error) → ◌≡◌ {A = Result ObjectMap ℕ} (effect m command) (Err error)
effect_refused m command r error is made = effect_of m command r (Err error) is made

-- ---- the results of calls

pub answered : (x : Result ObjectMap ℕ) (m : ObjectMap) → HasResult (Ok tt) x → x ≡ Ok (left m x)
answered (Ok n) m is = refl
answered (Err error) m is = absurd is

pub answered_error : (error : ℕ) (x : Result ObjectMap ℕ) → HasResult (Err error) x → ◌≡◌ {A = Result ObjectMap ℕ} x (Err error)
answered_error error (Ok n) is = absurd is
answered_error error (Err other) is = ap Err (sym is)

-- ---- the changed object

-- the object before and after a command that replaces an ID
pub record Replaces (m n : ObjectMap) (command : Command) (r : Replacement) : Type 0 where
  pub old : Seen
  pub new : Seen
  pub changed : Changed m r.holder old new command
  pub is : n ≡ finite.insert m r.holder new

pub replaces : (m n : ObjectMap) (command : Command) (r : Replacement) → replacement_by m command ≡ Some r
    → ◌≡◌ {A = Result ObjectMap ℕ} (changed_by m command (other_kind m (other_id command))) (Ok n) → Replaces m n command r
replaces m n command r is made =
    let for = (parts_of m command r is).for in
    changed_case (λ (x : Result ObjectMap ℕ). x ≡ Ok n → Replaces m n command r) m r.holder command for (λ error ok. absurd cc)
    (λ old new c ok. record { old = old; new = new; changed = c; is = cc })
    (sym (ap (changed_for m command (other_kind m (other_id command))) for) ∙ made)

pub levels_replacing : (m n : ObjectMap) (command : Command) (r : Replacement) (levels : Levels) → replacement_by m command ≡ Some r → Replaces m n command r → AreLevels m levels
    → AreLevelsBut n levels r.holder r.after
levels_replacing m n command r levels is by are =
    subst (λ (k : ObjectMap). AreLevelsBut k levels r.holder r.after) (sym by.is)
    (levels_but m r.holder r.after by.old by.new command levels by.changed (parts_of m command r is).names are)

-- ---- the restored store

pub put_back_is : (m n last : ObjectMap) (command : Command) (r : Replacement) → replacement_by m command ≡ Some r → Replaces m n command r
    → ((o : Seen) → finite.get n r.holder ≡ Some o → last ≡ finite.insert n r.holder (restored command r.before o)) → last ≡ m
put_back_is m n last command r is by back =
    back by.new (ap (λ (k : ObjectMap). finite.get k r.holder) by.is ∙ get_there m r.holder by.new r.holder (eq-eqb r.holder r.holder refl))
    ∙ ap (λ (k : ObjectMap). finite.insert k r.holder (restored command r.before by.new)) by.is
    ∙ ap (finite.insert (finite.insert m r.holder by.new) r.holder) ((parts_of m command r is).back by.old by.new by.changed)
    ∙ put_back m (finite.insert m r.holder by.new) r.holder by.old by.changed.at (λ q other. get_other m r.holder by.new q other)

-- the levels are those of the restored store
pub levels_back : (m : ObjectMap) (before after : Levels) → AreLevels m before → HasSameLevels before after → AreLevels m after
levels_back m before after are same = record {
  certificate = subst (IsCertificate (ids_of m) (inclusions_of m)) (sym same.levels) are.certificate;
  spare_length = same.spare_length ∙ are.spare_length;
}

-- ---- the result of the whole call

pub done : (m n : ObjectMap) (command : Command) (levels : Levels) → new_id_fits m command ≡ true → AreLevels n levels
    → effect m command ≡ if_passed (new_id_fits m command && chains_are_short n) (value_error command) n → ◌≡◌ {A = Result ObjectMap ℕ} (effect m command) (Ok n)
done m n command levels fit are is =
    is ∙ ap (λ (b : Bool). if_passed (b && chains_are_short n) (value_error command) n) fit
    ∙ ap (λ (b : Bool). if_passed b (value_error command) n) (test_of_levels n levels are)

pub refused : (m n : ObjectMap) (command : Command) → (new_id_fits m command ≡ false) ⊎ HasLongChain n
    → effect m command ≡ if_passed (new_id_fits m command && chains_are_short n) (value_error command) n → ◌≡◌ {A = Result ObjectMap ℕ} (effect m command) (Err (value_error command))
refused m n command (inl unfit) is = is ∙ ap (λ (b : Bool). if_passed (b && chains_are_short n) (value_error command) n) unfit
refused m n command (inr long) is =
    is ∙ ap (λ (b : Bool). if_passed (new_id_fits m command && b) (value_error command) n) (test_fails n (chains_are_short n) refl long) ∙ never (new_id_fits m command)
  where
    never : (b : Bool) → ◌≡◌ {A = Result ObjectMap ℕ} (if_passed (b && false) (value_error command) n) (Err (value_error command))
    never true = refl
    never false = refl

-- ---- the stores after the calls

pub made_is : (m n : ObjectMap) (command : Command) (kind_of_other : Option Kind) → kind_of_other ≡ other_kind m (other_id command) → HasResult (Ok tt) (changed_by m command kind_of_other)
    → n ≡ left m (changed_by m command kind_of_other) → ◌≡◌ {A = Result ObjectMap ℕ} (changed_by m command (other_kind m (other_id command))) (Ok n)
made_is m n command kind_of_other same ok is =
    ap (changed_by m command) (sym same) ∙ answered (changed_by m command kind_of_other) m ok ∙ ap Ok (sym is)

pub failed_is : (m : ObjectMap) (command : Command) (kind_of_other : Option Kind) (error : ℕ) → kind_of_other ≡ other_kind m (other_id command)
    → HasResult (Err error) (changed_by m command kind_of_other) → ◌≡◌ {A = Result ObjectMap ℕ} (changed_by m command (other_kind m (other_id command))) (Err error)
failed_is m command kind_of_other error same failed = ap (changed_by m command) (sym same) ∙ answered_error error (changed_by m command kind_of_other) failed

pub answers_done : (m n : ObjectMap) (command : Command) → ◌≡◌ {A = Result ObjectMap ℕ} (effect m command) (Ok n) → HasResult (Ok tt) (effect m command)
answers_done m n command is = subst (λ (x : Result ObjectMap ℕ). HasResult (Ok tt) x) (sym is) tt

pub answers_failed : (m : ObjectMap) (command : Command) (error : ℕ) → ◌≡◌ {A = Result ObjectMap ℕ} (effect m command) (Err error) → HasResult (Err error) (effect m command)
answers_failed m command error is = subst (λ (x : Result ObjectMap ℕ). HasResult (Err error) x) (sym is) refl

pub after_done : (m n : ObjectMap) (command : Command) → ◌≡◌ {A = Result ObjectMap ℕ} (effect m command) (Ok n) → n ≡ after m command
after_done m n command is = sym (ap (left m) is)

pub after_failed : (m n : ObjectMap) (command : Command) (error : ℕ) → ◌≡◌ {A = Result ObjectMap ℕ} (effect m command) (Err error) → n ≡ m → n ≡ after m command
after_failed m n command error is same = same ∙ sym (ap (left m) is)

pub unchanged : (m n : ObjectMap) (command : Command) (kind_of_other : Option Kind) (error : ℕ) → HasResult (Err error) (changed_by m command kind_of_other)
    → n ≡ left m (changed_by m command kind_of_other) → n ≡ m
unchanged m n command kind_of_other error failed is = is ∙ ap (left m) (answered_error error (changed_by m command kind_of_other) failed)

pub unfit : {A : Type 0} {b c : Bool} → (b ≡ false) ⊎ A → b ≡ c → (c ≡ false) ⊎ A
unfit (inl is) same = inl (sym same ∙ is)
unfit (inr a) same = inr a

pub answers_error : (m : ObjectMap) (command : Command) (byte error : ℕ) → byte ≡ error → ◌≡◌ {A = Result ObjectMap ℕ} (effect m command) (Err error)
    → HasResult (Err byte) (effect m command)
answers_error m command byte error same is = subst (λ (x : Result ObjectMap ℕ). HasResult (Err byte) x) (sym is) same
