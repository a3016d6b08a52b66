-- Objects in place of others with the same kind, macros and references: macros can run as before, and the objects are verified.
use Rattle.std.proofs.Common.{◌≡◌, ◌<◌, ◌+◌, ℕ, suc, Bool, true, false, eqb, List, [], ◌∷◌, ◌++◌, drop, map, length, get_or, Option, Some, None, cond, refl, sym, ap, subst, ◌∙◌, arith}
use Rattle.std.proofs.Math.Seq.{drop-cons}
use Rattle.std.proofs.lemmas.Option.{same_Some}
use Rattle.std.proofs.lemmas.Bool.{eqb-true}
use Rattle.std.proofs.lemmas.Cmp.{nat_cmp_total}
use Rattle.std.specs.FinMap as finite
use Rattle.vt_kinds.specs.declared.kind.Kind.{Kind}
use Rattle.vt_kinds.specs.declared.kind.Kind.TheVariants as kinds
use Rattle.vt_kinds.specs.declared.object.Object.{Object}
use Rattle.vt_kinds.specs.Records.{Seen}
use Rattle.vt_kinds.specs.References.{slots_of}
use Rattle.vt_stores.specs.Shapes.{Fixed, fixed}
use Rattle.vt_stores.specs.Stores.{Objects, ObjectMap, by_rising_id, map_of, replaced, seen_entry, with_object}
use Rattle.vt_stores.proofs.StoreMethods.{get_from}
use Rattle.vt_chains.specs.declared.levels.Levels.{Levels}
use Rattle.vt_chains.proofs.IdIndices.{rising}
use Rattle.vt_verify.specs.Rules.{IsVerified}
use Rattle.vt_verify.specs.Updates.{updated}
use Rattle.vt_effects.specs.Effects.{kind_in, pointer_value}
use Rattle.vt_effects.specs.Soundness.{shape_in}
use Rattle.vt_effects.proofs.lemmas.stores.OneChangedObject.{get_there, get_other}
use Rattle.vt_macros.specs.declared.index.Index.{Index}
use Rattle.vt_macros.specs.NestedRuns.{CanRun}
use Rattle.vt_macros.proofs.SoundStoreVerified.{sound_verified}
use Rattle.vt_machine.specs.declared.live.HeldKey.{HeldKey}
use Rattle.vt_machine.specs.Replacements.{Replaces, AreReplacements, with_objects_put}
use Rattle.vt_machine.specs.SetStates.{SetState, is_key, holds_key, same_kind, kept_key, kept_input, renewed}
use Rattle.vt_machine.proofs.MacrosUnaffected.{still_shaped, still_runs}
use Rattle.vt_machine.proofs.SlotsByIds.{same_value}
use Rattle.vt_machine.proofs.StateBeforeAndAfter.{kind_stays}

-- ---- one object

still_replaces : (m : ObjectMap) (put entry : ℕ × Seen) → Replaces m put → Replaces m entry → Replaces (finite.insert m put.0 put.1) entry
still_replaces m put entry own is = by (eqb entry.0 put.0) refl
  where
    by : (b : Bool) → eqb entry.0 put.0 ≡ b → Replaces (finite.insert m put.0 put.1) entry
    by true same =
        let old : is.old ≡ own.old = same_Some is.old own.old (sym is.there ∙ ap (finite.get m) (eqb-true entry.0 put.0 same) ∙ own.there) in
        record {
          old = put.1;
          there = get_there m put.0 put.1 entry.0 same;
          same_shape = is.same_shape ∙ ap fixed old ∙ sym own.same_shape;
          same_slots = is.same_slots ∙ ap (λ (o : Seen). slots_of o) old ∙ sym own.same_slots;
        }
    by false other = record {
      old = is.old;
      there = get_other m put.0 put.1 entry.0 other ∙ is.there;
      same_shape = is.same_shape;
      same_slots = is.same_slots;
    }

pub all_still : (m : ObjectMap) (put : ℕ × Seen) (entries : Objects) → Replaces m put → AreReplacements m entries → AreReplacements (finite.insert m put.0 put.1) entries
all_still m put [] own all = tt
all_still m put (entry ∷ entries) own all = (still_replaces m put entry own all.0, all_still m put entries own all.1)

value_stays : (m : ObjectMap) (entry : ℕ × Seen) (is : Replaces m entry) → pointer_value (Some entry.1) ≡ pointer_value (Some is.old)
value_stays m entry is = same_value entry.1 is.old (ap (λ (f : Fixed). f.kind) is.same_shape) is.same_slots

-- the next object of a list and the later ones
pub next_replaces : {B : Type 0} (m : ObjectMap) (items : List (ℕ × Object B)) (i : ℕ) (item : ℕ × Object B) → i < length items → item ≡ get_or items i item
    → Replaces m (seen_entry item) → AreReplacements m (map seen_entry (drop (i + 1) items)) → AreReplacements m (map seen_entry (drop i items))
next_replaces {B} m items i item lt is here later =
    let one : suc i ≡ i + 1 = omega arith in
    let parts : drop i items ≡ item ∷ drop (i + 1) items =
    drop-cons items i item lt ∙ ap (λ (x : ℕ × Object B). x ∷ drop (suc i) items) (sym is) ∙ ap (λ (k : ℕ). item ∷ drop k items) one in
    subst (λ (l : List (ℕ × Object B)). AreReplacements m (map seen_entry l)) (sym parts) (here, later)

pub same_replacements : (m n : ObjectMap) (entries others : Objects) → m ≡ n → entries ≡ others → AreReplacements n others → AreReplacements m entries
same_replacements m n entries others same alike all = subst (λ (o : ObjectMap). AreReplacements o entries) (sym same) (subst (AreReplacements n) (sym alike) all)

-- ---- all objects

replaces_later : (m : ObjectMap) (entries : Objects) (entry : ℕ × Seen) → AreReplacements m entries → Replaces m entry → Replaces (with_objects_put m entries) entry
replaces_later m [] entry all is = is
replaces_later m (put ∷ entries) entry all is =
    still_replaces (with_objects_put m entries) put entry (replaces_later m entries put all.1 all.0) (replaces_later m entries entry all.1 is)

pub put_runs : (m : ObjectMap) (entries : Objects) (index : Index) (levels : Levels) → AreReplacements m entries → CanRun index m levels
    → CanRun index (with_objects_put m entries) levels
put_runs m [] index levels all can = can
put_runs m (entry ∷ entries) index levels all can =
    let n = with_objects_put m entries in
    let is : Replaces n entry = replaces_later m entries entry all.1 all.0 in
    still_runs n entry.0 is.old entry.1 is.there is.same_slots is.same_shape (value_stays n entry is) index levels (put_runs m entries index levels all.1 can)

pub put_shape : (m : ObjectMap) (entries : Objects) → AreReplacements m entries → shape_in (with_objects_put m entries) ≡ shape_in m
put_shape m [] all = refl
put_shape m (entry ∷ entries) all =
    let n = with_objects_put m entries in
    let is : Replaces n entry = replaces_later m entries entry all.1 all.0 in
    still_shaped n entry.0 is.old entry.1 is.there is.same_slots is.same_shape (value_stays n entry is) ∙ put_shape m entries all.1

-- ---- the updated store

joined_put : (entries more : Objects) → finite.from_entries (entries ++ more) ≡ with_objects_put (finite.from_entries more) entries
joined_put [] more = refl
joined_put (entry ∷ entries) more = ap (λ (n : ObjectMap). finite.insert n entry.0 entry.1) (joined_put entries more)

map_again : (m : ObjectMap) → finite.from_entries (finite.entries m) ≡ m
map_again m =
    finite.same_map nat_cmp_total finite.nat_cmp-IsAntisymmetric (finite.from_entries (finite.entries m)) m
    (λ q. finite.get-from_entries nat_cmp_total (finite.entries m) q ∙ sym (finite.get-entries m q))

map_of_entries : (m : ObjectMap) → map_of (finite.entries m) ≡ m
map_of_entries m =
    finite.same_map nat_cmp_total finite.nat_cmp-IsAntisymmetric (map_of (finite.entries m)) m
    (λ q. get_from (finite.entries m) q (rising m) ∙ sym (finite.get-entries m q))

updated_is : (m : ObjectMap) (entries : Objects) → updated m entries ≡ finite.entries (with_objects_put m entries)
unfolding by_rising_id
updated_is m entries =
    ap finite.entries (joined_put entries (finite.entries m) ∙ ap (λ (n : ObjectMap). with_objects_put n entries) (map_again m))

pub updated_map : (m : ObjectMap) (entries : Objects) → map_of (updated m entries) ≡ with_objects_put m entries
updated_map m entries = ap map_of (updated_is m entries) ∙ map_of_entries (with_objects_put m entries)

pub updated_verified : (m : ObjectMap) (entries : Objects) (index : Index) (levels : Levels) → AreReplacements m entries → CanRun index m levels → IsVerified (updated m entries)
updated_verified m entries index levels all can =
    let after = put_runs m entries index levels all can in
    subst IsVerified (sym (updated_is m entries)) (sound_verified (with_objects_put m entries) after.sound after.shaped)

-- ---- the last object of a list is put first

pub last_put : (m : ObjectMap) (entries : Objects) (entry : ℕ × Seen) → with_objects_put m (entries ++ entry ∷ []) ≡ with_objects_put (finite.insert m entry.0 entry.1) entries
last_put m [] entry = refl
last_put m (first ∷ entries) entry = ap (λ (n : ObjectMap). finite.insert n first.0 first.1) (last_put m entries entry)

pub all_before : (m : ObjectMap) (entries : Objects) (entry : ℕ × Seen) → AreReplacements m (entries ++ entry ∷ []) → AreReplacements m entries × Replaces m entry
all_before m [] entry all = (tt, all.0)
all_before m (first ∷ entries) entry all = let later = all_before m entries entry all.1 in ((all.0, later.0), later.1)

-- a replacing object is written at its ID
pub written : (m : ObjectMap) (entry : ℕ × Seen) → Replaces m entry → with_object m entry.0 entry.1 ≡ finite.insert m entry.0 entry.1
written m entry is = ap (λ (found : Option Seen). replaced found m entry.0 entry.1) is.there

-- the loop that puts the last object of the remaining ones
pub record ArePut (old : ObjectMap) (all : Objects) (now : ObjectMap) (rest : Objects) : Type 0 where
  pub fits : AreReplacements now rest
  pub same : with_objects_put now rest ≡ with_objects_put old all

pub next_put : (old now new : ObjectMap) (all before rest : Objects) (entry : ℕ × Seen) → before ≡ rest ++ entry ∷ [] → new ≡ with_object now entry.0 entry.1
    → ArePut old all now before → ArePut old all new rest
next_put old now new all before rest entry parts wrote are =
    let fits : AreReplacements now (rest ++ entry ∷ []) = subst (AreReplacements now) parts are.fits in
    let both = all_before now rest entry fits in
    let is : new ≡ finite.insert now entry.0 entry.1 = wrote ∙ written now entry both.1 in
    record {
      fits = subst (λ (n : ObjectMap). AreReplacements n rest) (sym is) (all_still now entry rest both.1 both.0);
      same = ap (λ (n : ObjectMap). with_objects_put n rest) is ∙ sym (last_put now rest entry) ∙ sym (ap (with_objects_put now) parts) ∙ are.same;
    }

-- ---- the held key and the selected input

same_itself : (kind : Option Kind) → is_key kind ≡ true → same_kind kind kind ≡ true
same_itself (Some kinds.Key) is = refl
same_itself (Some kinds.Button) is = refl
same_itself _ is = absurd cc

key_again : (old new : ObjectMap) (key : Option HeldKey) → shape_in new ≡ shape_in old → holds_key old key ≡ true → kept_key old new key ≡ key
key_again old new None same is = refl
key_again old new (Some key) same is =
    ap (λ (k : Option Kind). cond (same_kind (kind_in old key.id) k) (Some key) None) (kind_stays new old key.id same)
    ∙ ap (λ (b : Bool). cond b (Some key) None) (same_itself (kind_in old key.id) is)

input_again : (old new : ObjectMap) (input : Option ℕ) → shape_in new ≡ shape_in old → kept_input old old input ≡ kept_input old new input
input_again old new None same = refl
input_again old new (Some id) same = ap (λ (k : Option Kind). cond (same_kind (kind_in old id) k) (Some id) None) (sym (kind_stays new old id same))

pub renewed_is : (state : SetState) (new : ObjectMap) (input : Option ℕ) → shape_in new ≡ shape_in state.objects → holds_key state.objects state.key ≡ true
    → input ≡ kept_input state.objects state.objects state.input → record { objects = new; key = state.key; input = input; audio = state.audio } ≡ renewed state new
renewed_is state new input same held is =
    λ i. record {
      objects = new;
      key = sym (key_again state.objects new state.key same held) i;
      input = (is ∙ input_again state.objects new state.input same) i;
      audio = state.audio;
    }
