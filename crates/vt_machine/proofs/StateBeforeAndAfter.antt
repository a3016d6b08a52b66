-- The state of a working set before and after each call.
use Rattle.std.proofs.Common.{◌≡◌, ◌≤◌, ◌<◌, ◌+◌, ◌-◌, ◌*◌, ℕ, zero, suc, Bool, cond, List, [], ◌∷◌, map, length, slice_get, slice_index_or, true, false, Option, Some, None, Result, Ok, Err, refl, sym, ap, subst, ◌∙◌, arith, append-nil}
use Rattle.std.proofs.lemmas.List.Sums.{sum_by-cons}
use Rattle.std.proofs.lemmas.Cmp.{nat_cmp_total}
use Rattle.std.specs.List.{AllByRecursion}
use Rattle.std.specs.Option.{option_map}
use Rattle.std.specs.FinMap as finite
use Rattle.vt_kinds.specs.declared.kind.Kind.{Kind}
use Rattle.vt_kinds.specs.declared.kind.Kind.TheVariants as kinds
use Rattle.vt_commands.specs.declared.command.Command.{Command}
use Rattle.vt_kinds.specs.declared.object.Object.{Object}
use Rattle.vt_kinds.specs.declared.object.Object.TheVariants as objects
use Rattle.vt_commands.specs.declared.raising.Raised.{Raised}
use Rattle.vt_kinds.specs.Records.{Seen, seen, kind_of}
use Rattle.vt_stores.specs.Stores.{ObjectMap, Objects, AreStored, seen_entry, object_at, map_of, contents_of}
use Rattle.vt_stores.proofs.StoreMethods.{get_from}
use Rattle.vt_verify.specs.Macros.{commands}
use Rattle.vt_stores.specs.Shapes.{Shape, shape_of, kind_at}
use Rattle.vt_verify.specs.Budgets.{MacroCostsAreTotals, budget}
use Rattle.vt_chains.specs.Depths.{IsClosed, ids_of, inclusions_of}
use Rattle.vt_chains.specs.Inclusions.{IsShallow}
use Rattle.vt_verify.specs.Rules.{IsAcceptable, IsWithinBudget, is_working_set}
use Rattle.vt_chains.specs.Limits.{terminal}
use Rattle.vt_verify.specs.Triggers.{listing_of}
use Rattle.vt_verify.proofs.lemmas.references.IncludedObjectsExist.{closed_store}
use Rattle.vt_chains.proofs.IdIndices.{found_at}
use Rattle.vt_stores.proofs.ObjectShapes.{kind_found, seen_kind}
use Rattle.vt_macros.specs.declared.audio.Audio.{Audio}
use Rattle.vt_macros.specs.declared.index.Index.{Index}
use Rattle.vt_macros.specs.Audio.{noted}
use Rattle.vt_macros.specs.AudioOfRuns.{audio_after, audio_of_run}
use Rattle.vt_chains.specs.declared.levels.Levels.{Levels}
use Rattle.vt_machine.specs.declared.live.HeldKey.{HeldKey}
use Rattle.vt_chains.specs.Certificates.{AreLevels}
use Rattle.vt_effects.specs.Changes.{HasResult}
use Rattle.vt_effects.specs.Effects.{kind_in, effect, after}
use Rattle.vt_macros.specs.Indexes.{IsIndexOf}
use Rattle.vt_machine.specs.SetStates.{SetState, HasRun, IsDone, audio_by, is_key, holds_key, same_kind, kept_key}
use Rattle.vt_machine.specs.OperatorActions.{HasActed, key_message}
use Rattle.vt_macros.specs.Machines.{fault, events_of, joined_all, total_budget, run}
use Rattle.vt_effects.specs.Soundness.{shape_in}
use Rattle.vt_macros.specs.NestedRuns.{IsOfVerified, CanRun, HaveRun}
use Rattle.vt_macros.specs.Runs.{IsReady}
use Rattle.vt_effects.proofs.lemmas.inclusions.NewInclusions.{ids_by}
use Rattle.vt_effects.proofs.lemmas.stores.CommandExecution.{answered}
use Rattle.vt_macros.proofs.MacroTargetsExist.{faultless}
use Rattle.vt_macros.proofs.StoreInOrder.{pools_are_ready}
use Rattle.vt_macros.proofs.RunsEnd.{run_none}
use Rattle.vt_effects.proofs.lemmas.stores.SameShape.{shapes_stay}
use Rattle.vt_machine.proofs.OneSet.{set_kind}

-- ---- the store of an accepted pool

pub stored_is : {B : Type 0} (es : List (ℕ × Object B)) (pool : Objects) → map seen_entry es ≡ pool → AreStored pool → contents_of es ≡ map_of pool
stored_is es pool is stored =
    ap (λ (s : Objects). finite.from_entries s) is
    ∙ finite.same_map nat_cmp_total finite.nat_cmp-IsAntisymmetric (finite.from_entries pool) (map_of pool)
    (λ q. finite.get-from_entries nat_cmp_total pool q ∙ sym (get_from pool q stored.rising))

pub stored_closed : (m : ObjectMap) (pool : Objects) → m ≡ map_of pool → AreStored pool → IsAcceptable terminal pool → IsClosed (ids_of m) (inclusions_of m)
stored_closed m pool is stored acceptable =
    subst (λ (n : ObjectMap). IsClosed (ids_of n) (inclusions_of n)) (sym is) (closed_store pool stored.rising acceptable.references_there)

pub stored_shallow : (m : ObjectMap) (pool : Objects) → m ≡ map_of pool → AreStored pool → IsAcceptable terminal pool → IsShallow terminal.inclusions (inclusions_of m)
stored_shallow m pool is stored acceptable =
    subst (λ (n : ObjectMap). IsShallow terminal.inclusions (inclusions_of n)) (sym is) (pools_are_ready pool stored acceptable).sound.shallow

pub stored_indexed : (m : ObjectMap) (pool : Objects) (index : Index) → m ≡ map_of pool → AreStored pool → IsAcceptable terminal pool → IsIndexOf (shape_of pool) index
    → IsIndexOf (shape_in m) index
stored_indexed m pool index is stored acceptable indexed =
    subst (λ (s : Shape). IsIndexOf s index) (sym (IsReady.shape (subst (IsReady pool) (sym is) (pools_are_ready pool stored acceptable)))) indexed

pub stored_runs : (m : ObjectMap) (pool : Objects) (index : Index) (levels : Levels) → m ≡ map_of pool → AreStored pool → IsAcceptable terminal pool → MacroCostsAreTotals (shape_of pool)
    → IsIndexOf (shape_in m) index → AreLevels m levels → CanRun index m levels
stored_runs m pool index levels is stored acceptable totals indexed levelled =
    let ready : IsReady pool m = subst (IsReady pool) (sym is) (pools_are_ready pool stored acceptable) in
    let same : shape_of pool ≡ shape_in m = sym ready.shape in
    record {
      indexed = indexed;
      levelled = levelled;
      sound = ready.sound;
      working_set = ready.working_set;
      totals = subst MacroCostsAreTotals same totals;
      within = subst (IsWithinBudget terminal.steps) same acceptable.within_budget;
      faultless = λ id. subst (λ (s : Shape). AllByRecursion (λ command. fault s command ≡ None) (commands s id)) same (faultless pool id acceptable);
      shaped = subst IsOfVerified same (record { pool = pool; verified = record { stored = stored; acceptable = acceptable; totals = totals }; same = refl });
    }

-- ---- runs

pub has_run : (index : Index) (old : ObjectMap) (audio : Audio) (front : List Command) (most steps : ℕ) (new : ObjectMap) (new_audio : Audio) (levels : Levels)
    → HaveRun index old audio front most steps new new_audio levels → HasRun old front most steps new
has_run index old audio front most steps new new_audio levels ran =
    let le = ran.within in
    record {
      ended = ap (λ (n : ℕ). run n old front) (omega (arith, le)) ∙ ap (run (steps + (most - steps)) old) (sym (append-nil front))
          ∙ ran.leads [] (most - steps) ∙ run_none (most - steps) new;
      within = ran.within;
      sound = ran.can.sound;
      shape = ran.shape;
    }

audio_none : (n : ℕ) (audio : Audio) (m : ObjectMap) → audio_after n audio m [] ≡ audio
unfolding audio_after
audio_none zero audio m = refl
audio_none (suc n) audio m = refl

-- the audio commands after a run
pub has_sounded : (index : Index) (old : ObjectMap) (audio : Audio) (front : List Command) (most steps : ℕ) (new : ObjectMap) (new_audio : Audio) (levels : Levels)
    → HaveRun index old audio front most steps new new_audio levels → new_audio ≡ audio_after most audio old front
has_sounded index old audio front most steps new new_audio levels ran =
    let le = ran.within in
    sym (ap (λ (n : ℕ). audio_after n audio old front) (omega (arith, le)) ∙ ap (audio_after (steps + (most - steps)) audio old) (sym (append-nil front))
    ∙ ran.sounds [] (most - steps) ∙ audio_none (most - steps) new_audio new)

-- ---- commands

events_within : (shape : Shape) (raised : List Raised) → IsWithinBudget terminal.steps shape → total_budget shape raised ≤ 1000000 * length raised
events_within shape [] within = omega arith
events_within shape (r ∷ raised) within =
    let one = within.budgets (listing_of r).id (listing_of r).event in
    let rest = events_within shape raised within in
    let all = sum_by-cons (λ (e : Raised). budget shape (listing_of e).id (listing_of e).event) r raised in
    omega (arith, one, rest, all)

pub events_small : (index : Index) (m : ObjectMap) (levels : Levels) (raised : List Raised) → CanRun index m levels → length raised ≤ 3 → total_budget (shape_in m) raised < 4294967296
events_small index m levels raised can few = let le = events_within (shape_in m) raised can.within in omega (arith, le, few)

pub is_done : (index : Index) (m new last : ObjectMap) (audio last_audio : Audio) (levels then : Levels) (command : Command) (raised : List Raised) (k : ℕ) → raised ≡ events_of m command
    → HasResult (Ok tt) (effect m command) → new ≡ after m command
    → HaveRun index new audio (joined_all (shape_in new) raised) (total_budget (shape_in new) raised) k last last_audio then → IsDone m command (k + 1) last
is_done index m new last audio last_audio levels then command raised k of ok is ran = record {
  middle = new;
  done = answered (effect m command) m ok ∙ ap Ok (sym is);
  run_steps = k;
  steps_are = refl;
  has_run = has_run index new audio (joined_all (shape_in new) (events_of m command)) (total_budget (shape_in new) (events_of m command)) k last last_audio then
      (subst (λ (r : List Raised). HaveRun index new audio (joined_all (shape_in new) r) (total_budget (shape_in new) r) k last last_audio then) of ran);
}

pub done_audio : (index : Index) (m new last : ObjectMap) (audio now last_audio : Audio) (then : Levels) (command : Command) (raised : List Raised) (k : ℕ)
    → now ≡ noted audio command → raised ≡ events_of m command → HasResult (Ok tt) (effect m command) → new ≡ after m command
    → HaveRun index new now (joined_all (shape_in new) raised) (total_budget (shape_in new) raised) k last last_audio then
    → last_audio ≡ audio_by audio command (events_of m command) (effect m command)
done_audio index m new last audio now last_audio then command raised k noted_is of ok is ran =
    has_sounded index new now (joined_all (shape_in new) raised) (total_budget (shape_in new) raised) k last last_audio then ran
    ∙ ap (λ (a : Audio). audio_of_run a new raised) noted_is ∙ ap (audio_of_run (noted audio command) new) of
    ∙ ap (audio_by audio command (events_of m command)) (sym (answered (effect m command) m ok ∙ ap Ok (sym is)))

pub refused_audio : (m : ObjectMap) (audio : Audio) (command : Command) (bits : ℕ) → HasResult (Err bits) (effect m command)
    → audio ≡ audio_by audio command (events_of m command) (effect m command)
refused_audio m audio command bits refused = by (effect m command) refused
  where
    by : (r : Result ObjectMap ℕ) → HasResult (Err bits) r → audio ≡ audio_by audio command (events_of m command) r
    by (Ok x) is = absurd is
    by (Err other) is = refl

-- ---- the working set

pub kind_stays : (a b : ObjectMap) (id : ℕ) → shape_in a ≡ shape_in b → kind_in a id ≡ kind_in b id
unfolding shape_in
kind_stays a b id same =
    ap (option_map kind_of) (finite.get-entries a id) ∙ sym (kind_found (finite.entries a) id) ∙ ap (λ (s : Shape). kind_at s id) same
    ∙ kind_found (finite.entries b) id ∙ sym (ap (option_map kind_of) (finite.get-entries b id))

-- ---- the held key

pub key_stays : (old new : ObjectMap) (key : Option HeldKey) → shape_in new ≡ shape_in old → holds_key old key ≡ true → holds_key new key ≡ true
key_stays old new None same is = refl
key_stays old new (Some key) same is = ap is_key (kind_stays new old key.id same) ∙ is

-- an object with a key message may be held
pub key_held : (m : ObjectMap) (code id mask : ℕ) (message : List ℕ) → key_message code id mask (finite.get m id) ≡ Some message → is_key (kind_in m id) ≡ true
key_held m code id mask message is = by (finite.get m id) is
  where
    by : (o : Option Seen) → key_message code id mask o ≡ Some message → is_key (option_map kind_of o) ≡ true
    by (Some (objects.Key o)) is = refl
    by (Some (objects.Button o)) is = refl
    by _ is = absurd cc

-- the held object has a message of eight bytes
pub message_of_key : (m : ObjectMap) (code id mask : ℕ) (message : Option (List ℕ)) → is_key (kind_in m id) ≡ true → message ≡ key_message code id mask (finite.get m id)
    → (P : Type 0) → ((bytes : List ℕ) → message ≡ Some bytes → length bytes ≡ 8 → P) → P
message_of_key m code id mask message held is P then = by (finite.get m id) held is
  where
    by : (o : Option Seen) → is_key (option_map kind_of o) ≡ true → message ≡ key_message code id mask o → P
    by (Some (objects.Key o)) held is = then _ is refl
    by (Some (objects.Button o)) held is = then _ is refl
    by _ held is = absurd cc

-- a held key stays a key, if its object is still of the same kind
pub key_kept : (old new : ObjectMap) (key : Option HeldKey) → holds_key old key ≡ true → holds_key new (kept_key old new key) ≡ true
key_kept old new None is = refl
key_kept old new (Some key) is = by (same_kind (kind_in old key.id) (kind_in new key.id)) refl
  where
    both : (a b : Option Kind) → same_kind a b ≡ true → is_key a ≡ true → is_key b ≡ true
    both (Some kinds.Key) (Some kinds.Key) same is = refl
    both (Some kinds.Button) (Some kinds.Button) same is = refl
    both (Some kinds.Key) (Some _) same is = absurd cc
    both (Some kinds.Button) (Some _) same is = absurd cc
    both _ _ same is = absurd cc

    by : (b : Bool) → same_kind (kind_in old key.id) (kind_in new key.id) ≡ b → holds_key new (cond b (Some key) None) ≡ true
    by true same = both (kind_in old key.id) (kind_in new key.id) same is
    by false same = refl

placed_at : {B : Type 0} (es : List (ℕ × Object B)) (place : ℕ) (e d : ℕ × Object B) → e ≡ slice_index_or es place d → place < length es
    → slice_get (map seen_entry es) place ≡ Some (seen_entry e)
placed_at [] place e d is lt = absurd (omega (arith, lt))
placed_at (x ∷ es) zero e d is lt = ap (λ y. Some (seen_entry y)) (sym is)
placed_at (x ∷ es) (suc place) e d is lt = placed_at es place e d is (omega (arith, lt))

pub set_found : {B : Type 0} (es : List (ℕ × Object B)) (place : ℕ) (e d : ℕ × Object B) → e ≡ slice_index_or es place d → place < length es → AreStored (map seen_entry es)
    → is_working_set (kind_of e.1) ≡ true → option_map kind_of (object_at (map seen_entry es) e.0) ≡ Some kinds.WorkingSet
set_found es place e d is lt stored set =
    ap (option_map kind_of) (found_at (map seen_entry es) place e.0 (seen e.1) stored.rising (placed_at es place e d is lt)) ∙ ap Some (seen_kind e.1 ∙ set_kind (kind_of e.1) set)

pub stored_set : {B : Type 0} (m : ObjectMap) (es : List (ℕ × Object B)) (pool : Objects) (id : ℕ) → m ≡ map_of pool → map seen_entry es ≡ pool → AreStored pool
    → option_map kind_of (object_at (map seen_entry es) id) ≡ Some kinds.WorkingSet → kind_in m id ≡ Some kinds.WorkingSet
stored_set m es pool id is all stored set =
    ap (λ (n : ObjectMap). kind_in n id) is ∙ ap (option_map kind_of) (get_from pool id stored.rising)
    ∙ ap (λ (s : Objects). option_map kind_of (object_at s id)) (sym all) ∙ set

pub after_shape : (m new : ObjectMap) (command : Command) → new ≡ after m command → shape_in new ≡ shape_in m
after_shape m new command is = ap shape_in is ∙ shapes_stay m command

-- ---- the marks

pub marks_stay : (old new : ObjectMap) (marks : List Bool) → shape_in new ≡ shape_in old → length marks ≡ length (ids_of old) → length marks ≡ length (ids_of new)
marks_stay old new marks same are = are ∙ sym (ap length (ids_by new old same))

-- ---- events

pub has_acted : (index : Index) (state new : SetState) (raised : List Raised) (k : ℕ) (m last : ObjectMap) (audio : Audio) (then : Levels) → m ≡ state.objects → last ≡ new.objects
    → new.key ≡ state.key → new.input ≡ state.input → audio ≡ state.audio
    → HaveRun index m audio (joined_all (shape_in m) raised) (total_budget (shape_in m) raised) k last new.audio then → HasActed state raised k new
has_acted index state new raised k m last audio then is last_is key input audio_is ran =
    record {
      has_run = subst (λ (n : ObjectMap). HasRun state.objects (joined_all (shape_in state.objects) raised) (total_budget (shape_in state.objects) raised) k n) last_is
          (subst (λ (o : ObjectMap). HasRun o (joined_all (shape_in o) raised) (total_budget (shape_in o) raised) k last) is
          (has_run index m audio (joined_all (shape_in m) raised) (total_budget (shape_in m) raised) k last new.audio then ran));
      key = key;
      input = input;
      audio = has_sounded index m audio (joined_all (shape_in m) raised) (total_budget (shape_in m) raised) k last new.audio then ran
          ∙ ap (λ (o : ObjectMap). audio_of_run audio o raised) is ∙ ap (λ (a : Audio). audio_of_run a state.objects raised) audio_is;
    }
