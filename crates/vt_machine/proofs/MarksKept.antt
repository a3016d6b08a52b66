-- The marks of shown objects stay those of the objects shown while a store looks the same.
use Rattle.std.proofs.Common.{◌≡◌, ◌<◌, ◌≤◌, ◌⊎◌, inl, inr, ℕ, zero, suc, Bool, true, false, not, ◌&&◌, List, [], ◌∷◌, ◌++◌, length, get_or, take, Some, Result, Ok, Err, refl, sym, ap, subst, ◌∙◌, arith}
use Rattle.std.proofs.Math.Seq.{take-append_seam}
use Rattle.std.specs.Option.{option_map}
use Rattle.std.specs.FinMap as finite
use Rattle.vt_kinds.specs.declared.kind.Kind.TheVariants as kinds
use Rattle.vt_commands.specs.declared.command.Command.{Command}
use Rattle.vt_stores.specs.Stores.{ObjectMap, IsPlace}
use Rattle.vt_chains.specs.Depths.{ids_of, IsIdAt}
use Rattle.vt_chains.proofs.IdIndices.{stands_of, within}
use Rattle.vt_shown.proofs.Searches.{clear_mark}
use Rattle.vt_shown.specs.ShownElements.{IsShown}
use Rattle.std.specs.Prelude.{slice_index_or}
use Rattle.vt_shown.specs.ShownMarks.{AreShown, AreSomeShown, IsMarked}
use Rattle.vt_verify.specs.Rules.{working_sets}
use Rattle.vt_effects.specs.Changes.{HasResult, left}
use Rattle.vt_effects.specs.Effects.{kind_in, effect, after}
use Rattle.vt_effects.specs.Looks.{look, HaveSameLook}
use Rattle.vt_effects.specs.Soundness.{shape_in}
use Rattle.vt_effects.proofs.lemmas.inclusions.NewInclusions.{ids_by}
use Rattle.vt_macros.specs.Machines.{End, mask_of, store_of, run}
use Rattle.vt_macros.specs.QuietMacros.{KeepsLook}
use Rattle.vt_machine.specs.SetStates.{HasMarks, HasRun, IsDone, active_in, working_set_in}
use Rattle.vt_machine.proofs.OneSet.{set_is}
use Rattle.vt_machine.proofs.SameLookShows.{look_back, same_active, shown_then}
use Rattle.vt_machine.proofs.StateBeforeAndAfter.{kind_stays, marks_stay}

-- the same object is marked in stores with the same IDs
mark_then : (old new : ObjectMap) (marks : List Bool) (id : ℕ) → shape_in new ≡ shape_in old → IsMarked old marks id → IsMarked new marks id
mark_then old new marks id shape is = record {
  index = is.index;
  there = subst (λ (ids : List ℕ). IsIdAt ids is.index id) (sym (ids_by new old shape)) is.there;
  set = is.set;
}

active_stays : (old new : ObjectMap) (set : ℕ) → shape_in new ≡ shape_in old → HaveSameLook old new → working_sets (shape_in old) ≡ 1 → kind_in old set ≡ Some kinds.WorkingSet
    → active_in new ≡ active_in old
active_stays old new set shape same one is =
    let here = set_is old set one is in
    let there = set_is new set (ap working_sets shape ∙ one) (kind_stays new old set shape ∙ is) in
    ap (λ (id : ℕ). mask_of (finite.get new id)) (sym there ∙ here) ∙ same_active old new same (working_set_in old)

shown_stay : (old new : ObjectMap) (marks : List Bool) (mask : ℕ) → shape_in new ≡ shape_in old → HaveSameLook old new → AreShown old mask marks → AreShown new mask marks
shown_stay old new marks mask shape same are = record {
  each = marks_stay old new marks shape are.each;
  shown = λ id is. shown_then old new same mask id (are.shown id (mark_then new old marks id (sym shape) is));
  marked = λ id is. mark_then old new marks id shape (are.marked id (shown_then new old (look_back old new same) mask id is));
}

some_stay : (old new : ObjectMap) (marks : List Bool) (mask : ℕ) → shape_in new ≡ shape_in old → HaveSameLook old new → AreSomeShown old mask marks → AreSomeShown new mask marks
some_stay old new marks mask shape same are = record {
  each = marks_stay old new marks shape are.each;
  shown = λ id is. shown_then old new same mask id (are.shown id (mark_then new old marks id (sym shape) is));
}

first : (a b : Bool) → (a && b) ≡ true → a ≡ true
first true b e = refl
first false b e = absurd cc

second : (a b : Bool) → (a && b) ≡ true → b ≡ true
second true b e = e
second false b e = absurd cc

-- the marks stay, if the store looks the same, or else the objects marked are no longer said to be shown
pub marks_kept : (old new : ObjectMap) (set : ℕ) (were quiet every : Bool) (marks : List Bool) → shape_in new ≡ shape_in old → working_sets (shape_in old) ≡ 1
    → kind_in old set ≡ Some kinds.WorkingSet → (quiet ≡ true → HaveSameLook old new) → HasMarks old were every marks → HasMarks new (were && quiet) every marks
marks_kept old new set were quiet every marks shape one is keeps has = record {
  each = marks_stay old new marks shape has.each;
  shown = λ both.
      let same = keeps (second were quiet both) in
      subst (λ (mask : ℕ). AreSomeShown new mask marks) (sym (active_stays old new set shape same one is))
      (some_stay old new marks (active_in old) shape same (has.shown (first were quiet both)));
  all = λ both full.
      let same = keeps (second were quiet both) in
      subst (λ (mask : ℕ). AreShown new mask marks) (sym (active_stays old new set shape same one is))
      (shown_stay old new marks (active_in old) shape same (has.all (first were quiet both) full));
}

pub marks_cleared : (old new : ObjectMap) (were every : Bool) (marks : List Bool) → shape_in new ≡ shape_in old → HasMarks old were every marks → HasMarks new false every marks
marks_cleared old new were every marks shape has = record { each = marks_stay old new marks shape has.each; shown = λ never. absurd cc; all = λ never full. absurd cc }

-- ---- the marks and the objects shown

-- the mark at the index of an object
mark_at : (m : ObjectMap) (id index : ℕ) (marks : List Bool) (mark : Bool) → IsPlace (finite.entries m) id index → length marks ≡ length (ids_of m)
    → mark ≡ get_or marks index mark → slice_index_or marks index false ≡ mark
mark_at m id index marks mark at each is =
    let inside = within (ids_of m) index id (stands_of (finite.entries m) index id at.object at.there) in
    by marks index (omega (arith, inside, each)) ∙ sym is
  where
    by : (marks : List Bool) (i : ℕ) → i < length marks → slice_index_or marks i false ≡ get_or marks i mark
    by [] i lt = absurd (omega (arith, lt))
    by (x ∷ marks) zero lt = refl
    by (x ∷ marks) (suc i) lt = by marks i (omega (arith, lt))

-- a marked object is shown
pub mark_shows : (m : ObjectMap) (id index : ℕ) (marks : List Bool) (mark : Bool) → IsPlace (finite.entries m) id index → AreSomeShown m (active_in m) marks
    → mark ≡ get_or marks index mark → mark ≡ true → IsShown m (active_in m) id
mark_shows m id index marks mark at are is set =
    are.shown id (record { index = index; there = stands_of (finite.entries m) index id at.object at.there; set = mark_at m id index marks mark at are.each is ∙ set })

-- with all objects marked that are shown, an object without a mark is not shown
pub mark_hides : (m : ObjectMap) (id index : ℕ) (marks : List Bool) (mark : Bool) → IsPlace (finite.entries m) id index → AreShown m (active_in m) marks
    → mark ≡ get_or marks index mark → mark ≡ false → IsShown m (active_in m) id → ⊥
mark_hides m id index marks mark at are is clear shown =
    clear_mark m id index marks at (mark_at m id index marks mark at are.each is ∙ clear) (are.marked id shown)

-- an object without a mark is not shown after a search for it or for no object, as the search did not end at it
pub search_hides : (m : ObjectMap) (id index sought : ℕ) (marks : List Bool) (mark is_found : Bool) → IsPlace (finite.entries m) id index
    → length marks ≡ length (ids_of m) → (sought ≡ index) ⊎ (length (ids_of m) ≤ sought) → is_found ≡ slice_index_or marks sought false
    → (is_found ≡ false → AreShown m (active_in m) marks) → mark ≡ get_or marks index mark → mark ≡ false → IsShown m (active_in m) id → ⊥
search_hides m id index sought marks mark true at each (inl same) found all is clear shown =
    let set = found ∙ ap (λ (i : ℕ). slice_index_or marks i false) same ∙ mark_at m id index marks mark at each is ∙ clear in absurd cc
search_hides m id index sought marks mark true at each (inr past) found all is clear shown =
    let set = found ∙ past_end marks sought (omega (arith, past, each)) in absurd cc
  where
    past_end : (marks : List Bool) (i : ℕ) → length marks ≤ i → slice_index_or marks i false ≡ false
    past_end [] i le = refl
    past_end (x ∷ marks) zero le = absurd (omega (arith, le))
    past_end (x ∷ marks) (suc i) le = past_end marks i (omega (arith, le))
search_hides m id index sought marks mark false at each which found all is clear shown = mark_hides m id index marks mark at (all refl) is clear shown

-- the marks after a search
pub search_marks : (m : ObjectMap) (mask : ℕ) (marks : List Bool) (is_found : Bool) → mask ≡ active_in m → AreSomeShown m mask marks
    → (is_found ≡ false → AreShown m mask marks) → HasMarks m true (not is_found) marks
search_marks m mask marks is_found is some all = record {
  each = some.each;
  shown = λ _. subst (λ (k : ℕ). AreSomeShown m k marks) is some;
  all = λ _ full. subst (λ (k : ℕ). AreShown m k marks) is (all (none is_found full));
}
  where
    none : (b : Bool) → not b ≡ true → b ≡ false
    none true e = absurd cc
    none false e = refl

-- the marks that a search has written are all marks
pub all_marks : (n : ℕ) (new rest : List Bool) → length new ≡ n → take n (new ++ rest) ≡ new
all_marks n new rest is = subst (λ (k : ℕ). take k (new ++ rest) ≡ new) is (take-append_seam new rest)

-- ---- the store after a call

-- a run of events that keep the look ends in a store that looks the same
pub ran_same : (old new : ObjectMap) (commands : List Command) (most steps : ℕ) → HaveSameLook old (store_of (run most old commands)) → HasRun old commands most steps new
    → HaveSameLook old new
ran_same old new commands most steps same ran id = ap (λ (e : End). option_map look (finite.get (store_of e) id)) (sym ran.ended) ∙ same id

pub done_same : (old new : ObjectMap) (command : Command) (steps : ℕ) → KeepsLook old command → IsDone old command steps new → HaveSameLook old new
done_same old new command steps keeps done id =
    ap (λ (e : End). option_map look (finite.get (store_of e) id)) (sym done.has_run.ended) ∙ keeps done.middle done.done id

unchanged : (m : ObjectMap) (r : Result ObjectMap ℕ) (bits : ℕ) → HasResult (Err bits) r → left m r ≡ m
unchanged m (Ok n) bits is = absurd is
unchanged m (Err other) bits is = refl

pub refused_same : (old new : ObjectMap) (command : Command) (bits : ℕ) → new ≡ after old command → HasResult (Err bits) (effect old command) → HaveSameLook old new
refused_same old new command bits is refused id = ap (λ (m : ObjectMap). option_map look (finite.get m id)) (is ∙ unchanged old (effect old command) bits refused)
