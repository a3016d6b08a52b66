-- Entries drawn one after the other, on a page that may be full.
use Rattle.std.proofs.Common.{◌≡◌, ◌≤◌, ◌<◌, ◌+◌, ℕ, zero, suc, Bool, true, false, List, [], ◌∷◌, ◌++◌, map, length, drop, take, min, get_or, Result, Ok, Err, Option, Some, None, refl, sym, ap, ap₂, ◌∙◌, arith}
use Rattle.std.proofs.lemmas.List.{drop_more, drop_all, take_all, append_assoc, length-map, get_or-map}
use Rattle.std.proofs.lemmas.Bool.{ltb-true, ltb-false}
use Rattle.std.specs.Prelude.{codes, nat_lt, OnOk, is_ok, if◌then◌else◌}
use Rattle.std.specs.List.{flat_map}
use Rattle.std.specs.FinMap as finite
use Rattle.vt_kinds.specs.declared.entries.Child.{Child}
use Rattle.vt_kinds.specs.declared.masks.WorkingSet.{WorkingSet}
use Rattle.vt_kinds.specs.declared.masks.DataMask.{DataMask}
use Rattle.vt_kinds.specs.declared.masks.AlarmMask.{AlarmMask}
use Rattle.vt_kinds.specs.declared.masks.Container.{Container}
use Rattle.vt_kinds.specs.declared.keys.Key.{Key}
use Rattle.vt_kinds.specs.declared.keys.Button.{Button}
use Rattle.vt_kinds.specs.declared.input_fields.InputList.{InputList}
use Rattle.vt_kinds.specs.declared.object.Object.{Object}
use Rattle.vt_kinds.specs.declared.object.Object.TheVariants as objects
use Rattle.vt_kinds.specs.Ids.{null_id}
use Rattle.vt_kinds.specs.Records.{Seen, seen}
use Rattle.vt_stores.specs.Stores.{ObjectMap}
use Rattle.vt_machine.specs.SetStates.{IsActive}
use Rattle.vt_shown.specs.ShownElements.{resolves_to, keys_of, soft_key_mask_of}
use Rattle.vt_effects.specs.Soundness.{IsSound}
use Rattle.vt_layout.specs.declared.element.Element.{Element}
use Rattle.vt_layout.specs.declared.element.Position.{Position}
use Rattle.vt_layout.specs.Drawings.{origin, shifted, unmoved, element, entries_in}
use Rattle.vt_layout.specs.Lines.{line, escaped, quoted}
use Rattle.vt_layout.specs.Screens.{shortened, heading, GainsScreen}
use Rattle.vt_layout.specs.PageTexts.{Sheet, with_line, with_elements, finished}
use Rattle.vt_layout.specs.Walks.{Draws, with_drawn, each_from, elements, drawing}
use Rattle.vt_layout.proofs.PageLines.{elements_append, full_stays, longer, next_line, last_line, page_text, screen_is}

-- the elements of an entry at an index
abbrev of_entry : Draws → ObjectMap → ℕ → Position → Child → List Element
of_entry draws store place from entry = with_drawn draws store (element store place (shifted from entry) (resolves_to store entry.id))

-- drawing the entries from an index on makes the goal page of the present one
abbrev pub Becomes : Draws → ObjectMap → List Child → Position → ℕ → Sheet → Sheet → Type 0
Becomes draws store entries from place now goal = with_elements store (each_from draws store place (drop place entries) from) now ≡ goal

pub becomes_next : (draws : Draws) (store : ObjectMap) (entries : List Child) (from : Position) (place : ℕ) (entry default : Child) (now new goal : Sheet) → place < length entries
    → get_or entries place default ≡ entry → Becomes draws store entries from place now goal
    → new ≡ with_elements store (of_entry draws store place from entry) now → Becomes draws store entries from (place + 1) new goal
becomes_next draws store entries from place entry default now new goal lt is becomes drawn =
    let rest = each_from draws store (place + 1) (drop (place + 1) entries) from in
    let first = of_entry draws store place from entry in
    let more : suc place ≡ place + 1 = omega arith in
    ap (with_elements store rest) drawn
    ∙ sym (elements_append store first rest now)
    ∙ ap (λ (n : ℕ). with_elements store (first ++ each_from draws store n (drop (place + 1) entries) from) now) (sym more)
    ∙ ap (λ (e : Child). with_elements store (each_from draws store place (e ∷ drop (place + 1) entries) from) now) (sym is)
    ∙ ap (λ (es : List Child). with_elements store (each_from draws store place es from) now) (sym (drop_more entries place default lt))
    ∙ becomes

pub becomes_end : (draws : Draws) (store : ObjectMap) (entries : List Child) (from : Position) (place : ℕ) (now goal : Sheet) → length entries ≤ place
    → Becomes draws store entries from place now goal → now ≡ goal
becomes_end draws store entries from place now goal le becomes =
    ap (λ (es : List Child). with_elements store (each_from draws store place es from) now) (sym (drop_all place entries le)) ∙ becomes

-- one level of the walk
pub level : (depth least : ℕ) (store : ObjectMap) (entries : List Child) (from : Position) → depth ≡ suc least → elements depth store entries from ≡ each_from (elements least store) store 0 entries from
unfolding elements
level depth least store entries from is = ap (λ (n : ℕ). elements n store entries from) is

pub no_level : (depth : ℕ) (store : ObjectMap) (entries : List Child) (from : Position) → depth ≡ 0 → elements depth store entries from ≡ []
unfolding elements
no_level depth store entries from is = ap (λ (n : ℕ). elements n store entries from) is

-- a full page is unchanged by further elements
pub full_page : (store : ObjectMap) (elements : List Element) (page : Sheet) → page.count ≡ 2001 → page ≡ with_elements store elements page
full_page store elements page is = sym (full_stays (map (line store) elements) page is)

none_met : (depth : ℕ) (store : ObjectMap) (from : Position) → elements depth store [] from ≡ []
unfolding elements
none_met zero store from = refl
none_met (suc depth) store from = refl

-- a page is unchanged if there are no entries
pub none_drawn : (depth : ℕ) (store : ObjectMap) (entries : List Child) (from : Position) (page : Sheet) → entries ≡ [] → page ≡ with_elements store (elements depth store entries from) page
none_drawn depth store entries from page is =
    ap (λ (es : List Element). with_elements store es page) (sym (none_met depth store from))
    ∙ ap (λ (cs : List Child). with_elements store (elements depth store cs from) page) (sym is)

pub none_within : {B : Type 0} (store : ObjectMap) (o : Object B) → ((w : WorkingSet) → o ≡ objects.WorkingSet w → ⊥) → ((w : DataMask) → o ≡ objects.DataMask w → ⊥)
    → ((w : AlarmMask) → o ≡ objects.AlarmMask w → ⊥) → ((w : Container) → o ≡ objects.Container w → ⊥) → ((w : Key) → o ≡ objects.Key w → ⊥)
    → ((w : Button) → o ≡ objects.Button w → ⊥) → ((w : InputList) → o ≡ objects.InputList w → ⊥) → entries_in store (Some (seen o)) ≡ []
none_within store (objects.WorkingSet w) not _ _ _ _ _ _ = absurd (not w refl)
none_within store (objects.DataMask w) _ not _ _ _ _ _ = absurd (not w refl)
none_within store (objects.AlarmMask w) _ _ not _ _ _ _ = absurd (not w refl)
none_within store (objects.Container w) _ _ _ not _ _ _ = absurd (not w refl)
none_within store (objects.Key w) _ _ _ _ not _ _ = absurd (not w refl)
none_within store (objects.Button w) _ _ _ _ _ not _ = absurd (not w refl)
none_within store (objects.InputList w) _ _ _ _ _ _ not = absurd (not w refl)
none_within store o _ _ _ _ _ _ _ = refl

-- ---- a line on a page

pub one_too_many : (l text : List ℕ) (count : ℕ) (now : Sheet) → now ≡ record { text = text; count = count } → 2000 < count + 1 → record { text = text; count = 2001 } ≡ with_line l now
one_too_many l text count now is more =
    let sheet : Sheet = record { text = text; count = count } in
    sym (ap (with_line l) is ∙ last_line l sheet (omega (arith, more)))

pub one_more : (l text new : List ℕ) (count : ℕ) (now : Sheet) → now ≡ record { text = text; count = count } → count + 1 ≤ 2000 → new ≡ text ++ l
    → record { text = new; count = count + 1 } ≡ with_line l now
one_more l text new count now is few written =
    let sheet : Sheet = record { text = text; count = count } in
    let more : count + 1 ≡ suc count = omega arith in
    let same : record { text = new; count = count + 1 } ≡ longer l sheet = ap₂ (λ t n. record { text = t; count = n }) written more in
    same ∙ sym (ap (with_line l) is ∙ next_line l sheet (omega (arith, few)))

-- ---- a text in quotes

pub quoted_whole : (new old mid all : List ℕ) (i n : ℕ) → n ≡ min (length all) 64 → mid ≡ old ++ (codes " \"" ++ flat_map escaped (take i (take n all))) → length (take n all) ≤ i
    → new ≡ mid ++ codes "\"" → new ≡ old ++ quoted (Some all)
quoted_whole new old mid all i n few before end last =
    let lines = flat_map escaped (take 64 all) in
    last ∙ ap (λ t. t ++ codes "\"") before
    ∙ ap (λ (bytes : List ℕ). (old ++ (codes " \"" ++ flat_map escaped bytes)) ++ codes "\"") (take_all i (take n all) end ∙ ap (λ k. take k all) few ∙ first_few all)
    ∙ append_assoc old (codes " \"" ++ lines) (codes "\"")
    ∙ ap (λ t. old ++ t) (append_assoc (codes " \"") lines (codes "\""))
  where
    first_few : (all : List ℕ) → take (min (length all) 64) all ≡ take 64 all
    first_few all = by (nat_lt (length all) 64) refl
      where
        by : (b : Bool) → nat_lt (length all) 64 ≡ b → take (min (length all) 64) all ≡ take 64 all
        by true is =
            let lt = ltb-true (length all) 64 is in
            take_all (min (length all) 64) all (omega (arith, lt)) ∙ sym (take_all 64 all (omega (arith, lt)))
        by false is =
            let ge = ltb-false (length all) 64 is in
            let same : min (length all) 64 ≡ 64 = omega (arith, ge) in
            ap (λ k. take k all) same

-- ---- a mask

pub no_mask : (store : ObjectMap) (mask : ℕ) (page : Sheet) → None ≡ finite.get store mask → finite.get store null_id ≡ None → page ≡ with_elements store (drawing store mask) page
no_mask store mask page none null =
    ap (λ (es : List Element). with_elements store es page) (sym (ap₂ (λ one two. one ++ two) (none_met 32 store origin) (none_met 32 store origin)))
    ∙ ap (λ (keys : Option Seen). with_elements store (elements 32 store [] origin ++ elements 32 store (map unmoved (keys_of keys)) origin) page) (sym null)
    ∙ ap (λ (o : Option Seen). with_elements store (elements 32 store (entries_in store o) origin ++ elements 32 store (map unmoved (keys_of (finite.get store (soft_key_mask_of o)))) origin) page) none

pub no_keys : (store : ObjectMap) (id : ℕ) (page : Sheet) → None ≡ finite.get store id → page ≡ with_elements store (elements 32 store (map unmoved (keys_of (finite.get store id))) origin) page
no_keys store id page none =
    none_drawn 32 store (map unmoved (keys_of (finite.get store id))) origin page (ap (λ (o : Option Seen). map unmoved (keys_of o)) (sym none))

pub mask_drawn : (store : ObjectMap) (mask keys : ℕ) (o : Seen) (old mid new : Sheet) → Some o ≡ finite.get store mask → keys ≡ soft_key_mask_of (Some o)
    → mid ≡ with_elements store (elements 32 store (entries_in store (Some o)) origin) old
    → new ≡ with_elements store (elements 32 store (map unmoved (keys_of (finite.get store keys))) origin) mid → new ≡ with_elements store (drawing store mask) old
mask_drawn store mask keys o old mid new there is first second =
    let within = elements 32 store (entries_in store (Some o)) origin in
    second
    ∙ ap₂ (λ k page. with_elements store (elements 32 store (map unmoved (keys_of (finite.get store k))) origin) page) is first
    ∙ sym (elements_append store within (elements 32 store (map unmoved (keys_of (finite.get store (soft_key_mask_of (Some o))))) origin) old)
    ∙ ap (λ (o : Option Seen). with_elements store (elements 32 store (entries_in store o) origin ++ elements 32 store (map unmoved (keys_of (finite.get store (soft_key_mask_of o)))) origin) old) there

-- ---- a screen

pub screen_text : (store : ObjectMap) (address mask : ℕ) (first text : List ℕ) (page drawn : Sheet) → text ≡ finished drawn → drawn ≡ with_elements store (drawing store mask) page
    → page ≡ record { text = first; count = 0 } → first ≡ heading address mask → text ≡ heading address mask ++ shortened (map (line store) (drawing store mask))
screen_text store address mask first text page drawn last lines start head =
    last ∙ ap finished (lines ∙ ap (with_elements store (drawing store mask)) start)
    ∙ page_text first (map (line store) (drawing store mask))
    ∙ ap (λ t. t ++ shortened (map (line store) (drawing store mask))) head

pub gains : (address : ℕ) (store : ObjectMap) (mask : ℕ) (old new text : List ℕ) → IsSound store → finite.get store null_id ≡ None → IsActive store mask
    → text ≡ heading address mask ++ shortened (map (line store) (drawing store mask)) → new ≡ old ++ text → GainsScreen address store old new
gains address store mask old new text sound null active is gained = record { text = text; is_screen = screen_is address store mask text sound null active is; gained = gained }

-- ---- keys

pub keys_next : (store : ObjectMap) (keys : List ℕ) (place key default : ℕ) (now new goal : Sheet) → place < length keys → get_or keys place default ≡ key
    → Becomes (elements 31 store) store (map unmoved keys) origin place now goal
    → new ≡ with_elements store (with_drawn (elements 31 store) store (element store place origin (resolves_to store key))) now
    → Becomes (elements 31 store) store (map unmoved keys) origin (place + 1) new goal
keys_next store keys place key default now new goal lt is becomes drawn =
    let long = length-map keys unmoved in
    becomes_next (elements 31 store) store (map unmoved keys) origin place (unmoved key) (unmoved default) now new goal (omega (arith, lt, long))
    (get_or-map unmoved keys place default (unmoved default) lt ∙ ap unmoved is) becomes drawn

pub when_ok : {T E A P : Type 0} (r : Result T E) (new one other : A) → new ≡ (if is_ok r then one else other) → (new ≡ one → P) → OnOk r P
when_ok (Ok v) new one other is so = so is
when_ok (Err e) new one other is so = tt
