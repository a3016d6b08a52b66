-- The lines of a page are those of its drawing.
use Rattle.std.proofs.Common.{◌≡◌, ◌≤◌, ◌<◌, ◌+◌, ℕ, zero, suc, Bool, true, false, cond, eqb, List, [], ◌∷◌, ◌++◌, map, length, take, Some, None, refl, sym, ap, subst, ◌∙◌, arith}
use Rattle.std.proofs.lemmas.List.{append_assoc}
use Rattle.std.proofs.lemmas.Bool.{ltb-true, ltb-false, lt-ltb, le-ltb, ne_eqb}
use Rattle.std.specs.Prelude.{nat_lt, codes}
use Rattle.std.specs.List.{flat_map}
use Rattle.std.specs.FinMap as finite
use Rattle.vt_kinds.specs.declared.entries.Child.{Child}
use Rattle.vt_kinds.specs.Ids.{null_id}
use Rattle.vt_stores.specs.Stores.{ObjectMap}
use Rattle.vt_verify.specs.Rules.{working_sets}
use Rattle.vt_machine.specs.SetStates.{IsActive}
use Rattle.vt_effects.specs.Soundness.{shape_in}
use Rattle.vt_effects.specs.Soundness.{IsSound}
use Rattle.vt_machine.proofs.OneSet.{masks_are_one}
use Rattle.vt_layout.specs.declared.element.Element.{Element}
use Rattle.vt_layout.specs.Drawings.{Placed, origin, at_path, mask_entries, key_entries, AreAll, IsDrawing, DrawingsAreOne}
use Rattle.vt_layout.specs.Lines.{line}
use Rattle.vt_layout.specs.Screens.{shortened, heading, IsScreen, ScreensAreOne}
use Rattle.vt_layout.specs.PageTexts.{Sheet, with_line, with_lines, with_elements, finished}
use Rattle.vt_layout.specs.Walks.{elements, drawing}
use Rattle.vt_layout.proofs.EntryWalk.{all_placed, bare, bare_all, placed_at, all_met}
use Rattle.vt_layout.proofs.SortedPaths.{walk_in_order, drawings_once}
use Rattle.vt_layout.proofs.PathsAreChains.{short_in_mask, short_of_keys}

-- ---- pages

pub lines_append : (xs ys : List (List ℕ)) (sheet : Sheet) → with_lines (xs ++ ys) sheet ≡ with_lines ys (with_lines xs sheet)
lines_append [] ys sheet = refl
lines_append (x ∷ xs) ys sheet = lines_append xs ys (with_line x sheet)

map_append : {A B : Type 0} (f : A → B) (xs ys : List A) → map f (xs ++ ys) ≡ map f xs ++ map f ys
map_append f [] ys = refl
map_append f (x ∷ xs) ys = ap (λ zs. f x ∷ zs) (map_append f xs ys)

pub elements_append : (store : ObjectMap) (xs ys : List Element) (sheet : Sheet) → with_elements store (xs ++ ys) sheet ≡ with_elements store ys (with_elements store xs sheet)
elements_append store xs ys sheet =
    ap (λ lines. with_lines lines sheet) (map_append (line store) xs ys) ∙ lines_append (map (line store) xs) (map (line store) ys) sheet

-- a full page: one element too many
abbrev pub over : Sheet → Sheet
over sheet = record { text = sheet.text; count = 2001 }

abbrev pub longer : List ℕ → Sheet → Sheet
longer l sheet = record { text = sheet.text ++ l; count = suc sheet.count }

pub next_line : (l : List ℕ) (sheet : Sheet) → sheet.count < 2000 → with_line l sheet ≡ longer l sheet
unfolding with_line
next_line l sheet lt = ap (λ (b : Bool). cond b (longer l sheet) (over sheet)) (lt-ltb sheet.count 2000 lt)

pub last_line : (l : List ℕ) (sheet : Sheet) → 2000 ≤ sheet.count → with_line l sheet ≡ over sheet
unfolding with_line
last_line l sheet le = by (nat_lt sheet.count 2000) refl
  where
    by : (b : Bool) → nat_lt sheet.count 2000 ≡ b → cond b (longer l sheet) (over sheet) ≡ over sheet
    by true less = let lt = ltb-true sheet.count 2000 less in absurd (omega (arith, lt, le))
    by false less = refl

-- a full page is unchanged by further lines
full_line : (l : List ℕ) (sheet : Sheet) → sheet.count ≡ 2001 → with_line l sheet ≡ sheet
full_line l sheet is =
    let same : over sheet ≡ sheet = ap (λ (n : ℕ). record { text = sheet.text; count = n }) (sym is) in
    last_line l sheet (omega (arith, is)) ∙ same

pub full_stays : (lines : List (List ℕ)) (sheet : Sheet) → sheet.count ≡ 2001 → with_lines lines sheet ≡ sheet
full_stays [] sheet is = refl
full_stays (l ∷ lines) sheet is = ap (with_lines lines) (full_line l sheet is) ∙ full_stays lines sheet is

not_over : (n : ℕ) → n ≤ 2000 → eqb n 2001 ≡ false
not_over n le = ne_eqb n 2001 (λ e. omega (arith, le, e))

less_both : (n m : ℕ) → nat_lt n m ≡ nat_lt (suc n) (suc m)
less_both n m = by (nat_lt n m) refl
  where
    by : (b : Bool) → nat_lt n m ≡ b → b ≡ nat_lt (suc n) (suc m)
    by true is = let lt = ltb-true n m is in sym (lt-ltb (suc n) (suc m) (omega (arith, lt)))
    by false is = let ge = ltb-false n m is in sym (le-ltb (suc n) (suc m) (omega (arith, ge)))

-- `spare` more lines fit on a page
rest_of_page : (n spare : ℕ) → n + spare ≡ 2000 → (t : List ℕ) (lines : List (List ℕ)) → finished (with_lines lines (record { text = t; count = n }))
    ≡ t ++ (flat_map (λ line. line) (take spare lines) ++ cond (nat_lt spare (length lines)) (codes "more\n") [])
rest_of_page n zero is t [] =
    let all : n ≡ 2000 = omega (arith, is) in
    ap (λ (b : Bool). t ++ cond b (codes "more\n") []) (not_over n (omega (arith, all)))
rest_of_page n (suc spare) is t [] =
    ap (λ (b : Bool). t ++ cond b (codes "more\n") []) (not_over n (omega (arith, is)) ∙ sym (le-ltb (suc spare) 0 (omega arith)))
rest_of_page n zero is t (l ∷ lines) =
    let all : n ≡ 2000 = omega (arith, is) in
    ap (λ (sheet : Sheet). finished (with_lines lines sheet)) (last_line l (record { text = t; count = n }) (omega (arith, all)))
    ∙ ap finished (full_stays lines (record { text = t; count = 2001 }) refl)
    ∙ ap (λ (b : Bool). t ++ cond b (codes "more\n") []) (sym (lt-ltb 0 (suc (length lines)) (omega arith)))
rest_of_page n (suc spare) is t (l ∷ lines) =
    let more : List ℕ = flat_map (λ line. line) (take spare lines) in
    let end : Bool → List ℕ = λ b. cond b (codes "more\n") [] in
    ap (λ (sheet : Sheet). finished (with_lines lines sheet)) (next_line l (record { text = t; count = n }) (omega (arith, is)))
    ∙ rest_of_page (suc n) spare (omega (arith, is)) (t ++ l) lines
    ∙ append_assoc t l (more ++ end (nat_lt spare (length lines)))
    ∙ ap (λ text. t ++ text) (sym (append_assoc l more (end (nat_lt spare (length lines)))))
    ∙ ap (λ (b : Bool). t ++ ((l ++ more) ++ end b)) (less_both spare (length lines))

pub page_text : (t : List ℕ) (lines : List (List ℕ)) → finished (with_lines lines (record { text = t; count = 0 })) ≡ t ++ shortened lines
page_text t lines = rest_of_page 0 2000 refl t lines

-- ---- the drawing of a store in order

walk_is_all : (store : ObjectMap) (entries : List Child) → ((path : List ℕ) (e : Element) → at_path store entries origin path ≡ Some e → length path ≤ 32) → AreAll store entries (all_placed 32 store entries origin)
walk_is_all store entries short = record {
  in_order = walk_in_order 32 store entries origin;
  are = λ p. (placed_at 32 store entries origin p, λ leads. all_met 32 store entries origin p.path p.element leads (short p.path p.element leads));
}

-- the walk through a mask and its soft keys
abbrev pub whole : ObjectMap → ℕ → List Placed
whole store mask = all_placed 32 store (mask_entries store mask) origin ++ all_placed 32 store (key_entries store mask) origin

pub whole_drawing : (store : ObjectMap) (mask : ℕ) → IsSound store → finite.get store null_id ≡ None → IsDrawing store mask (whole store mask)
whole_drawing store mask sound null = record {
  in_mask = all_placed 32 store (mask_entries store mask) origin;
  of_keys = all_placed 32 store (key_entries store mask) origin;
  parts = refl;
  mask_drawn = walk_is_all store (mask_entries store mask) (λ path e leads. short_in_mask store mask path e sound null leads);
  keys_drawn = walk_is_all store (key_entries store mask) (λ path e leads. short_of_keys store mask path e sound null leads);
}

-- the lines of a drawing are those of the walk
lines_of : (store : ObjectMap) (ps : List Placed) → map (λ p. line store p.element) ps ≡ map (line store) (bare ps)
lines_of store [] = refl
lines_of store (p ∷ ps) = ap (λ lines. line store p.element ∷ lines) (lines_of store ps)

whole_bare : (store : ObjectMap) (mask : ℕ) → bare (whole store mask) ≡ drawing store mask
whole_bare store mask =
    map_append (λ p. p.element) (all_placed 32 store (mask_entries store mask) origin) (all_placed 32 store (key_entries store mask) origin)
    ∙ ap (λ es. es ++ bare (all_placed 32 store (key_entries store mask) origin)) (bare_all 32 store (mask_entries store mask) origin)
    ∙ ap (λ es. elements 32 store (mask_entries store mask) origin ++ es) (bare_all 32 store (key_entries store mask) origin)

pub screen_is : (address : ℕ) (store : ObjectMap) (mask : ℕ) (text : List ℕ) → IsSound store → finite.get store null_id ≡ None → IsActive store mask
    → text ≡ heading address mask ++ shortened (map (line store) (drawing store mask)) → IsScreen address store text
screen_is address store mask text sound null active is = record {
  mask = mask;
  active = active;
  drawing = whole store mask;
  drawn = whole_drawing store mask sound null;
  is = is ∙ ap (λ lines. heading address mask ++ shortened lines) (sym (lines_of store (whole store mask) ∙ ap (map (line store)) (whole_bare store mask)));
}

-- ---- the screen is unique

screens_once : (address : ℕ) (store : ObjectMap) (one other : List ℕ) → working_sets (shape_in store) ≡ 1 → IsScreen address store one → IsScreen address store other → one ≡ other
screens_once address store one other sets first second =
    let mask = masks_are_one store first.mask second.mask sets first.active second.active in
    first.is
    ∙ ap (λ (m : ℕ). heading address m ++ shortened (map (λ p. line store p.element) first.drawing)) mask
    ∙ ap (λ (ps : List Placed). heading address second.mask ++ shortened (map (λ p. line store p.element) ps))
    (drawings_once store second.mask first.drawing second.drawing (subst (λ (m : ℕ). IsDrawing store m first.drawing) mask first.drawn) second.drawn)
    ∙ sym second.is

pub one_drawing : DrawingsAreOne
one_drawing = record {
  there = λ store mask sound null. (whole store mask, whole_drawing store mask sound null);
  one = drawings_once;
}

pub one_screen : ScreensAreOne
one_screen = record {
  there = λ address store mask sound null active.
      (heading address mask ++ shortened (map (line store) (drawing store mask)), screen_is address store mask (heading address mask ++ shortened (map (line store) (drawing store mask))) sound null active refl);
  one = screens_once;
}
