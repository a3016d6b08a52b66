-- Elements listed one after the other, as many as fit.
use Rattle.std.proofs.Common.{◌≡◌, ℕ, zero, suc, ◌+◌, ◌-◌, ◌<◌, ◌≤◌, Bool, true, false, cond, List, [], ◌∷◌, ◌++◌, drop, length, get_or, Option, Some, None, refl, sym, ap, ◌∙◌, arith}
use Rattle.std.specs.Prelude.{nat_le}
use Rattle.std.proofs.lemmas.Bool.{leb-true, leb-false}
use Rattle.std.proofs.lemmas.List.{append_assoc, append-nil, length-append, length-take-le, take_all, take-append-le, at_drop_more, at_drop_all}
use Rattle.std.specs.FinMap as finite
use Rattle.vt_kinds.specs.declared.entries.Child.{Child}
use Rattle.vt_kinds.specs.Records.{Seen}
use Rattle.vt_stores.specs.Stores.{ObjectMap}
use Rattle.vt_shown.specs.ShownElements.{resolves_to, is_element}
use Rattle.vt_layout.specs.Drawings.{entries_in}
use Rattle.check_needs.specs.declared.sizes.Sizes.{Sizes}
use Rattle.draw_picture.specs.declared.listing.Around.{Around}
use Rattle.draw_picture.specs.declared.listing.ListedElement.{ListedElement}
use Rattle.draw_picture.specs.Listings.{Listing, Lists, each_listed, element_at, first_of, followed, inside_of, listed, listed_at, listed_for, spot_of}

-- ---- as many as fit

short : (l : List ListedElement) → length l ≤ 2000 → first_of l ≡ l
short l fits = take_all 2000 l fits

pub full : (l more : List ListedElement) → 2000 ≤ length l → first_of (l ++ more) ≡ first_of l
full l more long = take-append-le 2000 l more long

pub is_short : (l : List ListedElement) → length (first_of l) ≤ 2000
is_short l = by (nat_le (length l) 2000) refl
  where
    by : (b : Bool) → nat_le (length l) 2000 ≡ b → length (first_of l) ≤ 2000
    by true is = let fits = leb-true (length l) 2000 is in let same : length (first_of l) ≡ length l = ap length (short l fits) in omega (arith, fits, same)
    by false is = let long = leb-false (length l) 2000 is in let same = length-take-le 2000 l (omega (arith, long)) in omega (arith, same)

-- what is behind the first is as if all were there
pub then_more : (l : List ListedElement) (more : ℕ → List ListedElement) → first_of (first_of l ++ more (length (first_of l))) ≡ first_of (l ++ more (length l))
then_more l more = by (nat_le (length l) 2000) refl
  where
    by : (b : Bool) → nat_le (length l) 2000 ≡ b → first_of (first_of l ++ more (length (first_of l))) ≡ first_of (l ++ more (length l))
    by true is = ap (λ (f : List ListedElement). first_of (f ++ more (length f))) (short l (leb-true (length l) 2000 is))
    by false is =
        let long = leb-false (length l) 2000 is in
        let all : length (first_of l) ≡ 2000 = length-take-le 2000 l (omega (arith, long)) in
        full (first_of l) (more (length (first_of l))) (omega (arith, all)) ∙ short (first_of l) (omega (arith, all)) ∙ sym (full l (more (length l)) (omega (arith, long)))

-- ---- levels

pub no_level : (levels : ℕ) (sizes : Sizes) (store : ObjectMap) (entries : List Child) (around : Around) (list : List ListedElement) → levels ≡ 0 → length list ≤ 2000
    → Lists (listed levels sizes store entries around) list list
unfolding listed
no_level levels sizes store entries around list none fits =
    sym (short list fits) ∙ ap first_of (sym (append-nil list)) ∙ ap (λ (n : ℕ). first_of (list ++ listed n sizes store entries around (length list))) (sym none)

pub level : (levels less : ℕ) (sizes : Sizes) (store : ObjectMap) (entries : List Child) (around : Around) (index : ℕ) → levels ≡ suc less
    → listed levels sizes store entries around index ≡ each_listed (listed less sizes store) sizes store entries around index
unfolding listed
level levels less sizes store entries around index is = ap (λ (n : ℕ). listed n sizes store entries around index) is

no_entries : (levels : ℕ) (sizes : Sizes) (store : ObjectMap) (around : Around) (index : ℕ) → listed levels sizes store [] around index ≡ []
unfolding listed
no_entries zero sizes store around index = refl
no_entries (suc levels) sizes store around index = refl

pub nothing_listed : (levels : ℕ) (sizes : Sizes) (store : ObjectMap) (entries : List Child) (around : Around) (list : List ListedElement) → entries ≡ [] → length list ≤ 2000
    → Lists (listed levels sizes store entries around) list list
nothing_listed levels sizes store entries around list none fits =
    sym (short list fits) ∙ ap first_of (sym (append-nil list))
    ∙ ap (λ (l : List ListedElement). first_of (list ++ l)) (sym (ap (λ (es : List Child). listed levels sizes store es around (length list)) none ∙ no_entries levels sizes store around (length list)))

-- ---- one entry after the other

-- the elements of the rest come to all of them
abbrev pub IsListing : Listing → Sizes → ObjectMap → List Child → Around → List Child → List ListedElement → List ListedElement → Type 0
IsListing inside sizes store all around rest old now =
    first_of (now ++ each_listed inside sizes store rest around (length now)) ≡ first_of (old ++ each_listed inside sizes store all around (length old))

module _ (inside : Listing) (sizes : Sizes) (store : ObjectMap) where
  pub next_listed : (entries : List Child) (around : Around) (i : ℕ) (entry default : Child) (old now next : List ListedElement) → i < length entries → get_or entries i default ≡ entry
      → IsListing inside sizes store entries around (drop i entries) old now
      → Lists (listed_for inside sizes store (resolves_to store entry.id) (spot_of around entry)) now next
      → IsListing inside sizes store entries around (drop (i + 1) entries) old next
  next_listed entries around i entry default old now next lt is so_far lists =
      let rest = drop (i + 1) entries in
      let one = listed_for inside sizes store (resolves_to store entry.id) (spot_of around entry) (length now) in
      let later : ℕ → List ListedElement = each_listed inside sizes store rest around in
      ap (λ (l : List ListedElement). first_of (l ++ later (length l))) lists
      ∙ then_more (now ++ one) later
      ∙ ap (λ (n : ℕ). first_of ((now ++ one) ++ later n)) (length-append now one)
      ∙ ap first_of (append_assoc now one (later (length now + length one)))
      ∙ ap (λ (es : List Child). first_of (now ++ each_listed inside sizes store es around (length now))) (sym (at_drop_more (λ (es : List Child). es) entries i default lt ∙ ap (λ (e : Child). e ∷ rest) is))
      ∙ so_far

  pub all_listed : (entries : List Child) (around : Around) (i : ℕ) (old now : List ListedElement) → length entries ≤ i → length now ≤ 2000
      → IsListing inside sizes store entries around (drop i entries) old now → Lists (each_listed inside sizes store entries around) old now
  all_listed entries around i old now past fits so_far =
      sym (short now fits) ∙ ap first_of (sym (append-nil now))
      ∙ ap (λ (es : List Child). first_of (now ++ each_listed inside sizes store es around (length now))) (sym (at_drop_all (λ (es : List Child). es) entries i past))
      ∙ so_far

-- ---- one entry

module _ (inside : Listing) (sizes : Sizes) (store : ObjectMap) where
  pub is_full : (more : ℕ → List ListedElement) (list : List ListedElement) → 2000 ≤ length list → length list ≤ 2000 → Lists more list list
  is_full more list long fits = sym (full list (more (length list)) long ∙ short list fits)

  pub element_listed : (found : Option ℕ) (id : ℕ) (object : Seen) (spot : Around) (list with_it next : List ListedElement) → found ≡ Some id → finite.get store id ≡ Some object
      → is_element (Some object) ≡ true → with_it ≡ list ++ element_at sizes id object spot ∷ []
      → Lists (inside (entries_in store (Some object)) (inside_of (length list) spot (element_at sizes id object spot).bounds)) with_it next
      → Lists (listed_for inside sizes store found spot) list next
  element_listed found id object spot list with_it next resolved there is pushed lists =
      let e = element_at sizes id object spot in
      let within : ℕ → List ListedElement = inside (entries_in store (Some object)) (inside_of (length list) spot e.bounds) in
      let longer : length with_it ≡ suc (length list) = ap length pushed ∙ length-append list (e ∷ []) ∙ (let one : length list + 1 ≡ suc (length list) = omega arith in one) in
      let all : listed_for inside sizes store found spot (length list) ≡ e ∷ within (suc (length list)) =
      ap (λ (f : Option ℕ). listed_for inside sizes store f spot (length list)) resolved
      ∙ ap (λ (o : Option Seen). listed_at inside sizes store id o spot (length list)) there
      ∙ ap (λ (b : Bool). cond b (e ∷ within (suc (length list))) []) is in
      lists
      ∙ ap (λ (n : ℕ). first_of (with_it ++ within n)) longer
      ∙ ap (λ (l : List ListedElement). first_of (l ++ within (suc (length list)))) pushed
      ∙ ap first_of (append_assoc list (e ∷ []) (within (suc (length list))))
      ∙ ap (λ (l : List ListedElement). first_of (list ++ l)) (sym all)

  none_listed : (found : Option ℕ) (spot : Around) (list : List ListedElement) → listed_for inside sizes store found spot (length list) ≡ [] → length list ≤ 2000
      → Lists (listed_for inside sizes store found spot) list list
  none_listed found spot list none fits = sym (short list fits) ∙ ap first_of (sym (append-nil list)) ∙ ap (λ (l : List ListedElement). first_of (list ++ l)) (sym none)

  pub not_found : (found : Option ℕ) (spot : Around) (list : List ListedElement) → found ≡ None → length list ≤ 2000 → Lists (listed_for inside sizes store found spot) list list
  not_found found spot list none fits = none_listed found spot list (ap (λ (f : Option ℕ). listed_for inside sizes store f spot (length list)) none) fits

  pub no_element : (found : Option ℕ) (id : ℕ) (object : Seen) (spot : Around) (list : List ListedElement) → found ≡ Some id → finite.get store id ≡ Some object
      → is_element (Some object) ≡ false → length list ≤ 2000 → Lists (listed_for inside sizes store found spot) list list
  no_element found id object spot list resolved there is fits =
      let e = element_at sizes id object spot in
      none_listed found spot list
      (ap (λ (f : Option ℕ). listed_for inside sizes store f spot (length list)) resolved
      ∙ ap (λ (o : Option Seen). listed_at inside sizes store id o spot (length list)) there
      ∙ ap (λ (b : Bool). cond b (e ∷ inside (entries_in store (Some object)) (inside_of (length list) spot e.bounds) (suc (length list))) []) is) fits
