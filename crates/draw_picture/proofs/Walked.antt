-- Marks walked through one after the other.
use Rattle.std.proofs.Common.{◌≡◌, ℕ, zero, suc, ◌+◌, ◌-◌, ◌<◌, ◌≤◌, Bool, true, false, cond, List, [], ◌∷◌, ◌++◌, drop, length, get_or, Option, Some, None, refl, sym, ap, ap₂, ◌∙◌, arith}
use Rattle.std.proofs.lemmas.List.{append_assoc, append-nil, at_drop_more, at_drop_all}
use Rattle.std.specs.FinMap as finite
use Rattle.vt_kinds.specs.declared.entries.Child.{Child}
use Rattle.vt_kinds.specs.Records.{Seen}
use Rattle.vt_stores.specs.Stores.{ObjectMap}
use Rattle.vt_shown.specs.ShownElements.{resolves_to, is_element}
use Rattle.vt_layout.specs.Drawings.{entries_in}
use Rattle.draw_picture.specs.declared.walk.Tag.{Tag}
use Rattle.draw_picture.specs.declared.walk.Tag.TheVariants.{Open, Close}
use Rattle.draw_picture.specs.declared.walk.Walk.{Walk}
use Rattle.draw_picture.specs.Marks.{Marks, Nothing, Mark, marked, each_marked, marks, count, cut}
use Rattle.draw_picture.specs.Tags.{tags_of, Walks}

-- what is left of a walk, and what all of it comes to
pub record IsWalking (rest all : Marks) (old now : Walk) : Type 0 where
  pub tags : now.tags.items ++ tags_of (cut now.left rest) ≡ old.tags.items ++ tags_of (cut old.left all)
  pub left : now.left - count (cut now.left rest) ≡ old.left - count (cut old.left all)

-- ---- cut marks

pub cut_none : (m : Marks) → cut 0 m ≡ Nothing
unfolding cut
cut_none Nothing = refl
cut_none (Mark entry inside later) = refl

pub count_cut : (n : ℕ) (m : Marks) → count (cut n m) ≤ n
unfolding cut
count_cut n Nothing = omega arith
count_cut zero (Mark entry inside later) = omega arith
count_cut (suc n) (Mark entry inside later) =
    let first = count_cut n inside in
    let others = count_cut (n - count (cut n inside)) later in
    omega (arith, first, others)

-- ---- depths

pub no_depth : (depth : ℕ) (store : ObjectMap) (entries : List Child) → depth ≡ 0 → marks depth store entries ≡ Nothing
unfolding marks
no_depth depth store entries none = ap (λ d. marks d store entries) none

pub deeper : (depth less : ℕ) (store : ObjectMap) (entries : List Child) → depth ≡ suc less → marks depth store entries ≡ each_marked store (marks less store) entries
unfolding marks
deeper depth less store entries is = ap (λ d. marks d store entries) is

pub no_entries : (depth : ℕ) (store : ObjectMap) → marks depth store [] ≡ Nothing
unfolding marks
no_entries zero store = refl
no_entries (suc depth) store = refl

module _ (store : ObjectMap) where
  -- ---- marks without tags

  pub walked_nothing : (m : Marks) (c : Walk) → m ≡ Nothing → Walks m c c
  unfolding cut
  walked_nothing m c is = record {
    tags = sym (append-nil c.tags.items) ∙ ap (λ m. c.tags.items ++ tags_of (cut c.left m)) (sym is);
    left = let none : count (cut c.left m) ≡ 0 = ap (λ m. count (cut c.left m)) is in omega arith;
  }

  pub full : (m : Marks) (c : Walk) → c.left ≡ 0 → Walks m c c
  full m c none =
      let nothing : cut c.left m ≡ Nothing = ap (λ n. cut n m) none ∙ cut_none m in record {
        tags = sym (append-nil c.tags.items) ∙ ap (λ m. c.tags.items ++ tags_of m) (sym nothing);
        left = let zero_count : count (cut c.left m) ≡ 0 = ap count nothing in omega arith;
      }

  -- ---- an element around others

  around_case : (n : ℕ) (entry : Child) (inside : Marks) (before element_opening with_inside after : List Tag) (left : ℕ)
      → 0 < n → element_opening ≡ before ++ Open entry ∷ []
      → with_inside ≡ element_opening ++ tags_of (cut (n - 1) inside) → left ≡ (n - 1) - count (cut (n - 1) inside)
      → after ≡ with_inside ++ Close ∷ []
      → (after ≡ before ++ tags_of (cut n (Mark entry inside Nothing))) × (left ≡ n - count (cut n (Mark entry inside Nothing)))
  unfolding cut
  around_case zero entry inside before element_opening with_inside after left some first second third fourth = absurd (let never : 0 < 0 = some in omega (arith, never))
  around_case (suc n) entry inside before element_opening with_inside after left some first second third fourth =
      let less : suc n - 1 ≡ n = omega arith in
      let head : List Tag = Open entry ∷ [] in
      let last : List Tag = Close ∷ [] in
      let body : ℕ → List Tag = λ k. tags_of (cut k inside) in (
        fourth
            ∙ ap (λ l. l ++ last) (second ∙ ap₂ (λ a b. a ++ b) first (ap body less))
            ∙ ap (λ l. l ++ last) (append_assoc before head (body n))
            ∙ append_assoc before (head ++ body n) last,
        third ∙ (let same : count (cut (suc n - 1) inside) ≡ count (cut n inside) = ap (λ k. count (cut k inside)) less in omega (arith, same, less)),
      )

  -- ---- one entry after the other

  -- a mark, and then others
  then_later : (n : ℕ) (entry : Child) (inside later : Marks)
      → (tags_of (cut n (Mark entry inside later))
      ≡ tags_of (cut n (Mark entry inside Nothing)) ++ tags_of (cut (n - count (cut n (Mark entry inside Nothing))) later))
      × (count (cut n (Mark entry inside later))
      ≡ count (cut n (Mark entry inside Nothing)) + count (cut (n - count (cut n (Mark entry inside Nothing))) later))
  unfolding cut
  then_later zero entry inside later = (
    ap tags_of (sym (cut_none later)),
    (let none : count (cut 0 later) ≡ 0 = ap count (cut_none later) in omega (arith, none)),
  )
  then_later (suc n) entry inside later =
      let i = cut n inside in
      let same : suc n - suc (count i + 0) ≡ n - count i = omega arith in
      let rest : ℕ → List Tag = λ k. tags_of (cut k later) in (
        ap (λ k. Open entry ∷ (tags_of i ++ Close ∷ rest k)) (sym same)
            ∙ ap (λ l. Open entry ∷ l) (sym (append_assoc (tags_of i) (Close ∷ []) (rest (suc n - suc (count i + 0))))),
        (let counts : count (cut (n - count i) later) ≡ count (cut (suc n - suc (count i + 0)) later) = ap (λ k. count (cut k later)) (sym same) in omega (arith, counts)),
      )

  -- a part, and then the rest
  record IsFollowed (first rest both : Marks) : Type 0 where
    pub tags_is : (n : ℕ) → tags_of (cut n both) ≡ tags_of (cut n first) ++ tags_of (cut (n - count (cut n first)) rest)
    pub count_is : (n : ℕ) → count (cut n both) ≡ count (cut n first) + count (cut (n - count (cut n first)) rest)

  nothing_first : (rest : Marks) → IsFollowed Nothing rest rest
  unfolding cut
  nothing_first rest = record {
    tags_is = λ n. let same : n - 0 ≡ n = omega arith in ap (λ k. tags_of (cut k rest)) (sym same);
    count_is = λ n.
        let same : n - 0 ≡ n = omega arith in
        let counts : count (cut (n - 0) rest) ≡ count (cut n rest) = ap (λ k. count (cut k rest)) same in
        omega (arith, counts);
  }

  marked_first : (within : List Child → Marks) (entry : Child) (found : Option ℕ) (rest : Marks)
      → IsFollowed (marked store within entry found Nothing) rest (marked store within entry found rest)
  marked_first within entry None rest = nothing_first rest
  marked_first within entry (Some id) rest = at (is_element (finite.get store id))
    where
      mark : Marks → Marks
      mark later = Mark (record { id = id; x = entry.x; y = entry.y }) (within (entries_in store (finite.get store id))) later

      at : (b : Bool) → IsFollowed (cond b (mark Nothing) Nothing) rest (cond b (mark rest) rest)
      at true = record {
        tags_is = λ n. (then_later n (record { id = id; x = entry.x; y = entry.y }) (within (entries_in store (finite.get store id))) rest).0;
        count_is = λ n. (then_later n (record { id = id; x = entry.x; y = entry.y }) (within (entries_in store (finite.get store id))) rest).1;
      }
      at false = nothing_first rest

  pub walk_begins : (rest all : Marks) (c : Walk) → all ≡ rest → IsWalking rest all c c
  walk_begins rest all c same = record {
    tags = ap (λ m. c.tags.items ++ tags_of (cut c.left m)) (sym same);
    left = ap (λ m. c.left - count (cut c.left m)) (sym same);
  }

  pub next_walked : (within : List Child → Marks) (entries : List Child) (i : ℕ) (entry default : Child) (all : Marks) (old now next : Walk) → i < length entries
      → get_or entries i default ≡ entry → IsWalking (each_marked store within (drop i entries)) all old now
      → Walks (marked store within entry (resolves_to store entry.id) Nothing) now next
      → IsWalking (each_marked store within (drop (i + 1) entries)) all old next
  next_walked within entries i entry default all old now next lt is so_far walked =
      let rest = each_marked store within (drop (i + 1) entries) in
      let first = marked store within entry (resolves_to store entry.id) Nothing in
      let both = marked store within entry (resolves_to store entry.id) rest in
      let split : each_marked store within (drop i entries) ≡ both =
      at_drop_more (each_marked store within) entries i default lt ∙ ap (λ (e : Child). each_marked store within (e ∷ drop (i + 1) entries)) is in
      let followed = marked_first within entry (resolves_to store entry.id) rest in
      let left : next.left ≡ now.left - count (cut now.left first) = walked.left in
      record {
        tags =
            ap₂ (λ (a : List Tag) (k : ℕ). a ++ tags_of (cut k rest)) walked.tags left
            ∙ append_assoc now.tags.items (tags_of (cut now.left first)) (tags_of (cut (now.left - count (cut now.left first)) rest))
            ∙ ap (λ l. now.tags.items ++ l) (sym (followed.tags_is now.left))
            ∙ ap (λ m. now.tags.items ++ tags_of (cut now.left m)) (sym split)
            ∙ so_far.tags;
        left =
            ap (λ k. k - count (cut k rest)) left
            ∙ (let counts = followed.count_is now.left in
            let tag : (now.left - count (cut now.left first)) - count (cut (now.left - count (cut now.left first)) rest) ≡ now.left - count (cut now.left both) = omega (arith, counts) in tag)
            ∙ ap (λ m. now.left - count (cut now.left m)) (sym split)
            ∙ so_far.left;
      }

  pub walk_ends : (within : List Child → Marks) (entries : List Child) (i : ℕ) (all : Marks) (old now : Walk) → length entries ≤ i
      → IsWalking (each_marked store within (drop i entries)) all old now → Walks all old now
  unfolding cut
  walk_ends within entries i all old now past so_far =
      let none : each_marked store within (drop i entries) ≡ Nothing = at_drop_all (each_marked store within) entries i past in
      record {
        tags = sym (append-nil now.tags.items) ∙ ap (λ m. now.tags.items ++ tags_of (cut now.left m)) (sym none) ∙ so_far.tags;
        left = (let nothing : count (cut now.left (each_marked store within (drop i entries))) ≡ 0 = ap (λ m. count (cut now.left m)) none in
            let same : now.left ≡ now.left - count (cut now.left (each_marked store within (drop i entries))) = omega (arith, nothing) in same)
            ∙ so_far.left;
      }

  -- ---- the mark of an entry

  pub element_mark : (within : List Child → Marks) (entry : Child) (found : Option ℕ) (id : ℕ) (object : Option Seen) → found ≡ Some id → finite.get store id ≡ object
      → is_element object ≡ true → marked store within entry found Nothing ≡ Mark (record { id = id; x = entry.x; y = entry.y }) (within (entries_in store object)) Nothing
  element_mark within entry found id object resolved there is =
      let mark : Option Seen → Marks = λ o. Mark (record { id = id; x = entry.x; y = entry.y }) (within (entries_in store o)) Nothing in
      ap (λ f. marked store within entry f Nothing) resolved
      ∙ ap (λ o. cond (is_element o) (mark o) Nothing) there
      ∙ ap (λ b. cond b (mark object) Nothing) is

  pub no_element : (within : List Child → Marks) (entry : Child) (found : Option ℕ) (id : ℕ) (object : Option Seen) → found ≡ Some id → finite.get store id ≡ object
      → is_element object ≡ false → marked store within entry found Nothing ≡ Nothing
  no_element within entry found id object resolved there is =
      let mark : Option Seen → Marks = λ o. Mark (record { id = id; x = entry.x; y = entry.y }) (within (entries_in store o)) Nothing in
      ap (λ f. marked store within entry f Nothing) resolved
      ∙ ap (λ o. cond (is_element o) (mark o) Nothing) there
      ∙ ap (λ b. cond b (mark object) Nothing) is

  pub around : (entry : Child) (inside : Marks) (before after : Walk) (element_opening with_inside : List Tag) → (before.left ≡ 0 → ⊥)
      → element_opening ≡ before.tags.items ++ Open entry ∷ []
      → with_inside ≡ element_opening ++ tags_of (cut (before.left - 1) inside) → after.left ≡ (before.left - 1) - count (cut (before.left - 1) inside)
      → after.tags.items ≡ with_inside ++ Close ∷ [] → Walks (Mark entry inside Nothing) before after
  around entry inside before after element_opening with_inside some first second third fourth =
      let both = around_case before.left entry inside before.tags.items element_opening with_inside after.tags.items after.left (omega (arith, some)) first second third fourth in
      record { tags = both.0; left = both.1 }
