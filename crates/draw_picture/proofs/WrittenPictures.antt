-- The pictures to which elements refer: each is among those that are written, and once.
use Rattle.std.proofs.Common.{◌≡◌, ℕ, Bool, true, false, cond, List, [], ◌∷◌, ◌++◌, Option, Some, None, refl, sym, ap, subst, ◌∙◌}
use Rattle.std.specs.Prelude.{◌==◌, ◌||◌}
use Rattle.std.proofs.lemmas.Bool.{eq-eqb, eqb-true, false≢true, false_from_ne_true}
use Rattle.std.proofs.lemmas.List.{append_assoc, append-nil}
use Rattle.std.specs.FinMap as finite
use Rattle.vt_kinds.specs.declared.entries.Child.{Child}
use Rattle.vt_stores.specs.Stores.{ObjectMap}
use Rattle.check_needs.specs.declared.sizes.Sizes.{Sizes}
use Rattle.draw_picture.specs.declared.walk.Tag.{Tag}
use Rattle.draw_picture.specs.declared.walk.Tag.TheVariants.{Open, Close}
use Rattle.draw_picture.specs.Documents.{key_marks, key_tags, mask_marks, mask_tags, pictures}
use Rattle.draw_picture.specs.Marks.{Marks, Nothing, Mark, ids}
use Rattle.draw_picture.specs.Pictures.{EachOnce, is_in, picture_of, with_id, with_picture, with_pictures}
use Rattle.draw_picture.specs.Tags.{tags_of}

-- ---- lists of IDs

or_from : (b c d : Bool) → (b || c) ≡ true → (c ≡ true → d ≡ true) → (b || d) ≡ true
or_from true c d is more = refl
or_from false c d is more = more is

or_right : (b c : Bool) → c ≡ true → (b || c) ≡ true
or_right true c is = refl
or_right false c is = is

in_more : (p : ℕ) (list : List ℕ) (q : ℕ) → is_in p list ≡ true → is_in p (list ++ q ∷ []) ≡ true
in_more p [] q is = absurd (false≢true is)
in_more p (x ∷ list) q is = or_from (p == x) (is_in p list) (is_in p (list ++ q ∷ [])) is (in_more p list q)

last_in : (p : ℕ) (list : List ℕ) → is_in p (list ++ p ∷ []) ≡ true
last_in p [] = ap (λ b. b || false) (eq-eqb p p refl)
last_in p (x ∷ list) = or_right (p == x) (is_in p (list ++ p ∷ [])) (last_in p list)

one_of_three : (b c d e : Bool) → (b || e) ≡ true → (e ≡ true → (c || d) ≡ true) → ((b || c) || d) ≡ true
one_of_three true c d e is more = refl
one_of_three false c d e is more = more is

in_parts : (p : ℕ) (first second : List ℕ) → is_in p (first ++ second) ≡ true → (is_in p first || is_in p second) ≡ true
in_parts p [] second is = is
in_parts p (x ∷ first) second is = one_of_three (p == x) (is_in p first) (is_in p second) (is_in p (first ++ second)) is (in_parts p first second)

neither : (a b : Bool) → (a || b) ≡ false → (a ≡ false) × (b ≡ false)
neither true b is = absurd (false≢true (sym is))
neither false b is = (refl, is)

not_in_more : (x q : ℕ) (list : List ℕ) → is_in x list ≡ false → (x == q) ≡ false → is_in x (list ++ q ∷ []) ≡ false
not_in_more x q [] none other = ap (λ b. b || false) other
not_in_more x q (y ∷ list) none other =
    let parts = neither (x == y) (is_in x list) none in
    ap (λ b. b || is_in x (list ++ q ∷ [])) parts.0 ∙ not_in_more x q list parts.1 other

other_way : (q x : ℕ) → (q == x) ≡ false → (x == q) ≡ false
other_way q x other = false_from_ne_true (x == q) (λ same. false≢true (sym other ∙ eq-eqb q x (sym (eqb-true x q same))))

once_more : (q : ℕ) (list : List ℕ) → is_in q list ≡ false → EachOnce list → EachOnce (list ++ q ∷ [])
once_more q [] none each = (refl, tt)
once_more q (x ∷ list) none each =
    let parts = neither (q == x) (is_in q list) none in
    (not_in_more x q list each.0 (other_way q x parts.0), once_more q list parts.1 each.1)

-- ---- one more picture

kept_with : (p : ℕ) (list : List ℕ) (o : Option ℕ) → is_in p list ≡ true → is_in p (with_id list o) ≡ true
kept_with p list None is = is
kept_with p list (Some q) is = by (is_in q list)
  where
    by : (b : Bool) → is_in p (cond b list (list ++ q ∷ [])) ≡ true
    by true = is
    by false = in_more p list q is

is_with : (p : ℕ) (list : List ℕ) → is_in p (with_id list (Some p)) ≡ true
is_with p list = by (is_in p list) refl
  where
    by : (b : Bool) → is_in p list ≡ b → is_in p (cond b list (list ++ p ∷ [])) ≡ true
    by true is = is
    by false is = last_in p list

once_with : (list : List ℕ) (o : Option ℕ) → EachOnce list → EachOnce (with_id list o)
once_with list None each = each
once_with list (Some q) each = by (is_in q list) refl
  where
    by : (b : Bool) → is_in q list ≡ b → EachOnce (cond b list (list ++ q ∷ []))
    by true is = each
    by false is = once_more q list is each

-- ---- the pictures of tags

module _ (store : ObjectMap) where
  kept : (p : ℕ) (tags : List Tag) (list : List ℕ) → is_in p list ≡ true → is_in p (with_pictures store list tags) ≡ true
  kept p [] list is = is
  kept p (Open entry ∷ tags) list is =
      kept p tags (with_picture store list (Open entry)) (kept_with p list (picture_of store entry.id (finite.get store entry.id)) is)
  kept p (Close ∷ tags) list is = kept p tags list is

  once : (tags : List Tag) (list : List ℕ) → EachOnce list → EachOnce (with_pictures store list tags)
  once [] list each = each
  once (Open entry ∷ tags) list each =
      once tags (with_picture store list (Open entry)) (once_with list (picture_of store entry.id (finite.get store entry.id)) each)
  once (Close ∷ tags) list each = once tags list each

  in_turn : (first second : List Tag) (list : List ℕ) → with_pictures store list (first ++ second) ≡ with_pictures store (with_pictures store list first) second
  in_turn [] second list = refl
  in_turn (tag ∷ first) second list = in_turn first second (with_picture store list tag)

  module _ (id p : ℕ) (refers : picture_of store id (finite.get store id) ≡ Some p) where
    abbrev IsFound : Marks → Type 0
    IsFound m = (list : List ℕ) (rest : List Tag) → is_in id (ids m) ≡ true → is_in p (with_pictures store list (tags_of m ++ rest)) ≡ true

    within : (inside later : Marks) → IsFound inside → IsFound later → (list : List ℕ) (rest : List Tag) (b : Bool) → is_in id (ids inside) ≡ b
        → (b || is_in id (ids later)) ≡ true → is_in p (with_pictures store list (tags_of inside ++ Close ∷ (tags_of later ++ rest))) ≡ true
    within inside later first second list rest true at is = first list (Close ∷ (tags_of later ++ rest)) at
    within inside later first second list rest false at is =
        ap (is_in p) (in_turn (tags_of inside) (Close ∷ (tags_of later ++ rest)) list) ∙ second (with_pictures store list (tags_of inside)) rest is

    at_mark : (entry : Child) (inside later : Marks) → IsFound inside → IsFound later → (list : List ℕ) (rest : List Tag) (b : Bool) → (id == entry.id) ≡ b
        → (b || is_in id (ids inside ++ ids later)) ≡ true → is_in p (with_pictures store list (tags_of (Mark entry inside later) ++ rest)) ≡ true
    at_mark entry inside later first second list rest true at is =
        let own : picture_of store entry.id (finite.get store entry.id) ≡ Some p =
        subst (λ (i : ℕ). picture_of store i (finite.get store i) ≡ Some p) (eqb-true id entry.id at) refers in
        kept p ((tags_of inside ++ Close ∷ tags_of later) ++ rest) (with_picture store list (Open entry))
        (subst (λ (o : Option ℕ). is_in p (with_id list o) ≡ true) (sym own) (is_with p list))
    at_mark entry inside later first second list rest false at is =
        let after = with_picture store list (Open entry) in
        ap (λ (tags : List Tag). is_in p (with_pictures store after tags)) (append_assoc (tags_of inside) (Close ∷ tags_of later) rest)
        ∙ within inside later first second after rest (is_in id (ids inside)) refl (in_parts id (ids inside) (ids later) is)

    found : (m : Marks) → IsFound m
    found Nothing list rest is = absurd (false≢true is)
    found (Mark entry inside later) list rest is = at_mark entry inside later (found inside) (found later) list rest (id == entry.id) refl is

pub pictures_once : (sizes : Sizes) (store : ObjectMap) (mask : ℕ) → EachOnce (pictures sizes store mask)
pictures_once sizes store mask = once store (key_tags sizes store mask) (with_pictures store [] (mask_tags store mask)) (once store (mask_tags store mask) [] tt)

pub picture_written : (sizes : Sizes) (store : ObjectMap) (mask id p : ℕ) → is_in id (ids (mask_marks store mask) ++ ids (key_marks sizes store mask)) ≡ true
    → picture_of store id (finite.get store id) ≡ Some p → is_in p (pictures sizes store mask) ≡ true
picture_written sizes store mask id p is refers =
    after_mask (is_in id (ids of_mask)) refl (in_parts id (ids of_mask) (ids of_keys) is)
  where
    of_mask : Marks
    of_mask = mask_marks store mask

    of_keys : Marks
    of_keys = key_marks sizes store mask

    alone : (m : Marks) (list : List ℕ) → is_in id (ids m) ≡ true → is_in p (with_pictures store list (tags_of m)) ≡ true
    alone m list is = ap (λ (tags : List Tag). is_in p (with_pictures store list tags)) (sym (append-nil (tags_of m))) ∙ found store id p refers m list [] is

    after_mask : (b : Bool) → is_in id (ids of_mask) ≡ b → (b || is_in id (ids of_keys)) ≡ true → is_in p (with_pictures store (with_pictures store [] (tags_of of_mask)) (tags_of of_keys)) ≡ true
    after_mask true first is = kept store p (tags_of of_keys) (with_pictures store [] (tags_of of_mask)) (alone of_mask [] first)
    after_mask false first is = alone of_keys (with_pictures store [] (tags_of of_mask)) is
