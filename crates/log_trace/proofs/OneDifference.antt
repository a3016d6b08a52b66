-- The changes are unique, and there are none exactly if the lines are the same.
use Rattle.std.proofs.Common.{◌≡◌, ◌∙◌, ◌||◌, ◌⊎◌, inl, inr, ℕ, Bool, true, false, List, [], ◌∷◌, ◌++◌, codes, refl, sym, ap, subst, append_assoc, append-nil}
use Rattle.std.specs.List.{list_any}
use Rattle.std.specs.Set.{is_member}
use Rattle.std.specs.Str.{bytes_eq}
use Rattle.std.proofs.lemmas.List.Folds.{list_any-append}
use Rattle.std.proofs.lemmas.Slice.Eq.{bytes_eq-Decides}
use Rattle.std.proofs.Math.Bool.{or-true}
use Rattle.vt_logs.specs.Texts.{newline}
use Rattle.log_trace.specs.Changes.{AreChanges, AreNotAmong, AreScreenChanges, ChangesAreOne, OneReplacedLine, SameLinesHaveNone, come, gone, lines_in, marked, replaced, stays}
use Rattle.log_trace.specs.Lines.{Gains, dotted}

-- ---- the first element that passes

record SameParts {X : Type 0} (xs ys us vs : List X) (x y : X) : Type 0 where
  front : xs ≡ ys
  first : x ≡ y
  rest : us ≡ vs

clash : (b c : Bool) → b ≡ true → (b || c) ≡ false → ⊥
clash true c is isnt = absurd cc
clash false c is isnt = absurd cc

behind : (b c : Bool) → (b || c) ≡ false → c ≡ false
behind true c none = absurd cc
behind false c none = none

-- Two lists are the same: so is the first element that passes a test, and what is before and behind it.
same_parts : {X : Type 0} (p : X → Bool) (xs ys us vs : List X) (x y : X) → list_any p xs ≡ false → list_any p ys ≡ false → p x ≡ true → p y ≡ true
    → xs ++ x ∷ us ≡ ys ++ y ∷ vs → SameParts xs ys us vs x y
same_parts p [] [] us vs x y none other is too same = record { front = refl; first = cc; rest = cc }
same_parts p [] (b ∷ ys) us vs x y none other is too same =
    let first : x ≡ b = cc in
    absurd (clash (p b) (list_any p ys) (sym (ap p first) ∙ is) other)
same_parts p (a ∷ xs) [] us vs x y none other is too same =
    let first : a ≡ y = cc in
    absurd (clash (p a) (list_any p xs) (ap p first ∙ too) none)
same_parts p (a ∷ xs) (b ∷ ys) us vs x y none other is too same =
    let first : a ≡ b = cc in
    let rest : xs ++ x ∷ us ≡ ys ++ y ∷ vs = cc in
    let later = same_parts p xs ys us vs x y (behind (p a) (list_any p xs) none) (behind (p b) (list_any p ys) other) is too rest in
    record { front = ap (λ cs. a ∷ cs) later.front ∙ ap (λ c. c ∷ ys) first; first = later.first; rest = later.rest }

-- ---- lines

bytes_eq_itself : (line : List ℕ) → bytes_eq line line ≡ true
bytes_eq_itself line = (bytes_eq-Decides line line).1 refl

member_of_own : (before after : List (List ℕ)) (line : List ℕ) → is_member bytes_eq (before ++ line ∷ after) line ≡ true
member_of_own before after line =
    list_any-append (bytes_eq line) before (line ∷ after)
    ∙ ap (λ (b : Bool). list_any (bytes_eq line) before || (b || list_any (bytes_eq line) after)) (bytes_eq_itself line)
    ∙ or-true (list_any (bytes_eq line) before)

-- A list with a member has an element that is among others if the member is.
some_among : (others before after : List (List ℕ)) (line : List ℕ) → is_member bytes_eq others line ≡ true → list_any (is_member bytes_eq others) (before ++ line ∷ after) ≡ true
some_among others before after line is =
    list_any-append (is_member bytes_eq others) before (line ∷ after)
    ∙ ap (λ (b : Bool). list_any (is_member bytes_eq others) before || (b || list_any (is_member bytes_eq others) after)) is
    ∙ or-true (list_any (is_member bytes_eq others) before)

-- ---- how the changes are made

record Stays (old new : List (List ℕ)) (text : List ℕ) : Type 0 where
  goes : List (List ℕ)
  comes : List (List ℕ)
  line : List ℕ
  left : List (List ℕ)
  to_come : List (List ℕ)
  more : List ℕ
  old_is : old ≡ goes ++ line ∷ left
  new_is : new ≡ comes ++ line ∷ to_come
  others : AreNotAmong (goes ++ line ∷ left) comes
  first : is_member bytes_eq goes line ≡ false
  later : AreChanges left to_come more
  text_is : text ≡ gone goes ++ come comes ++ more

made : (old new : List (List ℕ)) (text : List ℕ) → AreChanges old new text → (AreNotAmong old new × (text ≡ gone old ++ come new)) ⊎ Stays old new text
made old new text (replaced _ _ others) = inl (others, refl)
made old new text (stays goes comes line left to_come more others first later) =
    inr (record { goes = goes; comes = comes; line = line; left = left; to_come = to_come; more = more; old_is = refl; new_is = refl; others = others; first = first; later = later; text_is = refl })

-- No line of the new screen is in the old one, and one is: that cannot be.
never : {A : Type 0} (old new goes comes left to_come : List (List ℕ)) (line : List ℕ) → AreNotAmong old new → old ≡ goes ++ line ∷ left → new ≡ comes ++ line ∷ to_come → A
never old new goes comes left to_come line others old_is new_is =
    let in_old : is_member bytes_eq old line ≡ true = ap (λ (ls : List (List ℕ)). is_member bytes_eq ls line) old_is ∙ member_of_own goes left line in
    let some : list_any (is_member bytes_eq old) new ≡ true = ap (list_any (is_member bytes_eq old)) new_is ∙ some_among old comes to_come line in_old in
    absurd cc

-- ---- the laws

pub changes-one : ChangesAreOne
changes-one old new a b (replaced _ _ others) second = elim (made old new b second) [
  | inl is ↦ sym is.1
  | inr s ↦ never old new s.goes s.comes s.left s.to_come s.line others s.old_is s.new_is
]
changes-one old new a b (stays goes comes line left to_come more others first later) second = elim (made old new b second) [
  | inl is ↦ never old new goes comes left to_come line is.0 refl refl
  | inr s ↦
      let among : List ℕ → Bool = is_member bytes_eq (goes ++ line ∷ left) in
      let other_old : goes ++ line ∷ left ≡ s.goes ++ s.line ∷ s.left = s.old_is in
      let news = same_parts among comes s.comes to_come s.to_come line s.line others
      (subst (λ (ls : List (List ℕ)). AreNotAmong ls s.comes) (sym other_old) s.others)
      (member_of_own goes left line) (ap (λ (ls : List (List ℕ)). is_member bytes_eq ls s.line) other_old ∙ member_of_own s.goes s.left s.line) s.new_is in
      let olds = same_parts (bytes_eq line) goes s.goes left s.left line s.line first
      (ap (λ (l : List ℕ). is_member bytes_eq s.goes l) news.first ∙ s.first) (bytes_eq_itself line) (ap (bytes_eq line) (sym news.first) ∙ bytes_eq_itself line) other_old in
      let rest : more ≡ s.more = changes-one left to_come more s.more later
      (subst (λ (ls : List (List ℕ)). AreChanges left ls s.more) (sym news.rest) (subst (λ (ls : List (List ℕ)). AreChanges ls s.to_come s.more) (sym olds.rest) s.later)) in
      ap (λ (ls : List (List ℕ)). gone ls ++ come comes ++ more) olds.front
      ∙ ap (λ (ls : List (List ℕ)). gone s.goes ++ come ls ++ more) news.front
      ∙ ap (λ (t : List ℕ). gone s.goes ++ come s.comes ++ t) rest ∙ sym s.text_is
]

-- the changes from a screen to itself
pub own_changes : (lines : List (List ℕ)) → AreChanges lines lines []
own_changes [] = replaced [] [] refl
own_changes (line ∷ lines) = stays [] [] line lines lines [] refl refl (own_changes lines)

-- A text gains nothing if a screen stays.
pub gains_no_change : (text screen : List ℕ) → Gains (AreScreenChanges screen screen) text text
gains_no_change text screen = record { part = []; part_is = own_changes (lines_in screen); whole = sym (append-nil text) }

-- Marked lines are a text with at least one byte.
marked_none : (a b c d : ℕ) (lines : List (List ℕ)) (rest : List ℕ) → marked (a ∷ b ∷ c ∷ d ∷ []) lines ++ rest ≡ [] → (lines ≡ []) × (rest ≡ [])
marked_none a b c d [] rest is = (refl, is)
marked_none a b c d (line ∷ lines) rest is = absurd cc

none-same : (old new : List (List ℕ)) (text : List ℕ) → AreChanges old new text → text ≡ [] → old ≡ new
none-same old new text (replaced _ _ others) is =
    let olds = marked_none 32 32 45 32 old (come new) is in
    let news = marked_none 32 32 43 32 new [] (append-nil (come new) ∙ olds.1) in
    olds.0 ∙ sym news.0
none-same old new text (stays goes comes line left to_come more others first later) is =
    let olds = marked_none 32 32 45 32 goes (come comes ++ more) (sym (append_assoc (gone goes) (come comes) more) ∙ is) in
    let news = marked_none 32 32 43 32 comes more olds.1 in
    ap (λ (ls : List (List ℕ)). ls ++ line ∷ left) (olds.0 ∙ sym news.0) ∙ ap (λ (ls : List (List ℕ)). comes ++ line ∷ ls) (none-same left to_come more later news.1)

pub same-none : SameLinesHaveNone
same-none old new text changes = (
  none-same old new text changes,
  λ same. changes-one old new text [] changes (subst (λ (ls : List (List ℕ)). AreChanges old ls []) same (own_changes old)),
)

-- ---- one replaced line

not_there : (behind : List (List ℕ)) (line old : List ℕ) (b : Bool) → bytes_eq line old ≡ b → is_member bytes_eq (line ∷ behind) old ≡ false → is_member bytes_eq (old ∷ []) line ≡ false
not_there behind line old true is absent =
    let same : line ≡ old = (bytes_eq-Decides line old).0 is in
    let there : bytes_eq old line ≡ true = (bytes_eq-Decides old line).1 (sym same) in
    absurd (clash (bytes_eq old line) (is_member bytes_eq behind old) there absent)
not_there behind line old false is absent = rw is refl

replaced_first : (behind : List (List ℕ)) (old new : List ℕ) → is_member bytes_eq behind old ≡ false → is_member bytes_eq (old ∷ behind) new ≡ false
    → AreChanges (old ∷ behind) (new ∷ behind) (gone (old ∷ []) ++ come (new ∷ []))
replaced_first [] old new absent fresh = replaced (old ∷ []) (new ∷ []) (none_of fresh)
  where
    none_of : is_member bytes_eq (old ∷ []) new ≡ false → AreNotAmong (old ∷ []) (new ∷ [])
    none_of is = ap (λ (b : Bool). b || false) is
replaced_first (line ∷ behind) old new absent fresh =
    subst (AreChanges (old ∷ line ∷ behind) (new ∷ line ∷ behind)) (append-nil (gone (old ∷ []) ++ come (new ∷ [])))
    (stays (old ∷ []) (new ∷ []) line behind behind [] (ap (λ (b : Bool). b || false) fresh) (not_there behind line old (bytes_eq line old) refl absent) (own_changes behind))

replaced_behind : (before behind : List (List ℕ)) (old new : List ℕ) → is_member bytes_eq behind old ≡ false → is_member bytes_eq (old ∷ behind) new ≡ false
    → AreChanges (before ++ old ∷ behind) (before ++ new ∷ behind) (gone (old ∷ []) ++ come (new ∷ []))
replaced_behind [] behind old new absent fresh = replaced_first behind old new absent fresh
replaced_behind (line ∷ before) behind old new absent fresh =
    stays [] [] line (before ++ old ∷ behind) (before ++ new ∷ behind) (gone (old ∷ []) ++ come (new ∷ [])) refl refl (replaced_behind before behind old new absent fresh)

pub replaced-line : OneReplacedLine
replaced-line before behind old new absent fresh =
    let text : gone (old ∷ []) ++ come (new ∷ []) ≡ codes "  - " ++ dotted old ++ newline ++ (codes "  + " ++ dotted new ++ newline) =
    ap (λ (t : List ℕ). t ++ come (new ∷ [])) (append-nil (codes "  - " ++ dotted old ++ newline))
    ∙ ap (λ (t : List ℕ). codes "  - " ++ dotted old ++ newline ++ t) (append-nil (codes "  + " ++ dotted new ++ newline)) in
    subst (AreChanges (before ++ old ∷ behind) (before ++ new ∷ behind)) text (replaced_behind before behind old new absent fresh)
