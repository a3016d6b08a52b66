-- The text that several writes append, one after the other.
use Rattle.std.proofs.Common.{◌≡◌, ℕ, ◌+◌, ◌<◌, List, [], ◌∷◌, ◌++◌, length, get_or, take, drop, Option, Result, sym, ap, subst, ◌∙◌, append_assoc, take-append-drop}
use Rattle.std.specs.Prelude.{OnOk}
use Rattle.std.specs.List.{flat_map}
use Rattle.std.proofs.lemmas.Grind.{flat_map-append}
use Rattle.std.proofs.lemmas.List.{drop_more}
use Rattle.std.proofs.lemmas.Result.{on_ok_weaker}
use Rattle.std.specs.Io.KnownBytes.{Appends}
use Rattle.std.proofs.KnownBytes.{Appends-trans}
use Rattle.vt_logs.specs.EarlyEnds.{Begins}
use Rattle.vt_logs.proofs.EarlyEndInLines.{begins_later, begins_more}

pub then_last : {T E : Type 0} (r : Result T E) (a b c : Option (List ℕ)) (front last : List ℕ) → Appends a b front → OnOk r (Appends b c last) → OnOk r (Appends a c (front ++ last))
then_last r a b c front last p q = on_ok_weaker r (Appends-trans a b c front last p) q

-- ---- where each of several writes succeeds

pub appends_three : (a b c d : Option (List ℕ)) (s t u : List ℕ) → Appends a b s → Appends b c t → Appends c d u → Appends a d (s ++ t ++ u)
appends_three a b c d s t u p1 p2 p3 = Appends-trans a c d (s ++ t) u (Appends-trans a b c s t p1 p2) p3

pub appends_four : (a b c d e : Option (List ℕ)) (s t u v : List ℕ) → Appends a b s → Appends b c t → Appends c d u → Appends d e v → Appends a e (s ++ t ++ u ++ v)
appends_four a b c d e s t u v p1 p2 p3 p4 = Appends-trans a d e (s ++ t ++ u) v (appends_three a b c d s t u p1 p2 p3) p4

pub appends_five : (a b c d e f : Option (List ℕ)) (s t u v w : List ℕ) → Appends a b s → Appends b c t → Appends c d u → Appends d e v → Appends e f w → Appends a f (s ++ t ++ u ++ v ++ w)
appends_five a b c d e f s t u v w p1 p2 p3 p4 p5 = Appends-trans a e f (s ++ t ++ u ++ v) w (appends_four a b c d e s t u v p1 p2 p3 p4) p5

pub appends_six : (a b c d e f g : Option (List ℕ)) (s t u v w x : List ℕ) → Appends a b s → Appends b c t → Appends c d u → Appends d e v → Appends e f w → Appends f g x → Appends a g (s ++ t ++ u ++ v ++ w ++ x)
appends_six a b c d e f g s t u v w x p1 p2 p3 p4 p5 p6 = Appends-trans a f g (s ++ t ++ u ++ v ++ w) x (appends_five a b c d e f s t u v w p1 p2 p3 p4 p5) p6

-- Six writes and a last one append their texts in order.
pub seven_writes : {T E : Type 0} (r : Result T E) (a b c d e f g h : Option (List ℕ)) (s t u v w x y : List ℕ)
    → Appends a b s → Appends b c t → Appends c d u → Appends d e v → Appends e f w → Appends f g x → OnOk r (Appends g h y)
    → OnOk r (Appends a h (s ++ t ++ u ++ v ++ w ++ x ++ y))
seven_writes r a b c d e f g h s t u v w x y p1 p2 p3 p4 p5 p6 p7 =
    then_last r a g h (s ++ t ++ u ++ v ++ w ++ x) y (appends_six a b c d e f g s t u v w x p1 p2 p3 p4 p5 p6) p7

-- ---- where one of several writes fails

-- A text, followed by the parts after it.
abbrev pub followed_by : List ℕ → List (List ℕ) → List ℕ
followed_by text [] = text
followed_by text (part ∷ parts) = followed_by (text ++ part) parts

-- The first part of a text is written in part.
pub begun_first : (a b : Option (List ℕ)) (text : List ℕ) (parts : List (List ℕ)) → Begins a b text → Begins a b (followed_by text parts)
begun_first a b text [] p = p
begun_first a b text (part ∷ parts) p = begun_first a b (text ++ part) parts (begins_more a b text part p)

-- The first parts of a text are written, and the next one in part.
pub begun_after : (a b c : Option (List ℕ)) (done text : List ℕ) (parts : List (List ℕ)) → Appends a b done → Begins b c text → Begins a c (followed_by (done ++ text) parts)
begun_after a b c done text parts p q = begun_first a c (done ++ text) parts (begins_later a b c done text p q)

-- The texts of the first items are written, and that of the next one in part.
pub begun_item : {X : Type 0} (f : X → List ℕ) (xs : List X) (i : ℕ) (x : X) (a b c : Option (List ℕ)) → i < length xs → x ≡ get_or xs i x → Appends a b (flat_map f (take i xs))
    → Begins b c (f x) → Begins a c (flat_map f xs)
begun_item f xs i x a b c lt is done item =
    let done_text = flat_map f (take i xs) in
    let later = drop (i + 1) xs in
    let left : drop i xs ≡ x ∷ later = drop_more xs i x lt ∙ ap (λ y. y ∷ later) (sym is) in
    let cut : flat_map f xs ≡ done_text ++ f x ++ flat_map f later =
    ap (flat_map f) (sym (take-append-drop i xs)) ∙ flat_map-append f (take i xs) (drop i xs) ∙ ap (λ ys. done_text ++ flat_map f ys) left
    ∙ sym (append_assoc done_text (f x) (flat_map f later)) in
    subst (Begins a c) (sym cut) (begun_after a b c done_text (f x) (flat_map f later ∷ []) done item)
