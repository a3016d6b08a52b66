-- The split of a text at a byte is unique.
use Rattle.std.proofs.Common.{◌≡◌, ◌≢◌, ℕ, Bool, true, eqb, ◌⊎◌, inl, inr, List, [], ◌∷◌, ◌++◌, get_or, refl, sym, ap, ◌∙◌}
use Rattle.std.specs.Prelude.{not}
use Rattle.std.specs.List.{AllPass}
use Rattle.std.proofs.lemmas.Bool.{eq-eqb, eqb-true, false≢true, false_from_ne_true, ne_eqb, not_from_false, not_from_true}
use Rattle.std.proofs.lemmas.List.{append-nil}
use Rattle.std.proofs.lemmas.List.Elements.{All-append, All-cons, All-head, All-nil, All-tail}
use Rattle.vt_can.specs.lines.Line.{IsSuffix}
use Rattle.vt_can.specs.lines.Fields.{Lacks, IsSplitAtByte, IsThirdWord}

pub Lacks-head : (c x : ℕ) (xs : List ℕ) → Lacks c (x ∷ xs) → x ≢ c
Lacks-head c x xs lacks e =
    false≢true (sym (not_from_true (eqb x c) (eq-eqb x c e)) ∙ All-head (λ y. not (eqb y c) ≡ true) x xs lacks)

pub Lacks-tail : (c x : ℕ) (xs : List ℕ) → Lacks c (x ∷ xs) → Lacks c xs
Lacks-tail c x xs lacks = All-tail (λ y. not (eqb y c) ≡ true) x xs lacks

-- a text that passes a test lacks each byte that fails it
pub Lacks-from_pass : (test : ℕ → Bool) (c : ℕ) (xs : List ℕ) → (test c ≡ true → ⊥) → AllPass test xs → Lacks c xs
Lacks-from_pass test c xs fails pass = λ k d lt.
    let x = get_or xs k d in
    not_from_false (eqb x c) (false_from_ne_true (eqb x c) (λ same. fails (ap test (sym (eqb-true x c same)) ∙ pass k d lt)))

-- a text with the byte does not lack it
Lacks-not : (c : ℕ) (front back : List ℕ) → Lacks c (front ++ c ∷ back) → ⊥
Lacks-not c [] back lacks = Lacks-head c c back lacks refl
Lacks-not c (x ∷ front) back lacks = Lacks-not c front back (Lacks-tail c x (front ++ c ∷ back) lacks)

-- two splits of one text are equal
pub one_cut : (c : ℕ) (a b x y : List ℕ) → Lacks c a → Lacks c b → a ++ c ∷ x ≡ b ++ c ∷ y → (a ≡ b) × (x ≡ y)
one_cut c [] [] x y la lb e = (refl, cc)
one_cut c [] (d ∷ b) x y la lb e =
    let same : d ≡ c = cc in
    absurd (Lacks-head c d b lb same)
one_cut c (d ∷ a) [] x y la lb e =
    let same : d ≡ c = cc in
    absurd (Lacks-head c d a la same)
one_cut c (d ∷ a) (f ∷ b) x y la lb e =
    let rest : a ++ c ∷ x ≡ b ++ c ∷ y = cc in
    let ih = one_cut c a b x y (Lacks-tail c d a la) (Lacks-tail c f b lb) rest in
    let heads : d ≡ f = cc in
    let tails = ih.0 in
    (cc, ih.1)

pub cut_missing : (c : ℕ) (text front back : List ℕ) → Lacks c text → text ≡ front ++ c ∷ back → ⊥
cut_missing c text front back lacks e = Lacks-not c front back (rw e at lacks)

pub Lacks-append : (c : ℕ) (a b : List ℕ) → Lacks c a → Lacks c b → Lacks c (a ++ b)
Lacks-append c a b la lb = All-append (λ y. not (eqb y c) ≡ true) a b la lb

pub Lacks-left : (c : ℕ) (a b : List ℕ) → Lacks c (a ++ b) → Lacks c a
Lacks-left c [] b l = All-nil (λ y. not (eqb y c) ≡ true)
Lacks-left c (x ∷ a) b l =
    All-cons (λ y. not (eqb y c) ≡ true) x a (All-head (λ y. not (eqb y c) ≡ true) x (a ++ b) l) (Lacks-left c a b (Lacks-tail c x (a ++ b) l))

pub Lacks-right : (c : ℕ) (a b : List ℕ) → Lacks c (a ++ b) → Lacks c b
Lacks-right c [] b l = l
Lacks-right c (x ∷ a) b l = Lacks-right c a b (Lacks-tail c x (a ++ b) l)

pub Lacks-cons : (c x : ℕ) (a : List ℕ) → (x ≡ c → ⊥) → Lacks c a → Lacks c (x ∷ a)
Lacks-cons c x a other l =
    All-cons (λ y. not (eqb y c) ≡ true) x a (not_from_false (eqb x c) (ne_eqb x c other)) l

-- ---- the third word and the suffix of a frame line

suffix_begins : (x : List ℕ) → IsSuffix x → (x ≡ []) ⊎ ((more : List ℕ) × (x ≡ 32 ∷ more))
suffix_begins x (inl none) = inl none
suffix_begins x (inr (inl r)) = inr (82 ∷ [], r)
suffix_begins x (inr (inr t)) = inr (84 ∷ [], t)

word_one : (a b x y : List ℕ) → Lacks 32 a → Lacks 32 b → (x ≡ []) ⊎ ((more : List ℕ) × (x ≡ 32 ∷ more)) → (y ≡ []) ⊎ ((more : List ℕ) × (y ≡ 32 ∷ more)) → a ++ x ≡ b ++ y → a ≡ b
word_one a b x y la lb (inl ex) (inl ey) e =
    sym (append-nil a) ∙ ap (λ (t : List ℕ). a ++ t) (sym ex) ∙ e ∙ ap (λ (t : List ℕ). b ++ t) ey ∙ append-nil b
word_one a b x y la lb (inl ex) (inr m) e =
    absurd (cut_missing 32 a b m.0 la (sym (append-nil a) ∙ ap (λ (t : List ℕ). a ++ t) (sym ex) ∙ e ∙ ap (λ (t : List ℕ). b ++ t) m.1))
word_one a b x y la lb (inr m) (inl ey) e =
    absurd (cut_missing 32 b a m.0 lb (sym (append-nil b) ∙ ap (λ (t : List ℕ). b ++ t) (sym ey) ∙ sym e ∙ ap (λ (t : List ℕ). a ++ t) m.1))
word_one a b x y la lb (inr m) (inr n) e =
    (one_cut 32 a b m.0 n.0 la lb (ap (λ (t : List ℕ). a ++ t) (sym m.1) ∙ e ∙ ap (λ (t : List ℕ). b ++ t) n.1)).0

pub third_word-one : {text a b : List ℕ} → IsThirdWord text a → IsThirdWord text b → a ≡ b
third_word-one {a = a} {b = b} v w =
    word_one a b v.suffix w.suffix v.no_space w.no_space (suffix_begins v.suffix v.suffix_is) (suffix_begins w.suffix w.suffix_is) (sym v.whole ∙ w.whole)

-- a text has no third word if its first space is not followed by a suffix
pub third_word-none : (text front back : List ℕ) → IsSplitAtByte 32 text front back → (back ≡ 82 ∷ [] → ⊥) → (back ≡ 84 ∷ [] → ⊥) → (word : List ℕ) → IsThirdWord text word → ⊥
third_word-none text front back cut no_r no_t word w =
    elim w.suffix_is [
      | inl none ↦ cut_missing 32 word front back w.no_space (sym (append-nil word) ∙ ap (λ (t : List ℕ). word ++ t) (sym none) ∙ sym w.whole ∙ cut.whole)
      | inr (inl r) ↦ no_r (one_cut 32 front word back (82 ∷ []) cut.front_lacks w.no_space (sym cut.whole ∙ w.whole ∙ ap (λ (t : List ℕ). word ++ t) r)).1
      | inr (inr t) ↦ no_t (one_cut 32 front word back (84 ∷ []) cut.front_lacks w.no_space (sym cut.whole ∙ w.whole ∙ ap (λ (x : List ℕ). word ++ x) t)).1
    ]
