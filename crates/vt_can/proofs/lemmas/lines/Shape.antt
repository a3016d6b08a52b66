-- The time of a line and the shape of the rest are unique.
use Rattle.std.proofs.Common.{◌≡◌, ℕ, ◌+◌, ◌*◌, ◌^◌, ◌≤◌, ◌⊎◌, inl, inr, List, ◌∷◌, ◌++◌, length, take, refl, sym, ap, ◌∙◌, append_assoc}
use Rattle.std.specs.Prelude.{codes}
use Rattle.std.specs.Char.{is_ascii_digit}
use Rattle.std.specs.List.{AllPass}
use Rattle.std.specs.Str.Parse.{digits_value}
use Rattle.vt_can.specs.lines.Line.{AreDigits, HasShape, HasTime, IsFraction}
use Rattle.vt_can.specs.lines.Fields.{IsSplitAtByte, IsThirdWord, Lacks}
use Rattle.vt_can.proofs.lemmas.lines.UniqueSplit.{Lacks-append, Lacks-cons, Lacks-from_pass, Lacks-left, Lacks-right, Lacks-tail, cut_missing, one_cut, third_word-one}

-- ---- the time

-- the splits of a line around its time
pub record TimeCut (content seconds fraction rest : List ℕ) : Type 0 where
  pub is : content ≡ 40 ∷ (seconds ++ 46 ∷ (fraction ++ 41 ∷ rest))
  pub seconds_lack : Lacks 46 seconds
  pub fraction_lacks : Lacks 41 fraction

time_spelled : (seconds fraction rest : List ℕ) → codes "(" ++ seconds ++ codes "." ++ fraction ++ codes ")" ++ rest ≡ 40 ∷ (seconds ++ 46 ∷ (fraction ++ 41 ∷ rest))
time_spelled seconds fraction rest = simp append_assoc

fraction_digits : (text : List ℕ) → IsFraction text → AllPass is_ascii_digit text
fraction_digits text (inl six) = six.digits
fraction_digits text (inr nine) = nine.digits

pub time-cut : {content : List ℕ} {time : ℕ} {rest : List ℕ} → (h : HasTime content time rest) → TimeCut content h.seconds h.fraction rest
time-cut {rest = rest} h = record {
  is = h.whole ∙ time_spelled h.seconds h.fraction rest;
  seconds_lack = Lacks-from_pass is_ascii_digit 46 h.seconds (λ e. cc e) h.seconds_digits.digits;
  fraction_lacks = Lacks-from_pass is_ascii_digit 41 h.fraction (λ e. cc e) (fraction_digits h.fraction h.fraction_digits);
}

tail_same : (x : ℕ) (a b : List ℕ) → x ∷ a ≡ x ∷ b → a ≡ b
tail_same x a b e = cc e

pub time_cut-one : {content s f r s' f' r' : List ℕ} → TimeCut content s f r → TimeCut content s' f' r' → (s ≡ s') × (f ≡ f') × (r ≡ r')
time_cut-one {s = s} {f = f} {r = r} {s' = s'} {f' = f'} {r' = r'} a b =
    let e = tail_same 40 (s ++ 46 ∷ (f ++ 41 ∷ r)) (s' ++ 46 ∷ (f' ++ 41 ∷ r')) (sym a.is ∙ b.is) in
    let p = one_cut 46 s s' (f ++ 41 ∷ r) (f' ++ 41 ∷ r') a.seconds_lack b.seconds_lack e in
    let q = one_cut 41 f f' r r' a.fraction_lacks b.fraction_lacks p.1 in
    (p.0, q.0, q.1)

pub time-one : {content : List ℕ} {t u : ℕ} {r s : List ℕ} → HasTime content t r → HasTime content u s → (t ≡ u) × (r ≡ s)
time-one a b =
    let same = time_cut-one (time-cut a) (time-cut b) in
    let seconds = same.0 in
    let fraction = same.1 in
    (a.time_is ∙ ap (λ (x : List ℕ). digits_value 10 x * 10 ^ 6 + digits_value 10 (take 6 a.fraction)) seconds ∙ ap (λ (x : List ℕ). digits_value 10 b.seconds * 10 ^ 6 + digits_value 10 (take 6 x)) fraction ∙ sym b.time_is, same.2)

-- the splits made by `time_of`
pub time_cut-made : {content a s b f r : List ℕ} → content ≡ 40 ∷ a → IsSplitAtByte 46 a s b → IsSplitAtByte 41 b f r → TimeCut content s f r
time_cut-made {s = s} opens first second = record {
  is = opens ∙ ap (λ (x : List ℕ). 40 ∷ x) (first.whole ∙ ap (λ (x : List ℕ). s ++ 46 ∷ x) second.whole);
  seconds_lack = first.front_lacks;
  fraction_lacks = second.front_lacks;
}

pub no_point : (content a : List ℕ) → content ≡ 40 ∷ a → Lacks 46 a → (time : ℕ) (rest : List ℕ) → HasTime content time rest → ⊥
no_point content a opens lacks time rest h =
    let t = time-cut h in
    cut_missing 46 a h.seconds (h.fraction ++ 41 ∷ rest) lacks (tail_same 40 a (h.seconds ++ 46 ∷ (h.fraction ++ 41 ∷ rest)) (sym opens ∙ t.is))

pub no_close : (content a s b : List ℕ) → content ≡ 40 ∷ a → IsSplitAtByte 46 a s b → Lacks 41 b → (time : ℕ) (rest : List ℕ) → HasTime content time rest → ⊥
no_close content a s b opens cut lacks time rest h =
    let t = time-cut h in
    let e = tail_same 40 a (h.seconds ++ 46 ∷ (h.fraction ++ 41 ∷ rest)) (sym opens ∙ t.is) in
    let p = one_cut 46 s h.seconds b (h.fraction ++ 41 ∷ rest) cut.front_lacks t.seconds_lack (sym cut.whole ∙ e) in
    cut_missing 41 b h.fraction rest lacks p.1

-- ---- the shape

-- the splits of a line after its time
pub record ShapeCut (rest interface id text : List ℕ) : Type 0 where
  pub last : List ℕ
  pub is : rest ≡ 32 ∷ (interface ++ 32 ∷ last)
  pub interface_lacks : Lacks 32 interface
  pub word : IsThirdWord last (id ++ 35 ∷ text)
  pub id_lacks : Lacks 35 id

pub shape_spelled : (i id text suffix : List ℕ) → codes " " ++ i ++ codes " " ++ id ++ codes "#" ++ text ++ suffix ≡ 32 ∷ (i ++ 32 ∷ ((id ++ 35 ∷ text) ++ suffix))
shape_spelled i id text suffix = simp append_assoc

pub shape-cut : {rest id text : List ℕ} → (h : HasShape rest id text) → ShapeCut rest h.interface id text
shape-cut {id = id} {text = text} h = record {
  last = (id ++ 35 ∷ text) ++ h.suffix;
  is = h.whole ∙ shape_spelled h.interface id text h.suffix;
  interface_lacks = h.interface_no_space;
  word = record {
    suffix = h.suffix;
    no_space = Lacks-append 32 id (35 ∷ text) h.id_no_space (Lacks-cons 32 35 text (λ e. cc e) h.text_no_space);
    whole = refl;
    suffix_is = h.suffix_is;
  };
  id_lacks = h.id_no_sign;
}

pub shape_cut-one : {rest i a t j b u : List ℕ} → ShapeCut rest i a t → ShapeCut rest j b u → (i ≡ j) × (a ≡ b) × (t ≡ u)
shape_cut-one {i = i} {a = a} {t = t} {j = j} {b = b} {u = u} p q =
    let e = tail_same 32 (i ++ 32 ∷ p.last) (j ++ 32 ∷ q.last) (sym p.is ∙ q.is) in
    let first = one_cut 32 i j p.last q.last p.interface_lacks q.interface_lacks e in
    let second = third_word-one (rw first.1 at p.word) q.word in
    let third = one_cut 35 a b t u p.id_lacks q.id_lacks second in
    (first.0, third.0, third.1)

pub shape-one : {rest a t b u : List ℕ} → HasShape rest a t → HasShape rest b u → (a ≡ b) × (t ≡ u)
shape-one p q =
    let same = shape_cut-one (shape-cut p) (shape-cut q) in
    (same.1, same.2)

-- the splits made by `shape_of`
pub shape_cut-made : {rest a i last word id text : List ℕ} → rest ≡ 32 ∷ a → IsSplitAtByte 32 a i last → IsThirdWord last word → IsSplitAtByte 35 word id text → ShapeCut rest i id text
shape_cut-made {last = last} opens first third second = record {
  last = last;
  is = opens ∙ ap (λ (x : List ℕ). 32 ∷ x) first.whole;
  interface_lacks = first.front_lacks;
  word = rw second.whole at third;
  id_lacks = second.front_lacks;
}

pub no_interface : (rest a : List ℕ) → rest ≡ 32 ∷ a → Lacks 32 a → (id text : List ℕ) → HasShape rest id text → ⊥
no_interface rest a opens lacks id text h =
    let s = shape-cut h in
    cut_missing 32 a h.interface s.last lacks (tail_same 32 a (h.interface ++ 32 ∷ s.last) (sym opens ∙ s.is))

last_one : (rest a i last : List ℕ) → rest ≡ 32 ∷ a → IsSplitAtByte 32 a i last → (id text : List ℕ) → (h : HasShape rest id text) → last ≡ (shape-cut h).last
unfolding shape-cut
last_one rest a i last opens cut id text h =
    let s = shape-cut h in
    (one_cut 32 i h.interface last s.last cut.front_lacks s.interface_lacks (sym cut.whole ∙ tail_same 32 a (h.interface ++ 32 ∷ s.last) (sym opens ∙ s.is))).1

pub no_word : (rest a i last : List ℕ) → rest ≡ 32 ∷ a → IsSplitAtByte 32 a i last → ((word : List ℕ) → IsThirdWord last word → ⊥) → (id text : List ℕ) → HasShape rest id text → ⊥
no_word rest a i last opens cut none id text h =
    let e = last_one rest a i last opens cut id text h in
    none (id ++ 35 ∷ text) (rw (sym e) at (shape-cut h).word)

pub no_sign : (rest a i last word : List ℕ) → rest ≡ 32 ∷ a → IsSplitAtByte 32 a i last → IsThirdWord last word → Lacks 35 word → (id text : List ℕ) → HasShape rest id text → ⊥
no_sign rest a i last word opens cut third lacks id text h =
    let e = last_one rest a i last opens cut id text h in
    cut_missing 35 word id text lacks (third_word-one third (rw (sym e) at (shape-cut h).word))

pub shape-made : {rest i id text : List ℕ} → ShapeCut rest i id text → 1 ≤ length i → length i ≤ 15 → (length id ≡ 3) ⊎ (length id ≡ 8) → HasShape rest id text
shape-made {i = i} {id = id} {text = text} cut some short len = record {
  interface = i;
  suffix = cut.word.suffix;
  whole = cut.is ∙ ap (λ (x : List ℕ). 32 ∷ (i ++ 32 ∷ x)) cut.word.whole ∙ sym (shape_spelled i id text cut.word.suffix);
  interface_no_space = cut.interface_lacks;
  interface_some = some;
  interface_short = short;
  id_no_space = Lacks-left 32 id (35 ∷ text) cut.word.no_space;
  id_no_sign = cut.id_lacks;
  id_length = len;
  text_no_space = Lacks-tail 32 35 text (Lacks-right 32 id (35 ∷ text) cut.word.no_space);
  suffix_is = cut.word.suffix_is;
}

pub time-made : {content s f r : List ℕ} {time : ℕ} → TimeCut content s f r → AreDigits 1 12 s → IsFraction f → time ≡ digits_value 10 s * 10 ^ 6 + digits_value 10 (take 6 f) → HasTime content time r
time-made {s = s} {f = f} {r = r} cut seconds fraction is = record {
  seconds = s;
  fraction = f;
  whole = cut.is ∙ sym (time_spelled s f r);
  seconds_digits = seconds;
  fraction_digits = fraction;
  time_is = is;
}
