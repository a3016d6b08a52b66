-- The action of an operator line is unique.
use Rattle.std.proofs.Common.{◌≡◌, ℕ, ◌+◌, ◌*◌, List, [], ◌∷◌, ◌++◌, get_or, Ok, sym, ap, ◌∙◌, arith, append_assoc}
use Rattle.std.specs.Prelude.{codes}
use Rattle.std.specs.Char.{is_ascii_digit}
use Rattle.std.proofs.lemmas.List.{append_cancel_left}
use Rattle.hex.specs.Hex.{decode_of}
use Rattle.hex.proofs.HexLemmas.{decode_of-same}
use Rattle.vt_can.specs.lines.Actions.{ActionValue, Press, Release, Select, Number, Text, Set, HasId, HasIdAnd, IsActionText, IsNumber}
use Rattle.vt_can.specs.lines.Fields.{IsSplitAtByte, IsIdAnd, Lacks}
use Rattle.vt_can.proofs.lemmas.lines.UniqueSplit.{Lacks-from_pass, cut_missing, one_cut}

-- the first and the third byte of a text, which differ from word to word
abbrev text_mark : List ℕ → ℕ
text_mark rest = get_or rest 0 0 * 256 + get_or rest 2 0

abbrev action_mark : ActionValue → ℕ
action_mark (Press id) = 28773
action_mark (Release id) = 29292
action_mark (Select id) = 29548
action_mark (Number id n) = 28269
action_mark (Text id text) = 29816
action_mark (Set address) = 29556

action_mark-is : (rest : List ℕ) (d : ActionValue) → IsActionText rest d → text_mark rest ≡ action_mark d
action_mark-is rest (Press id) h = ap text_mark h.whole
action_mark-is rest (Release id) h = ap text_mark h.whole
action_mark-is rest (Select id) h = ap text_mark h.whole
action_mark-is rest (Number id n) h = ap text_mark h.1.whole
action_mark-is rest (Text id text) h = ap text_mark h.whole
action_mark-is rest (Set address) h = ap text_mark h.1

-- ---- numbers and IDs are unique

number-one : {text : List ℕ} {m n a b : ℕ} → IsNumber text m a → IsNumber text n b → m ≡ n
number-one p q = p.value ∙ sym q.value

number_lacks_space : {text : List ℕ} {n most : ℕ} → IsNumber text n most → Lacks 32 text
number_lacks_space {text = text} p = Lacks-from_pass is_ascii_digit 32 text (λ e. cc e) p.digits

id-digits : (word rest x : List ℕ) (id : ℕ) → rest ≡ word ++ x → HasId word rest id → IsNumber x id 65534
id-digits word rest x id e h =
    let same = append_cancel_left word h.digits x (sym h.whole ∙ e) in
    rw same at h.id_is

id-one : {word rest : List ℕ} {i j : ℕ} → HasId word rest i → HasId word rest j → i ≡ j
id-one {word = word} {rest = rest} {i = i} p q = number-one (id-digits word rest q.digits i q.whole p) q.id_is

id_and_spelled : (word digits more : List ℕ) → word ++ digits ++ codes " " ++ more ≡ word ++ (digits ++ 32 ∷ more)
id_and_spelled word digits more = simp append_assoc

-- the text after the word, split at the space
id_and-cut : (word rest x more : List ℕ) (id : ℕ) → rest ≡ word ++ x → (h : HasIdAnd word rest id more) → IsSplitAtByte 32 x h.digits more
id_and-cut word rest x more id e h = record {
  front_lacks = number_lacks_space h.id_is;
  whole = append_cancel_left word x (h.digits ++ 32 ∷ more) (sym e ∙ h.whole ∙ id_and_spelled word h.digits more);
}

cut-one : {c : ℕ} {text a x b y : List ℕ} → IsSplitAtByte c text a x → IsSplitAtByte c text b y → (a ≡ b) × (x ≡ y)
cut-one {c = c} {a = a} {x = x} {b = b} {y = y} p q = one_cut c a b x y p.front_lacks q.front_lacks (sym p.whole ∙ q.whole)

id_and-one : {word rest : List ℕ} {i j : ℕ} {x y : List ℕ} → HasIdAnd word rest i x → HasIdAnd word rest j y → (i ≡ j) × (x ≡ y)
id_and-one {word = word} {rest = rest} {i = i} {x = x} {y = y} p q =
    let behind = q.digits ++ 32 ∷ y in
    let e = q.whole ∙ id_and_spelled word q.digits y in
    let same = cut-one (id_and-cut word rest behind x i e p) (id_and-cut word rest behind y _ e q) in
    let digits = same.0 in
    (number-one (rw digits at p.id_is) q.id_is, same.1)

set-one : (rest : List ℕ) (a b : ℕ) → IsActionText rest (Set a) → IsActionText rest (Set b) → a ≡ b
set-one rest a b p q =
    let same = append_cancel_left (codes "set ") p.0 q.0 (sym p.1 ∙ q.1) in
    ap (λ (xs : List ℕ). get_or xs 0 0) (decode_of-same q.0 (a ∷ []) (b ∷ []) (sym (ap decode_of same) ∙ p.2) q.2)

pub action-one : (rest : List ℕ) (d e : ActionValue) → IsActionText rest d → IsActionText rest e → d ≡ e
action-one rest (Press i) (Press j) p q = ap Press (id-one p q)
action-one rest (Release i) (Release j) p q = ap Release (id-one p q)
action-one rest (Select i) (Select j) p q = ap Select (id-one p q)
action-one rest (Number i m) (Number j n) p q =
    let same = id_and-one p.1 q.1 in
    let digits = same.1 in
    let numbers = number-one (rw digits at p.2) q.2 in
    ap (λ (x : ℕ). Number x m) same.0 ∙ ap (λ (x : ℕ). Number j x) numbers
action-one rest (Text i t) (Text j u) p q =
    let same = id_and-one p q in
    ap (λ (x : ℕ). Text x t) same.0 ∙ ap (λ (x : List ℕ). Text j x) same.1
action-one rest (Set a) (Set b) p q = ap Set (set-one rest a b p q)
action-one rest d e p q = let a = action_mark-is rest d p in let b = action_mark-is rest e q in absurd (omega arith)

-- ---- lines without an action

id_and-from : (word rest x more : List ℕ) (id : ℕ) → rest ≡ word ++ x → HasIdAnd word rest id more → IsIdAnd x id more
id_and-from word rest x more id e h = record { digits = h.digits; cut = id_and-cut word rest x more id e h; id_is = h.id_is }

pub no_number : (rest x : List ℕ) → rest ≡ codes "number " ++ x → ((id n : ℕ) (more : List ℕ) → IsIdAnd x id more → IsNumber more n 4294967295 → ⊥) → (d : ActionValue) → IsActionText rest d → ⊥
no_number rest x e none (Number id n) h = none id n h.0 (id_and-from (codes "number ") rest x h.0 id e h.1) h.2
no_number rest x e none d h = let a = action_mark-is rest d h in let b = ap text_mark e in omega arith

pub no_text : (rest x : List ℕ) → rest ≡ codes "text " ++ x → ((id : ℕ) (more : List ℕ) → IsIdAnd x id more → ⊥) → (d : ActionValue) → IsActionText rest d → ⊥
no_text rest x e none (Text id text) h = none id text (id_and-from (codes "text ") rest x text id e h)
no_text rest x e none d h = let a = action_mark-is rest d h in let b = ap text_mark e in omega arith

pub no_set : (rest x : List ℕ) → rest ≡ codes "set " ++ x → ((a : ℕ) → decode_of x ≡ Ok (a ∷ []) → ⊥) → (d : ActionValue) → IsActionText rest d → ⊥
no_set rest x e none (Set a) h =
    let same = append_cancel_left (codes "set ") h.0 x (sym h.1 ∙ e) in
    none a (sym (ap decode_of same) ∙ h.2)
no_set rest x e none d h = let a = action_mark-is rest d h in let b = ap text_mark e in omega arith

-- ---- lines with a number

pub number-made : (rest x : List ℕ) → rest ≡ codes "number " ++ x → (id n : ℕ) (more : List ℕ) → IsIdAnd x id more → IsNumber more n 4294967295 → IsActionText rest (Number id n)
number-made rest x e id n more i is =
    (more, record { digits = i.digits; whole = e ∙ ap (λ (y : List ℕ). codes "number " ++ y) i.cut.whole ∙ sym (id_and_spelled (codes "number ") i.digits more); id_is = i.id_is }, is)

pub id_and-none : (text digits more : List ℕ) → IsSplitAtByte 32 text digits more → ((id : ℕ) → IsNumber digits id 65534 → ⊥) → (id : ℕ) (rest : List ℕ) → IsIdAnd text id rest → ⊥
id_and-none text digits more cut none id rest i =
    let same = cut-one i.cut cut in
    let digits-same = same.0 in
    none id (rw digits-same at i.id_is)

pub id_and-cut_missing : (text : List ℕ) → Lacks 32 text → (id : ℕ) (rest : List ℕ) → IsIdAnd text id rest → ⊥
id_and-cut_missing text lacks id rest i = cut_missing 32 text i.digits rest lacks i.cut.whole

pub number-none : (x more : List ℕ) (id : ℕ) → IsIdAnd x id more → ((n : ℕ) → IsNumber more n 4294967295 → ⊥) → (j n : ℕ) (other : List ℕ) → IsIdAnd x j other → IsNumber other n 4294967295 → ⊥
number-none x more id i none j n other k is =
    let same = cut-one k.cut i.cut in
    let more-same = same.1 in
    none n (rw more-same at is)
