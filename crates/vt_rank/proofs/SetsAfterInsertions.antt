-- Sets of nodes after insertions.
use Rattle.std.proofs.Common.{◌≡◌, ◌≢◌, ℕ, ◌+◌, ◌-◌, ◌*◌, ◌/◌, ◌%◌, ◌^◌, ◌<◌, ◌≤◌, ◌⊎◌, inl, inr, min, max, List, [], ◌∷◌, ◌++◌, length, get_or, set, drop, refl, sym, ◌∙◌, ap, subst, arith, w64, get_or-set_same, get_or-set_other}
use Rattle.std.specs.Prelude.{bit_or, bit_and}
use Rattle.std.specs.Int.{bit_at, trailing_zeros}
use Rattle.std.specs.Int.Bits.{or_zero_r}
use Rattle.std.specs.List.{Contains, flat_map}
use Rattle.std.proofs.lemmas.Bool.{cases_eq, cases_lt}
use Rattle.std.proofs.lemmas.Nat.{and_le_l}
use Rattle.std.proofs.lemmas.Nat.Bits.{bit_at_set_same, bit_at_set_other, bit_at_or, bit_at_and, bit_at_not, bit_at-lt, bit_at-zero, bit_at-trailing_zeros}
use Rattle.std.proofs.lemmas.List.{at_drop_more, at_drop_all, get_or_past, length-set}
use Rattle.std.proofs.lemmas.List.Elements.{Contains-append_left, Contains-append_right, Contains-append_cases}
use Rattle.vt_rank.specs.declared.node_set.NodeSet.{NodeSet}
use Rattle.vt_rank.specs.NodeSets.{bit_of, IsIn, Adds, IsSetOf}
use Rattle.vt_rank.proofs.Members.{Contains-nil, Contains-head, Contains-cons_cases}

bit_there : (words : List ℕ) (node place : ℕ) → place ≡ node / 64 → place < length words → bit_at (get_or (set words place (bit_or (get_or words place 0) (1 * 2 ^ (node % 64) % 2 ^ 64))) (node / 64) 0) (node % 64) ≡ 1
bit_there words node place at inside =
    let v = bit_or (get_or words place 0) (1 * 2 ^ (node % 64) % 2 ^ 64) in
    let word : get_or (set words place v) (node / 64) 0 ≡ v = subst (λ (k : ℕ). get_or (set words place v) k 0 ≡ v) at (get_or-set_same words place v 0 inside) in
    let low : node % 64 < 64 = omega arith in
    ap (λ (w : ℕ). bit_at w (node % 64)) word ∙ bit_at_set_same w64 (get_or words place 0) (node % 64) low

bit_other : (words : List ℕ) (node place n : ℕ) → place ≡ node / 64 → place < length words → n ≢ node → bit_at (get_or (set words place (bit_or (get_or words place 0) (1 * 2 ^ (node % 64) % 2 ^ 64))) (n / 64) 0) (n % 64) ≡ bit_at (get_or words (n / 64) 0) (n % 64)
bit_other words node place n at inside differs =
    let v = bit_or (get_or words place 0) (1 * 2 ^ (node % 64) % 2 ^ 64) in
    elim (cases_eq (n / 64) place) as (λ _. bit_at (get_or (set words place v) (n / 64) 0) (n % 64) ≡ bit_at (get_or words (n / 64) 0) (n % 64)) [
      | inl same ↦
          let apart : n % 64 ≢ node % 64 = λ e. differs (omega (arith, e, same, at)) in
          let low : node % 64 < 64 = omega arith in
          let word : get_or (set words place v) (n / 64) 0 ≡ v = subst (λ (k : ℕ). get_or (set words place v) k 0 ≡ v) (sym same) (get_or-set_same words place v 0 inside) in
          ap (λ (w : ℕ). bit_at w (n % 64)) word
          ∙ bit_at_set_other w64 (get_or words place 0) (node % 64) low (n % 64) apart
          ∙ ap (λ (k : ℕ). bit_at (get_or words k 0) (n % 64)) (sym same)
      | inr other ↦ let elsewhere : n / 64 ≢ place = other in ap (λ (w : ℕ). bit_at w (n % 64)) (get_or-set_other words place (n / 64) v 0 elsewhere)
    ]

pub inserted : (before : NodeSet) (node place : ℕ) → place ≡ node / 64 → place < length before.words → Adds before (record { words = set before.words place (bit_or (get_or before.words place 0) (1 * 2 ^ (node % 64) % 2 ^ 64)) }) (node ∷ [])
inserted before node place at inside =
    let after : NodeSet = record { words = set before.words place (bit_or (get_or before.words place 0) (1 * 2 ^ (node % 64) % 2 ^ 64)) } in
    let here = bit_there before.words node place at inside in
    record {
      kept = λ n was.
          elim (cases_eq n node) as (λ _. IsIn after n) [
            | inl same ↦ subst (λ (k : ℕ). IsIn after k) (sym same) here
            | inr other ↦ let differs : n ≢ node = other in bit_other before.words node place n at inside differs ∙ was
          ];
      there = λ n among.
          elim (Contains-cons_cases node n [] among) as (λ _. IsIn after n) [
            | inl same ↦ subst (λ (k : ℕ). IsIn after k) same here
            | inr none ↦ absurd (Contains-nil n none)
          ];
      only = λ n is.
          elim (cases_eq n node) as (λ _. IsIn before n ⊎ Contains (node ∷ []) n) [
            | inl same ↦ inr (subst (λ (k : ℕ). Contains (node ∷ []) k) (sym same) (Contains-head node []))
            | inr other ↦ let differs : n ≢ node = other in inl (sym (bit_other before.words node place n at inside differs) ∙ is)
          ];
    }

-- ---- insertions one after the other

pub Adds-none : (set : NodeSet) → Adds set set []
Adds-none set = record { kept = λ n is. is; there = λ n none. absurd (Contains-nil n none); only = λ n is. inl is }

pub Adds-join : (a b c : NodeSet) (xs ys : List ℕ) → Adds a b xs → Adds b c ys → Adds a c (xs ++ ys)
Adds-join a b c xs ys first then_ = record {
  kept = λ n is. then_.kept n (first.kept n is);
  there = λ n among. elim (Contains-append_cases xs ys n among) as (λ _. IsIn c n) [ inl early ↦ then_.kept n (first.there n early) | inr late ↦ then_.there n late ];
  only = λ n is.
      elim (then_.only n is) as (λ _. IsIn a n ⊎ Contains (xs ++ ys) n) [
        | inl before ↦ elim (first.only n before) as (λ _. IsIn a n ⊎ Contains (xs ++ ys) n) [ inl was ↦ inl was | inr early ↦ inr (Contains-append_left xs ys n early) ]
        | inr late ↦ inr (Contains-append_right xs ys n late)
      ];
}

-- the insertion of the remaining nodes into the current set completes the insertion of all nodes into the first set
pub record IsAdding {X : Type 0} (f : X → List ℕ) (xs : List X) (i : ℕ) (before now : NodeSet) : Type 0 where
  pub rest : (after : NodeSet) → Adds now after (flat_map f (drop i xs)) → Adds before after (flat_map f xs)

pub adding_more : {X : Type 0} (f : X → List ℕ) (xs : List X) (i : ℕ) (d : X) (before now next : NodeSet) → i < length xs → IsAdding f xs i before now → Adds now next (f (get_or xs i d)) → IsAdding f xs (i + 1) before next
adding_more {X} f xs i d before now next inside a step =
    let more = at_drop_more (flat_map f) xs i d inside in
    record { rest = λ after left. a.rest after (subst (Adds now after) (sym more) (Adds-join now next after (f (get_or xs i d)) (flat_map f (drop (i + 1) xs)) step left)) }

pub adding_done : {X : Type 0} (f : X → List ℕ) (xs : List X) (i : ℕ) (before now : NodeSet) → length xs ≤ i → IsAdding f xs i before now → Adds before now (flat_map f xs)
adding_done {X} f xs i before now past a =
    let none = at_drop_all (flat_map f) xs i past in
    a.rest now (subst (Adds now now) (sym none) (Adds-none now))

pub set_of : (empty set : NodeSet) (nodes : List ℕ) → ((n : ℕ) → IsIn empty n → ⊥) → Adds empty set nodes → IsSetOf set nodes
set_of empty set nodes none a = λ n. (λ is. elim (a.only n is) as (λ _. Contains nodes n) [ inl was ↦ absurd (none n was) | inr among ↦ among ], λ among. a.there n among)

-- the insertion of a whole set
pub adds_set : (before after others : NodeSet) (nodes : List ℕ) → IsSetOf others nodes → ((n : ℕ) → IsIn before n → IsIn after n) → ((n : ℕ) → IsIn others n → IsIn after n) → ((n : ℕ) → IsIn after n → IsIn before n ⊎ IsIn others n) → Adds before after nodes
adds_set before after others nodes is kept there only = record {
  kept = kept;
  there = λ n among. there n ((is n).1 among);
  only = λ n now. elim (only n now) as (λ _. IsIn before n ⊎ Contains nodes n) [ inl was ↦ inl was | inr new ↦ inr ((is n).0 new) ];
}

-- ---- word by word

pub record IsMerging (before others now : List ℕ) (place : ℕ) : Type 0 where
  pub size : length now ≡ 4
  pub done : (k : ℕ) → k < place → get_or now k 0 ≡ bit_or (get_or before k 0) (get_or others k 0)
  pub left : (k : ℕ) → place ≤ k → get_or now k 0 ≡ get_or before k 0

pub merging_more : (before others now : List ℕ) (place : ℕ) → place < 4 → IsMerging before others now place → IsMerging before others (set now place (bit_or (get_or now place 0) (get_or others place 0))) (place + 1)
merging_more before others now place small m =
    let v = bit_or (get_or now place 0) (get_or others place 0) in
    record {
      size = length-set now place v ∙ m.size;
      done = λ k less.
          elim (cases_eq k place) as (λ _. get_or (set now place v) k 0 ≡ bit_or (get_or before k 0) (get_or others k 0)) [
            | inl same ↦
                let value : get_or (set now place v) place 0 ≡ bit_or (get_or before place 0) (get_or others place 0) = get_or-set_same now place v 0 (omega (arith, m.size)) ∙ ap (λ (w : ℕ). bit_or w (get_or others place 0)) (m.left place (omega arith)) in
                subst (λ (j : ℕ). get_or (set now place v) j 0 ≡ bit_or (get_or before j 0) (get_or others j 0)) (sym same) value
            | inr other ↦ let differs : k ≢ place = other in get_or-set_other now place k v 0 differs ∙ m.done k (omega (arith, less, other))
          ];
      left = λ k past. let differs : k ≢ place = λ e. omega (arith, past, e) in get_or-set_other now place k v 0 differs ∙ m.left k (omega (arith, past));
    }

pub merged : (before others now : List ℕ) (place : ℕ) → 4 ≤ place → length others ≡ 4 → IsMerging before others now place → (k : ℕ) → get_or now k 0 ≡ bit_or (get_or before k 0) (get_or others k 0)
merged before others now place all size m k =
    elim (cases_lt k place) as (λ _. get_or now k 0 ≡ bit_or (get_or before k 0) (get_or others k 0)) [
      | inl less ↦ m.done k less
      | inr past ↦
          let none : get_or others k 0 ≡ 0 = get_or_past others k 0 (omega (arith, past, all, size)) in
          m.left k past ∙ sym (ap (bit_or (get_or before k 0)) none ∙ or_zero_r (get_or before k 0))
    ]

pub bit_merged : (before others now : NodeSet) → ((k : ℕ) → get_or now.words k 0 ≡ bit_or (get_or before.words k 0) (get_or others.words k 0)) → (n : ℕ) → bit_of now n ≡ max (bit_of before n) (bit_of others n)
bit_merged before others now are n = ap (λ (w : ℕ). bit_at w (n % 64)) (are (n / 64)) ∙ bit_at_or (get_or before.words (n / 64) 0) (get_or others.words (n / 64) 0) (n % 64)

pub merged_only : (a b c : ℕ) → a < 2 → b < 2 → c ≡ max a b → c ≡ 1 → (a ≡ 1) ⊎ (b ≡ 1)
merged_only a b c small also is one =
    elim (cases_eq a 1) as (λ _. (a ≡ 1) ⊎ (b ≡ 1)) [ inl same ↦ inl same | inr other ↦ inr (omega (arith, small, also, is, one, other)) ]

pub one_by_one : (xs : List ℕ) → flat_map (λ (n : ℕ). n ∷ []) xs ≡ xs
one_by_one [] = refl
one_by_one (x ∷ xs) = ap (λ (ys : List ℕ). x ∷ ys) (one_by_one xs)

-- ---- the nodes of a word that are not in another word

bit_outside : (a b k : ℕ) → b < 2 ^ 64 → k < 64 → bit_at (bit_and a (18446744073709551615 - b)) k ≡ min (bit_at a k) (1 - bit_at b k)
bit_outside a b k fits within = bit_at_and a (18446744073709551615 - b) k ∙ ap (min (bit_at a k)) (bit_at_not w64 b k fits within)

bit_within : (set : NodeSet) (place i k : ℕ) → i ≡ place → k < 64 → bit_of set (64 * place + k) ≡ bit_at (get_or set.words i 0) k
bit_within set place i k at within =
    let word : (64 * place + k) / 64 ≡ i = omega (arith, at, within) in
    let bit : (64 * place + k) % 64 ≡ k = omega (arith, within) in
    ap (λ (q : ℕ). bit_at (get_or set.words q 0) ((64 * place + k) % 64)) word ∙ ap (bit_at (get_or set.words i 0)) bit

pub outside_found : (a b : NodeSet) (place i j : ℕ) → i ≡ place → j ≡ place → get_or a.words i 0 < 2 ^ 64 → get_or b.words j 0 < 2 ^ 64 → (bit_and (get_or a.words i 0) (18446744073709551615 - get_or b.words j 0) ≡ 0 → ⊥)
    → IsIn a (64 * place + trailing_zeros w64 (bit_and (get_or a.words i 0) (18446744073709551615 - get_or b.words j 0))) × (IsIn b (64 * place + trailing_zeros w64 (bit_and (get_or a.words i 0) (18446744073709551615 - get_or b.words j 0))) → ⊥)
outside_found a b place i j at too fits others_fit some =
    let left = bit_and (get_or a.words i 0) (18446744073709551615 - get_or b.words j 0) in
    let least : left ≤ get_or a.words i 0 = and_le_l (get_or a.words i 0) (18446744073709551615 - get_or b.words j 0) in
    let lowest = bit_at-trailing_zeros w64 left (omega (arith, some)) (omega (arith, least, fits)) in
    let k = trailing_zeros w64 left in
    let bits = bit_outside (get_or a.words i 0) (get_or b.words j 0) k others_fit lowest.0 in
    let here = bit_within a place i k at lowest.0 in
    let there = bit_within b place j k too lowest.0 in
    let small : bit_at (get_or a.words i 0) k < 2 = bit_at-lt _ _ in
    (omega (arith, bits, lowest.1, here, small), λ is. omega (arith, bits, lowest.1, there, is))

pub outside_none : (a b : NodeSet) (place i j : ℕ) → i ≡ place → j ≡ place → get_or b.words j 0 < 2 ^ 64 → bit_and (get_or a.words i 0) (18446744073709551615 - get_or b.words j 0) ≡ 0
    → ((n : ℕ) → n / 64 < place → IsIn a n → IsIn b n) → (n : ℕ) → n / 64 < place + 1 → IsIn a n → IsIn b n
outside_none a b place i j at too fits none before n less is =
    elim (cases_lt (n / 64) place) as (λ _. IsIn b n) [
      | inl early ↦ before n early is
      | inr past ↦
          let k = n % 64 in
          let within : k < 64 = omega arith in
          let split : n ≡ 64 * place + k = omega (arith, less, past) in
          let here : bit_of a n ≡ bit_at (get_or a.words i 0) k = ap (bit_of a) split ∙ bit_within a place i k at within in
          let there : bit_of b n ≡ bit_at (get_or b.words j 0) k = ap (bit_of b) split ∙ bit_within b place j k too within in
          let bits = bit_outside (get_or a.words i 0) (get_or b.words j 0) k fits within in
          let zero_bit : bit_at (bit_and (get_or a.words i 0) (18446744073709551615 - get_or b.words j 0)) k ≡ 0 = ap (λ (w : ℕ). bit_at w k) none ∙ bit_at-zero k in
          let small : bit_at (get_or b.words j 0) k < 2 = bit_at-lt _ _ in
          omega (arith, here, there, bits, zero_bit, is, small)
    ]

pub outside_past : (a : NodeSet) (n : ℕ) → length a.words ≡ 4 → 4 ≤ n / 64 → IsIn a n → ⊥
outside_past a n size past is =
    let none : get_or a.words (n / 64) 0 ≡ 0 = get_or_past a.words (n / 64) 0 (omega (arith, size, past)) in
    let zero_bit : bit_of a n ≡ 0 = ap (λ (w : ℕ). bit_at w (n % 64)) none ∙ bit_at-zero (n % 64) in
    omega (arith, is, zero_bit)
