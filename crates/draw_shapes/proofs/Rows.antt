-- Texts without the spaces at their end, and the rows of a text one after the other.
use Rattle.std.proofs.Common.{◌≡◌, ◌≢◌, ℕ, zero, suc, ◌+◌, ◌-◌, ◌<◌, ◌≤◌, cond, eqb, List, [], ◌∷◌, ◌++◌, take, drop, length, get_or, refl, sym, ap, ◌∙◌, arith}
use Rattle.std.proofs.lemmas.Bool.{ne_eqb}
use Rattle.std.proofs.lemmas.List.{append_assoc, append-nil, take_more, take_all}
use Rattle.draw_svg.specs.Elements.{text_of}
use Rattle.draw_svg.proofs.Followed.{text_followed}
use Rattle.draw_shapes.specs.declared.shapes.fields.Field.{Field}
use Rattle.draw_shapes.specs.declared.shapes.fields.Look.{Look}
use Rattle.draw_shapes.specs.Fields.{alone, in_front_of, pieces, row_node, row_nodes, trimmed}

-- ---- spaces at the end

trim_space : (xs : List ℕ) (c : ℕ) → c ≡ 0x20 → trimmed (xs ++ c ∷ []) ≡ trimmed xs
unfolding trimmed
trim_space [] c is = ap (λ b. cond b [] (c ∷ [])) (ap (λ k. eqb k 0x20) is)
trim_space (x ∷ xs) c is = ap (in_front_of x) (trim_space xs c is)

in_front_of_more : (x c : ℕ) (xs : List ℕ) → in_front_of x (xs ++ c ∷ []) ≡ x ∷ (xs ++ c ∷ [])
in_front_of_more x c [] = refl
in_front_of_more x c (y ∷ xs) = refl

trim_other : (xs : List ℕ) (c : ℕ) → c ≢ 0x20 → trimmed (xs ++ c ∷ []) ≡ xs ++ c ∷ []
unfolding trimmed
trim_other [] c other = ap (λ b. cond b [] (c ∷ [])) (ne_eqb c 0x20 other)
trim_other (x ∷ xs) c other = ap (in_front_of x) (trim_other xs c other) ∙ in_front_of_more x c xs

last_of : (text : List ℕ) (end : ℕ) → 0 < end → end ≤ length text → take end text ≡ take (end - 1) text ++ get_or text (end - 1) 0 ∷ []
last_of text end some fits =
    let more : (end - 1) + 1 ≡ end = omega (arith, some) in
    ap (λ n. take n text) (sym more) ∙ take_more text (end - 1) 0 (omega (arith, some, fits))

pub less_space : (text : List ℕ) (end : ℕ) → 0 < end → end ≤ length text → get_or text (end - 1) 0 ≡ 0x20 → trimmed (take (end - 1) text) ≡ trimmed (take end text)
less_space text end some fits is = sym (ap trimmed (last_of text end some fits) ∙ trim_space (take (end - 1) text) (get_or text (end - 1) 0) is)

pub no_space : (text : List ℕ) (end : ℕ) → 0 < end → end ≤ length text → get_or text (end - 1) 0 ≢ 0x20 → trimmed (take end text) ≡ take end text
no_space text end some fits other =
    ap trimmed (last_of text end some fits) ∙ trim_other (take (end - 1) text) (get_or text (end - 1) 0) other ∙ sym (last_of text end some fits)

pub no_text : (text : List ℕ) (end : ℕ) → end ≡ 0 → trimmed (take end text) ≡ take end text
unfolding trimmed
no_text text end none = ap (λ n. trimmed (take n text)) none ∙ sym (ap (λ n. take n text) none)

pub whole : (text : List ℕ) → trimmed (take (length text) text) ≡ trimmed text
whole text = ap trimmed (take_all (length text) text (omega arith))

-- ---- one row after the other

first_piece : (rows n : ℕ) (text : List ℕ) → 0 < rows → 0 < length text → pieces rows n text ≡ take n text ∷ pieces (rows - 1) n (drop n text)
unfolding pieces
first_piece zero n text some full = absurd (let never : 0 < 0 = some in omega (arith, never))
first_piece (suc rows) n [] some full = absurd (let never : 0 < 0 = full in omega (arith, never))
first_piece (suc rows) n (c ∷ text) some full =
    let less : suc rows - 1 ≡ rows = omega arith in ap (λ k. take n (c ∷ text) ∷ pieces k n (drop n (c ∷ text))) (sym less)

pub next_row : (look : Look) (field : Field) (row rows n : ℕ) (text out longer total : List ℕ) → row < rows → 0 < length text
    → longer ≡ out ++ text_of (alone look field row (trimmed (take n text)))
    → out ++ text_of (row_nodes look field row (pieces (rows - row) n text)) ≡ total
    → longer ++ text_of (row_nodes look field (row + 1) (pieces (rows - (row + 1)) n (drop n text))) ≡ total
next_row look field row rows n text out longer total some full made is =
    let later = row_nodes look field (row + 1) (pieces (rows - (row + 1)) n (drop n text)) in
    let first = alone look field row (trimmed (take n text)) in
    let on : suc row ≡ row + 1 = omega arith in
    let less : rows - row - 1 ≡ rows - (row + 1) = omega arith in
    ap (λ l. l ++ text_of later) made
    ∙ append_assoc out (text_of first) (text_of later)
    ∙ ap (λ l. out ++ l) (sym (text_followed first later))
    ∙ sym (
    ap (λ ps. out ++ text_of (row_nodes look field row ps)) (first_piece (rows - row) n text (omega (arith, some)) full)
    ∙ ap (λ i. out ++ text_of (row_node look field row (trimmed (take n text)) (row_nodes look field i (pieces (rows - row - 1) n (drop n text))))) on
    ∙ ap (λ k. out ++ text_of (row_node look field row (trimmed (take n text)) (row_nodes look field (row + 1) (pieces k n (drop n text))))) less
    )
    ∙ is

pub no_rows : (look : Look) (field : Field) (row left n : ℕ) (text out total : List ℕ) → left ≡ 0 → out ++ text_of (row_nodes look field row (pieces left n text)) ≡ total → out ≡ total
unfolding pieces
no_rows look field row left n text out total none is =
    sym (append-nil out) ∙ ap (λ k. out ++ text_of (row_nodes look field row (pieces k n text))) (sym none) ∙ is

no_pieces : (left n : ℕ) → pieces left n [] ≡ []
unfolding pieces
no_pieces zero n = refl
no_pieces (suc left) n = refl

empty_list : (text : List ℕ) → length text ≡ 0 → text ≡ []
empty_list [] is = refl
empty_list (c ∷ text) is = absurd cc

pub no_more : (look : Look) (field : Field) (row left n : ℕ) (text out total : List ℕ) → length text ≡ 0
    → out ++ text_of (row_nodes look field row (pieces left n text)) ≡ total → out ≡ total
no_more look field row left n text out total none is =
    sym (append-nil out)
    ∙ ap (λ ps. out ++ text_of (row_nodes look field row ps)) (sym (ap (pieces left n) (empty_list text none) ∙ no_pieces left n))
    ∙ is
