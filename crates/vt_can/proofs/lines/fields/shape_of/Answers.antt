use Rattle.std.proofs.Common.{◌≡◌, ◌≤◌, ◌⊎◌, inl, inr, ℕ, ◌∷◌, [], Some, length, ap, arith}
use Rattle.std.proofs.lemmas.Bool.Decides.{Decides-eqb}
use Rattle.std.proofs.lemmas.Grind.{common_steps}
use Rattle.std.proofs.lemmas.Slice.Eq.{strip_prefix_is}
use Rattle.vt_can.proofs.lemmas.lines.Shape.{ShapeCut, no_interface, no_sign, no_word, shape-cut, shape-made, shape_cut-made, shape_cut-one}
use Rattle.vt_can.proofs.lines.fields.shape_of.Goals as goal
use Rattle.vt_can.proofs.lines.fields.shape_of.Goals.{In_ok-words, In_ok-id}

opened : (c : In_ok-words) → c.args.rest.now ≡ 32 ∷ c.in_ok-words.words.now
opened c = strip_prefix_is Decides-eqb c.args.rest.now (32 ∷ []) (Some c.in_ok-words.words) c.in_ok-words.ensures.cases

pub returns-in_err-interface : goal.returns-in_err-interface
returns-in_err-interface c =
    let opens = opened (goal.at.returns-in_err-interface c).In_ok-words in
    rw c.from_residual-in_err-interface.ensures (no_interface c.args.rest.now c.in_ok-words.words.now opens c.in_err-interface.ensures)

pub returns-in_err-word : goal.returns-in_err-word
returns-in_err-word c =
    let opens = opened (goal.at.returns-in_err-word c).In_ok-words in
    rw c.from_residual-in_err-word.ensures (no_word c.args.rest.now c.in_ok-words.words.now c.in_ok-interface.interface.now c.in_ok-interface.last.now opens c.in_ok-interface.ensures c.in_err-word.ensures)

pub returns-in_err-id : goal.returns-in_err-id
returns-in_err-id c =
    let opens = opened (goal.at.returns-in_err-id c).In_ok-words in
    rw c.from_residual-in_err-id.ensures (no_sign c.args.rest.now c.in_ok-words.words.now c.in_ok-interface.interface.now c.in_ok-interface.last.now c.in_ok-word.word.now opens c.in_ok-interface.ensures c.in_ok-word.ensures c.in_err-id.ensures)

three_or_eight : (n : ℕ) → ((n ≡ 3 → ⊥) × (n ≡ 8)) ⊎ (n ≡ 3) → (n ≡ 3) ⊎ (n ≡ 8)
three_or_eight n (inl eight) = inr eight.1
three_or_eight n (inr three) = inl three

cut_up : (c : In_ok-id) → ShapeCut c.args.rest.now c.in_ok-interface.interface.now c.in_ok-id.id.now c.in_ok-id.text.now
cut_up c =
    let opens : c.args.rest.now ≡ 32 ∷ c.in_ok-words.words.now = strip_prefix_is Decides-eqb c.args.rest.now (32 ∷ []) (Some c.in_ok-words.words) c.in_ok-words.ensures.cases in
    shape_cut-made opens c.in_ok-interface.ensures c.in_ok-word.ensures c.in_ok-id.ensures

pub returns-then-not-contains : goal.returns-then-not-contains
returns-then-not-contains c = λ id text h.
    let same = shape_cut-one (shape-cut h) (cut_up (goal.at.returns-then-not-contains c).In_ok-id) in
    let len = ap length same.0 in
    let low = h.interface_some in
    let high = h.interface_short in
    let out = c.if-not-contains.ensures.cases in
    grind (arith, common_steps)

pub returns-then-id-ne8 : goal.returns-then-id-ne8
returns-then-id-ne8 c = λ id text h.
    let same = shape_cut-one (shape-cut h) (cut_up (goal.at.returns-then-id-ne8 c).In_ok-id) in
    let len = ap length same.1 in
    let either = h.id_length in
    omega arith

pub returns : goal.returns
returns c =
    let within = c.if-not-contains.ensures.cases in
    let low : 1 ≤ length c.in_ok-interface.interface.now = grind (arith, common_steps) in
    let high : length c.in_ok-interface.interface.now ≤ 15 = grind (arith, common_steps) in
    shape-made (cut_up (goal.at.returns c).In_ok-id) low high (three_or_eight (length c.in_ok-id.id.now) c.else-id-ne3.either)
