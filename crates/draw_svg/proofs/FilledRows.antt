-- Rows that are filled run by run.
use Rattle.std.proofs.Common.{◌≡◌, ℕ, ◌+◌, ◌*◌, ◌-◌, ◌<◌, ◌≤◌, ◌⊎◌, inl, inr, List, [], ◌∷◌, ◌++◌, take, drop, length, get_or, replicate, refl, sym, ap, subst, ◌∙◌, arith}
use Rattle.std.proofs.lemmas.List.{append_assoc, append-nil, length-append, length-replicate, replicate-append-replicate, length-take, length-drop, take_all, take-append-le}
use Rattle.std.proofs.lemmas.Nat.{row_fits}
use Rattle.draw_svg.specs.declared.raster.Raster.{Raster}
use Rattle.draw_svg.specs.declared.run.Run.{Run}
use Rattle.draw_svg.specs.FilledRows.{placed, IsFilled, HaveSameSize, Fills, AreFew}
use Rattle.draw_svg.specs.Rasters.{AreRuns}

-- ---- one more run

pub runs_more : (size at : ℕ) (runs : List Run) (r : Run) (bytes : List ℕ) → AreRuns size at runs bytes → r.row * size + r.start ≡ at + length bytes → 0 < r.count
    → r.start + r.count ≤ size → AreRuns size at (runs ++ r ∷ []) (bytes ++ replicate r.count r.byte)
runs_more size at [] r bytes is place some fits =
    let none : length bytes ≡ 0 = ap length is in
    let here : at + length bytes ≡ at = omega arith in
    (place ∙ here, some, fits, ([], ap (λ (l : List ℕ). l ++ replicate r.count r.byte) is ∙ sym (append-nil (replicate r.count r.byte)), refl))
runs_more size at (x ∷ runs) r bytes is place some fits =
    let rest = is.3.0 in
    let long = ap length is.3.1 ∙ length-append (replicate x.count x.byte) rest in
    let front = length-replicate x.count x.byte in
    let here : at + length bytes ≡ at + x.count + length rest = omega arith in (
      is.0,
      is.1,
      is.2,
      (
        rest ++ replicate r.count r.byte,
        ap (λ (l : List ℕ). l ++ replicate r.count r.byte) is.3.1 ∙ append_assoc (replicate x.count x.byte) rest (replicate r.count r.byte),
        runs_more size (at + x.count) runs r rest is.3.2 (place ∙ here) some fits,
      ),
    )

-- ---- a run in the current row

module _ (old new : Raster) (count byte : ℕ) (bytes : List ℕ) (is : IsFilled old bytes) (same : HaveSameSize old new) where
  abbrev limit : ℕ
  limit = old.height * old.size

  -- the bytes so far are all placed
  pub all_placed : old.row < old.height → old.first < old.size → placed old bytes ≡ bytes
  all_placed row inside =
      let below : old.row * old.size + old.size ≤ old.height * old.size = row_fits old.row old.size old.height old.size row (omega arith) in
      let next = is.next in
      take_all limit bytes (let long = length-take limit bytes in omega arith)

  pub part_placed : old.row < old.height → 0 < count → old.first + count ≤ old.size → placed new (bytes ++ replicate count byte) ≡ placed old bytes ++ replicate count byte
  part_placed row some fits =
      let below : old.row * old.size + old.size ≤ old.height * old.size = row_fits old.row old.size old.height old.size row (omega arith) in
      let all = all_placed row (omega arith) in
      let next = is.next in
      let so_far = ap length all in
      let long = length-append bytes (replicate count byte) in
      let part = length-replicate count byte in
      let limits : new.height * new.size ≡ limit = ap (λ (s : ℕ). new.height * s) same.0 ∙ ap (λ (h : ℕ). h * old.size) same.1 in
      ap (λ (n : ℕ). take n (bytes ++ replicate count byte)) limits
      ∙ take_all limit (bytes ++ replicate count byte) (omega arith)
      ∙ ap (λ (l : List ℕ). l ++ replicate count byte) (sym all)

  pub fills_part : (r : Run) → old.row < old.height → 0 < count → old.first + count ≤ old.size → r.row ≡ old.row → r.start ≡ old.first → r.count ≡ count → r.byte ≡ byte
      → new.runs.items ≡ old.runs.items ++ r ∷ [] → new.row * new.size + new.first ≡ old.row * old.size + old.first + count → IsFilled new (bytes ++ replicate count byte)
  fills_part r row some fits at first many of made moved = record {
    runs = subst (λ (l : List ℕ). AreRuns new.size 0 new.runs.items l) (sym (part_placed row some fits))
        (subst (λ (l : List Run). AreRuns new.size 0 l (placed old bytes ++ replicate count byte)) (sym made)
        (subst (λ (s : ℕ). AreRuns s 0 (old.runs.items ++ r ∷ []) (placed old bytes ++ replicate count byte)) (sym same.0) more));
    next = moved ∙ whole;
  }
    where
      place : r.row * old.size + r.start ≡ 0 + length (placed old bytes)
      place = ap (λ (n : ℕ). n * old.size + r.start) at ∙ ap (λ (n : ℕ). old.row * old.size + n) first ∙ is.next ∙ zero
        where
          zero : length (placed old bytes) ≡ 0 + length (placed old bytes)
          zero = omega arith

      more : AreRuns old.size 0 (old.runs.items ++ r ∷ []) (placed old bytes ++ replicate count byte)
      more =
          subst (λ (n : ℕ). AreRuns old.size 0 (old.runs.items ++ r ∷ []) (placed old bytes ++ replicate n byte)) many
          (subst (λ (b : ℕ). AreRuns old.size 0 (old.runs.items ++ r ∷ []) (placed old bytes ++ replicate r.count b)) of
          (runs_more old.size 0 old.runs.items r (placed old bytes) is.runs place (omega (arith, many)) (omega (arith, many, first))))

      whole : old.row * old.size + old.first + count ≡ length (placed new (bytes ++ replicate count byte))
      whole =
          let long = ap length (part_placed row some fits) ∙ length-append (placed old bytes) (replicate count byte) in
          let part = length-replicate count byte in
          let next = is.next in
          omega arith

-- ---- nothing more fits

pub full : (r : Raster) (bytes more : List ℕ) → IsFilled r bytes → r.row ≡ r.height → IsFilled r (bytes ++ more)
full r bytes more is last = record {
  runs = subst (λ (l : List ℕ). AreRuns r.size 0 r.runs.items l) (sym same) is.runs;
  next = is.next ∙ ap length (sym same);
}
  where
    same : placed r (bytes ++ more) ≡ placed r bytes
    same =
        let next = is.next in
        let all : r.row * r.size ≡ r.height * r.size = ap (λ (n : ℕ). n * r.size) last in
        let long = length-take (r.height * r.size) bytes in
        take-append-le (r.height * r.size) bytes more (omega arith)

-- ---- one part after another

pub fills_nothing : (r : Raster) → Fills r r []
fills_nothing r = record { same = (refl, refl); filled = λ bytes is. subst (IsFilled r) (sym (append-nil bytes)) is }

pub fills_more : (first old new : Raster) (a b c : List ℕ) → c ≡ a ++ b → Fills first old a → Fills old new b → Fills first new c
fills_more first old new a b c parts before then = record {
  same = (then.same.0 ∙ before.same.0, then.same.1 ∙ before.same.1);
  filled = λ bytes is. subst (IsFilled new) (append_assoc bytes a b ∙ ap (λ (l : List ℕ). bytes ++ l) (sym parts)) (then.filled (bytes ++ a) (before.filled bytes is));
}

pub fills_rest : (first r : Raster) (a b c : List ℕ) → c ≡ a ++ b → Fills first r a → r.row ≡ r.height → Fills first r c
fills_rest first r a b c parts before last = fills_more first r r a b c parts before (record { same = (refl, refl); filled = λ bytes is. full r bytes b is last })

pub repeated : (count left part less byte : ℕ) → part ≤ left → left ≤ count → less ≡ left - part → replicate (count - less) byte ≡ replicate (count - left) byte ++ replicate part byte
repeated count left part less byte fits most is =
    let sum : count - less ≡ count - left + part = omega arith in
    ap (λ (n : ℕ). replicate n byte) sum ∙ sym (replicate-append-replicate (count - left) part byte)

pub all_repeated : (count left byte : ℕ) → left ≤ count → replicate count byte ≡ replicate (count - left) byte ++ replicate left byte
all_repeated count left byte most =
    let sum : count ≡ count - left + left = omega arith in
    ap (λ (n : ℕ). replicate n byte) sum ∙ sym (replicate-append-replicate (count - left) left byte)

-- the runs of one part more
pub few_more : (first old new : Raster) (left part : ℕ) → 0 < left → ((left ≡ 0) × AreFew first old 1) ⊎ AreFew first old 0
    → length new.runs.items ≡ length old.runs.items + 1 → ((part ≡ left) × (old.row ≤ new.row)) ⊎ (new.row ≡ old.row + 1)
    → ((left - part ≡ 0) × AreFew first new 1) ⊎ AreFew first new 0
few_more first old new left part some (inl done) one rows = absurd (omega (arith, done.0))
few_more first old new left part some (inr few) one (inl all) = inl (omega (arith, all.0), omega (arith, few, all.1, one))
few_more first old new left part some (inr few) one (inr next) = inr (omega (arith, few, next, one))

-- ---- the rest of a list

pub rest_is : (n : ℕ) (bytes : List ℕ) → take (length bytes - n) (drop n bytes) ≡ drop n bytes
rest_is n bytes = let long = length-drop n bytes in take_all (length bytes - n) (drop n bytes) (omega arith)

pub two_front : (bytes : List ℕ) → 2 ≤ length bytes → bytes ≡ get_or bytes 0 0 ∷ get_or bytes 1 0 ∷ drop 2 bytes
two_front [] le = absurd (omega (arith, le))
two_front (a ∷ []) le = absurd (omega (arith, le))
two_front (a ∷ b ∷ bytes) le = refl
