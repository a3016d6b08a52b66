use Rattle.std.proofs.Common.{◌≡◌, ◌≤◌, ◌<◌, ◌+◌, ◌++◌, ◌∙◌, zero, suc, true, ℕ, List, [], length, refl, sym, ap, inr, append_assoc, arith, take, drop, take-append-drop, Bor}
use Rattle.std.proofs.lemmas.List.{drop_all, take_rest}
use Rattle.std.specs.Io.KnownBytes.{Appends}
use Rattle.std.proofs.KnownBytes.{Appends-trans, Appends-kept}
use Rattle.vt_logs.proofs.ReplayInvariants.{above_zero}
use Rattle.vt_logs.proofs.output.put.Goals as goal
use Rattle.vt_logs.proofs.output.put.Goals.{in-Ok, in-Err+in-Interrupted}

-- A steady writer has had no write where bytes remain.
at_first : (n : ℕ) (rest : List ℕ) → n ≤ 1 → (n ≡ 1 → rest ≡ []) → 0 < length rest → n ≡ 0
at_first zero rest few at some = refl
at_first (suc zero) rest few at some = absurd (let none : length rest ≡ 0 = ap length (at refl) in omega (arith, none, some))
at_first (suc (suc n)) rest few at some = absurd (omega (arith, few))

-- A write took more bytes, or was interrupted.
pub loop-preserved : goal.loop-preserved
loop-preserved g c =
    let held = g.W.Write.contents in
    let done = c.loop.invariant in
    let rest = c.loop.rest.now in
    elim c.match-write_some.branch as (λ _. (front : List ℕ) × (c.args.bytes.now ≡ front ++ c.match-write_some.rest.now) × Appends (held c.args.writer.now) (held c.write_some.new.self) front
    × (g.W.Sink.steady ≡ true → (c.loop.counter + 1 ≤ 1) × (c.loop.counter + 1 ≡ 1 → c.match-write_some.rest.now ≡ []))) [
      | in-Ok w ↦
          let count = w.in-Ok.count in
          let left : c.match-write_some.rest.now ≡ drop count rest = ap (λ (b : Bor (List ℕ)). b.now) w.rest-is ∙ take_rest rest count in (
            done.0 ++ take count rest,
            done.1 ∙ ap (λ (t : List ℕ). done.0 ++ t) (sym (take-append-drop count rest)) ∙ sym (append_assoc done.0 (take count rest) (drop count rest))
                ∙ ap (λ (t : List ℕ). done.0 ++ take count rest ++ t) (sym left),
            Appends-trans (held c.args.writer.now) (held c.loop.writer) (held c.write_some.new.self) done.0 (take count rest) done.2 w.in-Ok.ensures.bytes,
            λ steady.
                let first = at_first c.loop.counter rest (done.3 steady).0 (done.3 steady).1 (above_zero (length rest) c.if-is_empty.ensures) in (
                  omega (arith, first),
                  λ one. left ∙ drop_all count rest (omega (arith, w.in-Ok.ensures.whole steady)),
                ),
          )
      | in-Err+in-Interrupted w ↦
          let same : c.match-write_some.rest.now ≡ rest = ap (λ (b : Bor (List ℕ)). b.now) w.rest-is in (
            done.0,
            done.1 ∙ ap (λ (t : List ℕ). done.0 ++ t) (sym same),
            Appends-kept (held c.args.writer.now) (held c.loop.writer) (held c.write_some.new.self) done.0 done.2 w.in-Err.ensures.bytes,
            λ steady. absurd (let interrupted = w.in-Interrupted.ensures in let refused = w.in-Err.ensures.refused steady in cc),
          )
    ]

pub returns-clause-fault : goal.returns-clause-fault
returns-clause-fault g c = inr (refl, λ steady. omega (arith, (c.loop.invariant.3 steady).0, c.loop-test.false))
