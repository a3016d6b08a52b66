use Rattle.std.proofs.Common.{◌∙◌, ◌<◌, ◌≡◌, ◌+◌, ◌-◌, ◌++◌, ap, Bor, List, [], arith, codes, refl, drop, get_or, length, map, sym, subst, take, ℕ}
use Rattle.std.proofs.lemmas.List.{get_or-map, length-map}
use Rattle.std.proofs.lemmas.Result.{on_ok_weaker}
use Rattle.log_trace.specs.Changes.{marked}
use Rattle.log_trace.proofs.Differences.{HasCome, comes_next, ends, stays_next}
use Rattle.log_trace.proofs.ScreenLines.{line_of, part_lines, rest_lines}
use Rattle.log_trace.proofs.changes.put_difference.Goals.{in-Some+in_ok-put_marked+in_ok-put_marked-2, in_default}
use Rattle.log_trace.proofs.changes.put_difference.Goals as goal

pub loop-place-preserved : goal.loop-place-preserved
loop-place-preserved c =
    let old = map line_of c.args.old.now in
    let new = map line_of c.args.new.now in
    let none : Bor (List ℕ) = record { ref_ptr = (0, 0); now = [] } in
    let l = c.loop-place in
    let line = (get_or c.args.new.now l.place none).now in
    let inside : l.place < length new = subst (λ (n : ℕ). l.place < n) (sym (length-map c.args.new.now line_of)) c.loop-place-test.true in
    let here : get_or new l.place [] ≡ line = get_or-map line_of c.args.new.now l.place none [] c.loop-place-test.true in
    elim c.match-next_place.branch [
      | in-Some+in_ok-put_marked+in_ok-put_marked-2 w ↦
          let before = w.in-Some.before in
          let same : l.gone + before - l.gone ≡ before = omega arith in
          let goes : w.put_marked.new.text.items ≡ l.text.items ++ marked (codes "  - ") (take before (drop l.gone old)) =
          w.in_ok-put_marked.ensures ∙ ap (λ ls. l.text.items ++ marked (codes "  - ") ls) (part_lines c.args.old.now l.gone _ before same) in
          rw (w.gone-is, w.come-is) (stays_next old new line c.args.text.now.items l.text.items c.match-next_place.text.items l.gone l.come l.place before
          inside here w.in-Some.ensures l.invariant
          (ap (λ t. t.items) w.text-is ∙ w.in_ok-put_marked-2.ensures
          ∙ ap (λ t. t ++ marked (codes "  + ") (map line_of (take (l.place - l.come) (drop l.come c.args.new.now)))) goes
          ∙ ap (λ ls. l.text.items ++ marked (codes "  - ") (take before (drop l.gone old)) ++ marked (codes "  + ") ls) (part_lines c.args.new.now l.come (l.place - l.come) (l.place - l.come) refl)))
      | in_default w ↦ rw (w.gone-is, w.come-is, w.text-is) (comes_next old new line c.args.text.now.items l.text.items l.gone l.come l.place inside here w.in_default.ensures l.invariant)
    ]

pub returns : goal.returns
returns c =
    let old = map line_of c.args.old.now in
    let new = map line_of c.args.new.now in
    let l = c.loop-place in
    let all : l.place ≡ length new = grind (arith, c.loop-place-test.false, l.auto.place-end, length-map c.args.new.now line_of) in
    let goes : c.put_marked-2.new.text.items ≡ l.text.items ++ marked (codes "  - ") (drop l.gone old) =
    c.in_ok-put_marked-3.ensures ∙ ap (λ ls. l.text.items ++ marked (codes "  - ") ls) (rest_lines c.args.old.now l.gone) in
    on_ok_weaker c.put_marked-3.result
    (λ come. ends old new c.args.text.now.items l.text.items c.put_marked-3.new.text.items l.gone l.come
    (subst (λ (n : ℕ). HasCome old new c.args.text.now.items l.gone l.come n l.text.items) all l.invariant)
    (come ∙ ap (λ t. t ++ marked (codes "  + ") (map line_of (take (length c.args.new.now - l.come) (drop l.come c.args.new.now)))) goes
    ∙ ap (λ ls. l.text.items ++ marked (codes "  - ") (drop l.gone old) ++ marked (codes "  + ") ls) (rest_lines c.args.new.now l.come)))
    c.put_marked-3.ensures
