use Rattle.std.proofs.Common.{◌≡◌, ◌≢◌, ℕ, ◌+◌, drop, get_or, arith, ◌∙◌}
use Rattle.vt_verify.specs.Triggers.{macros_at}
use Rattle.vt_verify.proofs.lemmas.graphs.EventGroups.{not_listed}
use Rattle.vt_verify.proofs.listing.next_entry.Goals as goal
use Rattle.vt_verify.proofs.listing.next_entry.Goals.{then-from-entry+then-entry-next, else-from-entry, else-from-entry-via-then-from-entry+else-entry-next, else-from-entry-via-else-from-entry}

pub loop-entry-preserved : goal.loop-entry-preserved
loop-entry-preserved c =
    let entries = c.args.entries.now in
    let i = c.loop-entry.entry-index in
    let entry = get_or entries i (record { event = 0; macro_id = 0 }) in
    let before = c.loop-entry.invariant in
    let passed : (event : ℕ) → entry.event ≢ event → macros_at event (drop i entries) ≡ macros_at event (drop (i + 1) entries) =
    λ event. not_listed event entries i (record { event = 0; macro_id = 0 }) c.loop-entry-test.true in
    elim c.if-from-entry.branch [
      | then-from-entry+then-entry-next w ↦ (
        omega (arith, w.next-is, w.if-from-entry.true),
        omega (arith, w.next-is, w.if-entry-next.true, before.1),
        λ event low high. before.2 event low (omega (arith, w.next-is, w.if-entry-next.true, high))
            ∙ passed event (λ same. absurd (omega (arith, same, w.next-is, high))),
      )
      | else-from-entry w ↦ (
        omega (arith, w.next-is, before.0),
        omega (arith, w.next-is, before.1),
        λ event low high. before.2 event low (omega (arith, w.next-is, high))
            ∙ passed event
            (λ same. elim w.else-from-entry.branch [
              | else-from-entry-via-then-from-entry+else-entry-next v ↦ absurd (omega (arith, same, w.next-is, high, v.if-entry-next.false))
              | else-from-entry-via-else-from-entry v ↦ absurd (omega (arith, same, low, v.if-from-entry.false))
            ]),
      )
    ]
