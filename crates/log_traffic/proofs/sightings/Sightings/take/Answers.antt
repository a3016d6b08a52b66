use Rattle.std.proofs.Common.{rules, refl, sym, ◌∙◌, ◌≡◌}
use Rattle.log_traffic.specs.Counted.{more}
use Rattle.std.specs.List.{list_any}
use Rattle.std.proofs.lemmas.Bool.{cond-true, cond-false}
use Rattle.log_traffic.specs.Sightings.{sighting_of, is_same, is_seen_twice}
use Rattle.log_traffic.proofs.SeenBefore.{seen_next, twice_next}
use Rattle.log_traffic.proofs.sightings.Sightings.take.Goals as goal
use Rattle.log_traffic.proofs.sightings.Sightings.take.Goals.{then-has, else-has}

pub returns-clause-seen : goal.returns-clause-seen
returns-clause-seen c taken latest later seen =
    seen_next latest c.args.time taken c.forget_before.new.self.recent.items (sighting_of c.args.time c.args.frame.now) c.args.self.now _ later seen
    c.forget_before.ensures.left refl (search rules)

pub returns-clause-counted : goal.returns-clause-counted
returns-clause-counted c taken latest later seen =
    let frame = sighting_of c.args.time c.args.frame.now in
    let has : list_any (λ other. is_same other frame) c.forget_before.new.self.recent.items ≡ c.has.result = search rules in
    let is : is_seen_twice taken frame ≡ c.has.result
    = twice_next latest c.args.time taken c.forget_before.new.self.recent.items frame c.args.self.now later seen
    c.forget_before.ensures.left refl c.forget_before.ensures.few c.forget_before.ensures.first ∙ has in
    elim c.if-has.branch [
      | then-has w ↦
          let more_by_one : c.if-has.self.seen_twice ≡ more c.args.self.now.seen_twice 1 = search rules in
          more_by_one ∙ sym (cond-true (is_seen_twice taken frame) (more c.args.self.now.seen_twice 1) c.args.self.now.seen_twice (is ∙ w.if-has.true))
      | else-has w ↦
          let the_same : c.if-has.self.seen_twice ≡ c.args.self.now.seen_twice = search rules in
          the_same ∙ sym (cond-false (is_seen_twice taken frame) (more c.args.self.now.seen_twice 1) c.args.self.now.seen_twice (is ∙ w.if-has.false))
    ]
