use Rattle.std.proofs.Common.{◌≡◌, ◌≤◌, ◌-◌, ◌^◌, ℕ, suc, [], drop, length, sym, ap, subst, ◌∙◌, arith}
use Rattle.vt_names.specs.Registry.{Set}
use Rattle.vt_node.specs.Watches.{first_silent_of}
use Rattle.vt_node.specs.Registries.{AreHeardSince}
use Rattle.vt_node.specs.Watches.{heard_of}
use Rattle.vt_node.proofs.RestOfList.{beyond}
use Rattle.vt_node.proofs.EarliestTimes.{looked-silent, looked-since}
use Rattle.vt_node.proofs.RestOfList.{all-dropped}
use Rattle.vt_node.proofs.watched.look.Goals as goal

pub loop-place-init : goal.loop-place-init
loop-place-init c =
    let heard = heard_of c.args.watch.now in
    let none : [] ≡ drop c.len-place.result c.args.registry.now.sets = sym (all-dropped c.args.registry.now.sets c.len-place.result c.len-place.ensures.count) in record {
      within = omega (arith, c.len-place.ensures.count);
      silent = ap (first_silent_of c.args.now heard) none;
      earliest = subst (AreHeardSince (2 ^ 64 - 1) heard) none tt;
    }

pub loop-place-preserved-in-Some : goal.loop-place-preserved-in-Some
loop-place-preserved-in-Some c =
    let heard = heard_of c.args.watch.now in
    let sets = c.args.registry.now.sets in
    let set : Set = c.in-Some.set.now in
    let place : ℕ = c.loop-place.place in
    let next : place ≡ suc (place - 1) = omega arith in
    let before = c.loop-place.invariant in
    let there = sym c.in-Some.ensures in record {
      within = omega (arith, before.within);
      silent =
          looked-silent heard sets (place - 1) set there c.address.result c.address.ensures c.args.now c.loop-place.found.silent c.look_at-found.result.silent
          (before.silent ∙ ap (λ n. first_silent_of c.args.now heard (drop n sets)) next) c.look_at-found.ensures.silent;
      earliest =
          looked-since heard sets (place - 1) set there c.address.result c.address.ensures c.loop-place.found.earliest c.look_at-found.result.earliest
          (subst (λ n. AreHeardSince c.loop-place.found.earliest heard (drop n sets)) next before.earliest) c.look_at-found.ensures.earliest;
    }

pub loop-place-preserved : goal.loop-place-preserved
loop-place-preserved c =
    let sets = c.args.registry.now.sets in
    let ended : length sets ≤ c.loop-place.place - 1 = beyond sets (c.loop-place.place - 1) (sym c.in_default.ensures) in
    absurd (omega (arith, c.loop-place.invariant.within))
