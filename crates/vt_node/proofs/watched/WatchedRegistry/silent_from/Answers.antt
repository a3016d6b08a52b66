use Rattle.std.proofs.Common.{◌≡◌, ◌≤◌, ◌-◌, ℕ, suc, List, drop, true, length, None, sym, ap, subst, ◌∙◌, arith}
use Rattle.std.specs.List.{slice_get}
use Rattle.vt_can.specs.transport.FirstTimes.{IsFirstTime}
use Rattle.vt_names.specs.Registry.{Set}
use Rattle.vt_node.specs.Registries.{Watched}
use Rattle.vt_node.specs.Watches.{heard_of, is_silent, SomeSilent}
use Rattle.vt_node.proofs.FirstSilence.{no_set_silent, first_from}
use Rattle.vt_node.proofs.RestOfList.{all-dropped, beyond}
use Rattle.vt_node.proofs.watched.WatchedRegistry.silent_from.Goals as goal

pub loop-place-init : goal.loop-place-init
loop-place-init c =
    let sets = c.args.self.now.sets in
    let count : c.len-place.result ≡ length sets = c.len-place.ensures.count ∙ ap (λ (w : Watched). length w.sets) c.self.view_is in
    record {
      within = omega (arith, count);
      first = subst (λ (xs : List Set). IsFirstTime (SomeSilent (heard_of c.args.self.now.watch) xs) None) (sym (all-dropped sets c.len-place.result count)) (no_set_silent (heard_of c.args.self.now.watch));
    }

pub loop-place-preserved-in-Some : goal.loop-place-preserved-in-Some
loop-place-preserved-in-Some c =
    let sets = c.args.self.now.sets in
    let place : ℕ = c.loop-place.place in
    let next : place ≡ suc (place - 1) = omega arith in
    let there = sym c.in-Some.ensures in
    let before = subst (λ (n : ℕ). IsFirstTime (SomeSilent (heard_of c.args.self.now.watch) (drop n sets)) c.loop-place.first) next c.loop-place.invariant.first in
    let own = subst (λ (w : Watched). IsFirstTime (λ now. is_silent now (heard_of w.watch c.address.result) ≡ true) c.silent_from.result) c.self.view_is c.silent_from.ensures in
    record {
      within = omega (arith, c.loop-place.invariant.within);
      first = subst (IsFirstTime (SomeSilent (heard_of c.args.self.now.watch) (drop (place - 1) sets))) (sym c.earlier-first.ensures)
          (first_from (heard_of c.args.self.now.watch) sets (place - 1) c.in-Some.set.now c.address.result c.loop-place.first c.silent_from.result
          (ap (λ (w : Watched). slice_get w.sets (place - 1)) (sym c.self.view_is) ∙ there) c.address.ensures before own);
    }

pub loop-place-preserved : goal.loop-place-preserved
loop-place-preserved c =
    let sets = c.args.self.now.sets in
    let none = ap (λ (w : Watched). slice_get w.sets (c.loop-place.place - 1)) (sym c.self.view_is) ∙ sym c.in_default.ensures in
    let ended : length sets ≤ c.loop-place.place - 1 = beyond sets (c.loop-place.place - 1) none in
    absurd (omega (arith, ended, c.loop-place.invariant.within))
