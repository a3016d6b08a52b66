use Rattle.std.proofs.Common.{◌≡◌, ◌≤◌, List, Some, None, length, refl, sym, ap, subst, ◌∙◌, ◌<◌, arith, inr}
use Rattle.vt_names.specs.Registry.{Set, without}
use Rattle.vt_server.specs.frame.TimeoutActs.{first_silent, silences}
use Rattle.vt_node.specs.Registries.{Watched}
use Rattle.vt_server.specs.frame.TimeoutContracts.{ClosesSets}
use Rattle.vt_server.specs.States.{state_of}
use Rattle.vt_server.specs.Terminals.{State, after_acts}
use Rattle.vt_server.proofs.lemmas.timeouts.SilentSets.{closing-is, closes, fewer, none-silent, next-silent}
use Rattle.vt_server.proofs.lemmas.timeouts.FirstSilentSet.{silent_of}
use Rattle.vt_server.proofs.terminal.Terminal.close_silent.Goals as goal

pub loop-address-init : goal.loop-address-init
loop-address-init c = record {
  state = refl;
  closes = record { node = refl; sets = omega arith; uploads = λ address. inr (refl, refl) };
}

pub loop-address-preserved : goal.loop-address-preserved
loop-address-preserved c =
    let t = c.loop-address.self in
    let a = c.in-Some.address in
    let same = c.first_silent.ensures.same in
    let first : first_silent (state_of t) (state_of t).sets ≡ Some a =
    sym (silent_of (state_of t) t.registry.sets) ∙ sym c.in-Some.ensures.found in
    let sets = c.close.ensures.sets ∙ ap (λ (w : Watched). without a w.sets) same in
    let capacity : t.registry.capacity ≤ c.close.new.self.capacity = subst (λ (w : Watched). w.capacity ≤ c.close.new.self.capacity) same c.close.ensures.capacity in
    let content = c.remove.ensures.content in
    record {
      state =
          ap (λ (s : State). after_acts s (silences s))
          (closing-is t a c.close.new.self c.remove.new.self sets (c.close.ensures.watch ∙ ap (λ (w : Watched). w.watch) same) content)
          ∙ next-silent (state_of t) a first
          ∙ c.loop-address.invariant.state;
      closes =
          closes t a c.close.new.self c.remove.new.self c.args.self.now c.loop-address.invariant.closes
          sets capacity content c.remove.ensures.spare;
    }

pub loop-address-smaller : goal.loop-address-smaller
loop-address-smaller c =
    let t = c.loop-address.self in
    let a = c.in-Some.address in
    let first : first_silent (state_of t) (state_of t).sets ≡ Some a =
    sym (silent_of (state_of t) t.registry.sets) ∙ sym c.in-Some.ensures.found in
    subst (λ (l : List Set). length l < length t.registry.sets)
    (sym (c.close.ensures.sets ∙ ap (λ (w : Watched). without a w.sets) c.first_silent.ensures.same))
    (fewer (state_of t) t.registry.sets a first)

pub returns : goal.returns
returns c =
    let t = c.loop-address.self in
    let none : first_silent (state_of t) (state_of t).sets ≡ None =
    sym (silent_of (state_of t) t.registry.sets) ∙ sym c.in_default.ensures.found in
    let same = sym c.first_silent.ensures.same in
    record {
      state =
          subst (λ (w : Watched). state_of (record t { registry = w }) ≡ after_acts (state_of c.args.self.now) (silences (state_of c.args.self.now))) same
          (sym (none-silent (state_of t) none) ∙ c.loop-address.invariant.state);
      closes = subst (λ (w : Watched). ClosesSets c.args.self.now (record t { registry = w })) same c.loop-address.invariant.closes;
    }
