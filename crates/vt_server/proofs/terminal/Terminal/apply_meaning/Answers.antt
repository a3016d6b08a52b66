use Rattle.std.proofs.Common.{ℕ, sym, ap, subst, ◌∙◌}
use Rattle.vt_names.specs.Registry.{set_at, joining}
use Rattle.vt_server.specs.frame.FrameContracts.{AppliesMeaning}
use Rattle.vt_server.specs.state.AddressViews.{after_master}
use Rattle.vt_server.specs.States.{state_of}
use Rattle.vt_server.specs.Terminals.{State, part, put}
use Rattle.vt_node.specs.declared.bus.FrameMeaning.{FrameMeaning}
use Rattle.vt_node.specs.declared.bus.FrameMeaning.TheVariants.{Member}
use Rattle.vt_server.proofs.lemmas.frame.FrameStep.{takes-master, takes-member, takes-nothing, idle-by}
use Rattle.vt_server.proofs.lemmas.timeouts.FirstSilentSet.{registry-state}
use Rattle.vt_server.proofs.terminal.Terminal.apply_meaning.Goals as goal

pub returns-in-Master-clause-takes : goal.returns-in-Master-clause-takes
returns-in-Master-clause-takes c =
    let s = state_of c.args.self.now in
    let t = state_of c.register.new.self in
    let outputs = c.args.outputs.now.items in
    let count = c.in-Master.count in
    subst (λ (n : FrameMeaning). AppliesMeaning s n c.args.frame.now t outputs outputs) (sym c.in-Master.is)
    (takes-master s t count c.args.frame.now outputs
    (c.register.ensures.state ∙ ap (λ (a : ℕ). put a (after_master a (part a s) (part a s).holder count) s) c.source-source.ensures))

pub returns-in-Member-clause-takes : goal.returns-in-Member-clause-takes
returns-in-Member-clause-takes c =
    let s = state_of c.args.self.now in
    let outputs = c.args.outputs.now.items in
    let name = c.in-Member.name in
    let registry = c.member-refused.new.self in
    let sets = registry.sets in
    subst (λ (n : FrameMeaning). AppliesMeaning s n c.args.frame.now (state_of (record c.args.self.now { registry = registry })) outputs outputs) (sym c.in-Member.is)
    (subst (λ (x : State). AppliesMeaning s (Member name) c.args.frame.now x outputs outputs) (sym (registry-state c.args.self.now registry c.member-refused.ensures.watch))
    (takes-member s name c.args.frame.now outputs sets
    (c.member-refused.ensures.sets ∙ ap (λ (a : ℕ). joining (set_at a s.sets) name s.sets) c.source-source.ensures)))

pub returns-in_default-clause-takes : goal.returns-in_default-clause-takes
returns-in_default-clause-takes c =
    let n = c.args.meaning.now in
    takes-nothing (state_of c.args.self.now) n c.args.frame.now c.args.outputs.now.items
    (idle-by n c.requires.no_claim c.in_default.not-Master c.in_default.not-Member c.in_default.not-Message c.in_default.not-Tp c.in_default.not-Etp)
