use Rattle.std.proofs.Common.{rules, ◌≡◌, ◌∷◌, [], ◌++◌, slice_index_or, ◌-◌, subst, sym, ◌∙◌, ap}
use Rattle.log_stats.specs.Seconds.{Sent, HasCounted}
use Rattle.log_stats.specs.declared.busy_seconds.BusySecond.{BusySecond}
use Rattle.log_stats.specs.declared.busy_seconds.BusySeconds.{BusySeconds}
use Rattle.std.specs.Vec.{vec_len}
use Rattle.log_stats.proofs.Seconds.{taken_same, taken_new, taken_first, put_same}
use Rattle.log_stats.proofs.busy_seconds.BusySeconds.take.Goals as goal
use Rattle.log_stats.proofs.busy_seconds.BusySeconds.take.Goals.{in-Some+else-last-start, in_default}

pub returns-then-last-start : goal.returns-then-last-start
returns-then-last-start c frames latest later counted =
    taken_same frames latest (record { time = c.args.time; length = c.args.length }) c.args.self.now.seconds.items _ c.in-Some.last.now _
    counted later (search rules) (search rules) (search rules) (search rules) (search rules)

pub returns : goal.returns
returns c frames latest later counted =
    let frame : Sent = record { time = c.args.time; length = c.args.length } in
    let new : BusySecond = record { start = c.start_at-start.result; counts = c.add_frame-2.new.self } in
    let pushed : c.push.new.self.items ≡ c.match-last_mut.self.seconds.items ++ new ∷ [] = search rules in
    elim c.match-last_mut.branch [
      | in-Some+else-last-start w ↦
          let last : w.in-Some.last.now ≡ slice_index_or c.args.self.now.seconds.items (vec_len c.args.self.now.seconds - 1) w.in-Some.last.now = search rules in
          let kept : c.match-last_mut.self.seconds.items ≡ c.args.self.now.seconds.items
          = ap (λ (it : BusySeconds). it.seconds.items) w.self-is ∙ put_same c.args.self.now.seconds.items (vec_len c.args.self.now.seconds - 1) w.in-Some.last.now last in
          subst (HasCounted (frame ∷ frames) c.args.time) (sym (pushed ∙ ap (λ all. all ++ new ∷ []) kept))
          (taken_new frames latest frame c.args.self.now.seconds.items (vec_len c.args.self.now.seconds - 1) w.in-Some.last.now new counted later
          (search rules) last (search rules) (search rules) (search rules))
      | in_default w ↦
          let none : c.args.self.now.seconds.items ≡ [] = search rules in
          let kept : c.match-last_mut.self.seconds.items ≡ c.args.self.now.seconds.items = search rules in
          subst (HasCounted (frame ∷ frames) c.args.time) (sym (pushed ∙ ap (λ all. all ++ new ∷ []) kept))
          (taken_first frames latest frame c.args.self.now.seconds.items new counted none (search rules) (search rules))
    ]
