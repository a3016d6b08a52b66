use Rattle.std.proofs.Common.{◌≡◌, ◌∙◌, Err, inr, refl, sym, ap, rules}
use Rattle.std.proofs.KnownBytes.{Keeps-refl}
use Rattle.vt_program.specs.Runs.{IsStart}
use Rattle.vt_server.specs.States.{state_of}
use Rattle.vt_program.proofs.Loading.{front_written, long_written, never_long, replay_written, start_alone, start_with_set, whole_written}
use Rattle.vt_program.proofs.program.replay_on.Goals.{in-Some+in_ok-load, in_default}
use Rattle.vt_program.proofs.program.replay_on.Goals as goal

pub returns-in-Ok-flush-clause-replayed : goal.returns-in-Ok-flush-clause-replayed
returns-in-Ok-flush-clause-replayed g c =
    let files = g.F.Open.file c.args.files.now in
    let options = c.args.options.now in
    let held = g.W.Write.contents in
    let terminal = c.match-options.terminal in
    let fresh = c.requires.fresh in
    let begun : IsStart files options (state_of terminal) = elim c.match-options.branch [
      | in-Some+in_ok-load w ↦
          start_with_set files options (state_of c.args.terminal.now) (state_of terminal) w.in-Some.preload w.in-Some.is
          (rw (ap state_of w.terminal-is) w.in_ok-load.ensures.set) fresh
      | in_default w ↦
          start_alone files options (state_of terminal) (search rules) (ap state_of w.terminal-is ∙ fresh)
    ] in
    let same : g.F.Open.file c.match-options.files ≡ files = elim c.match-options.branch [
      | in-Some+in_ok-load w ↦ ap g.F.Open.file w.files-is ∙ w.load.ensures.stay
      | in_default w ↦ ap g.F.Open.file w.files-is
    ] in
    record {
      start = state_of terminal;
      given = begun;
      writes = replay_written (files options.file.now) _ (held c.args.out.now) (held c.replay_with_notes.new.writer) (held c.flush.new.self) (state_of terminal)
          (state_of c.replay_with_notes.new.terminal) c.in-Ok-replay_with_notes._counts (rw (same, sym c.new-log.ensures) at c.in-Ok.ensures.bytes) c.in-Ok-replay_with_notes.ensures.text c.flush.ensures.bytes;
    }

pub returns-in-Err-clause-before : goal.returns-in-Err-clause-before
returns-in-Err-clause-before g c =
    let files = g.F.Open.file c.args.files.now in
    let options = c.args.options.now in
    let held = g.W.Write.contents in
    let terminal = c.match-options.terminal in
    let fresh = c.requires.fresh in
    let begun : IsStart files options (state_of terminal) = elim c.match-options.branch [
      | in-Some+in_ok-load w ↦
          start_with_set files options (state_of c.args.terminal.now) (state_of terminal) w.in-Some.preload w.in-Some.is
          (rw (ap state_of w.terminal-is) w.in_ok-load.ensures.set) fresh
      | in_default w ↦
          start_alone files options (state_of terminal) (search rules) (ap state_of w.terminal-is ∙ fresh)
    ] in
    inr (record { start = state_of terminal; given = begun; faulty = refl; written = Keeps-refl (held c.args.out.now) })

pub returns-in-Err-replay_with_notes-clause-before : goal.returns-in-Err-replay_with_notes-clause-before
returns-in-Err-replay_with_notes-clause-before g c =
    let files = g.F.Open.file c.args.files.now in
    let options = c.args.options.now in
    let held = g.W.Write.contents in
    let terminal = c.match-options.terminal in
    let fresh = c.requires.fresh in
    let begun : IsStart files options (state_of terminal) = elim c.match-options.branch [
      | in-Some+in_ok-load w ↦
          start_with_set files options (state_of c.args.terminal.now) (state_of terminal) w.in-Some.preload w.in-Some.is
          (rw (ap state_of w.terminal-is) w.in_ok-load.ensures.set) fresh
      | in_default w ↦
          start_alone files options (state_of terminal) (search rules) (ap state_of w.terminal-is ∙ fresh)
    ] in
    let same : g.F.Open.file c.match-options.files ≡ files = elim c.match-options.branch [
      | in-Some+in_ok-load w ↦ ap g.F.Open.file w.files-is ∙ w.load.ensures.stay
      | in_default w ↦ ap g.F.Open.file w.files-is
    ] in
    let end = state_of c.replay_with_notes.new.terminal in
    let old = held c.args.out.now in
    let now = held c.replay_with_notes.new.writer in
    inr (record {
      start = state_of terminal;
      given = begun;
      faulty = long_written (files options.file.now) _ old now (state_of terminal) end c.in-Err-replay_with_notes.why (rw (same, sym c.new-log.ensures) at c.in-Ok.ensures.bytes)
          (λ e. c.in-Err-replay_with_notes.ensures.too_long (ap Err e));
      written = front_written (files options.file.now) _ old now (state_of terminal) end c.in-Err-replay_with_notes.why (rw (same, sym c.new-log.ensures) at c.in-Ok.ensures.bytes)
          c.in-Err-replay_with_notes.ensures.stopped (λ e. c.in-Err-replay_with_notes.ensures.too_long (ap Err e));
    })

pub returns-clause-before : goal.returns-clause-before
returns-clause-before g c =
    let files = g.F.Open.file c.args.files.now in
    let options = c.args.options.now in
    let held = g.W.Write.contents in
    let terminal = c.match-options.terminal in
    let fresh = c.requires.fresh in
    let begun : IsStart files options (state_of terminal) = elim c.match-options.branch [
      | in-Some+in_ok-load w ↦
          start_with_set files options (state_of c.args.terminal.now) (state_of terminal) w.in-Some.preload w.in-Some.is
          (rw (ap state_of w.terminal-is) w.in_ok-load.ensures.set) fresh
      | in_default w ↦
          start_alone files options (state_of terminal) (search rules) (ap state_of w.terminal-is ∙ fresh)
    ] in
    let same : g.F.Open.file c.match-options.files ≡ files = elim c.match-options.branch [
      | in-Some+in_ok-load w ↦ ap g.F.Open.file w.files-is ∙ w.load.ensures.stay
      | in_default w ↦ ap g.F.Open.file w.files-is
    ] in
    inr (record {
      start = state_of terminal;
      given = begun;
      faulty = never_long (files options.file.now);
      written = whole_written (files options.file.now) _ (held c.args.out.now) (held c.replay_with_notes.new.writer) (held c.flush.new.self) (state_of terminal)
          (state_of c.replay_with_notes.new.terminal) c.in-Ok-replay_with_notes._counts (rw (same, sym c.new-log.ensures) at c.in-Ok.ensures.bytes) c.in-Ok-replay_with_notes.ensures.text c.flush.ensures.bytes;
    })
