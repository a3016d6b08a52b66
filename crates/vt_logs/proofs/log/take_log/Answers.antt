use Rattle.std.proofs.Common.{◌≡◌, ◌≤◌, ◌<◌, ℕ, length, length-take, take, refl, sym, ap, subst, ◌∙◌, arith}
use Rattle.std.proofs.lemmas.Result.{err_from_is_err_and}
use Rattle.std.specs.Io.KnownBytes.{Consumes}
use Rattle.std.proofs.KnownBytes.{Keeps-refl}
use Rattle.vt_server.specs.States.{state_of}
use Rattle.vt_logs.specs.Texts.{no_counts}
use Rattle.vt_logs.specs.Progress.{scene, replay_point, ReplayPoint}
use Rattle.vt_logs.proofs.ReplayInvariants.{way_drawn, way_flushed, way_start, way_more, way_reads, way_end, read_front}
use Rattle.vt_logs.proofs.LongLines.{way_long, end_long}
use Rattle.vt_logs.proofs.EarlyEndInLines.{on_any_err}
use Rattle.vt_logs.proofs.EarlyEndOfLog.{begun_none, begun_first, ends_in_line, stopped_long, way_stop, way_stops, way_last, way_counts}
use Rattle.vt_logs.proofs.log.take_log.Goals as goal

pub loop-init : goal.loop-init
loop-init g c = record {
  way = way_start (scene c.args.terminal.now c.begin.new.self.screen.items) (g.W.Write.contents c.begin.new.writer) (g.R.Read.remaining c.args.reader.now)
      c.begin.new.self.counts c.begin.new.self.pending.items (c.begin.ensures.counts ∙ c.requires.counts) (rw c.begin.ensures.pending c.requires.pending);
  chunk = c.in_ok-chunk.ensures;
}

pub end_log-requires-clause-drawn : goal.end_log-requires-clause-drawn
end_log-requires-clause-drawn g c =
    let start : ReplayPoint = replay_point c.args.terminal.now c.begin.new.self.screen.items no_counts (g.W.Write.contents c.begin.new.writer) in
    let now : ReplayPoint = replay_point c.loop.terminal c.loop.progress.screen.items c.loop.progress.counts (g.W.Write.contents c.loop.writer) in
    way_drawn start now (g.R.Read.remaining c.args.reader.now) (g.R.Read.remaining c.loop.reader) c.loop.progress.pending.items c.loop.counter c.loop.invariant.way c.in_ok-begin.ensures.drawn

pub take_chunk-requires-clause-drawn : goal.take_chunk-requires-clause-drawn
take_chunk-requires-clause-drawn g c =
    let start : ReplayPoint = replay_point c.args.terminal.now c.begin.new.self.screen.items no_counts (g.W.Write.contents c.begin.new.writer) in
    let now : ReplayPoint = replay_point c.loop.terminal c.loop.progress.screen.items c.loop.progress.counts (g.W.Write.contents c.loop.writer) in
    way_drawn start now (g.R.Read.remaining c.args.reader.now) (g.R.Read.remaining c.loop.reader) c.loop.progress.pending.items c.loop.counter c.loop.invariant.way c.in_ok-begin.ensures.drawn

pub returns-then-count-eq0-clause-text : goal.returns-then-count-eq0-clause-text
returns-then-count-eq0-clause-text g c =
    let start : ReplayPoint = replay_point c.args.terminal.now c.begin.new.self.screen.items no_counts (g.W.Write.contents c.begin.new.writer) in
    let now : ReplayPoint = replay_point c.loop.terminal c.loop.progress.screen.items c.loop.progress.counts (g.W.Write.contents c.flush.new.writer) in
    let way = way_flushed start (scene c.loop.terminal c.loop.progress.screen.items) c.loop.progress.counts (g.W.Write.contents c.loop.writer) (g.W.Write.contents c.flush.new.writer)
    (g.R.Read.remaining c.args.reader.now) (g.R.Read.remaining c.loop.reader) c.loop.progress.pending.items c.loop.counter c.loop.invariant.way c.flush.ensures.kept in
    let done : ReplayPoint = replay_point c.end_log.new.terminal c.end_log.new.self.screen.items c.end_log.new.self.counts (g.W.Write.contents c.end_log.new.writer) in
    let items = c.loop.chunk in
    let filled : 0 < length c.next_bytes.new.buf = omega (arith, c.next_bytes.auto.buf, c.deref_mut.ensures.len, items.ok.0, c.loop.invariant.chunk) in
    way_end start now done (g.R.Read.remaining c.args.reader.now) (g.R.Read.remaining c.loop.reader) (g.R.Read.remaining c.next_bytes.new.self) (g.W.Write.contents c.args.writer.now) (g.W.Write.contents c.put_counts.new.writer)
    c.loop.progress.pending.items (take c.in-Ok.count c.next_bytes.new.buf) c.loop.counter refl c.in_ok-begin.ensures.drawn c.in_ok-begin.ensures.text way c.in-Ok.ensures.bytes.0 (ap (λ (n : ℕ). take n c.next_bytes.new.buf) c.if-count-eq0.true)
    (c.in-Ok.ensures.bytes.1 c.if-count-eq0.true filled) c.in_ok-end_log.ensures.takes c.in_ok-put_counts.ensures.text

pub loop-preserved : goal.loop-preserved
loop-preserved g c =
    let start : ReplayPoint = replay_point c.args.terminal.now c.begin.new.self.screen.items no_counts (g.W.Write.contents c.begin.new.writer) in
    let now : ReplayPoint = replay_point c.loop.terminal c.loop.progress.screen.items c.loop.progress.counts (g.W.Write.contents c.flush.new.writer) in
    let way = way_flushed start (scene c.loop.terminal c.loop.progress.screen.items) c.loop.progress.counts (g.W.Write.contents c.loop.writer) (g.W.Write.contents c.flush.new.writer)
    (g.R.Read.remaining c.args.reader.now) (g.R.Read.remaining c.loop.reader) c.loop.progress.pending.items c.loop.counter c.loop.invariant.way c.flush.ensures.kept in
    let after : ReplayPoint = replay_point c.take_chunk.new.terminal c.take_chunk.new.self.screen.items c.take_chunk.new.self.counts (g.W.Write.contents c.take_chunk.new.writer) in
    let items = c.loop.chunk in
    let full : length c.next_bytes.new.buf ≡ items.len = omega (arith, c.next_bytes.auto.buf, c.deref_mut.ensures.len) in
    let short : length (take c.in-Ok.count c.deref.result.now) ≤ 65536 = simp length-take (omega (arith, c.deref.ensures.len, items.ok.0, c.loop.invariant.chunk)) in
    let some : 0 < length (take c.in-Ok.count c.deref.result.now) = simp length-take (omega (arith, c.deref.ensures.len, full, c.in-Ok.ensures.bound, c.if-count-eq0.false)) in
    let front = read_front c.in-Ok.count items.len c.next_bytes.new.buf items.items c.deref.result.now c.deref.ensures.value full in
    let consumed = subst (Consumes (g.R.Read.remaining c.loop.reader) (g.R.Read.remaining c.next_bytes.new.self)) front c.in-Ok.ensures.bytes.0 in
    record {
      way = way_more start now after (g.R.Read.remaining c.args.reader.now) (g.R.Read.remaining c.loop.reader) (g.R.Read.remaining c.next_bytes.new.self) c.loop.progress.pending.items c.take_chunk.new.self.pending.items
          (take c.in-Ok.count c.deref.result.now) c.loop.counter way consumed some short c.in_ok-take_chunk.ensures.taken c.in_ok-take_chunk.ensures.whole;
      chunk = sym (ap length c.deref.ensures.value) ∙ c.deref.ensures.len ∙ items.ok.0 ∙ c.loop.invariant.chunk;
    }

pub returns-in_err-end_log-clause-too_long : goal.returns-in_err-end_log-clause-too_long
returns-in_err-end_log-clause-too_long g c =
    let start : ReplayPoint = replay_point c.args.terminal.now c.begin.new.self.screen.items no_counts (g.W.Write.contents c.begin.new.writer) in
    let now : ReplayPoint = replay_point c.loop.terminal c.loop.progress.screen.items c.loop.progress.counts (g.W.Write.contents c.flush.new.writer) in
    let way = way_flushed start (scene c.loop.terminal c.loop.progress.screen.items) c.loop.progress.counts (g.W.Write.contents c.loop.writer) (g.W.Write.contents c.flush.new.writer)
    (g.R.Read.remaining c.args.reader.now) (g.R.Read.remaining c.loop.reader) c.loop.progress.pending.items c.loop.counter c.loop.invariant.way c.flush.ensures.kept in
    let p = err_from_is_err_and c.from_residual-in_err-end_log.result c.from_residual-in_err-end_log.ensures.1 in
    λ e. let stay = c.in_err-end_log.ensures.stay (let same = p.1 in let is = p.2 in cc) in
    end_long start now (state_of c.end_log.new.terminal) (g.R.Read.remaining c.args.reader.now) (g.R.Read.remaining c.loop.reader) (g.W.Write.contents c.args.writer.now) (g.W.Write.contents c.end_log.new.writer)
    c.loop.progress.pending.items c.loop.counter refl c.in_ok-begin.ensures.drawn c.in_ok-begin.ensures.text way (c.in_err-end_log.ensures.too_long (let same = p.1 in let is = p.2 in cc)) stay.0 stay.1

pub returns-in_err-take_chunk-clause-too_long : goal.returns-in_err-take_chunk-clause-too_long
returns-in_err-take_chunk-clause-too_long g c =
    let start : ReplayPoint = replay_point c.args.terminal.now c.begin.new.self.screen.items no_counts (g.W.Write.contents c.begin.new.writer) in
    let now : ReplayPoint = replay_point c.loop.terminal c.loop.progress.screen.items c.loop.progress.counts (g.W.Write.contents c.flush.new.writer) in
    let way = way_flushed start (scene c.loop.terminal c.loop.progress.screen.items) c.loop.progress.counts (g.W.Write.contents c.loop.writer) (g.W.Write.contents c.flush.new.writer)
    (g.R.Read.remaining c.args.reader.now) (g.R.Read.remaining c.loop.reader) c.loop.progress.pending.items c.loop.counter c.loop.invariant.way c.flush.ensures.kept in
    let items = c.loop.chunk in
    let full : length c.next_bytes.new.buf ≡ items.len = omega (arith, c.next_bytes.auto.buf, c.deref_mut.ensures.len) in
    let front = read_front c.in-Ok.count items.len c.next_bytes.new.buf items.items c.deref.result.now c.deref.ensures.value full in
    let consumed = subst (Consumes (g.R.Read.remaining c.loop.reader) (g.R.Read.remaining c.next_bytes.new.self)) front c.in-Ok.ensures.bytes.0 in
    let p = err_from_is_err_and c.from_residual-in_err-take_chunk.result c.from_residual-in_err-take_chunk.ensures.1 in
    λ e. way_long start now (state_of c.take_chunk.new.terminal) (g.R.Read.remaining c.args.reader.now) (g.R.Read.remaining c.loop.reader) (g.R.Read.remaining c.next_bytes.new.self) (g.W.Write.contents c.args.writer.now)
    (g.W.Write.contents c.take_chunk.new.writer) c.loop.progress.pending.items (take c.in-Ok.count c.deref.result.now) c.loop.counter refl c.in_ok-begin.ensures.drawn c.in_ok-begin.ensures.text
    way consumed (c.in_err-take_chunk.ensures.too_long (let same = p.1 in let is = p.2 in cc))

pub returns-in_err-chunk-clause-stopped : goal.returns-in_err-chunk-clause-stopped
returns-in_err-chunk-clause-stopped g c =
    let held = g.W.Write.contents c.args.writer.now in
    on_any_err c.from_residual.result (begun_none (g.R.Read.remaining c.args.reader.now) (state_of c.args.terminal.now) held held (Keeps-refl held))

pub returns-in_err-begin-clause-stopped : goal.returns-in_err-begin-clause-stopped
returns-in_err-begin-clause-stopped g c =
    on_any_err c.from_residual-in_err-begin.result
    (begun_first (g.R.Read.remaining c.args.reader.now) (state_of c.args.terminal.now) (g.W.Write.contents c.args.writer.now) (g.W.Write.contents c.begin.new.writer) c.in_err-begin.ensures.front)

pub returns-in_err-flush-clause-stopped : goal.returns-in_err-flush-clause-stopped
returns-in_err-flush-clause-stopped g c =
    let start : ReplayPoint = replay_point c.args.terminal.now c.begin.new.self.screen.items no_counts (g.W.Write.contents c.begin.new.writer) in
    let now : ReplayPoint = replay_point c.loop.terminal c.loop.progress.screen.items c.loop.progress.counts (g.W.Write.contents c.loop.writer) in
    on_any_err c.from_residual-in_err-flush.result
    (way_stop start now (g.R.Read.remaining c.args.reader.now) (g.R.Read.remaining c.loop.reader) (g.W.Write.contents c.args.writer.now) (g.W.Write.contents c.flush.new.writer) c.loop.progress.pending.items c.loop.counter
    refl c.in_ok-begin.ensures.drawn c.in_ok-begin.ensures.text c.loop.invariant.way c.flush.ensures.kept)

pub returns-in_err-end_log-clause-stopped : goal.returns-in_err-end_log-clause-stopped
returns-in_err-end_log-clause-stopped g c =
    let start : ReplayPoint = replay_point c.args.terminal.now c.begin.new.self.screen.items no_counts (g.W.Write.contents c.begin.new.writer) in
    let now : ReplayPoint = replay_point c.loop.terminal c.loop.progress.screen.items c.loop.progress.counts (g.W.Write.contents c.flush.new.writer) in
    let way = way_flushed start (scene c.loop.terminal c.loop.progress.screen.items) c.loop.progress.counts (g.W.Write.contents c.loop.writer) (g.W.Write.contents c.flush.new.writer)
    (g.R.Read.remaining c.args.reader.now) (g.R.Read.remaining c.loop.reader) c.loop.progress.pending.items c.loop.counter c.loop.invariant.way c.flush.ensures.kept in
    let items = c.loop.chunk in
    let filled : 0 < length c.next_bytes.new.buf = omega (arith, c.next_bytes.auto.buf, c.deref_mut.ensures.len, items.ok.0, c.loop.invariant.chunk) in
    on_any_err c.from_residual-in_err-end_log.result
    (way_last start now (state_of c.end_log.new.terminal) (g.R.Read.remaining c.args.reader.now) (g.R.Read.remaining c.loop.reader) (g.R.Read.remaining c.next_bytes.new.self) (g.W.Write.contents c.args.writer.now) (g.W.Write.contents c.end_log.new.writer) c.loop.progress.pending.items (take c.in-Ok.count c.next_bytes.new.buf)
    c.loop.counter refl c.in_ok-begin.ensures.drawn c.in_ok-begin.ensures.text way c.in-Ok.ensures.bytes.0 (ap (λ (n : ℕ). take n c.next_bytes.new.buf) c.if-count-eq0.true) (c.in-Ok.ensures.bytes.1 c.if-count-eq0.true filled) c.in_err-end_log.ensures.stopped)

pub returns-in_err-put_counts-clause-stopped : goal.returns-in_err-put_counts-clause-stopped
returns-in_err-put_counts-clause-stopped g c =
    let start : ReplayPoint = replay_point c.args.terminal.now c.begin.new.self.screen.items no_counts (g.W.Write.contents c.begin.new.writer) in
    let now : ReplayPoint = replay_point c.loop.terminal c.loop.progress.screen.items c.loop.progress.counts (g.W.Write.contents c.flush.new.writer) in
    let way = way_flushed start (scene c.loop.terminal c.loop.progress.screen.items) c.loop.progress.counts (g.W.Write.contents c.loop.writer) (g.W.Write.contents c.flush.new.writer)
    (g.R.Read.remaining c.args.reader.now) (g.R.Read.remaining c.loop.reader) c.loop.progress.pending.items c.loop.counter c.loop.invariant.way c.flush.ensures.kept in
    let done : ReplayPoint = replay_point c.end_log.new.terminal c.end_log.new.self.screen.items c.end_log.new.self.counts (g.W.Write.contents c.end_log.new.writer) in
    let items = c.loop.chunk in
    let filled : 0 < length c.next_bytes.new.buf = omega (arith, c.next_bytes.auto.buf, c.deref_mut.ensures.len, items.ok.0, c.loop.invariant.chunk) in
    on_any_err c.from_residual-in_err-put_counts.result
    (way_counts start now done (g.R.Read.remaining c.args.reader.now) (g.R.Read.remaining c.loop.reader) (g.R.Read.remaining c.next_bytes.new.self) (g.W.Write.contents c.args.writer.now) (g.W.Write.contents c.put_counts.new.writer) c.loop.progress.pending.items (take c.in-Ok.count c.next_bytes.new.buf)
    c.loop.counter refl c.in_ok-begin.ensures.drawn c.in_ok-begin.ensures.text way c.in-Ok.ensures.bytes.0 (ap (λ (n : ℕ). take n c.next_bytes.new.buf) c.if-count-eq0.true) (c.in-Ok.ensures.bytes.1 c.if-count-eq0.true filled) c.in_ok-end_log.ensures.takes c.in_err-put_counts.ensures.front)

pub returns-in_err-take_chunk-clause-stopped : goal.returns-in_err-take_chunk-clause-stopped
returns-in_err-take_chunk-clause-stopped g c =
    let start : ReplayPoint = replay_point c.args.terminal.now c.begin.new.self.screen.items no_counts (g.W.Write.contents c.begin.new.writer) in
    let now : ReplayPoint = replay_point c.loop.terminal c.loop.progress.screen.items c.loop.progress.counts (g.W.Write.contents c.flush.new.writer) in
    let way = way_flushed start (scene c.loop.terminal c.loop.progress.screen.items) c.loop.progress.counts (g.W.Write.contents c.loop.writer) (g.W.Write.contents c.flush.new.writer)
    (g.R.Read.remaining c.args.reader.now) (g.R.Read.remaining c.loop.reader) c.loop.progress.pending.items c.loop.counter c.loop.invariant.way c.flush.ensures.kept in
    let items = c.loop.chunk in
    let full : length c.next_bytes.new.buf ≡ items.len = omega (arith, c.next_bytes.auto.buf, c.deref_mut.ensures.len) in
    let front = read_front c.in-Ok.count items.len c.next_bytes.new.buf items.items c.deref.result.now c.deref.ensures.value full in
    let consumed = subst (Consumes (g.R.Read.remaining c.loop.reader) (g.R.Read.remaining c.next_bytes.new.self)) front c.in-Ok.ensures.bytes.0 in
    on_any_err c.from_residual-in_err-take_chunk.result
    (way_stops start now (state_of c.take_chunk.new.terminal) (g.R.Read.remaining c.args.reader.now) (g.R.Read.remaining c.loop.reader) (g.R.Read.remaining c.next_bytes.new.self) (g.W.Write.contents c.args.writer.now) (g.W.Write.contents c.take_chunk.new.writer) c.loop.progress.pending.items (take c.in-Ok.count c.deref.result.now)
    c.loop.counter refl c.in_ok-begin.ensures.drawn c.in_ok-begin.ensures.text way consumed c.in_err-take_chunk.ensures.stopped)

pub returns-in_default-clause-stopped : goal.returns-in_default-clause-stopped
returns-in_default-clause-stopped g c =
    let start : ReplayPoint = replay_point c.args.terminal.now c.begin.new.self.screen.items no_counts (g.W.Write.contents c.begin.new.writer) in
    let now : ReplayPoint = replay_point c.loop.terminal c.loop.progress.screen.items c.loop.progress.counts (g.W.Write.contents c.flush.new.writer) in
    let way = way_flushed start (scene c.loop.terminal c.loop.progress.screen.items) c.loop.progress.counts (g.W.Write.contents c.loop.writer) (g.W.Write.contents c.flush.new.writer)
    (g.R.Read.remaining c.args.reader.now) (g.R.Read.remaining c.loop.reader) c.loop.progress.pending.items c.loop.counter c.loop.invariant.way c.flush.ensures.kept in
    way_stop start now (g.R.Read.remaining c.args.reader.now) (g.R.Read.remaining c.loop.reader) (g.W.Write.contents c.args.writer.now) now.held c.loop.progress.pending.items c.loop.counter refl c.in_ok-begin.ensures.drawn c.in_ok-begin.ensures.text way (Keeps-refl now.held)

pub returns-clause-stopped : goal.returns-clause-stopped
returns-clause-stopped g c =
    let start : ReplayPoint = replay_point c.args.terminal.now c.begin.new.self.screen.items no_counts (g.W.Write.contents c.begin.new.writer) in
    let now : ReplayPoint = replay_point c.loop.terminal c.loop.progress.screen.items c.loop.progress.counts (g.W.Write.contents c.loop.writer) in
    way_stop start now (g.R.Read.remaining c.args.reader.now) (g.R.Read.remaining c.loop.reader) (g.W.Write.contents c.args.writer.now) now.held c.loop.progress.pending.items c.loop.counter refl c.in_ok-begin.ensures.drawn c.in_ok-begin.ensures.text c.loop.invariant.way (Keeps-refl now.held)

pub returns-in_err-end_log-clause-cause : goal.returns-in_err-end_log-clause-cause
returns-in_err-end_log-clause-cause g c =
    let start : ReplayPoint = replay_point c.args.terminal.now c.begin.new.self.screen.items no_counts (g.W.Write.contents c.begin.new.writer) in
    let now : ReplayPoint = replay_point c.loop.terminal c.loop.progress.screen.items c.loop.progress.counts (g.W.Write.contents c.flush.new.writer) in
    let way = way_flushed start (scene c.loop.terminal c.loop.progress.screen.items) c.loop.progress.counts (g.W.Write.contents c.loop.writer) (g.W.Write.contents c.flush.new.writer)
    (g.R.Read.remaining c.args.reader.now) (g.R.Read.remaining c.loop.reader) c.loop.progress.pending.items c.loop.counter c.loop.invariant.way c.flush.ensures.kept in
    ends_in_line c.from_residual-in_err-end_log.result g.R.Source.steady g.W.Sink.steady (g.R.Read.remaining c.args.reader.now) c.in_err-end_log.field-0.0 c.from_residual-in_err-end_log.ensures.1
    c.in_err-end_log.ensures.fault
    (λ e. let stay = c.in_err-end_log.ensures.stay (let same = e in cc) in
    stopped_long (state_of c.args.terminal.now) (state_of c.end_log.new.terminal) (g.R.Read.remaining c.args.reader.now) (g.W.Write.contents c.args.writer.now) (g.W.Write.contents c.end_log.new.writer)
    (end_long start now (state_of c.end_log.new.terminal) (g.R.Read.remaining c.args.reader.now) (g.R.Read.remaining c.loop.reader) (g.W.Write.contents c.args.writer.now) (g.W.Write.contents c.end_log.new.writer)
    c.loop.progress.pending.items c.loop.counter refl c.in_ok-begin.ensures.drawn c.in_ok-begin.ensures.text way (c.in_err-end_log.ensures.too_long (let same = e in cc)) stay.0 stay.1))

pub returns-in_err-take_chunk-clause-cause : goal.returns-in_err-take_chunk-clause-cause
returns-in_err-take_chunk-clause-cause g c =
    let start : ReplayPoint = replay_point c.args.terminal.now c.begin.new.self.screen.items no_counts (g.W.Write.contents c.begin.new.writer) in
    let now : ReplayPoint = replay_point c.loop.terminal c.loop.progress.screen.items c.loop.progress.counts (g.W.Write.contents c.flush.new.writer) in
    let way = way_flushed start (scene c.loop.terminal c.loop.progress.screen.items) c.loop.progress.counts (g.W.Write.contents c.loop.writer) (g.W.Write.contents c.flush.new.writer)
    (g.R.Read.remaining c.args.reader.now) (g.R.Read.remaining c.loop.reader) c.loop.progress.pending.items c.loop.counter c.loop.invariant.way c.flush.ensures.kept in
    let items = c.loop.chunk in
    let full : length c.next_bytes.new.buf ≡ items.len = omega (arith, c.next_bytes.auto.buf, c.deref_mut.ensures.len) in
    let front = read_front c.in-Ok.count items.len c.next_bytes.new.buf items.items c.deref.result.now c.deref.ensures.value full in
    let consumed = subst (Consumes (g.R.Read.remaining c.loop.reader) (g.R.Read.remaining c.next_bytes.new.self)) front c.in-Ok.ensures.bytes.0 in
    ends_in_line c.from_residual-in_err-take_chunk.result g.R.Source.steady g.W.Sink.steady (g.R.Read.remaining c.args.reader.now) c.in_err-take_chunk.field-0.0 c.from_residual-in_err-take_chunk.ensures.1
    c.in_err-take_chunk.ensures.fault
    (λ e. stopped_long (state_of c.args.terminal.now) (state_of c.take_chunk.new.terminal) (g.R.Read.remaining c.args.reader.now) (g.W.Write.contents c.args.writer.now) (g.W.Write.contents c.take_chunk.new.writer)
    (way_long start now (state_of c.take_chunk.new.terminal) (g.R.Read.remaining c.args.reader.now) (g.R.Read.remaining c.loop.reader) (g.R.Read.remaining c.next_bytes.new.self) (g.W.Write.contents c.args.writer.now)
    (g.W.Write.contents c.take_chunk.new.writer) c.loop.progress.pending.items (take c.in-Ok.count c.deref.result.now) c.loop.counter refl c.in_ok-begin.ensures.drawn c.in_ok-begin.ensures.text
    way consumed (c.in_err-take_chunk.ensures.too_long (let same = e in cc))))

pub returns-clause-cause : goal.returns-clause-cause
returns-clause-cause g c =
    let start : ReplayPoint = replay_point c.args.terminal.now c.begin.new.self.screen.items no_counts (g.W.Write.contents c.begin.new.writer) in
    let now : ReplayPoint = replay_point c.loop.terminal c.loop.progress.screen.items c.loop.progress.counts (g.W.Write.contents c.loop.writer) in
    λ steady. way_reads start now (g.R.Read.remaining c.args.reader.now) (g.R.Read.remaining c.loop.reader) c.loop.progress.pending.items c.loop.counter 1000000000 c.loop.invariant.way c.loop-test.false
