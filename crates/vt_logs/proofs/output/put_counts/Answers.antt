use Rattle.std.proofs.Common.{ℕ, List, [], ◌∷◌, drop, codes}
use Rattle.std.proofs.KnownBytes.{Appends-trans}
use Rattle.std.proofs.lemmas.Result.{on_err_weaker}
use Rattle.vt_logs.specs.declared.counts.Counts.{Counts}
use Rattle.vt_logs.specs.Texts.{count_text, newline}
use Rattle.vt_logs.proofs.AppendedText.{seven_writes, begun_first, begun_after, appends_three, appends_four, appends_five, appends_six}
use Rattle.vt_logs.proofs.EarlyEndInLines.{on_any_err}
use Rattle.vt_logs.proofs.output.put_counts.Goals as goal

pub returns-clause-text : goal.returns-clause-text
returns-clause-text g c =
    let n = c.args.counts.now in
    let held = g.W.Write.contents in
    seven_writes c.put.result (held c.args.writer.now) (held c.put_count.new.writer) (held c.put_count-2.new.writer) (held c.put_count-3.new.writer)
    (held c.put_count-4.new.writer) (held c.put_count-5.new.writer) (held c.put_count-6.new.writer) (held c.put.new.writer)
    (count_text (codes "lines ") n.lines) (count_text (codes " frames ") n.frames) (count_text (codes " operator ") n.operator)
    (count_text (codes " skipped ") n.skipped) (count_text (codes " comments ") n.comments) (count_text (codes " faults ") n.faults) newline
    c.in_ok-put_count.ensures.text c.in_ok-put_count-2.ensures.text c.in_ok-put_count-3.ensures.text c.in_ok-put_count-4.ensures.text c.in_ok-put_count-5.ensures.text c.in_ok-put_count-6.ensures.text c.put.ensures.text

abbrev parts : Counts → List (List ℕ)
parts n =
    count_text (codes "lines ") n.lines ∷ count_text (codes " frames ") n.frames ∷ count_text (codes " operator ") n.operator ∷ count_text (codes " skipped ") n.skipped
    ∷ count_text (codes " comments ") n.comments ∷ count_text (codes " faults ") n.faults ∷ newline ∷ []

pub returns-in_err-put_count-clause-front : goal.returns-in_err-put_count-clause-front
returns-in_err-put_count-clause-front g c =
    on_any_err c.from_residual.result (begun_first _ _ _ (drop 1 (parts c.args.counts.now)) c.in_err-put_count.ensures.front)

pub returns-in_err-put_count-2-clause-front : goal.returns-in_err-put_count-2-clause-front
returns-in_err-put_count-2-clause-front g c =
    on_any_err c.from_residual-in_err-put_count-2.result
    (begun_after _ _ _ _ _ (drop 2 (parts c.args.counts.now))
    c.in_ok-put_count.ensures.text
    c.in_err-put_count-2.ensures.front)

pub returns-in_err-put_count-3-clause-front : goal.returns-in_err-put_count-3-clause-front
returns-in_err-put_count-3-clause-front g c =
    on_any_err c.from_residual-in_err-put_count-3.result
    (begun_after _ _ _ _ _ (drop 3 (parts c.args.counts.now))
    (Appends-trans _ _ _ _ _ c.in_ok-put_count.ensures.text c.in_ok-put_count-2.ensures.text)
    c.in_err-put_count-3.ensures.front)

pub returns-in_err-put_count-4-clause-front : goal.returns-in_err-put_count-4-clause-front
returns-in_err-put_count-4-clause-front g c =
    on_any_err c.from_residual-in_err-put_count-4.result
    (begun_after _ _ _ _ _ (drop 4 (parts c.args.counts.now))
    (appends_three _ _ _ _ _ _ _ c.in_ok-put_count.ensures.text c.in_ok-put_count-2.ensures.text c.in_ok-put_count-3.ensures.text)
    c.in_err-put_count-4.ensures.front)

pub returns-in_err-put_count-5-clause-front : goal.returns-in_err-put_count-5-clause-front
returns-in_err-put_count-5-clause-front g c =
    on_any_err c.from_residual-in_err-put_count-5.result
    (begun_after _ _ _ _ _ (drop 5 (parts c.args.counts.now))
    (appends_four _ _ _ _ _ _ _ _ _ c.in_ok-put_count.ensures.text c.in_ok-put_count-2.ensures.text c.in_ok-put_count-3.ensures.text c.in_ok-put_count-4.ensures.text)
    c.in_err-put_count-5.ensures.front)

pub returns-in_err-put_count-6-clause-front : goal.returns-in_err-put_count-6-clause-front
returns-in_err-put_count-6-clause-front g c =
    on_any_err c.from_residual-in_err-put_count-6.result
    (begun_after _ _ _ _ _ (drop 6 (parts c.args.counts.now))
    (appends_five _ _ _ _ _ _ _ _ _ _ _ c.in_ok-put_count.ensures.text c.in_ok-put_count-2.ensures.text c.in_ok-put_count-3.ensures.text c.in_ok-put_count-4.ensures.text c.in_ok-put_count-5.ensures.text)
    c.in_err-put_count-6.ensures.front)

pub returns-clause-front : goal.returns-clause-front
returns-clause-front g c =
    on_err_weaker c.put.result
    (begun_after _ _ _ _ _ []
    (appends_six _ _ _ _ _ _ _ _ _ _ _ _ _ c.in_ok-put_count.ensures.text c.in_ok-put_count-2.ensures.text c.in_ok-put_count-3.ensures.text c.in_ok-put_count-4.ensures.text c.in_ok-put_count-5.ensures.text c.in_ok-put_count-6.ensures.text))
    c.put.ensures.front
