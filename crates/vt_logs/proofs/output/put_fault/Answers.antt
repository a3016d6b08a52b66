use Rattle.std.proofs.Common.{ℕ, List, [], ◌∷◌, drop, codes}
use Rattle.std.proofs.KnownBytes.{Appends-trans}
use Rattle.std.proofs.lemmas.Result.{on_err_weaker}
use Rattle.std.specs.Fmt.{decimal}
use Rattle.vt_can.specs.declared.lines.line.LineFault.{LineFault}
use Rattle.vt_logs.specs.Texts.{fault_name, newline}
use Rattle.vt_logs.proofs.AppendedText.{begun_first, begun_after, appends_three, appends_four}
use Rattle.vt_logs.proofs.EarlyEndInLines.{on_any_err}
use Rattle.vt_logs.proofs.output.put_fault.Goals as goal

abbrev parts : ℕ → LineFault → List (List ℕ)
parts n fault = codes "line " ∷ decimal n ∷ codes " " ∷ fault_name fault ∷ newline ∷ []

pub returns-in_err-put-clause-front : goal.returns-in_err-put-clause-front
returns-in_err-put-clause-front g c =
    on_any_err c.from_residual.result (begun_first _ _ _ (drop 1 (parts c.args.number c.args.fault)) c.in_err-put.ensures.front)

pub returns-in_err-put_number-clause-front : goal.returns-in_err-put_number-clause-front
returns-in_err-put_number-clause-front g c =
    on_any_err c.from_residual-in_err-put_number.result
    (begun_after _ _ _ _ _ (drop 2 (parts c.args.number c.args.fault))
    c.in_ok-put.ensures.text
    c.in_err-put_number.ensures.front)

pub returns-in_err-put-2-clause-front : goal.returns-in_err-put-2-clause-front
returns-in_err-put-2-clause-front g c =
    on_any_err c.from_residual-in_err-put-2.result
    (begun_after _ _ _ _ _ (drop 3 (parts c.args.number c.args.fault))
    (Appends-trans _ _ _ _ _ c.in_ok-put.ensures.text c.in_ok-put_number.ensures.text)
    c.in_err-put-2.ensures.front)

pub returns-in_err-put-3-clause-front : goal.returns-in_err-put-3-clause-front
returns-in_err-put-3-clause-front g c =
    on_any_err c.from_residual-in_err-put-3.result
    (begun_after _ _ _ _ _ (drop 4 (parts c.args.number c.args.fault))
    (appends_three _ _ _ _ _ _ _ c.in_ok-put.ensures.text c.in_ok-put_number.ensures.text c.in_ok-put-2.ensures.text)
    (rw (c.as_bytes.ensures.value, c.fault_name.ensures) at c.in_err-put-3.ensures.front))

pub returns-clause-front : goal.returns-clause-front
returns-clause-front g c =
    on_err_weaker c.put-4.result
    (begun_after _ _ _ _ _ []
    (appends_four _ _ _ _ _ _ _ _ _ c.in_ok-put.ensures.text c.in_ok-put_number.ensures.text c.in_ok-put-2.ensures.text (rw (c.as_bytes.ensures.value, c.fault_name.ensures) at c.in_ok-put-3.ensures.text)))
    c.put-4.ensures.front
