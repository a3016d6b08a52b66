use Rattle.std.proofs.Common.{ℕ, List, ◌≤◌, length, drop, Bor, arith}
use Rattle.std.proofs.lemmas.Result.{err_from_is_err_and}
use Rattle.std.proofs.lemmas.List.{length-drop, take_rest}
use Rattle.vt_pool.proofs.RecordSkips.{ends_behind, stops_behind}
use Rattle.vt_pool.proofs.passing.record_end.Goals as goal

pub returns-in_err-rest-in-Ok-clause-passes : goal.returns-in_err-rest-in-Ok-clause-passes
returns-in_err-rest-in-Ok-clause-passes c =
    let pool = c.args.pool.now in
    let at = c.args.at in
    let p = err_from_is_err_and c.from_residual.result c.from_residual.ensures.1 in
    let head = rw (take_rest pool at) at c.in-Ok.ensures.head in
    let passes = rw (take_rest pool at) at c.in_err-rest-in-Ok.ensures.passes in
    rw (p.1, p.2) (stops_behind {X = Bor (List ℕ)} (λ r. r.now) (length pool) at (drop at pool) c.in-Ok.kind c.in_err-rest-in-Ok.field-0.0 head passes)

pub returns-in_ok-rest-in-Ok-clause-passes : goal.returns-in_ok-rest-in-Ok-clause-passes
returns-in_ok-rest-in-Ok-clause-passes c =
    let pool = c.args.pool.now in
    let at = c.args.at in
    let head = rw (take_rest pool at) at c.in-Ok.ensures.head in
    let passes = rw (take_rest pool at) at c.in_ok-rest-in-Ok.ensures.passes in
    let shorter = rw (take_rest pool at) at c.in_ok-rest-in-Ok.ensures.shorter in
    let within : length c.in_ok-rest-in-Ok.rest.now ≤ length pool = omega (arith, length-drop at pool, shorter) in
    ends_behind {X = Bor (List ℕ)} (λ r. r.now) (length pool) at (drop at pool) c.in-Ok.kind c.in_ok-rest-in-Ok.rest within head passes
