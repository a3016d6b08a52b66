use Rattle.std.proofs.Common.{◌≡◌, ◌+◌, ◌-◌, List, ℕ, length, take, subst, arith}
use Rattle.std.specs.Prelude.{MatchOption}
use Rattle.std.proofs.lemmas.List.{take_all}
use Rattle.vt_can.specs.lines.Fields.{IsFirstPlace, Lacks}
use Rattle.vt_can.proofs.lines.places.place_of.Goals as goal

pub returns : goal.returns
returns c =
    let text = c.args.text.now in
    let all : take (length text - 16 + 16) text ≡ text = take_all (length text - 16 + 16) text (omega arith) in
    subst (λ (front : List ℕ). MatchOption c.place_among-2.result (Lacks c.args.byte front) (IsFirstPlace c.args.byte text)) all c.place_among-2.ensures
