use Rattle.std.proofs.Common.{◌∙◌, ap, Bor, List, map, rules, sym, ℕ}
use Rattle.std.specs.Option.{option_copied}
use Rattle.std.specs.Str.{bytes_eq}
use Rattle.std.proofs.lemmas.Iterator.{YieldsList-from_slice}
use Rattle.std.proofs.lemmas.Iterator.Search.{position_from_yields_List}
use Rattle.log_trace.proofs.ScreenLines.{absent_before, absent_without, finds_next, from_slice, line_of, next_of}
use Rattle.log_trace.proofs.changes.next_place.Goals as goal

pub returns-in-Some : goal.returns-in-Some
returns-in-Some c =
    finds_next c.args.line.now c.args.lines.now c.args.from c.position.result
    (position_from_yields_List (λ (other : Bor (List ℕ)). bytes_eq c.args.line.now other.now) _ _ c.position.result c.position.ensures.ran
    (YieldsList-from_slice _ c.iter.ensures.rest) (λ x b q k. search rules)
    ∙ ap (next_of c.args.line.now) (from_slice c.args.lines.now c.args.from))

pub returns-in_default : goal.returns-in_default
returns-in_default c =
    absent_before c.args.line.now (map line_of c.args.lines.now) c.args.from c.in-Some.place.now c.args.last.now c.requires.known
    (sym c.get.ensures.value ∙ ap option_copied c.in-Some.is) c.if-place-from.false

pub returns-in_default-2 : goal.returns-in_default-2
returns-in_default-2 c =
    absent_without c.args.line.now (map line_of c.args.lines.now) c.args.from c.args.last.now c.requires.known
    (sym c.get.ensures.value ∙ ap option_copied c.in_default.is)
