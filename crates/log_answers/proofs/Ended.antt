-- The end of a comparison.
use Rattle.std.proofs.Common.{◌≡◌, ℕ, List, ◌++◌, map, Result, Ok, Err, OnOk}
use Rattle.std.specs.declared.alloc.AllocError.{AllocError}
use Rattle.log_answers.specs.Comparisons.{HasCompared, HasToldAll, point_at}
use Rattle.log_answers.specs.Conversations.{LogLine, Point}
use Rattle.log_answers.specs.declared.comparison.Comparison.{Comparison}
use Rattle.log_answers.specs.declared.difference.Difference.{Difference}
use Rattle.log_answers.specs.declared.difference.Difference.TheVariants.{OursAlone}
use Rattle.log_answers.proofs.Matching.{matched-ended}
use Rattle.vt_server.specs.Terminals.{State}

all-told : (own wait : ℕ) (start : Point) (lines : List LogLine) (told before after : List Difference) (state : State) (comparison : Comparison)
    → HasCompared own wait start lines told state comparison → after ≡ before ++ map OursAlone comparison.open.questions.items → HasToldAll own wait start lines told before after
all-told own wait start lines told before after state comparison has told_now = record {
  more = map OursAlone comparison.open.questions.items;
  whole = told_now;
  are = record {
    last = point_at state comparison;
    questions = has.questions;
    answers = has.answers;
    converse = has.converse;
    each = matched-ended wait comparison.line comparison.now has.questions has.answers comparison.open.questions.items told has.matched;
  };
}

pub told-at_end : (result : Result (Unit {0}) AllocError) (comparison : Comparison) (before after : List Difference) → OnOk result (after ≡ before ++ map OursAlone comparison.open.questions.items)
    → OnOk result ((own wait : ℕ) (start : Point) (lines : List LogLine) (told : List Difference) (state : State) → HasCompared own wait start lines told state comparison → HasToldAll own wait start lines told before after)
told-at_end (Ok done) comparison before after told_now = λ own wait start lines told state has. all-told own wait start lines told before after state comparison has told_now
told-at_end (Err error) comparison before after told_now = tt
