use Rattle.std.proofs.Common.{◌∙◌, Bor, List, map, subst, sym, ℕ}
use Rattle.log_trace.specs.Changes.{AreLastPlaces}
use Rattle.log_trace.proofs.ScreenLines.{line_of}
use Rattle.log_trace.proofs.changes.put_changes.Goals as goal

pub put_difference-requires : goal.put_difference-requires
put_difference-requires c =
    subst (λ (lines : List (Bor (List ℕ))). AreLastPlaces (map line_of lines) c.in_ok-last.last) (c.deref.ensures.value ∙ sym c.deref-2.ensures.value) c.in_ok-last.ensures
