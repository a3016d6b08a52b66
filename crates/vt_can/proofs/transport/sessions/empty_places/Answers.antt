use Rattle.std.proofs.Common.{ℕ, ◌+◌, List, Option, None, get_or, length, length-append, ap, ◌∙◌, ◌∷◌, []}
use Rattle.vt_can.proofs.lemmas.transport.Places.{one_more_empty}
use Rattle.vt_can.proofs.transport.sessions.empty_places.Goals as goal

pub loop-address-preserved : goal.loop-address-preserved
loop-address-preserved g c = record {
  size = ap length c.in_ok-push.ensures.items ∙ length-append c.loop-address.places.items (None ∷ []) ∙ ap (λ (n : ℕ). n + 1) c.loop-address.invariant.size;
  empty = λ q. ap (λ (places : List (Option _)). get_or places q None) c.in_ok-push.ensures.items ∙ one_more_empty _ q c.loop-address.invariant.empty;
}
