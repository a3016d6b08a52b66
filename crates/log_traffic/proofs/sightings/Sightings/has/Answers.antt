use Rattle.std.proofs.Common.{◌≡◌, false, Bool, ◌||◌, sym, ap, ◌∙◌}
use Rattle.std.specs.List.{list_any}
use Rattle.std.proofs.lemmas.List.Folds.{list_any-append}
use Rattle.log_traffic.specs.declared.sightings.Sighting.{Sighting}
use Rattle.log_traffic.specs.Sightings.{is_same}
use Rattle.log_traffic.proofs.sightings.Sightings.has.Goals as goal

-- none of the earlier frames is the same, so the answer is that of the later ones
pub returns-else-is_among : goal.returns-else-is_among
returns-else-is_among c =
    let frame = c.args.sighting.now in
    let is : Sighting → Bool = λ other. is_same other frame in
    let earlier = c.as_slices.result.0.now in
    let later = c.as_slices.result.1.now in
    sym (ap (list_any is) (sym c.as_slices.ensures.items) ∙ list_any-append is earlier later
    ∙ ap (λ b. b || list_any is later) (sym c.is_among.ensures ∙ c.if-is_among.false) ∙ sym c.is_among-else-is_among.ensures)
