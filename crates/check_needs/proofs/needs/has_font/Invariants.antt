use Rattle.std.proofs.Common.{◌≡◌, map, drop}
use Rattle.std.specs.List.{list_any}
use Rattle.vt_stores.specs.Stores.{seen_entry}
use Rattle.check_needs.specs.Needs.{has_font, is_font_of}
use Rattle.check_needs.proofs.needs.has_font.Given as goal

abbrev pub invariant-loop-object : goal.invariant-loop-object
invariant-loop-object l =
    (map seen_entry l.object-items ≡ l.objects)
    × (has_font l.objects l.size ≡ list_any (λ e. is_font_of l.size e.1) (map seen_entry (drop l.object-index l.object-items)))
