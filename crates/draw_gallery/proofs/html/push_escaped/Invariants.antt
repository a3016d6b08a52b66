use Rattle.std.proofs.Common.{◌≡◌, ◌++◌, drop}
use Rattle.std.specs.List.{flat_map}
use Rattle.draw_gallery.specs.Html.{html_escaped}
use Rattle.draw_gallery.proofs.html.push_escaped.Given as goal

abbrev pub invariant-loop-byte : goal.invariant-loop-byte
invariant-loop-byte l = l.out.items ++ flat_map html_escaped (drop l.byte-index l.text) ≡ l.fn.out.items ++ flat_map html_escaped l.text
