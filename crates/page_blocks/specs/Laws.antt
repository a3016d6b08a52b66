-- Data are no markup.
use Rattle.std.specs.Prelude.{◌≡◌, ℕ, false, List}
use Rattle.std.specs.List.{flat_map, list_any}
use Rattle.page_blocks.specs.Escapes.{begins_tag, escaped}

-- No text begins a tag once it is escaped.
abbrev pub DataHasNoMarkup : Type 0
DataHasNoMarkup = (text : List ℕ) → list_any begins_tag (flat_map escaped text) ≡ false
