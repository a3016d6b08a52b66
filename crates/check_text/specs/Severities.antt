-- Severities, and the words for them.
use Rattle.std.specs.Prelude.{ℕ, List, codes, Bool, true, false}
use Rattle.std.specs.List.{count_by}
use Rattle.check_text.specs.declared.item.Item.{Item}
use Rattle.check_text.specs.declared.item.Item.TheVariants as items
use Rattle.check_text.specs.declared.message.Severity.{Severity}
use Rattle.check_text.specs.declared.message.Severity.TheVariants as severities

abbrev pub severity_word : Severity → List ℕ
severity_word severities.Error = codes "error"
severity_word severities.Warning = codes "warning"
severity_word severities.Note = codes "note"

abbrev pub severity_of : Item → Severity
severity_of (items.Finding finding) = severities.Error
severity_of (items.Clash replaced) = severities.Error
severity_of (items.Replaced replaced) = severities.Warning
severity_of (items.Warning warning) = severities.Warning
severity_of (items.Value warning) = severities.Warning
severity_of (items.Note note) = severities.Note

abbrev pub is_error : Severity → Bool
is_error severities.Error = true
is_error severities.Warning = false
is_error severities.Note = false

-- how many of these items are errors
abbrev pub errors_among : List Item → ℕ
errors_among items = count_by (λ item. is_error (severity_of item)) items
