-- What a Working Set lacks (docs/PROFILE.md, "Warnings").
use Rattle.std.specs.Prelude.{ℕ, Bool, nat_le, ◌&&◌, ◌==◌, if◌then◌else◌, List, [], ◌∷◌, length}
use Rattle.vt_kinds.specs.declared.entries.Language.{Language}
use Rattle.vt_kinds.specs.declared.object.Object.TheVariants as object
use Rattle.vt_kinds.specs.Ids.{null_id}
use Rattle.vt_kinds.specs.Records.{Seen}
use Rattle.check_values.specs.Listed.{each_from}
use Rattle.check_values.specs.declared.warning.ValueWarning.{ValueWarning}
use Rattle.check_values.specs.declared.warning.ValueWarning.TheVariants as warnings

-- a Working Set without an active mask
abbrev pub no_active_mask : ℕ → Seen → List ValueWarning
no_active_mask id (object.WorkingSet o) = if o.active_mask == null_id then warnings.NoActiveMask id ∷ [] else []
no_active_mask id o = []

-- a Working Set without a child
abbrev pub no_designator : ℕ → Seen → List ValueWarning
no_designator id (object.WorkingSet o) = if length o.children == 0 then warnings.NoDesignator id ∷ [] else []
no_designator id o = []

-- from a to z
abbrev pub is_small_letter : ℕ → Bool
is_small_letter byte = nat_le 97 byte && nat_le byte 122

-- a language code that is not two small letters
abbrev pub unless_language : ℕ → ℕ → Language → List ValueWarning
unless_language id index language =
    if is_small_letter language.first && is_small_letter language.second then []
    else warnings.NoLanguage (record { id = id; index = index; language = language }) ∷ []

-- the language codes of a Working Set that are no two small letters
abbrev pub no_languages : ℕ → Seen → List ValueWarning
no_languages id (object.WorkingSet o) = each_from (unless_language id) 0 o.languages
no_languages id o = []
