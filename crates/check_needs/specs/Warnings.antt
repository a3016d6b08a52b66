-- The warnings about a pool: each rule is a filter of its objects (docs/PROFILE.md, "Warnings").
use Rattle.std.specs.Prelude.{ℕ, Bool, ◌||◌, nat_lt, if◌then◌else◌, List, [], ◌∷◌, ◌++◌, length, map, filter, Option, Some, None}
use Rattle.std.specs.List.{flat_map}
use Rattle.std.specs.Option.{option_to_list}
use Rattle.vt_kinds.specs.declared.object.Object.TheVariants as object
use Rattle.vt_kinds.specs.Records.{Seen, kind_of}
use Rattle.vt_stores.specs.Stores.{Objects}
use Rattle.check_needs.specs.declared.rule.Rule.{Rule}
use Rattle.check_needs.specs.declared.rule.Rule.TheVariants as rules
use Rattle.vt_kinds.specs.declared.entries.Child.{Child}
use Rattle.check_needs.specs.declared.sizes.Area.{Area}
use Rattle.check_needs.specs.declared.sizes.Sizes.{Sizes}
use Rattle.check_needs.specs.declared.warning.Warning.{Warning}
use Rattle.check_needs.specs.declared.warning.Warning.TheVariants as warnings
use Rattle.check_needs.specs.Elements.{frame_of, elements_from, is_outside}
use Rattle.check_needs.specs.Naming.{is_selected, is_among, names}
use Rattle.check_needs.specs.TextFields.{text_field, is_too_wide, is_too_high}

-- a warning, unless a condition holds
abbrev pub unless : Bool → Warning → List Warning
unless b warning = if b then [] else warning ∷ []

-- an object that no object names and that no message selects
abbrev pub unused : Objects → ℕ × Seen → List Warning
unused objects e = unless (is_selected (kind_of e.1) || is_among e.0 (names objects)) (warnings.Unused e.0)

abbrev pub outside_of : Objects → ℕ → Option (Area × List Child) → List Warning
outside_of objects parent None = []
outside_of objects parent (Some frame) =
    map (λ e. warnings.Outside e frame.0) (filter (is_outside frame.0) (elements_from objects parent 0 frame.1))

-- a soft key mask with more keys than the terminal has
abbrev pub extra_keys : Sizes → ℕ → Seen → List Warning
extra_keys sizes id (object.SoftKeyMask o) =
    if nat_lt sizes.keys (length o.keys) then warnings.ExtraKeys id (length o.keys) sizes.keys ∷ [] else []
extra_keys sizes id o = []

-- what a rule finds at an object
abbrev pub found_at : Rule → Sizes → Objects → ℕ × Seen → List Warning
found_at rules.Unused sizes objects e = unused objects e
found_at rules.TextTooWide sizes objects e = map warnings.TextTooWide (filter is_too_wide (option_to_list (text_field objects e.0 e.1)))
found_at rules.TextTooHigh sizes objects e = map warnings.TextTooHigh (filter is_too_high (option_to_list (text_field objects e.0 e.1)))
found_at rules.Outside sizes objects e = outside_of objects e.0 (frame_of sizes e.1)
found_at rules.ExtraKeys sizes objects e = extra_keys sizes e.0 e.1

-- what a rule finds, by rising ID
abbrev pub found : Rule → Sizes → Objects → List Warning
found rule sizes objects = flat_map (found_at rule sizes objects) objects

-- all warnings about the objects of a pool, in the order of their codes
abbrev pub warnings_of : Sizes → Objects → List Warning
warnings_of sizes objects =
    found rules.Unused sizes objects ++ found rules.TextTooWide sizes objects ++ found rules.TextTooHigh sizes objects
    ++ found rules.Outside sizes objects ++ found rules.ExtraKeys sizes objects
