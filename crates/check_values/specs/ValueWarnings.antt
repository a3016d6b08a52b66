-- The warnings about the values of a pool: each rule is a list for each of its objects (docs/PROFILE.md, "Warnings").
use Rattle.std.specs.Prelude.{ℕ, List, [], ◌∷◌}
use Rattle.std.specs.List.{flat_map}
use Rattle.vt_kinds.specs.Records.{Seen}
use Rattle.vt_stores.specs.Stores.{Objects}
use Rattle.check_values.specs.declared.rules.ValueRule.{ValueRule}
use Rattle.check_values.specs.declared.rules.ValueRule.TheVariants as rules
use Rattle.check_values.specs.declared.warning.ValueWarning.{ValueWarning}
use Rattle.check_values.specs.Entries.{never_raised}
use Rattle.check_values.specs.Fields.{without_meaning}
use Rattle.check_values.specs.Inputs.{inputs_there, no_codes, same_codes}
use Rattle.check_values.specs.Pictures.{picture_bytes}
use Rattle.check_values.specs.Polygons.{few_points, points_outside}
use Rattle.check_values.specs.Ranges.{empty_ranges, out_of_range, no_items}
use Rattle.check_values.specs.Texts.{same_colours, short_variables}
use Rattle.check_values.specs.WorkingSets.{no_active_mask, no_designator, no_languages}

-- what a rule finds at an object
abbrev pub found_at : ValueRule → Objects → ℕ × Seen → List ValueWarning
found_at rules.NoMeaning objects e = without_meaning e.0 e.1
found_at rules.EmptyRange objects e = empty_ranges e.0 e.1
found_at rules.OutOfRange objects e = out_of_range objects e.0 e.1
found_at rules.NoItem objects e = no_items objects e.0 e.1
found_at rules.Pictures objects e = picture_bytes e.0 e.1
found_at rules.FewPoints objects e = few_points e.0 e.1
found_at rules.PointsOutside objects e = points_outside e.0 e.1
found_at rules.ShortVariable objects e = short_variables objects e.0 e.1
found_at rules.NeverRaised objects e = never_raised e.0 e.1
found_at rules.NoActiveMask objects e = no_active_mask e.0 e.1
found_at rules.NoDesignator objects e = no_designator e.0 e.1
found_at rules.NoLanguage objects e = no_languages e.0 e.1
found_at rules.InputThere objects e = inputs_there objects e.0 e.1
found_at rules.NoCode objects e = no_codes e.0 e.1
found_at rules.SameColour objects e = same_colours objects e.0 e.1
found_at rules.SameCode objects e = same_codes objects e.0 e.1

-- what a rule finds, by rising ID
abbrev pub found : ValueRule → Objects → List ValueWarning
found rule objects = flat_map (found_at rule objects) objects

-- the rules in the order of their codes
abbrev pub every_rule : List ValueRule
every_rule =
    rules.NoMeaning ∷ rules.EmptyRange ∷ rules.OutOfRange ∷ rules.NoItem ∷ rules.Pictures ∷ rules.FewPoints ∷ rules.PointsOutside
    ∷ rules.ShortVariable ∷ rules.NeverRaised ∷ rules.NoActiveMask ∷ rules.NoDesignator ∷ rules.NoLanguage
    ∷ rules.InputThere ∷ rules.NoCode ∷ rules.SameColour ∷ rules.SameCode ∷ []

-- what some rules find, one after the other
abbrev pub found_by : List ValueRule → Objects → List ValueWarning
found_by rules objects = flat_map (λ rule. found rule objects) rules

-- all warnings about the values of the objects of a pool, in the order of the rules
abbrev pub value_warnings : Objects → List ValueWarning
value_warnings objects = found_by every_rule objects
