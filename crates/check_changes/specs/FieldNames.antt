-- The names of the fields of each kind's record, in the order of the record (docs/PROFILE.md, "Objects"). A count has no
-- name: it goes with the list that it counts.
use Rattle.std.specs.Prelude.{List, [], ◌∷◌, codes}
use Rattle.vt_kinds.specs.declared.kind.Kind.{Kind}
use Rattle.vt_kinds.specs.declared.kind.Kind.TheVariants as kinds
use Rattle.check_changes.specs.Names.{Name}

abbrev pub field_names : Kind → List Name
field_names kinds.WorkingSet =
    codes "background colour" ∷ codes "selectable" ∷ codes "active mask" ∷ codes "children" ∷ codes "macros"
    ∷ codes "languages" ∷ []
field_names kinds.DataMask =
    codes "background colour" ∷ codes "soft key mask" ∷ codes "children" ∷ codes "macros" ∷ []
field_names kinds.AlarmMask =
    codes "background colour" ∷ codes "soft key mask" ∷ codes "priority" ∷ codes "acoustic signal" ∷ codes "children"
    ∷ codes "macros" ∷ []
field_names kinds.Container = codes "width" ∷ codes "height" ∷ codes "hidden" ∷ codes "children" ∷ codes "macros" ∷ []
field_names kinds.SoftKeyMask = codes "background colour" ∷ codes "keys" ∷ codes "macros" ∷ []
field_names kinds.Key = codes "background colour" ∷ codes "key code" ∷ codes "children" ∷ codes "macros" ∷ []
field_names kinds.Button =
    codes "width" ∷ codes "height" ∷ codes "background colour" ∷ codes "border colour" ∷ codes "key code"
    ∷ codes "options" ∷ codes "children" ∷ codes "macros" ∷ []
field_names kinds.InputBoolean =
    codes "background colour" ∷ codes "width" ∷ codes "font" ∷ codes "variable" ∷ codes "value" ∷ codes "enabled"
    ∷ codes "macros" ∷ []
field_names kinds.InputString =
    codes "width" ∷ codes "height" ∷ codes "background colour" ∷ codes "font" ∷ codes "input attributes"
    ∷ codes "options" ∷ codes "variable" ∷ codes "justification" ∷ codes "text" ∷ codes "enabled" ∷ codes "macros"
    ∷ []
field_names kinds.InputNumber =
    codes "width" ∷ codes "height" ∷ codes "background colour" ∷ codes "font" ∷ codes "options" ∷ codes "variable"
    ∷ codes "value" ∷ codes "min" ∷ codes "max" ∷ codes "offset" ∷ codes "scale" ∷ codes "decimals" ∷ codes "format"
    ∷ codes "justification" ∷ codes "second options" ∷ codes "macros" ∷ []
field_names kinds.InputList =
    codes "width" ∷ codes "height" ∷ codes "variable" ∷ codes "value" ∷ codes "options" ∷ codes "items"
    ∷ codes "macros" ∷ []
field_names kinds.OutputString =
    codes "width" ∷ codes "height" ∷ codes "background colour" ∷ codes "font" ∷ codes "options" ∷ codes "variable"
    ∷ codes "justification" ∷ codes "text" ∷ codes "macros" ∷ []
field_names kinds.OutputNumber =
    codes "width" ∷ codes "height" ∷ codes "background colour" ∷ codes "font" ∷ codes "options" ∷ codes "variable"
    ∷ codes "value" ∷ codes "offset" ∷ codes "scale" ∷ codes "decimals" ∷ codes "format" ∷ codes "justification"
    ∷ codes "macros" ∷ []
field_names kinds.Line =
    codes "line attributes" ∷ codes "width" ∷ codes "height" ∷ codes "direction" ∷ codes "macros" ∷ []
field_names kinds.Rectangle =
    codes "line attributes" ∷ codes "width" ∷ codes "height" ∷ codes "line suppression" ∷ codes "fill"
    ∷ codes "macros" ∷ []
field_names kinds.Ellipse =
    codes "line attributes" ∷ codes "width" ∷ codes "height" ∷ codes "ellipse type" ∷ codes "start angle"
    ∷ codes "end angle" ∷ codes "fill" ∷ codes "macros" ∷ []
field_names kinds.Polygon =
    codes "width" ∷ codes "height" ∷ codes "line attributes" ∷ codes "fill" ∷ codes "polygon type" ∷ codes "points"
    ∷ codes "macros" ∷ []
field_names kinds.Meter =
    codes "width" ∷ codes "needle colour" ∷ codes "border colour" ∷ codes "arc colour" ∷ codes "options"
    ∷ codes "ticks" ∷ codes "start angle" ∷ codes "end angle" ∷ codes "min" ∷ codes "max" ∷ codes "variable"
    ∷ codes "value" ∷ codes "macros" ∷ []
field_names kinds.LinearBar =
    codes "width" ∷ codes "height" ∷ codes "bar colour" ∷ codes "target colour" ∷ codes "options" ∷ codes "ticks"
    ∷ codes "min" ∷ codes "max" ∷ codes "variable" ∷ codes "value" ∷ codes "target variable" ∷ codes "target"
    ∷ codes "macros" ∷ []
field_names kinds.ArchedBar =
    codes "width" ∷ codes "height" ∷ codes "bar colour" ∷ codes "target colour" ∷ codes "options"
    ∷ codes "start angle" ∷ codes "end angle" ∷ codes "bar width" ∷ codes "min" ∷ codes "max" ∷ codes "variable"
    ∷ codes "value" ∷ codes "target variable" ∷ codes "target" ∷ codes "macros" ∷ []
field_names kinds.Picture =
    codes "width" ∷ codes "actual width" ∷ codes "actual height" ∷ codes "format" ∷ codes "options"
    ∷ codes "transparency" ∷ codes "bytes" ∷ codes "macros" ∷ []
field_names kinds.NumberVariable = codes "value" ∷ []
field_names kinds.StringVariable = codes "text" ∷ []
field_names kinds.Font = codes "font colour" ∷ codes "size" ∷ codes "font type" ∷ codes "style" ∷ codes "macros" ∷ []
field_names kinds.LineAttributes = codes "line colour" ∷ codes "width" ∷ codes "line art" ∷ codes "macros" ∷ []
field_names kinds.FillAttributes = codes "fill type" ∷ codes "fill colour" ∷ codes "pattern" ∷ codes "macros" ∷ []
field_names kinds.InputAttributes = codes "validation type" ∷ codes "text" ∷ codes "macros" ∷ []
field_names kinds.ObjectPointer = codes "value" ∷ []
field_names kinds.Macro = codes "bytes" ∷ []
