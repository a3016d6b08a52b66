-- Shapes refer to the picture that is used, and to no other.
use Rattle.std.proofs.Common.{◌≡◌, ℕ, zero, suc, ◌*◌, min, Bool, true, false, cond, List, [], ◌∷◌, ◌++◌, map, Option, Some, None, refl, sym, ap, ap₂, subst, ◌∙◌}
use Rattle.std.specs.Prelude.{◌==◌, ◌/◌, ◌%◌}
use Rattle.std.specs.List.{AllByRecursion}
use Rattle.std.proofs.lemmas.List.{append-nil}
use Rattle.std.specs.FinMap as finite
use Rattle.vt_kinds.specs.declared.attribute_objects.FillAttributes.{FillAttributes}
use Rattle.vt_kinds.specs.declared.attribute_objects.LineAttributes.{LineAttributes}
use Rattle.vt_kinds.specs.declared.object.Object.TheVariants as objects
use Rattle.vt_kinds.specs.declared.graphs.ArchedBar.{ArchedBar}
use Rattle.vt_kinds.specs.declared.graphs.LinearBar.{LinearBar}
use Rattle.vt_kinds.specs.declared.shapes.Ellipse.{Ellipse}
use Rattle.vt_kinds.specs.declared.shapes.Polygon.{Polygon}
use Rattle.vt_kinds.specs.declared.shapes.Rectangle.{Rectangle}
use Rattle.vt_kinds.specs.Records.{Seen}
use Rattle.vt_stores.specs.Stores.{ObjectMap}
use Rattle.vt_shown.specs.ShownElements.{number_shown}
use Rattle.vt_layout.specs.Lines.{text_shown}
use Rattle.check_needs.specs.declared.sizes.Sizes.{Sizes}
use Rattle.draw_svg.specs.declared.attribute.Attribute.TheVariants as attributes
use Rattle.draw_svg.specs.declared.attribute.Paint.{Paint}
use Rattle.draw_svg.specs.declared.attribute.Paint.TheVariants as paints
use Rattle.draw_svg.specs.declared.element.Element.TheVariants as elements
use Rattle.draw_svg.specs.Elements.{Nodes, Along, followed, pattern_id, reference, references, when}
use Rattle.draw_svg.specs.Elements as nodes
use Rattle.draw_svg.proofs.AppendedNodes.{gathered_followed}
use Rattle.draw_shapes.specs.declared.pen.Pen.{Pen}
use Rattle.draw_shapes.specs.declared.shapes.fields.Field.{Field}
use Rattle.draw_shapes.specs.declared.shapes.fields.Look.{Look}
use Rattle.draw_shapes.specs.Bits.{has_bit}
use Rattle.draw_shapes.specs.Ellipses as ellipses
use Rattle.draw_shapes.specs.Fields.{background, columns, field_shapes, look_of, most_rows, only_row, pieces, row_nodes, texts, trimmed}
use Rattle.draw_shapes.specs.Gauges as gauges
use Rattle.draw_shapes.specs.Lines as lines
use Rattle.draw_shapes.specs.Pens.{drawn_with, fill_attributes_in, fill_from, fill_of, line_attributes_in, no_pen, pattern_of, pen_from, pen_of}
use Rattle.draw_shapes.specs.Shapes.{shapes}
use Rattle.draw_shapes.specs.Texts as fields
use Rattle.draw_shapes.specs.UsedPictures.{pattern_in, pattern_used, used_picture}

-- ---- nodes without references

either : (b : Bool) (m n : Nodes) → references m ≡ [] → references n ≡ [] → references (cond b m n) ≡ []
either true m n first second = first
either false m n first second = second

both : (m n : Nodes) → references m ≡ [] → references n ≡ [] → references (followed m n) ≡ []
both m n first second = gathered_followed reference m n ∙ ap₂ (λ a b. a ++ b) first second

if_set : (b : Bool) (n : Nodes) → references n ≡ [] → references (when b n) ≡ []
if_set b n none = either b n nodes.None none refl

all_below : (draws : ℕ → Nodes) → ((i : ℕ) → references (draws i) ≡ []) → (n : ℕ) → references (gauges.each_below draws n) ≡ []
all_below draws none zero = refl
all_below draws none (suc n) = both (gauges.each_below draws n) (draws n) (all_below draws none n) (none n)

-- ---- fields

one_paint : (b : Bool) (m n : Paint) → pattern_id m ≡ [] → pattern_id n ≡ [] → pattern_id (cond b m n) ≡ []
one_paint true m n first second = first
one_paint false m n first second = second

background_none : (look : Option Look) (field : Field) → pattern_id (background look field) ≡ []
background_none None field = one_paint field.is_transparent paints.None (paints.Colour field.colour) refl refl
background_none (Some look) field =
    one_paint (has_bit look.style 4) (paints.Colour look.colour) (cond field.is_transparent paints.None (paints.Colour field.colour)) refl
    (one_paint field.is_transparent paints.None (paints.Colour field.colour) refl refl)

rows_none : (look : Look) (field : Field) (i : ℕ) (rows : List (List ℕ)) → references (row_nodes look field i rows) ≡ []
rows_none look field i [] = refl
rows_none look field i (row ∷ rows) = rows_none look field (suc i) rows

only_none : (look : Look) (field : Field) (text : List ℕ) → references (only_row look field text) ≡ []
only_none look field [] = refl
only_none look field (c ∷ text) = refl

texts_none : (look : Option Look) (field : Field) (text : Option (List ℕ)) → references (texts look field text) ≡ []
texts_none None field text = refl
texts_none (Some look) field None = refl
texts_none (Some look) field (Some text) =
    either field.wraps (row_nodes look field 0 (pieces (most_rows look field) (columns look field) text)) (only_row look field (trimmed text))
    (rows_none look field 0 (pieces (most_rows look field) (columns look field) text)) (only_none look field (trimmed text))

field_none : (look : Option Look) (field : Field) (text : Option (List ℕ)) → pattern_id field.border ≡ [] → references (field_shapes look field text) ≡ []
field_none look field text border =
    ap₂ (λ (a b : List ℕ). (a ++ (b ++ [])) ++ references (texts look field text)) (background_none look field) border ∙ texts_none look field text

tick_none : (look : Option Look) (width : ℕ) (n : Option ℕ) → references (fields.check_mark_if look width n) ≡ []
tick_none look width None = refl
tick_none look width (Some n) = either (n == 0) nodes.None (fields.check_mark look width) refl refl

-- ---- pens and fillings

pen_none : (o : Option LineAttributes) → pattern_id (pen_from o).paint ≡ []
pen_none None = refl
pen_none (Some o) = refl

-- references of a paint to the pattern in it
abbrev Holds : Paint → Paint → Type 0
Holds fill paint = AllByRecursion (λ r. pattern_in fill ≡ Some r) (pattern_id paint)

own : (paint : Paint) → Holds paint paint
own paints.None = tt
own (paints.Colour n) = tt
own (paints.Pattern id) = (refl, tt)

no_reference : (fill paint : Paint) → pattern_id paint ≡ [] → Holds fill paint
no_reference fill paint none = subst (AllByRecursion (λ r. pattern_in fill ≡ Some r)) (sym none) tt

filled : (a b c : Bool) (pen : Pen) (pattern own_colour : Paint) → pattern_id pen.paint ≡ [] → pattern_id own_colour ≡ []
    → Holds (cond a paints.None (cond b paints.None (cond c pattern own_colour))) (cond a paints.None (cond b pen.paint (cond c pattern own_colour)))
filled true b c pen pattern own_colour none plain = tt
filled false true c pen pattern own_colour none plain = no_reference paints.None pen.paint none
filled false false true pen pattern own_colour none plain = own pattern
filled false false false pen pattern own_colour none plain = no_reference own_colour own_colour plain

fill_holds : (store : ObjectMap) (o : Option FillAttributes) (pen : Pen) → pattern_id pen.paint ≡ [] → Holds (fill_from store o no_pen) (fill_from store o pen)
fill_holds store None pen none = tt
fill_holds store (Some o) pen none =
    filled (o.fill_type == 0) (o.fill_type == 1) (o.fill_type == 3) pen (pattern_of o.pattern (finite.get store o.pattern)) (paints.Colour o.colour) none refl

-- ---- shapes with a filling

unless_none : (b : Bool) (pen : Pen) → pattern_id pen.paint ≡ [] → pattern_id (cond b no_pen pen).paint ≡ []
unless_none true pen none = refl
unless_none false pen none = none

rectangle_refers : (fill : Paint) (pen : Pen) (o : Rectangle) → pattern_id pen.paint ≡ []
    → references (nodes.Empty elements.Rect (lines.inside_attributes fill o) (lines.sides pen o)) ≡ pattern_id fill
rectangle_refers fill pen o none =
    let side : ℕ → List ℕ = λ n. pattern_id (cond (n == 1) no_pen pen).paint in
    let no_side : (n : ℕ) → side n ≡ [] = λ n. unless_none (n == 1) pen none in
    ap₂ (λ (a b : List ℕ). (pattern_id fill ++ []) ++ ((a ++ []) ++ ((b ++ []) ++ ((side (o.suppression / 4 % 2) ++ []) ++ ((side (o.suppression / 8 % 2) ++ []) ++ [])))))
    (no_side (o.suppression % 2)) (no_side (o.suppression / 2 % 2))
    ∙ ap₂ (λ (c d : List ℕ). (pattern_id fill ++ []) ++ ((c ++ []) ++ ((d ++ []) ++ []))) (no_side (o.suppression / 4 % 2)) (no_side (o.suppression / 8 % 2))
    ∙ append-nil (pattern_id fill ++ [])
    ∙ append-nil (pattern_id fill)

drawn_refers : (fill : Paint) (pen : Pen) → pattern_id pen.paint ≡ [] → (pattern_id fill ++ (pattern_id pen.paint ++ [])) ++ [] ≡ pattern_id fill
drawn_refers fill pen none =
    append-nil (pattern_id fill ++ (pattern_id pen.paint ++ [])) ∙ ap (λ (l : List ℕ). pattern_id fill ++ (l ++ [])) none ∙ append-nil (pattern_id fill)

-- all references of nodes are to the pattern of a filling
abbrev Refer : Paint → Nodes → Type 0
Refer used n = AllByRecursion (λ r. pattern_in used ≡ Some r) (references n)

refer_either : (used : Paint) (b : Bool) (m n : Nodes) → Refer used m → Refer used n → Refer used (cond b m n)
refer_either used true m n first second = first
refer_either used false m n first second = second

-- an ellipse_outline with a filling and a pen, of which only the filling has a pattern
refer_drawn : (used fill : Paint) (pen : Pen) (n : Nodes) → references n ≡ (pattern_id fill ++ (pattern_id pen.paint ++ [])) ++ [] → pattern_id pen.paint ≡ [] → Holds used fill
    → Refer used n
refer_drawn used fill pen n is none holds = subst (AllByRecursion (λ r. pattern_in used ≡ Some r)) (sym (is ∙ drawn_refers fill pen none)) holds

ellipse_refers : (used fill : Paint) (pen : Pen) (o : Ellipse) → pattern_id pen.paint ≡ [] → Holds used fill → Refer used (ellipses.ellipse_outline fill pen o)
ellipse_refers used fill pen o none holds =
    let whole = ellipses.whole fill pen o in
    let arc = ellipses.arc_shape elements.Polyline paints.None pen o in
    let segment = ellipses.arc_shape elements.Polygon fill pen o in
    let section = ellipses.section fill pen o in
    refer_either used (ellipses.is_whole o) whole (cond (o.ellipse_type == 1) arc (cond (o.ellipse_type == 2) segment section)) (refer_drawn used fill pen whole refl none holds)
    (refer_either used (o.ellipse_type == 1) arc (cond (o.ellipse_type == 2) segment section) (refer_drawn used paints.None pen arc refl none tt)
    (refer_either used (o.ellipse_type == 2) segment section (refer_drawn used fill pen segment refl none holds) (refer_drawn used fill pen section refl none holds)))

polygon_refers : (used : Paint) (store : ObjectMap) (pen : Pen) (o : Polygon) → pattern_id pen.paint ≡ [] → Holds used (fill_of store (finite.get store o.fill) pen)
    → Refer used (lines.polygon_outline store o pen)
polygon_refers used store pen o none holds =
    let points = map lines.middle o.points in
    let fill = fill_of store (finite.get store o.fill) pen in
    let lined = Along elements.Polyline (drawn_with paints.None pen) points nodes.None in
    let closed = Along elements.Polygon (drawn_with fill pen) points nodes.None in
    refer_either used (o.polygon_type == 3) lined closed (refer_drawn used paints.None pen lined refl none tt) (refer_drawn used fill pen closed refl none holds)

-- ---- meters and bars

across_none : (o : LinearBar) (colour width n most : ℕ) → references (gauges.across o (gauges.plain_line colour width) n most) ≡ []
across_none o colour width n most =
    let attributes = gauges.plain_line colour width in
    let upright = gauges.line attributes (lines.point (gauges.along_axis o n) 0) (lines.point (gauges.along_axis o n) (min most (10 * o.height))) in
    let level = gauges.line attributes (lines.point 0 (gauges.along_axis o n)) (lines.point (min most (10 * o.width)) (gauges.along_axis o n)) in
    either (gauges.is_horizontal o) upright level refl refl

value_none : (store : ObjectMap) (o : LinearBar) → references (gauges.value_part store o) ≡ []
value_none store o =
    let n = gauges.value_length store o in
    let bar = Along elements.Polygon (attributes.Fill (paints.Colour o.colour) ∷ []) (gauges.part_between o 0 n) nodes.None in
    either (has_bit o.options 3) (gauges.across o (gauges.plain_line o.colour 20) n 1000000) bar (across_none o o.colour 20 n 1000000) refl

arch_none : (store : ObjectMap) (o : ArchedBar) → references (gauges.arch_part store o) ≡ []
arch_none store o =
    let n = gauges.arch_value store o in
    let line = gauges.across_arch o o.colour n in
    let bar = Along elements.Polygon (attributes.Fill (paints.Colour o.colour) ∷ []) (gauges.between_edges o (gauges.first_angle o n) n) nodes.None in
    either (has_bit o.options 3) line bar refl refl

-- ---- all kinds

module _ (sizes : Sizes) (store : ObjectMap) (id : ℕ) where
  abbrev RefersRight : Seen → Type 0
  RefersRight object = AllByRecursion (λ r. used_picture store id object ≡ Some r) (references (shapes sizes store id object))

  none : (object : Seen) → references (shapes sizes store id object) ≡ [] → RefersRight object
  none object is = subst (AllByRecursion (λ r. used_picture store id object ≡ Some r)) (sym is) tt

pub refers : (sizes : Sizes) (store : ObjectMap) (id : ℕ) (object : Seen)
    → AllByRecursion (λ r. used_picture store id object ≡ Some r) (references (shapes sizes store id object))
refers sizes store id (objects.InputBoolean o) =
    none sizes store id (objects.InputBoolean o)
    (both (field_shapes None (fields.input_boolean_field o) None) (fields.check_mark_if (look_of (finite.get store o.font)) o.width (number_shown store o.variable o.value))
    (field_none None (fields.input_boolean_field o) None refl) (tick_none (look_of (finite.get store o.font)) o.width (number_shown store o.variable o.value)))
refers sizes store id (objects.InputString o) =
    none sizes store id (objects.InputString o) (field_none (look_of (finite.get store o.font)) (fields.input_string_field o) (text_shown store o.variable o.text) refl)
refers sizes store id (objects.InputNumber o) =
    none sizes store id (objects.InputNumber o) (field_none (look_of (finite.get store o.font)) (fields.input_number_field o) (fields.input_number_text store o) refl)
refers sizes store id (objects.InputList o) = none sizes store id (objects.InputList o) (field_none None (fields.input_list_field o) None refl)
refers sizes store id (objects.OutputString o) =
    none sizes store id (objects.OutputString o) (field_none (look_of (finite.get store o.font)) (fields.output_string_field o) (text_shown store o.variable o.text) refl)
refers sizes store id (objects.OutputNumber o) =
    none sizes store id (objects.OutputNumber o) (field_none (look_of (finite.get store o.font)) (fields.output_number_field o) (fields.output_number_text store o) refl)
refers sizes store id (objects.Line o) =
    let attributes = line_attributes_in (finite.get store o.line_attributes) in
    none sizes store id (objects.Line o) (ap (λ (l : List ℕ). (l ++ []) ++ []) (pen_none attributes))
refers sizes store id (objects.Rectangle o) =
    let pen = pen_of (finite.get store o.line_attributes) in
    let no_pattern = pen_none (line_attributes_in (finite.get store o.line_attributes)) in
    let fill = fill_of store (finite.get store o.fill) pen in
    subst (AllByRecursion (λ r. pattern_used store o.fill ≡ Some r)) (sym (rectangle_refers fill pen o no_pattern)) (fill_holds store (fill_attributes_in (finite.get store o.fill)) pen no_pattern)
refers sizes store id (objects.Ellipse o) =
    let pen = pen_of (finite.get store o.line_attributes) in
    let no_pattern = pen_none (line_attributes_in (finite.get store o.line_attributes)) in
    ellipse_refers (fill_of store (finite.get store o.fill) no_pen) (fill_of store (finite.get store o.fill) pen) pen o no_pattern
    (fill_holds store (fill_attributes_in (finite.get store o.fill)) pen no_pattern)
refers sizes store id (objects.Polygon o) =
    let pen = pen_of (finite.get store o.line_attributes) in
    let no_pattern = pen_none (line_attributes_in (finite.get store o.line_attributes)) in
    polygon_refers (fill_of store (finite.get store o.fill) no_pen) store pen o no_pattern (fill_holds store (fill_attributes_in (finite.get store o.fill)) pen no_pattern)
refers sizes store id (objects.Meter o) =
    let ticks = if_set (has_bit o.options 2) (gauges.each_below (gauges.meter_tick o) o.ticks) (all_below (gauges.meter_tick o) (λ i. refl) o.ticks) in
    let arc = when (has_bit o.options 0) (gauges.meter_arc o) in
    let border = when (has_bit o.options 1) (gauges.meter_border o) in
    let marked = when (has_bit o.options 2) (gauges.each_below (gauges.meter_tick o) o.ticks) in
    let needle = gauges.needle store o in
    none sizes store id (objects.Meter o)
    (both arc (followed border (followed marked needle)) (if_set (has_bit o.options 0) (gauges.meter_arc o) refl)
    (both border (followed marked needle) (if_set (has_bit o.options 1) (gauges.meter_border o) refl) (both marked needle ticks refl)))
refers sizes store id (objects.LinearBar o) =
    let value = gauges.value_part store o in
    let marked = when (has_bit o.options 2) (gauges.each_below (gauges.bar_tick o) o.ticks) in
    let target = when (has_bit o.options 1) (gauges.bar_target store o) in
    let border = when (has_bit o.options 0) (gauges.bar_border o) in
    let ticks = if_set (has_bit o.options 2) (gauges.each_below (gauges.bar_tick o) o.ticks)
    (all_below (gauges.bar_tick o) (λ i. across_none o 0 10 (gauges.tick_at (gauges.length_of o) o.ticks i) 40) o.ticks) in
    let length = gauges.share (gauges.length_of o) o.min o.max (gauges.shown store o.target_variable o.target) in
    none sizes store id (objects.LinearBar o)
    (both value (followed border (followed marked target)) (value_none store o)
    (both border (followed marked target) (if_set (has_bit o.options 0) (gauges.bar_border o) refl)
    (both marked target ticks (if_set (has_bit o.options 1) (gauges.bar_target store o) (across_none o o.target_colour 20 length 1000000)))))
refers sizes store id (objects.ArchedBar o) =
    let value = gauges.arch_part store o in
    let target = when (has_bit o.options 1) (gauges.arch_target store o) in
    let border = when (has_bit o.options 0) (gauges.arch_border o) in
    none sizes store id (objects.ArchedBar o)
    (both value (followed border target) (arch_none store o)
    (both border target (if_set (has_bit o.options 0) (gauges.arch_border o) refl) (if_set (has_bit o.options 1) (gauges.arch_target store o) refl)))
refers sizes store id (objects.Picture o) = (refl, tt)
refers sizes store id (objects.Key o) = tt
refers sizes store id (objects.Button o) = tt
refers sizes store id (objects.WorkingSet o) = tt
refers sizes store id (objects.DataMask o) = tt
refers sizes store id (objects.AlarmMask o) = tt
refers sizes store id (objects.Container o) = tt
refers sizes store id (objects.SoftKeyMask o) = tt
refers sizes store id (objects.NumberVariable o) = tt
refers sizes store id (objects.StringVariable o) = tt
refers sizes store id (objects.Font o) = tt
refers sizes store id (objects.LineAttributes o) = tt
refers sizes store id (objects.FillAttributes o) = tt
refers sizes store id (objects.InputAttributes o) = tt
refers sizes store id (objects.ObjectPointer o) = tt
refers sizes store id (objects.Macro o) = tt
