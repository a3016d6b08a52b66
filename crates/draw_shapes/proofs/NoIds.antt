-- Shapes have no IDs of objects.
use Rattle.std.proofs.Common.{◌≡◌, ℕ, zero, suc, ◌*◌, min, Bool, true, false, cond, List, [], ◌∷◌, ◌++◌, map, Option, Some, None, refl, ap₂, ◌∙◌}
use Rattle.std.specs.Prelude.{◌==◌}
use Rattle.std.specs.FinMap as finite
use Rattle.vt_kinds.specs.declared.object.Object.TheVariants as objects
use Rattle.vt_kinds.specs.declared.graphs.ArchedBar.{ArchedBar}
use Rattle.vt_kinds.specs.declared.graphs.LinearBar.{LinearBar}
use Rattle.vt_kinds.specs.declared.shapes.Ellipse.{Ellipse}
use Rattle.vt_kinds.specs.declared.shapes.Polygon.{Polygon}
use Rattle.vt_kinds.specs.Records.{Seen}
use Rattle.vt_stores.specs.Stores.{ObjectMap}
use Rattle.vt_shown.specs.ShownElements.{number_shown}
use Rattle.vt_layout.specs.Lines.{text_shown}
use Rattle.check_needs.specs.declared.sizes.Sizes.{Sizes}
use Rattle.draw_svg.specs.declared.attribute.Attribute.TheVariants as attributes
use Rattle.draw_svg.specs.declared.attribute.Paint.{Paint}
use Rattle.draw_svg.specs.declared.attribute.Paint.TheVariants as paints
use Rattle.draw_svg.specs.declared.element.Element.TheVariants as elements
use Rattle.draw_svg.specs.Elements.{Nodes, Along, followed, object_id, object_ids, when}
use Rattle.draw_svg.specs.Elements as nodes
use Rattle.draw_svg.proofs.AppendedNodes.{gathered_followed}
use Rattle.draw_shapes.specs.declared.pen.Pen.{Pen}
use Rattle.draw_shapes.specs.declared.shapes.fields.Field.{Field}
use Rattle.draw_shapes.specs.declared.shapes.fields.Look.{Look}
use Rattle.draw_shapes.specs.Bits.{has_bit}
use Rattle.draw_shapes.specs.Ellipses as ellipses
use Rattle.draw_shapes.specs.Fields.{columns, field_shapes, look_of, most_rows, only_row, pieces, row_nodes, trimmed}
use Rattle.draw_shapes.specs.Gauges as gauges
use Rattle.draw_shapes.specs.Lines as lines
use Rattle.draw_shapes.specs.Pens.{drawn_with, fill_of, pen_of}
use Rattle.draw_shapes.specs.Shapes.{shapes}
use Rattle.draw_shapes.specs.Texts as fields

-- ---- nodes in parts

either : (b : Bool) (m n : Nodes) → object_ids m ≡ [] → object_ids n ≡ [] → object_ids (cond b m n) ≡ []
either true m n first second = first
either false m n first second = second

both : (m n : Nodes) → object_ids m ≡ [] → object_ids n ≡ [] → object_ids (followed m n) ≡ []
both m n first second = gathered_followed object_id m n ∙ ap₂ (λ a b. a ++ b) first second

all_below : (draws : ℕ → Nodes) → ((i : ℕ) → object_ids (draws i) ≡ []) → (n : ℕ) → object_ids (gauges.each_below draws n) ≡ []
all_below draws none zero = refl
all_below draws none (suc n) = both (gauges.each_below draws n) (draws n) (all_below draws none n) (none n)

-- ---- fields

only_none : (look : Look) (field : Field) (text : List ℕ) → object_ids (only_row look field text) ≡ []
only_none look field [] = refl
only_none look field (c ∷ text) = refl

rows : (look : Look) (field : Field) (i : ℕ) (texts : List (List ℕ)) → object_ids (row_nodes look field i texts) ≡ []
rows look field i [] = refl
rows look field i (row ∷ more) = rows look field (suc i) more

field_none : (look : Option Look) (field : Field) (text : Option (List ℕ)) → object_ids (field_shapes look field text) ≡ []
field_none None field text = refl
field_none (Some look) field None = refl
field_none (Some look) field (Some text) =
    either field.wraps (row_nodes look field 0 (pieces (most_rows look field) (columns look field) text)) (only_row look field (trimmed text))
    (rows look field 0 (pieces (most_rows look field) (columns look field) text)) (only_none look field (trimmed text))

tick_none : (look : Option Look) (width : ℕ) (n : Option ℕ) → object_ids (fields.check_mark_if look width n) ≡ []
tick_none look width None = refl
tick_none look width (Some n) = either (n == 0) nodes.None (fields.check_mark look width) refl refl

-- ---- shapes

ellipse_none : (paint : Paint) (pen : Pen) (o : Ellipse) → object_ids (ellipses.ellipse_outline paint pen o) ≡ []
ellipse_none paint pen o =
    let whole = ellipses.whole paint pen o in
    let arc = ellipses.arc_shape elements.Polyline paints.None pen o in
    let segment = ellipses.arc_shape elements.Polygon paint pen o in
    let section = ellipses.section paint pen o in
    let closed = either (o.ellipse_type == 2) segment section refl refl in
    either (ellipses.is_whole o) whole (cond (o.ellipse_type == 1) arc (cond (o.ellipse_type == 2) segment section)) refl
    (either (o.ellipse_type == 1) arc (cond (o.ellipse_type == 2) segment section) refl closed)

across_none : (o : LinearBar) (colour width n most : ℕ) → object_ids (gauges.across o (gauges.plain_line colour width) n most) ≡ []
across_none o colour width n most =
    let attributes = gauges.plain_line colour width in
    let upright = gauges.line attributes (lines.point (gauges.along_axis o n) 0) (lines.point (gauges.along_axis o n) (min most (10 * o.height))) in
    let level = gauges.line attributes (lines.point 0 (gauges.along_axis o n)) (lines.point (min most (10 * o.width)) (gauges.along_axis o n)) in
    either (gauges.is_horizontal o) upright level refl refl

if_set : (b : Bool) (n : Nodes) → object_ids n ≡ [] → object_ids (when b n) ≡ []
if_set b n none = either b n nodes.None none refl

polygon_none : (store : ObjectMap) (pen : Pen) (o : Polygon) → object_ids (lines.polygon_outline store o pen) ≡ []
polygon_none store pen o =
    let points = map lines.middle o.points in
    let lined = Along elements.Polyline (drawn_with paints.None pen) points nodes.None in
    let filled = Along elements.Polygon (drawn_with (fill_of store (finite.get store o.fill) pen) pen) points nodes.None in
    either (o.polygon_type == 3) lined filled refl refl

value_none : (store : ObjectMap) (o : LinearBar) → object_ids (gauges.value_part store o) ≡ []
value_none store o =
    let n = gauges.value_length store o in
    let filled = Along elements.Polygon (attributes.Fill (paints.Colour o.colour) ∷ []) (gauges.part_between o 0 n) nodes.None in
    either (has_bit o.options 3) (gauges.across o (gauges.plain_line o.colour 20) n 1000000) filled (across_none o o.colour 20 n 1000000) refl

arch_none : (store : ObjectMap) (o : ArchedBar) → object_ids (gauges.arch_part store o) ≡ []
arch_none store o =
    let n = gauges.arch_value store o in
    let line = gauges.across_arch o o.colour n in
    let filled = Along elements.Polygon (attributes.Fill (paints.Colour o.colour) ∷ []) (gauges.between_edges o (gauges.first_angle o n) n) nodes.None in
    either (has_bit o.options 3) line filled refl refl

pub no_ids : (sizes : Sizes) (store : ObjectMap) (id : ℕ) (object : Seen) → object_ids (shapes sizes store id object) ≡ []
no_ids sizes store id (objects.Key o) = refl
no_ids sizes store id (objects.Button o) = refl
no_ids sizes store id (objects.InputBoolean o) =
    both (field_shapes None (fields.input_boolean_field o) None) (fields.check_mark_if (look_of (finite.get store o.font)) o.width (number_shown store o.variable o.value))
    (field_none None (fields.input_boolean_field o) None) (tick_none (look_of (finite.get store o.font)) o.width (number_shown store o.variable o.value))
no_ids sizes store id (objects.InputString o) = field_none (look_of (finite.get store o.font)) (fields.input_string_field o) (text_shown store o.variable o.text)
no_ids sizes store id (objects.InputNumber o) = field_none (look_of (finite.get store o.font)) (fields.input_number_field o) (fields.input_number_text store o)
no_ids sizes store id (objects.InputList o) = refl
no_ids sizes store id (objects.OutputString o) = field_none (look_of (finite.get store o.font)) (fields.output_string_field o) (text_shown store o.variable o.text)
no_ids sizes store id (objects.OutputNumber o) = field_none (look_of (finite.get store o.font)) (fields.output_number_field o) (fields.output_number_text store o)
no_ids sizes store id (objects.Line o) = refl
no_ids sizes store id (objects.Rectangle o) = refl
no_ids sizes store id (objects.Ellipse o) = ellipse_none (fill_of store (finite.get store o.fill) (pen_of (finite.get store o.line_attributes))) (pen_of (finite.get store o.line_attributes)) o
no_ids sizes store id (objects.Polygon o) = polygon_none store (pen_of (finite.get store o.line_attributes)) o
no_ids sizes store id (objects.Meter o) =
    let ticks = if_set (has_bit o.options 2) (gauges.each_below (gauges.meter_tick o) o.ticks) (all_below (gauges.meter_tick o) (λ i. refl) o.ticks) in
    let arc = when (has_bit o.options 0) (gauges.meter_arc o) in
    let border = when (has_bit o.options 1) (gauges.meter_border o) in
    let marked = when (has_bit o.options 2) (gauges.each_below (gauges.meter_tick o) o.ticks) in
    let needle = gauges.needle store o in
    both arc (followed border (followed marked needle)) (if_set (has_bit o.options 0) (gauges.meter_arc o) refl)
    (both border (followed marked needle) (if_set (has_bit o.options 1) (gauges.meter_border o) refl) (both marked needle ticks refl))
no_ids sizes store id (objects.LinearBar o) =
    let value = gauges.value_part store o in
    let marked = when (has_bit o.options 2) (gauges.each_below (gauges.bar_tick o) o.ticks) in
    let target = when (has_bit o.options 1) (gauges.bar_target store o) in
    let border = when (has_bit o.options 0) (gauges.bar_border o) in
    let ticks = if_set (has_bit o.options 2) (gauges.each_below (gauges.bar_tick o) o.ticks)
    (all_below (gauges.bar_tick o) (λ i. across_none o 0 10 (gauges.tick_at (gauges.length_of o) o.ticks i) 40) o.ticks) in
    let length = gauges.share (gauges.length_of o) o.min o.max (gauges.shown store o.target_variable o.target) in
    both value (followed border (followed marked target)) (value_none store o)
    (both border (followed marked target) (if_set (has_bit o.options 0) (gauges.bar_border o) refl)
    (both marked target ticks (if_set (has_bit o.options 1) (gauges.bar_target store o) (across_none o o.target_colour 20 length 1000000))))
no_ids sizes store id (objects.ArchedBar o) =
    let value = gauges.arch_part store o in
    let target = when (has_bit o.options 1) (gauges.arch_target store o) in
    let border = when (has_bit o.options 0) (gauges.arch_border o) in
    both value (followed border target) (arch_none store o)
    (both border target (if_set (has_bit o.options 0) (gauges.arch_border o) refl) (if_set (has_bit o.options 1) (gauges.arch_target store o) refl))
no_ids sizes store id (objects.Picture o) = refl
no_ids sizes store id (objects.WorkingSet o) = refl
no_ids sizes store id (objects.DataMask o) = refl
no_ids sizes store id (objects.AlarmMask o) = refl
no_ids sizes store id (objects.Container o) = refl
no_ids sizes store id (objects.SoftKeyMask o) = refl
no_ids sizes store id (objects.NumberVariable o) = refl
no_ids sizes store id (objects.StringVariable o) = refl
no_ids sizes store id (objects.Font o) = refl
no_ids sizes store id (objects.LineAttributes o) = refl
no_ids sizes store id (objects.FillAttributes o) = refl
no_ids sizes store id (objects.InputAttributes o) = refl
no_ids sizes store id (objects.ObjectPointer o) = refl
no_ids sizes store id (objects.Macro o) = refl
