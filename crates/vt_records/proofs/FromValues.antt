-- An object is recovered from the values of its record, and each list of fitting values belongs to some object.
use Rattle.std.proofs.Common.{◌≡◌, ℕ, List, [], ◌∷◌, length, map, Option, Some, None, refl, sym, ap, ◌∙◌, arith}
use Rattle.std.specs.Prelude.{ℤ}
use Rattle.std.proofs.lemmas.List.{length-map}
use Rattle.vt_kinds.specs.declared.kind.Kind.{Kind}
use Rattle.vt_kinds.specs.declared.kind.Kind.TheVariants as kinds
use Rattle.vt_kinds.specs.declared.object.Object.TheVariants as objects
use Rattle.vt_kinds.specs.declared.scale.Scale.{Scale}
use Rattle.vt_kinds.specs.Layout.{Counted, Objects, Macros, Others, Unsigned, Signed, natural, integer, RecordField, Number, Count, Rows, Bytes, ScaleBytes, DecimalPlaces, Value, number, rows, bytes, RecordCounts, counted, count_of, FieldsFit, IsProper, Proper, no_counts}
use Rattle.vt_kinds.specs.Scales.{scale_number}
use Rattle.vt_kinds.specs.Tables.{child_sizes, macro_sizes, language_sizes, id_sizes, point_sizes}
use Rattle.vt_kinds.specs.Records.{Seen, fields_of, kind_of, values_of}
use Rattle.vt_records.specs.TableReads.{◌>>=◌}
use Rattle.vt_records.proofs.Numbers.{some_is}
use Rattle.vt_records.proofs.Entries.{entries_of, list_back, list_again, scale_from, scale_back, scale_again}

-- ---- from the values of a table's fields

-- the content type of a field
abbrev pub Content : RecordField → Type 0
Content (Number (Signed width)) = ℤ
Content (Rows of sizes) = List ((entries_of of sizes).Entry)
Content (Bytes of) = List ℕ
Content ScaleBytes = Scale
Content _ = ℕ

abbrev pub content : (f : RecordField) → Value → Option (Content f)
content (Number (Unsigned size)) (number (natural n)) = Some n
content (Number (Signed width)) (number (integer z)) = Some z
content (Count size of) (number (natural n)) = Some n
content (Rows of sizes) (rows rs) = Some (map (entries_of of sizes).entry rs)
content (Bytes of) (bytes bs) = Some bs
content ScaleBytes (number (natural n)) = Some (scale_from n)
content DecimalPlaces (number (natural n)) = Some n
content _ _ = None

-- a function of the content of each field
abbrev pub Maker : List RecordField → Type 0 → Type 0
Maker [] A = A
Maker (f ∷ fs) A = Content f → Maker fs A

abbrev pub made : {A : Type 0} (fs : List RecordField) → Maker fs A → List Value → Option A
made [] m [] = Some m
made (f ∷ fs) m (v ∷ vs) = content f v >>= λ x. made fs (m x) vs
made _ _ _ = None

-- ---- the objects of each kind

-- makes an object of a kind from the content of each field; counts are ignored
abbrev pub maker : (kind : Kind) → Maker (fields_of kind) Seen
maker kinds.WorkingSet = λ colour selectable active_mask _ _ _ children macros languages. objects.WorkingSet (record { colour = colour; selectable = selectable; active_mask = active_mask; children = children; macros = macros; languages = languages })
maker kinds.DataMask = λ colour soft_key_mask _ _ children macros. objects.DataMask (record { colour = colour; soft_key_mask = soft_key_mask; children = children; macros = macros })
maker kinds.AlarmMask = λ colour soft_key_mask priority acoustic _ _ children macros. objects.AlarmMask (record { colour = colour; soft_key_mask = soft_key_mask; priority = priority; acoustic = acoustic; children = children; macros = macros })
maker kinds.Container = λ width height hidden _ _ children macros. objects.Container (record { width = width; height = height; hidden = hidden; children = children; macros = macros })
maker kinds.SoftKeyMask = λ colour _ _ keys macros. objects.SoftKeyMask (record { colour = colour; keys = keys; macros = macros })
maker kinds.Key = λ colour key_code _ _ children macros. objects.Key (record { colour = colour; key_code = key_code; children = children; macros = macros })
maker kinds.Button = λ width height colour border key_code options _ _ children macros. objects.Button (record { width = width; height = height; colour = colour; border = border; key_code = key_code; options = options; children = children; macros = macros })
maker kinds.InputBoolean = λ colour width font variable value enabled _ macros. objects.InputBoolean (record { colour = colour; width = width; font = font; variable = variable; value = value; enabled = enabled; macros = macros })
maker kinds.InputString = λ width height colour font input_attributes options variable justification _ the_text enabled _ macros. objects.InputString (record { width = width; height = height; colour = colour; font = font; input_attributes = input_attributes; options = options; variable = variable; justification = justification; text = the_text; enabled = enabled; macros = macros })
maker kinds.InputNumber = λ width height colour font options variable value the_min the_max offset scale decimals format justification options_two _ macros. objects.InputNumber (record { width = width; height = height; colour = colour; font = font; options = options; variable = variable; value = value; min = the_min; max = the_max; offset = offset; scale = scale; decimals = decimals; format = format; justification = justification; options_two = options_two; macros = macros })
maker kinds.InputList = λ width height variable value _ options _ items macros. objects.InputList (record { width = width; height = height; variable = variable; value = value; options = options; items = items; macros = macros })
maker kinds.OutputString = λ width height colour font options variable justification _ the_text _ macros. objects.OutputString (record { width = width; height = height; colour = colour; font = font; options = options; variable = variable; justification = justification; text = the_text; macros = macros })
maker kinds.OutputNumber = λ width height colour font options variable value offset scale decimals format justification _ macros. objects.OutputNumber (record { width = width; height = height; colour = colour; font = font; options = options; variable = variable; value = value; offset = offset; scale = scale; decimals = decimals; format = format; justification = justification; macros = macros })
maker kinds.Line = λ line_attributes width height direction _ macros. objects.Line (record { line_attributes = line_attributes; width = width; height = height; direction = direction; macros = macros })
maker kinds.Rectangle = λ line_attributes width height suppression fill _ macros. objects.Rectangle (record { line_attributes = line_attributes; width = width; height = height; suppression = suppression; fill = fill; macros = macros })
maker kinds.Ellipse = λ line_attributes width height ellipse_type start the_end fill _ macros. objects.Ellipse (record { line_attributes = line_attributes; width = width; height = height; ellipse_type = ellipse_type; start = start; end = the_end; fill = fill; macros = macros })
maker kinds.Polygon = λ width height line_attributes fill polygon_type _ _ points macros. objects.Polygon (record { width = width; height = height; line_attributes = line_attributes; fill = fill; polygon_type = polygon_type; points = points; macros = macros })
maker kinds.Meter = λ width needle_colour border_colour arc_colour options ticks start the_end the_min the_max variable value _ macros. objects.Meter (record { width = width; needle_colour = needle_colour; border_colour = border_colour; arc_colour = arc_colour; options = options; ticks = ticks; start = start; end = the_end; min = the_min; max = the_max; variable = variable; value = value; macros = macros })
maker kinds.LinearBar = λ width height colour target_colour options ticks the_min the_max variable value target_variable target _ macros. objects.LinearBar (record { width = width; height = height; colour = colour; target_colour = target_colour; options = options; ticks = ticks; min = the_min; max = the_max; variable = variable; value = value; target_variable = target_variable; target = target; macros = macros })
maker kinds.ArchedBar = λ width height colour target_colour options start the_end bar_width the_min the_max variable value target_variable target _ macros. objects.ArchedBar (record { width = width; height = height; colour = colour; target_colour = target_colour; options = options; start = start; end = the_end; bar_width = bar_width; min = the_min; max = the_max; variable = variable; value = value; target_variable = target_variable; target = target; macros = macros })
maker kinds.Picture = λ width actual_width actual_height format options transparency _ _ the_bytes macros. objects.Picture (record { width = width; actual_width = actual_width; actual_height = actual_height; format = format; options = options; transparency = transparency; bytes = the_bytes; macros = macros })
maker kinds.NumberVariable = λ value. objects.NumberVariable (record { value = value })
maker kinds.StringVariable = λ _ the_text. objects.StringVariable (record { text = the_text })
maker kinds.Font = λ colour size font_type style _ macros. objects.Font (record { colour = colour; size = size; font_type = font_type; style = style; macros = macros })
maker kinds.LineAttributes = λ colour width line_art _ macros. objects.LineAttributes (record { colour = colour; width = width; line_art = line_art; macros = macros })
maker kinds.FillAttributes = λ fill_type colour pattern _ macros. objects.FillAttributes (record { fill_type = fill_type; colour = colour; pattern = pattern; macros = macros })
maker kinds.InputAttributes = λ validation_type _ the_text _ macros. objects.InputAttributes (record { validation_type = validation_type; text = the_text; macros = macros })
maker kinds.ObjectPointer = λ value. objects.ObjectPointer (record { value = value })
maker kinds.Macro = λ _ the_bytes. objects.Macro (record { bytes = the_bytes })

-- the object of a kind with these values
abbrev pub object_from : Kind → List Value → Option Seen
object_from kind vs = made (fields_of kind) (maker kind) vs

-- ---- an object from its values

from_values : (o : Seen) → object_from (kind_of o) (values_of o) ≡ Some o
from_values (objects.Macro o) = refl
from_values o =
    grind (arith, list_back (entries_of Objects child_sizes), list_back (entries_of Macros macro_sizes), list_back (entries_of Others language_sizes), list_back (entries_of Objects id_sizes), list_back (entries_of Others point_sizes), scale_back)

pub same_object : (o p : Seen) → object_from (kind_of o) (values_of o) ≡ object_from (kind_of p) (values_of p) → o ≡ p
same_object o p e = some_is o p (sym (from_values o) ∙ e ∙ from_values p)

-- ---- an object for each list of fitting values

-- applies a function to the result of a maker
abbrev after : {A B : Type 0} (fs : List RecordField) → (A → B) → Maker fs A → Maker fs B
after [] g m = g m
after (f ∷ fs) g m = λ x. after fs g (m x)

through : {X A B : Type 0} (r : Option X) (k : X → Option A) (l : X → Option B) (g : A → B) → ((x : X) → l x ≡ (k x >>= λ y. Some (g y))) → (r >>= l) ≡ ((r >>= k) >>= λ y. Some (g y))
through None k l g same = refl
through (Some x) k l g same = same x

made_after : {A B : Type 0} (fs : List RecordField) (g : A → B) (m : Maker fs A) (vs : List Value) → made fs (after fs g m) vs ≡ (made fs m vs >>= λ y. Some (g y))
made_after [] g m [] = refl
made_after [] g m (v ∷ vs) = refl
made_after (f ∷ fs) g m [] = refl
made_after (f ∷ fs) g m (v ∷ vs) = through (content f v) (λ x. made fs (m x) vs) (λ x. made fs (after fs g (m x)) vs) g (λ x. made_after fs g (m x) vs)

-- the counts after a field
abbrev next : RecordCounts → (f : RecordField) → Content f → RecordCounts
next counts (Count size of) n = counted of n counts
next counts _ _ = counts

-- prepends a field to the counts and values of the later fields, where each count is the length of its list
abbrev from_field : RecordCounts → (f : RecordField) → Content f → RecordCounts × List Value → RecordCounts × List Value
from_field counts (Number (Unsigned size)) n (c, vs) = (c, number (natural n) ∷ vs)
from_field counts (Number (Signed width)) z (c, vs) = (c, number (integer z) ∷ vs)
from_field counts (Count size of) n (c, vs) = (counted of (count_of of counts) c, number (natural (count_of of c)) ∷ vs)
from_field counts (Rows of sizes) xs (c, vs) = (counted of (length xs) c, rows (map (entries_of of sizes).numbers xs) ∷ vs)
from_field counts (Bytes of) bs (c, vs) = (counted of (length bs) c, bytes bs ∷ vs)
from_field counts ScaleBytes s (c, vs) = (c, number (natural (scale_number s)) ∷ vs)
from_field counts DecimalPlaces n (c, vs) = (c, number (natural n) ∷ vs)

-- the counts and values of each field's content
abbrev spelled : RecordCounts → (fs : List RecordField) → Maker fs (RecordCounts × List Value)
spelled counts [] = (counts, [])
spelled counts (f ∷ fs) = λ x. after fs (from_field counts f x) (spelled (next counts f x) fs)

-- the content of the first of fitting values
record IsContent (counts : RecordCounts) (f : RecordField) (fs : List RecordField) (v : Value) (vs : List Value) : Type 0 where
  its_content : Content f
  content_is : content f v ≡ Some its_content
  others_fit : FieldsFit fs (next counts f its_content) vs
  again : from_field counts f its_content (next counts f its_content, vs) ≡ (counts, v ∷ vs)

counted_again : (of : Counted) (counts : RecordCounts) (n : ℕ) → n ≡ count_of of counts → counted of n counts ≡ counts
counted_again Objects counts n e = ap (λ (k : ℕ). counted Objects k counts) e
counted_again of counts n e = ap (λ (k : ℕ). counted of k counts) e

is_content : (counts : RecordCounts) (f : RecordField) (fs : List RecordField) (v : Value) (vs : List Value) → FieldsFit (f ∷ fs) counts (v ∷ vs) → IsProper f v → IsContent counts f fs v vs
is_content counts (Number (Unsigned size)) fs (number (natural n)) vs fit proper = record { its_content = n; content_is = refl; others_fit = fit.1; again = refl }
is_content counts (Number (Signed width)) fs (number (integer z)) vs fit proper = record { its_content = z; content_is = refl; others_fit = fit.1; again = refl }
is_content counts (Count size Objects) fs (number (natural n)) vs fit proper = record { its_content = n; content_is = refl; others_fit = fit.1; again = refl }
is_content counts (Count size of) fs (number (natural n)) vs fit proper = record { its_content = n; content_is = refl; others_fit = fit.1; again = refl }
is_content counts (Rows of sizes) fs (rows rs) vs fit proper =
    let e = entries_of of sizes in
    let counts_again = counted_again of counts (length (map e.entry rs)) (length-map rs e.entry ∙ fit.0) in
    record { its_content = map e.entry rs; content_is = refl; others_fit = fit.2; again = λ i. (counts_again i, rows (list_again e rs fit.1 i) ∷ vs) }
is_content counts (Bytes of) fs (bytes bs) vs fit proper =
    record { its_content = bs; content_is = refl; others_fit = fit.2; again = λ i. (counted_again of counts (length bs) fit.0 i, bytes bs ∷ vs) }
is_content counts ScaleBytes fs (number (natural n)) vs fit proper =
    record { its_content = scale_from n; content_is = refl; others_fit = fit.1; again = λ i. (counts, number (natural (scale_again n proper i)) ∷ vs) }
is_content counts DecimalPlaces fs (number (natural n)) vs fit proper = record { its_content = n; content_is = refl; others_fit = fit.1; again = refl }
is_content counts f fs v vs fit proper = absurd (assumption)

none_fit : (f : RecordField) (fs : List RecordField) (counts : RecordCounts) → FieldsFit (f ∷ fs) counts [] → ⊥
none_fit (Number size) fs counts fit = fit
none_fit f fs counts fit = fit

spelled_again : (counts : RecordCounts) (fs : List RecordField) (vs : List Value) → FieldsFit fs counts vs → Proper fs vs → made fs (spelled counts fs) vs ≡ Some (counts, vs)
spelled_again counts [] [] fit proper = refl
spelled_again counts [] (v ∷ vs) fit proper = absurd fit
spelled_again counts (f ∷ fs) [] fit proper = absurd (none_fit f fs counts fit)
spelled_again counts (f ∷ fs) (v ∷ vs) fit proper =
    let first = is_content counts f fs v vs fit proper.0 in
    let others = spelled_again (next counts f first.its_content) fs vs first.others_fit proper.1 in
    ap (λ (r : Option (Content f)). r >>= λ x. made fs (spelled counts (f ∷ fs) x) vs) first.content_is
    ∙ made_after fs (from_field counts f first.its_content) (spelled (next counts f first.its_content) fs) vs
    ∙ ap (λ (r : Option (RecordCounts × List Value)). r >>= λ p. Some (from_field counts f first.its_content p)) others
    ∙ ap (λ (p : RecordCounts × List Value). Some p) first.again

-- an object of a kind with these values
pub record IsObject (kind : Kind) (vs : List Value) : Type 0 where
  pub object : Seen
  pub its_kind : kind_of object ≡ kind
  pub its_values : values_of object ≡ vs

abbrev seen_as : Seen → Kind × List Value
seen_as o = (kind_of o, values_of o)

-- the values of a made object are those of its fields' content
maker_spells : (kind : Kind) → after (fields_of kind) seen_as (maker kind) ≡ after (fields_of kind) (λ (p : RecordCounts × List Value). (kind, p.1)) (spelled no_counts (fields_of kind))
maker_spells kinds.WorkingSet = refl
maker_spells kind = refl

is_object : (kind : Kind) (vs : List Value) (made : Option Seen) → (made >>= λ o. Some (seen_as o)) ≡ Some (kind, vs) → IsObject kind vs
is_object kind vs None e = absurd cc
is_object kind vs (Some o) e =
    let both = some_is (seen_as o) (kind, vs) e in
    record { object = o; its_kind = ap (λ (p : Kind × List Value). p.0) both; its_values = ap (λ (p : Kind × List Value). p.1) both }

pub object_there : (kind : Kind) (vs : List Value) → FieldsFit (fields_of kind) no_counts vs → Proper (fields_of kind) vs → IsObject kind vs
object_there kind vs fit proper =
    let fs = fields_of kind in
    let of_values : RecordCounts × List Value → Kind × List Value = λ p. (kind, p.1) in
    is_object kind vs (object_from kind vs)
    (sym (made_after fs seen_as (maker kind) vs) ∙ ap (λ (m : Maker fs (Kind × List Value)). made fs m vs) (maker_spells kind)
    ∙ made_after fs of_values (spelled no_counts fs) vs ∙ ap (λ (r : Option (RecordCounts × List Value)). r >>= λ p. Some (of_values p)) (spelled_again no_counts fs vs fit proper))
