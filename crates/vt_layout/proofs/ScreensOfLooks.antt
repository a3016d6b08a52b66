-- Stores that look the same have the same screens.
use Rattle.std.proofs.Common.{◌≡◌, ℕ, Bool, cond, ◌==◌, List, [], ◌∷◌, ◌++◌, map, Option, Some, None, refl, sym, ap, subst, ◌∙◌}
use Rattle.std.specs.Prelude.{◌↔◌, Contains, codes, slice_get}
use Rattle.std.specs.Option.{option_map}
use Rattle.std.specs.FinMap as finite
use Rattle.vt_kinds.specs.declared.entries.Child.{Child}
use Rattle.vt_kinds.specs.declared.kind.Kind.{Kind}
use Rattle.vt_kinds.specs.declared.object.Object.TheVariants as objects
use Rattle.vt_kinds.specs.Ids.{null_id}
use Rattle.vt_kinds.specs.Records.{Seen, kind_of}
use Rattle.vt_kinds.specs.Scales.{scale_places}
use Rattle.vt_stores.specs.Stores.{ObjectMap}
use Rattle.vt_effects.specs.Looks.{look, HaveSameLook}
use Rattle.vt_machine.specs.OperatorActions.{is_enabled}
use Rattle.vt_machine.specs.SetStates.{IsActive}
use Rattle.vt_machine.proofs.SameLookShows.{by_look, same_active, same_element, same_number, same_object, same_soft_keys}
use Rattle.vt_shown.specs.ShownElements.{resolves_to, number_shown, item_of}
use Rattle.vt_layout.specs.declared.element.Element.{Element}
use Rattle.vt_layout.specs.declared.element.Position.{Position}
use Rattle.vt_layout.specs.Drawings.{Placed, origin, shifted, unmoved, entries_in, key_entries, element, entered, along, at_path, AreAll, IsDrawing}
use Rattle.vt_layout.specs.Lines.{positioned, size_text, valued, decided, scaled_text, quoted, variable_text, text_shown, switched, described, line_of, line}
use Rattle.vt_layout.specs.Screens.{heading, shortened, IsScreen, ScreensShowLooks}

-- ---- an object and its look have the same parts in a drawing

text_look : (o : Seen) → variable_text (Some o) ≡ variable_text (Some (look o))
text_look (objects.WorkingSet o) = refl
text_look _ = refl

kind_look : (o : Seen) → kind_of o ≡ kind_of (look o)
kind_look (objects.WorkingSet o) = refl
kind_look _ = refl

entries_look : (store : ObjectMap) (o : Seen) → entries_in store (Some o) ≡ entries_in store (Some (look o))
entries_look store (objects.WorkingSet o) = refl
entries_look store _ = refl

line_look : (store : ObjectMap) (e : Element) (o : Seen) → line_of store e (Some o) ≡ line_of store e (Some (look o))
line_look store e (objects.WorkingSet o) = refl
line_look store e _ = refl

module _ (old new : ObjectMap) (same : HaveSameLook old new) where
  texts : (variable : ℕ) (own : List ℕ) → text_shown new variable own ≡ text_shown old variable own
  texts variable own = ap (λ (t : Option (List ℕ)). cond (variable == null_id) (Some own) t) (by_look old new same variable_text text_look variable)

  -- ---- elements

  entries : (id : ℕ) → entries_in new (finite.get new id) ≡ entries_in old (finite.get old id)
  entries id = through (finite.get new id) ∙ by_look old new same (entries_in old) (entries_look old) id
    where
      through : (o : Option Seen) → entries_in new o ≡ entries_in old o
      through None = refl
      through (Some (objects.InputList o)) = ap (λ (n : Option ℕ). map unmoved (item_of o.items n)) (same_number old new same o.variable o.value)
      through (Some _) = refl

  keys : (mask : ℕ) → key_entries new mask ≡ key_entries old mask
  keys mask = ap (map unmoved) (same_soft_keys old new same mask)

  element_is : (place : ℕ) (at : Position) (o : Option ℕ) → element new place at o ≡ element old place at o
  element_is place at None = refl
  element_is place at (Some id) =
      ap (λ (b : Bool). cond {A = Option Element} b (Some (record { place = place; id = id; at = at })) None) (same_element old new same id)

  entered_is : (from : Position) (place : ℕ) (entry : Option Child) → entered new from place entry ≡ entered old from place entry
  entered_is from place None = refl
  entered_is from place (Some entry) =
      element_is place (shifted from entry) (resolves_to new entry.id) ∙ ap (element old place (shifted from entry)) (same_object old new same entry.id)

  along_is : (path : List ℕ) (e : Option Element) → along new path e ≡ along old path e
  along_is [] None = refl
  along_is [] (Some e) = refl
  along_is (place ∷ path) None = refl
  along_is (place ∷ path) (Some e) =
      along_is path _
      ∙ ap (along old path)
      (entered_is e.at place (slice_get (entries_in new (finite.get new e.id)) place)
      ∙ ap (λ (es : List Child). entered old e.at place (slice_get es place)) (entries e.id))

  path_is : (entries : List Child) (from : Position) (path : List ℕ) → at_path new entries from path ≡ at_path old entries from path
  path_is entries from [] = refl
  path_is entries from (place ∷ path) = along_is path _ ∙ ap (along old path) (entered_is from place (slice_get entries place))

  -- ---- drawings

  all_are : (entries : List Child) (drawn : List Placed) → AreAll old entries drawn → AreAll new entries drawn
  all_are entries drawn are = record {
    in_order = are.in_order;
    are = λ p. subst (λ (e : Option Element). Contains drawn p ↔ (e ≡ Some p.element)) (sym (path_is entries origin p.path)) (are.are p);
  }

  drawing_is : (mask : ℕ) (drawing : List Placed) → IsDrawing old mask drawing → IsDrawing new mask drawing
  drawing_is mask drawing is = record {
    in_mask = is.in_mask;
    of_keys = is.of_keys;
    parts = is.parts;
    mask_drawn = subst (λ (es : List Child). AreAll new es is.in_mask) (sym (entries mask)) (all_are _ is.in_mask is.mask_drawn);
    keys_drawn = subst (λ (es : List Child). AreAll new es is.of_keys) (sym (keys mask)) (all_are _ is.of_keys is.keys_drawn);
  }

  -- ---- lines

  described_is : (e : Element) (o : Option Seen) → described new e o ≡ described old e o
  described_is e None = refl
  described_is e (Some (objects.InputBoolean o)) = ap (λ (n : Option ℕ). positioned (codes "boolean") e ++ decided n) (same_number old new same o.variable o.value)
  described_is e (Some (objects.InputString o)) = ap (λ (t : Option (List ℕ)). positioned (codes "input") e ++ quoted t) (texts o.variable o.text)
  described_is e (Some (objects.InputNumber o)) =
      ap (λ (n : Option ℕ). positioned (codes "number") e ++ scaled_text o.offset (scale_places o.scale) o.decimals n) (same_number old new same o.variable o.value)
  described_is e (Some (objects.InputList o)) = ap (λ (n : Option ℕ). positioned (codes "list") e ++ valued n) (same_number old new same o.variable o.value)
  described_is e (Some (objects.OutputString o)) = ap (λ (t : Option (List ℕ)). positioned (codes "text") e ++ quoted t) (texts o.variable o.text)
  described_is e (Some (objects.OutputNumber o)) =
      ap (λ (n : Option ℕ). positioned (codes "value") e ++ scaled_text o.offset (scale_places o.scale) o.decimals n) (same_number old new same o.variable o.value)
  described_is e (Some (objects.Meter o)) = ap (λ (n : Option ℕ). positioned (codes "meter") e ++ valued n) (same_number old new same o.variable o.value)
  described_is e (Some (objects.LinearBar o)) =
      ap (λ (n : Option ℕ). positioned (codes "bar") e ++ (size_text o.width o.height ++ (valued n ++ valued (number_shown new o.target_variable o.target))))
      (same_number old new same o.variable o.value)
      ∙ ap (λ (n : Option ℕ). positioned (codes "bar") e ++ (size_text o.width o.height ++ (valued (number_shown old o.variable o.value) ++ valued n)))
      (same_number old new same o.target_variable o.target)
  described_is e (Some (objects.ArchedBar o)) =
      ap (λ (n : Option ℕ). positioned (codes "arch") e ++ (size_text o.width o.height ++ (valued n ++ valued (number_shown new o.target_variable o.target))))
      (same_number old new same o.variable o.value)
      ∙ ap (λ (n : Option ℕ). positioned (codes "arch") e ++ (size_text o.width o.height ++ (valued (number_shown old o.variable o.value) ++ valued n)))
      (same_number old new same o.target_variable o.target)
  described_is e (Some _) = refl

  line_is : (e : Element) → line new e ≡ line old e
  line_is e =
      ap (λ (text : List ℕ). text ++ (switched (is_enabled (finite.get new e.id)) ++ codes "\n")) (described_is e (finite.get new e.id))
      ∙ by_look old new same (line_of old e) (line_look old e) e.id

  lines_are : (drawing : List Placed) → map (λ p. line new p.element) drawing ≡ map (λ p. line old p.element) drawing
  lines_are [] = refl
  lines_are (p ∷ drawing) =
      ap (λ (text : List ℕ). text ∷ map (λ p. line new p.element) drawing) (line_is p.element)
      ∙ ap (λ (texts : List (List ℕ)). line old p.element ∷ texts) (lines_are drawing)

  active_is : (mask : ℕ) → IsActive old mask → IsActive new mask
  active_is mask active =
      (active.0, by_look old new same (option_map kind_of) (λ o. ap Some (kind_look o)) active.0 ∙ active.1, same_active old new same active.0 ∙ active.2)

pub screens_show_looks : ScreensShowLooks
screens_show_looks address old new text same is = record {
  mask = is.mask;
  active = active_is old new same is.mask is.active;
  drawing = is.drawing;
  drawn = drawing_is old new same is.mask is.drawing is.drawn;
  is = is.is ∙ ap (λ (lines : List (List ℕ)). heading address is.mask ++ shortened lines) (sym (lines_are old new same is.drawing));
}
