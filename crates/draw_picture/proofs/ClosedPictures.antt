-- Texts of pictures are texts of nodes, with their marks in place.
use Rattle.std.proofs.Common.{◌≡◌, ℕ, Bool, true, false, List, [], ◌∷◌, ◌++◌, length, map, Option, Some, None, refl, sym, ap, ◌∙◌}
use Rattle.std.specs.Prelude.{nat_le, ℤ, pos, ◌+◌, ◌+ℤ◌}
use Rattle.std.proofs.Math.IntN.{+ℤ_idl}
use Rattle.std.proofs.lemmas.List.{append_assoc, append-nil}
use Rattle.std.specs.FinMap as finite
use Rattle.vt_kinds.specs.declared.entries.Child.{Child}
use Rattle.vt_kinds.specs.Records.{Seen}
use Rattle.vt_stores.specs.Stores.{ObjectMap}
use Rattle.check_needs.specs.declared.sizes.Sizes.{Sizes}
use Rattle.std.specs.List.{flat_map}
use Rattle.draw_svg.specs.declared.attribute.Attribute.{Attribute}
use Rattle.draw_svg.specs.declared.element.Element.TheVariants as elements
use Rattle.draw_svg.specs.Elements.{Nodes, closed, left_of, object_id, opened, spots_in, text_of, top_of}
use Rattle.draw_svg.specs.Elements as nodes
use Rattle.draw_svg.proofs.AppendedNodes.{AppendsNodes, around, around_spots, empty, no_spots, nowhere, one_more, same}
use Rattle.draw_svg.proofs.ClosedImages.{images_after}
use Rattle.draw_shapes.specs.Shapes.{shapes}
use Rattle.draw_shapes.proofs.NoIds.{no_ids}
use Rattle.draw_picture.specs.declared.frame.Framing.{Framing}
use Rattle.draw_picture.specs.declared.frame.Framing.TheVariants as frames
use Rattle.draw_picture.specs.declared.walk.Tag.{Tag}
use Rattle.draw_picture.specs.declared.walk.Tag.TheVariants.{Open, Close}
use Rattle.draw_picture.specs.Documents.{IsPicture, background, beginning, gap, key_marks, keys_area, mask_and_keys, mask_area, mask_marks, mask_tags, picture_attributes, picture_size, pictures, with_area}
use Rattle.draw_picture.specs.Frames.{frame_of}
use Rattle.draw_picture.specs.Marks.{Marks, Nothing, Mark, spots}
use Rattle.draw_picture.specs.Pictures.{element_opening, most_bytes, element_attributes, with_tag, with_tags}
use Rattle.draw_picture.specs.Tags.{tags_of}

-- the same nodes at places that are said otherwise
moved : (spots other : ℤ → ℤ → List (ℕ × ℤ × ℤ)) (a b : List ℕ) → ((x y : ℤ) → spots x y ≡ other x y) → AppendsNodes spots a b → AppendsNodes other a b
moved spots other a b same n = record { nodes = n.nodes; is = n.is; shown = λ x y. n.shown x y ∙ same x y }

-- the attributes of an element have its ID alone, and its place
record AreOf (entry : Child) (attributes : List Attribute) : Type 0 where
  pub own : flat_map object_id attributes ≡ entry.id ∷ []
  pub left : left_of attributes ≡ entry.x
  pub top : top_of attributes ≡ entry.y

attributes_of : (entry : Child) (frame : Framing) → AreOf entry (element_attributes entry frame)
attributes_of entry frames.Whole = record { own = refl; left = refl; top = refl }
attributes_of entry (frames.Clipped width height) = record { own = refl; left = refl; top = refl }
attributes_of entry (frames.Fine area) = record { own = refl; left = refl; top = refl }

-- an element around others, and then later ones
mark_spots : (entry : Child) (inside later : Marks) (attributes : List Attribute) → AreOf entry attributes → (x y : ℤ)
    → around_spots attributes (λ x y. nowhere x y ++ spots x y inside) x y ++ spots x y later ≡ spots x y (Mark entry inside later)
mark_spots entry inside later attributes are x y =
    let made : List ℕ → ℤ → ℤ → List (ℕ × ℤ × ℤ) =
    λ ids left top. (map (λ id. (id, x +ℤ left, y +ℤ top)) ids ++ spots (x +ℤ left) (y +ℤ top) inside) ++ spots x y later in
    ap (λ ids. made ids (left_of attributes) (top_of attributes)) are.own
    ∙ ap (λ left. made (entry.id ∷ []) left (top_of attributes)) are.left
    ∙ ap (made (entry.id ∷ []) entry.x) are.top

module _ (sizes : Sizes) (store : ObjectMap) where
  shapes_after : (has_room : Bool) (entry : Child) (object : Seen) (text : List ℕ)
      → AppendsNodes nowhere (text ++ opened elements.Svg (element_attributes entry (frame_of sizes object))) (text ++ element_opening has_room sizes store entry (Some object))
  shapes_after true entry object text = record {
    nodes = shapes sizes store entry.id object;
    is = sym (append_assoc text (opened elements.Svg (element_attributes entry (frame_of sizes object))) (text_of (shapes sizes store entry.id object)));
    shown = no_spots (shapes sizes store entry.id object) (no_ids sizes store entry.id object);
  }
  shapes_after false entry object text = record {
    nodes = nodes.None;
    is = sym (append_assoc text (opened elements.Svg (element_attributes entry (frame_of sizes object))) []);
    shown = λ x y. refl;
  }

  opening_after : (has_room : Bool) (entry : Child) (object : Option Seen) (text : List ℕ)
      → (attributes : List Attribute) × AreOf entry attributes × AppendsNodes nowhere (text ++ opened elements.Svg attributes) (text ++ element_opening has_room sizes store entry object)
  opening_after has_room entry None text =
      (element_attributes entry frames.Whole, attributes_of entry frames.Whole, same (text ++ opened elements.Svg (element_attributes entry frames.Whole)))
  opening_after has_room entry (Some object) text =
      (element_attributes entry (frame_of sizes object), attributes_of entry (frame_of sizes object), shapes_after has_room entry object text)

  -- the tags of marks append nodes at their places, whatever comes after them
  tags_after : (m : Marks) (text : List ℕ) (rest : List Tag)
      → (next : List ℕ) × AppendsNodes (λ x y. spots x y m) text next × (with_tags sizes store text (tags_of m ++ rest) ≡ with_tags sizes store next rest)
  tags_after Nothing text rest = (text, same text, refl)
  tags_after (Mark entry inside later) text rest =
      let has_room = nat_le (length text) most_bytes in
      let object = finite.get store entry.id in
      let began = with_tag sizes store text (Open entry) in
      let first = opening_after has_room entry object text in
      let i = tags_after inside began (Close ∷ (tags_of later ++ rest)) in
      let ended = with_tag sizes store i.0 Close in
      let l = tags_after later ended rest in
      let inner : ℤ → ℤ → List (ℕ × ℤ × ℤ) = λ x y. nowhere x y ++ spots x y inside in
      let element = around elements.Svg first.0 inner text i.0 ended (one_more nowhere (λ x y. spots x y inside) (text ++ opened elements.Svg first.0) began i.0 first.2 i.1) refl in
      let all = one_more (around_spots first.0 inner) (λ x y. spots x y later) text ended l.0 element l.1 in (
        l.0,
        moved (λ x y. around_spots first.0 inner x y ++ spots x y later) (λ x y. spots x y (Mark entry inside later)) text l.0 (mark_spots entry inside later first.0 first.1) all,
        ap (λ s. with_tags sizes store began s) (append_assoc (tags_of inside) (Close ∷ tags_of later) rest) ∙ i.2 ∙ l.2,
      )

  area_after : (area : List Attribute) (m : Marks) (text : List ℕ) → flat_map object_id area ≡ []
      → AppendsNodes (λ x y. spots (x +ℤ left_of area) (y +ℤ top_of area) m) text (with_area sizes store area (tags_of m) text)
  area_after area m text none =
      let opening = text ++ opened elements.Svg area in
      let s = tags_after m opening [] in
      let all : with_tags sizes store opening (tags_of m) ≡ s.0 = ap (λ tags. with_tags sizes store opening tags) (sym (append-nil (tags_of m))) ∙ s.2 in
      moved (around_spots area (λ x y. spots x y m)) (λ x y. spots (x +ℤ left_of area) (y +ℤ top_of area) m) text (with_area sizes store area (tags_of m) text)
      (λ x y. ap (λ (ids : List ℕ). map (λ id. (id, x +ℤ left_of area, y +ℤ top_of area)) ids ++ spots (x +ℤ left_of area) (y +ℤ top_of area) m) none)
      (around elements.Svg area (λ x y. spots x y m) text s.0 _ s.1 (ap (λ l. l ++ closed elements.Svg) all))

pub picture_closed : (sizes : Sizes) (store : ObjectMap) (mask : ℕ) (text : List ℕ) → IsPicture sizes store mask text
    → (nodes : Nodes) × (text ≡ text_of nodes)
    × (spots_in (pos 0) (pos 0) nodes ≡ spots (pos 0) (pos 0) (mask_marks store mask) ++ spots (pos (sizes.mask.width + gap)) (pos 0) (key_marks sizes store mask))
picture_closed sizes store mask text is =
    let size = picture_size sizes store mask in
    let paint = background (finite.get store mask) in
    let first = opened elements.Svg (picture_attributes size) in
    let start = beginning size sizes.mask.width paint in
    let with_mask = with_area sizes store (mask_area sizes) (mask_tags store mask) start in
    let with_keys = mask_and_keys sizes store mask in
    let in_mask : ℤ → ℤ → List (ℕ × ℤ × ℤ) = λ x y. spots (x +ℤ left_of (mask_area sizes)) (y +ℤ top_of (mask_area sizes)) (mask_marks store mask) in
    let in_keys : ℤ → ℤ → List (ℕ × ℤ × ℤ) = λ x y. spots (x +ℤ left_of (keys_area sizes)) (y +ℤ top_of (keys_area sizes)) (key_marks sizes store mask) in
    let inside = one_more nowhere (λ x y. in_mask x y ++ (in_keys x y ++ [])) first start is.all (empty elements.Rect _ first)
    (one_more in_mask (λ x y. in_keys x y ++ []) start with_mask is.all (area_after sizes store (mask_area sizes) (mask_marks store mask) start refl)
    (one_more in_keys nowhere with_mask with_keys is.all (area_after sizes store (keys_area sizes) (key_marks sizes store mask) with_mask refl)
    (images_after store (pictures sizes store mask) with_keys is.all is.images))) in
    let whole = around elements.Svg (picture_attributes size) (λ x y. nowhere x y ++ (in_mask x y ++ (in_keys x y ++ []))) [] is.all text inside is.whole in
    let of_mask = spots (pos 0) (pos 0) (mask_marks store mask) in
    let of_keys = spots (pos (sizes.mask.width + gap)) (pos 0) (key_marks sizes store mask) in
    let keys_left : pos 0 +ℤ pos (sizes.mask.width + gap) ≡ pos (sizes.mask.width + gap) = +ℤ_idl (pos (sizes.mask.width + gap)) in (
      whole.nodes,
      whole.is,
      whole.shown (pos 0) (pos 0)
          ∙ ap (λ (x : ℤ). of_mask ++ (spots x (pos 0) (key_marks sizes store mask) ++ [])) keys_left
          ∙ ap (λ l. of_mask ++ l) (append-nil of_keys),
    )
