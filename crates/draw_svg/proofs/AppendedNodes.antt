-- Nodes after a text, with the objects in them and their places.
use Rattle.std.proofs.Common.{◌≡◌, ℕ, List, [], ◌∷◌, ◌++◌, map, refl, sym, ap, ap₂, ◌∙◌}
use Rattle.std.specs.Prelude.{ℤ, ◌+ℤ◌}
use Rattle.std.proofs.lemmas.List.{append_assoc, append-nil}
use Rattle.std.specs.List.{flat_map}
use Rattle.draw_svg.specs.declared.attribute.Attribute.{Attribute}
use Rattle.draw_svg.specs.declared.element.Element.{Element}
use Rattle.draw_svg.specs.declared.points.SvgPoint.{SvgPoint}
use Rattle.draw_svg.specs.Elements.{Nodes, None, Characters, Along, Around, Empty, closed, emptied, followed, gathered, led_along, left_of, object_id, object_ids, opened, spots_in, text_of, top_of}
use Rattle.draw_svg.proofs.Followed.{text_followed}

pub gathered_followed : (held : Attribute → List ℕ) (first later : Nodes) → gathered held (followed first later) ≡ gathered held first ++ gathered held later
gathered_followed held None later = refl
gathered_followed held (Characters characters rest) later = gathered_followed held rest later
gathered_followed held (Along element attributes points rest) later =
    ap (λ l. flat_map held attributes ++ l) (gathered_followed held rest later) ∙ sym (append_assoc (flat_map held attributes) (gathered held rest) (gathered held later))
gathered_followed held (Empty element attributes rest) later =
    ap (λ l. flat_map held attributes ++ l) (gathered_followed held rest later) ∙ sym (append_assoc (flat_map held attributes) (gathered held rest) (gathered held later))
gathered_followed held (Around element attributes inside rest) later =
    ap (λ l. flat_map held attributes ++ (gathered held inside ++ l)) (gathered_followed held rest later)
    ∙ sym (
    append_assoc (flat_map held attributes) (gathered held inside ++ gathered held rest) (gathered held later)
    ∙ ap (λ l. flat_map held attributes ++ l) (append_assoc (gathered held inside) (gathered held rest) (gathered held later))
    )

spots_followed : (x y : ℤ) (first later : Nodes) → spots_in x y (followed first later) ≡ spots_in x y first ++ spots_in x y later
spots_followed x y None later = refl
spots_followed x y (Characters characters rest) later = spots_followed x y rest later
spots_followed x y (Along element attributes points rest) later = spots_followed x y rest later
spots_followed x y (Empty element attributes rest) later = spots_followed x y rest later
spots_followed x y (Around element attributes inside rest) later =
    let own = map (λ id. (id, x +ℤ left_of attributes, y +ℤ top_of attributes)) (flat_map object_id attributes) in
    let within = spots_in (x +ℤ left_of attributes) (y +ℤ top_of attributes) inside in
    ap (λ l. own ++ (within ++ l)) (spots_followed x y rest later)
    ∙ sym (append_assoc own (within ++ spots_in x y rest) (spots_in x y later) ∙ ap (λ l. own ++ l) (append_assoc within (spots_in x y rest) (spots_in x y later)))

no_first : (a b : List ℕ) → a ++ b ≡ [] → a ≡ []
no_first [] b is = refl
no_first (c ∷ a) b is = absurd cc

no_second : (a b : List ℕ) → a ++ b ≡ [] → b ≡ []
no_second [] b is = is
no_second (c ∷ a) b is = absurd cc

-- nodes without IDs have no places
pub no_spots : (n : Nodes) → object_ids n ≡ [] → (x y : ℤ) → spots_in x y n ≡ []
no_spots None is x y = refl
no_spots (Characters characters later) is x y = no_spots later is x y
no_spots (Along element attributes points later) is x y = no_spots later (no_second (flat_map object_id attributes) (object_ids later) is) x y
no_spots (Empty element attributes later) is x y = no_spots later (no_second (flat_map object_id attributes) (object_ids later) is) x y
no_spots (Around element attributes inside later) is x y =
    let rest = no_second (flat_map object_id attributes) (object_ids inside ++ object_ids later) is in
    let none = no_first (flat_map object_id attributes) (object_ids inside ++ object_ids later) is in
    let in_x = x +ℤ left_of attributes in
    let in_y = y +ℤ top_of attributes in
    ap₂ (λ a b. a ++ b) (ap (map (λ (id : ℕ). (id, in_x, in_y))) none)
    (ap₂ (λ a b. a ++ b) (no_spots inside (no_first (object_ids inside) (object_ids later) rest) in_x in_y) (no_spots later (no_second (object_ids inside) (object_ids later) rest) x y))

-- nodes with objects at some places are after a text
pub record AppendsNodes (spots : ℤ → ℤ → List (ℕ × ℤ × ℤ)) (old new : List ℕ) : Type 0 where
  pub nodes : Nodes
  pub is : new ≡ old ++ text_of nodes
  pub shown : (x y : ℤ) → spots_in x y nodes ≡ spots x y

-- no places
abbrev pub nowhere : ℤ → ℤ → List (ℕ × ℤ × ℤ)
nowhere x y = []

pub same : (text : List ℕ) → AppendsNodes nowhere text text
same text = record { nodes = None; is = sym (append-nil text); shown = λ x y. refl }

pub one_more : (spots more : ℤ → ℤ → List (ℕ × ℤ × ℤ)) (a b c : List ℕ) → AppendsNodes spots a b → AppendsNodes more b c
    → AppendsNodes (λ x y. spots x y ++ more x y) a c
one_more spots more a b c first second = record {
  nodes = followed first.nodes second.nodes;
  is = second.is ∙ ap (λ l. l ++ text_of second.nodes) first.is ∙ append_assoc a (text_of first.nodes) (text_of second.nodes)
      ∙ ap (λ l. a ++ l) (sym (text_followed first.nodes second.nodes));
  shown = λ x y. spots_followed x y first.nodes second.nodes ∙ ap₂ (λ l m. l ++ m) (first.shown x y) (second.shown x y);
}

-- the places of an element around others
abbrev pub around_spots : List Attribute → (ℤ → ℤ → List (ℕ × ℤ × ℤ)) → ℤ → ℤ → List (ℕ × ℤ × ℤ)
around_spots attributes spots x y =
    map (λ id. (id, x +ℤ left_of attributes, y +ℤ top_of attributes)) (flat_map object_id attributes)
    ++ spots (x +ℤ left_of attributes) (y +ℤ top_of attributes)

pub around : (element : Element) (attributes : List Attribute) (spots : ℤ → ℤ → List (ℕ × ℤ × ℤ)) (a b c : List ℕ)
    → AppendsNodes spots (a ++ opened element attributes) b → c ≡ b ++ closed element → AppendsNodes (around_spots attributes spots) a c
around element attributes spots a b c inside end =
    let first = opened element attributes in
    let text = text_of inside.nodes in
    record {
      nodes = Around element attributes inside.nodes None;
      is = end ∙ ap (λ l. l ++ closed element) inside.is ∙ append_assoc (a ++ first) text (closed element) ∙ append_assoc a first (text ++ closed element)
          ∙ ap (λ l. a ++ (first ++ (text ++ l))) (sym (append-nil (closed element)));
      shown = λ x y.
          let in_x = x +ℤ left_of attributes in
          let in_y = y +ℤ top_of attributes in
          ap (λ l. map (λ (id : ℕ). (id, in_x, in_y)) (flat_map object_id attributes) ++ l) (append-nil (spots_in in_x in_y inside.nodes) ∙ inside.shown in_x in_y);
    }

pub empty : (element : Element) (attributes : List Attribute) (a : List ℕ) → AppendsNodes nowhere a (a ++ emptied element attributes)
empty element attributes a = record {
  nodes = Empty element attributes None;
  is = ap (λ l. a ++ l) (sym (append-nil (emptied element attributes)));
  shown = λ x y. refl;
}

pub along : (element : Element) (attributes : List Attribute) (points : List SvgPoint) (a : List ℕ)
    → AppendsNodes nowhere a (a ++ led_along element attributes points)
along element attributes points a = record {
  nodes = Along element attributes points None;
  is = ap (λ l. a ++ l) (sym (append-nil (led_along element attributes points)));
  shown = λ x y. refl;
}
