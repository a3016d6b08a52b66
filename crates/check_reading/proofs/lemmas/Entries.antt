-- Walks over the entries of a store.
use Rattle.std.proofs.Common.{◌≡◌, ℕ, List, [], ◌∷◌, ◌++◌, map, refl, sym, ap, ◌∙◌}
use Rattle.std.specs.List.{flat_map}
use Rattle.vt_kinds.specs.declared.object.Object.{Object}
use Rattle.vt_kinds.specs.Records.{Seen}
use Rattle.vt_stores.specs.Stores.{Objects, seen_entry}

flat_map-map : {X Y A : Type 0} (f : Y → List A) (g : X → Y) (xs : List X) → flat_map f (map g xs) ≡ flat_map (λ x. f (g x)) xs
flat_map-map f g [] = refl
flat_map-map f g (x ∷ xs) = ap (λ l. f (g x) ++ l) (flat_map-map f g xs)

-- what the entries add, by their objects
pub over_entries : {A B : Type 0} (items : List (ℕ × Object B)) (objects : Objects) → map seen_entry items ≡ objects
    → (adds : ℕ × Seen → List A) → flat_map (λ e. adds (seen_entry e)) items ≡ flat_map adds objects
over_entries items objects is adds = sym (flat_map-map adds seen_entry items) ∙ ap (flat_map adds) is
