-- Reads of one list in a list of vectors.
use Rattle.std.proofs.Common.{◌≡◌, ℕ, ◌<◌, ◌≤◌, [], length, get_or, sym, ◌∙◌, ap, arith, Vec}
use Rattle.std.proofs.lemmas.List.{get_or-map, get_or_past, length-map}
use Rattle.vt_rank.specs.Graphs.{lists}

pub get_or-lists : {X A : Type 0} (vs : Vec (Vec X A) A) (k : ℕ) (v : Vec X A) → k < length vs.items → v ≡ get_or vs.items k v → v.items ≡ get_or (lists vs) k []
get_or-lists vs k v inside is = ap (λ (w : Vec _ _). w.items) is ∙ sym (get_or-map (λ (w : Vec _ _). w.items) vs.items k v [] inside)

pub get_or-lists_past : {X A : Type 0} (vs : Vec (Vec X A) A) (k : ℕ) → length vs.items ≤ k → get_or (lists vs) k [] ≡ []
get_or-lists_past {X} {A} vs k past = get_or_past (lists vs) k [] (omega (arith, length-map vs.items (λ (w : Vec X A). w.items)))
