-- Paths joined and split, and the circles made of them.
use Rattle.std.proofs.Common.{ℕ, ◌<◌, ◌≤◌, inl, inr, List, [], ◌∷◌, ◌++◌, sym, subst, arith, append_assoc, slice_index, slice_index_or}
use Rattle.std.specs.List.{Contains}
use Rattle.std.proofs.lemmas.Bool.{cases_lt}
use Rattle.std.proofs.lemmas.List.Elements.{Contains-get_or}
use Rattle.vt_rank.specs.declared.graph.Graph.{Graph}
use Rattle.vt_rank.specs.Graphs.{triggered}
use Rattle.vt_rank.specs.Paths.{Triggers, IsPath, IsCircle, IsOnCircle, HasNoCircle, IsLeastOnCircles, RanksFall}
use Rattle.vt_rank.proofs.Members.{around}

pub IsPath-front : (g : Graph) (xs ys : List ℕ) → IsPath (triggered g) (xs ++ ys) → IsPath (triggered g) xs
IsPath-front g [] ys h = tt
IsPath-front g (x ∷ []) ys h = tt
IsPath-front g (x ∷ y ∷ xs) ys h = (h.0, IsPath-front g (y ∷ xs) ys h.1)

IsPath-tail : (g : Graph) (x : ℕ) (ys : List ℕ) → IsPath (triggered g) (x ∷ ys) → IsPath (triggered g) ys
IsPath-tail g x [] h = tt
IsPath-tail g x (y ∷ ys) h = h.1

pub IsPath-back : (g : Graph) (xs ys : List ℕ) → IsPath (triggered g) (xs ++ ys) → IsPath (triggered g) ys
IsPath-back g [] ys h = h
IsPath-back g (x ∷ xs) ys h = IsPath-back g xs ys (IsPath-tail g x (xs ++ ys) h)

pub IsPath-join : (g : Graph) (xs : List ℕ) (m : ℕ) (ys : List ℕ) → IsPath (triggered g) (xs ++ m ∷ []) → IsPath (triggered g) (m ∷ ys) → IsPath (triggered g) (xs ++ m ∷ ys)
IsPath-join g [] m ys h k = k
IsPath-join g (x ∷ []) m ys h k = (h.0, k)
IsPath-join g (x ∷ y ∷ xs) m ys h k = (h.0, IsPath-join g (y ∷ xs) m ys h.1 k)

-- a path with one more node, which its last node triggers
pub IsPath-push : (g : Graph) (xs : List ℕ) (m n : ℕ) → IsPath (triggered g) (xs ++ m ∷ []) → Triggers (triggered g) m n → IsPath (triggered g) ((xs ++ m ∷ []) ++ n ∷ [])
IsPath-push g xs m n h t = rw append_assoc (IsPath-join g xs m (n ∷ []) h (t, tt))

-- a node on a path, triggered by the last node of the path, is on a circle
pub closed_path : (g : Graph) (xs : List ℕ) (m n : ℕ) → IsPath (triggered g) (xs ++ m ∷ []) → Triggers (triggered g) m n → Contains (xs ++ m ∷ []) n → IsOnCircle g n
closed_path g xs m n h t on_path =
    let parts = around n (xs ++ m ∷ []) on_path in
    let longer = subst (λ (path : List ℕ). IsPath (triggered g) (path ++ n ∷ [])) parts.2 (IsPath-push g xs m n h t) in
    (parts.1, IsPath-back g parts.0 (n ∷ parts.1 ++ n ∷ []) (rw append_assoc at longer))

-- a circle begins at each of its nodes
turned : (g : Graph) (n : ℕ) (before after : List ℕ) → IsCircle (triggered g) (before ++ n ∷ after) → IsOnCircle g n
turned g n [] after h = (after, h)
turned g n (x ∷ before) after h =
    let all = subst (IsPath (triggered g)) (append_assoc (x ∷ before) (n ∷ after) (x ∷ [])) h in
    let from_n = IsPath-back g (x ∷ before) (n ∷ after ++ x ∷ []) all in
    let to_n = IsPath-front g ((x ∷ before) ++ n ∷ []) (after ++ x ∷ []) (subst (IsPath (triggered g)) (sym (append_assoc (x ∷ before) (n ∷ []) (after ++ x ∷ []))) all) in
    let joined = IsPath-join g (n ∷ after) x (before ++ n ∷ []) from_n to_n in
    (after ++ x ∷ before, subst (IsPath (triggered g)) (sym (append_assoc (n ∷ after) (x ∷ before) (n ∷ []))) joined)

pub IsOnCircle-from : (g : Graph) (path : List ℕ) (n : ℕ) → IsCircle (triggered g) path → Contains path n → IsOnCircle g n
IsOnCircle-from g path n circle on_it =
    let parts = around n path on_it in
    turned g n parts.0 parts.1 (subst (IsCircle (triggered g)) parts.2 circle)

-- ranks that fall along every trigger fall along a path
pub falls_along : (g : Graph) (ranks : List ℕ) → RanksFall g ranks → (x : ℕ) (xs : List ℕ) (y : ℕ) → IsPath (triggered g) ((x ∷ xs) ++ y ∷ []) → slice_index ranks y < slice_index ranks x
falls_along g ranks falls x [] y h = falls x y h.0
falls_along g ranks falls x (z ∷ xs) y h = omega (arith, falls x z h.0, falls_along g ranks falls z xs y h.1)

pub no_circle : (g : Graph) (ranks : List ℕ) → RanksFall g ranks → HasNoCircle (triggered g)
no_circle g ranks falls [] h = h
no_circle g ranks falls (x ∷ xs) h = let less = falls_along g ranks falls x xs x h in omega (arith, less)

-- if no lesser node begins a circle, no circle has a lesser node
pub least_on_circles : (g : Graph) (first : ℕ) → ((n : ℕ) → n < first → (rest : List ℕ) → IsCircle (triggered g) (n ∷ rest) → ⊥) → IsLeastOnCircles (triggered g) first
least_on_circles g first none path circle k d inside =
    elim (cases_lt (slice_index_or path k d) first) as (λ _. first ≤ slice_index_or path k d) [
      | inl less ↦ let on_it = IsOnCircle-from g path (slice_index_or path k d) circle (Contains-get_or path k d inside) in absurd (none _ less on_it.0 on_it.1)
      | inr least ↦ least
    ]
