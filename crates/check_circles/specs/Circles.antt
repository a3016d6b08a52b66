-- The circles of a graph of triggers (docs/PROFILE.md, "Triggers and circles").
use Rattle.std.specs.Prelude.{◌≡◌, ℕ, ◌==◌, if◌then◌else◌, List, [], ◌∷◌, slice_index, slice_set}
use Rattle.std.specs.List.{list_any}
use Rattle.vt_rank.specs.declared.circle.Circle.{Circle}
use Rattle.vt_rank.specs.Paths.{IsCircle, IsDistinct, HasNoCircle, IsLeastOnCircles}

-- the triggers of all nodes but these
abbrev pub without : List ℕ → (ℕ → List ℕ) → ℕ → List ℕ
without nodes triggered n = if list_any (λ m. n == m) nodes then [] else triggered n

-- a circle without repeats through the least node on any circle, which it begins with
pub record IsLeastCircle (triggered : ℕ → List ℕ) (path : List ℕ) : Type 0 where
  pub circle : IsCircle triggered path
  pub once : IsDistinct path
  pub least : IsLeastOnCircles triggered (slice_index path 0)

-- The least circle, then, without the triggers of its nodes, the next, until there is none.
abbrev pub AreCircles : (ℕ → List ℕ) → List Circle → Type 0
AreCircles triggered [] = HasNoCircle triggered
AreCircles triggered (circle ∷ others) = IsLeastCircle triggered circle.path.items × AreCircles (without circle.path.items triggered) others

-- the lists at some indices are emptied
abbrev pub cleared : {X : Type 0} → List ℕ → List (List X) → List (List X)
cleared [] lists = lists
cleared (i ∷ indices) lists = cleared indices (slice_set lists i [])
