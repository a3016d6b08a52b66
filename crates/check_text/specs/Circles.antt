-- The circle in a chain of inclusions.
use Rattle.std.specs.Prelude.{ℕ, ◌+◌, ◌==◌, List, [], ◌∷◌, take, position, Option, Some, None, unwrap_or}

-- a chain up to an index behind its first ID; if there is none, what the rest of the chain has
abbrev pub up_to_or : List ℕ → Option (List ℕ) → Option ℕ → Option (List ℕ)
up_to_or chain later (Some index) = Some (take (index + 2) chain)
up_to_or chain later None = later

-- from the first ID that comes again up to where it comes again
abbrev pub circle_in : List ℕ → Option (List ℕ)
circle_in [] = None
circle_in (id ∷ rest) = up_to_or (id ∷ rest) (circle_in rest) (position (λ other. other == id) rest)

-- what is shown of a chain: its circle, or all of it if no ID comes again
abbrev pub shown_part : List ℕ → List ℕ
shown_part chain = unwrap_or (circle_in chain) chain
