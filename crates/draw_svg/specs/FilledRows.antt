-- Rows of bytes that are filled one after another.
use Rattle.std.specs.Prelude.{◌≡◌, ℕ, ◌+◌, ◌*◌, ◌≤◌, List, ◌++◌, take, length}
use Rattle.draw_svg.specs.declared.raster.Raster.{Raster}
use Rattle.draw_svg.specs.Rasters.{AreRuns}

-- as many of the bytes as the rows have room for
abbrev pub placed : Raster → List ℕ → List ℕ
placed r bytes = take (r.height * r.size) bytes

-- The rows are filled with these bytes, as far as there are rows.
pub record IsFilled (r : Raster) (bytes : List ℕ) : Type 0 where
  pub runs : AreRuns r.size 0 r.runs.items (placed r bytes)
  pub next : r.row * r.size + r.first ≡ length (placed r bytes)

abbrev pub HaveSameSize : Raster → Raster → Type 0
HaveSameSize old new = (new.size ≡ old.size) × (new.height ≡ old.height)

-- Bytes more are put behind those that the rows are filled with.
pub record Fills (old new : Raster) (more : List ℕ) : Type 0 where
  pub same : HaveSameSize old new
  pub filled : (bytes : List ℕ) → IsFilled old bytes → IsFilled new (bytes ++ more)

-- At most so many runs are new, beside one for each row that was ended.
abbrev pub AreFew : Raster → Raster → ℕ → Type 0
AreFew old new most = length new.runs.items + old.row ≤ length old.runs.items + most + new.row
