-- Places from which entries can be shifted without an overflow.
use Rattle.std.specs.Prelude.{◌≤◌, ◌+◌, ◌*◌, ◌^◌, ℕ, nat_abs}
use Rattle.draw_picture.specs.declared.listing.Around.{Around}

-- There is room for the shifts of entries, `levels` within each other.
pub record IsNear (levels : ℕ) (around : Around) : Type 0 where
  pub x : nat_abs around.at.x + 32768 * levels ≤ 2 ^ 24
  pub y : nat_abs around.at.y + 32768 * levels ≤ 2 ^ 24
  pub depth : around.depth + levels ≤ 32

-- The same of the spot of an entry: the element there is one level more.
pub record IsNearSpot (levels : ℕ) (spot : Around) : Type 0 where
  pub x : nat_abs spot.at.x + 32768 * levels ≤ 2 ^ 24
  pub y : nat_abs spot.at.y + 32768 * levels ≤ 2 ^ 24
  pub depth : spot.depth + levels ≤ 31
