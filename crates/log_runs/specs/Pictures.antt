-- The picture of what a terminal shows.
use Rattle.std.specs.Prelude.{◌≡◌, ℕ, List, Some, None}
use Rattle.vt_machine.specs.SetStates.{SetState, active_in}
use Rattle.check_needs.specs.declared.sizes.Sizes.{Sizes}
use Rattle.draw_picture.specs.Documents.{IsPicture}
use Rattle.vt_server.specs.Terminals.{State}

-- The text is the picture of the active mask of the set that is shown.
pub record IsPictureShown (s : State) (sizes : Sizes) (text : List ℕ) : Type 0 where
  pub address : ℕ
  pub shown : s.shown ≡ Some address
  pub set : SetState
  pub of_address : (s.places address).content.pool ≡ Some set
  pub picture : IsPicture sizes set.objects (active_in set.objects) text

-- No set with a pool is shown.
abbrev pub HasNothingShown : State → Type 0
HasNothingShown s = (address : ℕ) → s.shown ≡ Some address → (s.places address).content.pool ≡ None
