-- What a replay has reached.
use Rattle.std.specs.Prelude.{ℕ}
use Rattle.log_reach.specs.declared.reach.Reach.{Reach}
use Rattle.log_reach.specs.ShownMasks.{HasShown}

-- a mask was the active mask of the set at an address while that set was shown
abbrev pub WasShown : Reach → ℕ → ℕ → Type 0
WasShown reach address mask = HasShown reach.shown_masks address mask
