-- The code's display and shown pool as values of the specification.
use Rattle.std.specs.Prelude.{ℕ}
use Rattle.std.specs.Borrow.{Bor}
use Rattle.vt_machine.specs.SetStates.{SetState}
use Rattle.vt_server.specs.shown.ShownSet as choosing
use Rattle.vt_server.specs.declared.shown.ShownMasks.{ShownMasks}

abbrev pub display_value : ShownMasks → choosing.ShownMasks
display_value d = record { address = d.address; mask = d.mask; soft_keys = d.soft_keys }

abbrev pub masks_value : choosing.ShownMasks → ShownMasks
masks_value d = record { address = d.address; mask = d.mask; soft_keys = d.soft_keys }

abbrev pub found_pool : ℕ × Bor SetState → ℕ × SetState
found_pool found = (found.0, found.1.now)
