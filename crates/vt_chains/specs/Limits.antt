-- The limits of a pool (docs/PROFILE.md, "Limits").
use Rattle.vt_chains.specs.declared.limits.Limits.{Limits}

-- the limits of this terminal
abbrev pub terminal : Limits
terminal = record { inclusions = 32; steps = 1000000 }
