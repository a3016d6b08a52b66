-- Sent items as outputs of the terminal (docs/PROFILE.md, "The outputs of one input").
use Rattle.std.specs.Prelude.{◌+◌, ◌≤◌, ℕ, List, map, vec_len, vec_capacity}
use Rattle.std.specs.declared.vec.Vec.{Vec}
use Rattle.vt_can.specs.declared.frames.frame.Frame.{Frame}
use Rattle.vt_server.specs.Terminals.{Sent, ToOne, ToAll, Refused}
use Rattle.vt_server.specs.declared.output.Output.{Output}
use Rattle.vt_server.specs.declared.output.Output.TheVariants as declared

-- frames as outputs
abbrev pub frames_of : List Frame → List Output
frames_of frames = map (λ f. declared.Frame f) frames

abbrev pub output_of : Sent → Output
output_of (ToOne address frame) = declared.Frame frame
output_of (ToAll frame) = declared.Frame frame
output_of (Refused fault) = declared.Refused fault

abbrev pub outputs_of : List Sent → List Output
outputs_of sent = map output_of sent

-- The outputs have spare capacity for n more. What a function of the step leaves is mostly one place, for the status.
abbrev pub HasSpare : {X A : Type 0} → ℕ → Vec X A → Type 0
HasSpare n outputs = vec_len outputs + n ≤ vec_capacity outputs

-- The spare capacity of the new outputs is that of the old ones less at most n.
abbrev pub UsesAtMost : {X A : Type 0} → ℕ → Vec X A → Vec X A → Type 0
UsesAtMost n old new = vec_capacity old + vec_len new ≤ vec_capacity new + vec_len old + n
