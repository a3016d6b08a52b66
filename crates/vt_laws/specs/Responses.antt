-- The response of an address to a happening: the view of the address after it, without times, and the frames to the address.
use Rattle.std.specs.Prelude.{ℕ, ◌==◌, if◌then◌else◌, List, [], ◌∷◌, ◌++◌}
use Rattle.vt_can.specs.declared.frames.frame.Frame.{Frame}
use Rattle.vt_server.specs.state.AddressViews.{AddressView, AddressOutcome, untimed_part}
use Rattle.vt_server.specs.Terminals.{Sent, ToOne, ToAll, Refused}

-- the view after a happening, without times, and the frames to the address
pub record Response : Type 0 where
  pub part : AddressView
  pub frames : List Frame

abbrev pub without_effect : AddressView → Response
without_effect p = record { part = p; frames = [] }

abbrev pub response_of : AddressView → AddressOutcome → Response
response_of p after = record { part = untimed_part (record p { set = after.set; place = after.place }); frames = after.frames }

-- ---- the frames to an address, not counting claims and status messages, which go to all

abbrev pub frame_to : ℕ → Sent → List Frame
frame_to address (ToOne to frame) = if to == address then frame ∷ [] else []
frame_to address (ToAll frame) = []
frame_to address (Refused fault) = []

abbrev pub frames_to : ℕ → List Sent → List Frame
frames_to address [] = []
frames_to address (s ∷ sent) = frame_to address s ++ frames_to address sent
