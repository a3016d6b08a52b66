-- The outcome of a frame other than a claim refuses no action of the operator.
use Rattle.std.proofs.Common.{◌≡◌, ℕ, List, Option, Some, None, refl}
use Rattle.vt_can.specs.declared.frames.frame.Frame.{Frame}
use Rattle.vt_names.specs.Registry.{Set}
use Rattle.vt_server.specs.frame.FrameContracts.{IsNoClaim}
use Rattle.vt_server.specs.state.AddressViews.{AddressView, after_message, after_master, after_member, after_meaning}
use Rattle.vt_server.specs.frame.SessionEffects.{came}
use Rattle.vt_server.specs.message.Verdicts.{Verdict}
use Rattle.vt_node.specs.declared.bus.FrameMeaning.{FrameMeaning}
use Rattle.vt_node.specs.declared.bus.FrameMeaning.TheVariants as meanings

message-accepted : (a : ℕ) (p : AddressView) (v : Verdict) (o : Option Set) (m : Option (List ℕ)) → (after_message a p v o m).refused ≡ None
message-accepted a p v None m = refl
message-accepted a p v (Some set) None = refl
message-accepted a p v (Some set) (Some bytes) = refl

pub accepted : (now a : ℕ) (n : FrameMeaning) (frame : Frame) → IsNoClaim n → (p : AddressView) (v : Verdict) → (after_meaning now a p n frame v).refused ≡ None
accepted now a (meanings.Claim name) frame unclaimed p v = absurd (unclaimed name refl)
accepted now a meanings.ClaimRequest frame unclaimed p v = message-accepted a p v p.set None
accepted now a (meanings.Master count) frame unclaimed p v = cases p.holder
  where
    cases : (o : Option ℕ) → (after_master a p o count).refused ≡ None
    cases None = refl
    cases (Some h) = refl
accepted now a (meanings.Member name) frame unclaimed p v = cases p.set
  where
    cases : (o : Option Set) → (after_member p o name).refused ≡ None
    cases None = refl
    cases (Some set) = refl
accepted now a meanings.Message frame unclaimed p v = message-accepted a p v p.set (Some frame.bytes.items)
accepted now a meanings.Tp frame unclaimed p v =
    let c = came now p.terminal a p.place meanings.Tp frame in message-accepted a (record p { place = c.place }) v p.set c.message
accepted now a meanings.Etp frame unclaimed p v =
    let c = came now p.terminal a p.place meanings.Etp frame in message-accepted a (record p { place = c.place }) v p.set c.message
accepted now a meanings.Nothing frame unclaimed p v = message-accepted a p v p.set None
