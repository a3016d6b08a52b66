-- Outcomes without times, and frames of other parameter groups.
use Rattle.std.proofs.Common.{◌≡◌, ℕ, Bool, true, false, cond, eqb, List, Option, Some, None, refl, ap, ◌∙◌, ne_eqb}
use Rattle.vt_can.specs.declared.frames.frame.Frame.{Frame}
use Rattle.vt_can.specs.frames.Identifier.{parts_of, pgn_of}
use Rattle.vt_can.specs.declared.transport.sessions.Timed.{Timed}
use Rattle.vt_can.specs.transport.Sessions.{untimed_session}
use Rattle.vt_can.specs.transport.Protocols.{SessionOutcome, untimed_outcome}
use Rattle.vt_can.specs.transport.Wire.{by_group, frame_in, is_transport_frame_to, IsOfAnotherGroup}

pub opened : {T : Type 0} (b : Bool) (x y : Timed T) → untimed_session (Some x) ≡ untimed_session (Some y)
    → untimed_session (cond b (Some x) None) ≡ untimed_session (cond b (Some y) None)
opened true x y e = e
opened false x y e = refl

module _ {S R : Type 0} where
  pub untimed_cond : (b : Bool) (x y x' y' : SessionOutcome S R) → untimed_outcome x ≡ untimed_outcome x' → untimed_outcome y ≡ untimed_outcome y'
      → untimed_outcome (cond b x y) ≡ untimed_outcome (cond b x' y')
  untimed_cond true x y x' y' e f = e
  untimed_cond false x y x' y' e f = f

module _ {F : Type 0} (management transfer : ℕ) (managed : List ℕ → F) (transferred : ℕ → List ℕ → F) where
  neither : (b : Bool) → ◌≡◌ {A = Option F} (cond b None None) None
  neither true = refl
  neither false = refl

  unnamed : (pgn : ℕ) (bytes : List ℕ) → (pgn ≡ management → ⊥) → (pgn ≡ transfer → ⊥)
      → by_group management transfer managed transferred pgn bytes ≡ None
  unnamed pgn bytes h k =
      let e : eqb pgn management ≡ false = ne_eqb _ _ h in
      let f : eqb pgn transfer ≡ false = ne_eqb _ _ k in
      rw (e, f)

  pub of_another_group : (own_address : ℕ) (frame : Frame) → IsOfAnotherGroup management transfer frame
      → frame_in management transfer managed transferred own_address frame ≡ None
  of_another_group own_address frame other =
      ap (λ (x : Option F). cond (is_transport_frame_to own_address frame) x None) (unnamed (pgn_of (parts_of frame.id)) frame.bytes.items other.no_management other.no_transfer)
      ∙ neither (is_transport_frame_to own_address frame)
