-- Acts of a step with their addresses: predicates on each act and its address.
use Rattle.std.proofs.Common.{◌<◌, ℕ, zero, suc, Bool, true, false, cond, nat_eq, eqb, List, [], ◌∷◌, ◌++◌, Option, Some, None, arith}
use Rattle.std.specs.Option.{option_eq}
use Rattle.vt_can.specs.declared.frames.frame.Frame.{Frame}
use Rattle.vt_can.specs.transport.Sessions.{each_below}
use Rattle.vt_names.specs.Claims.{address_of}
use Rattle.vt_server.specs.shown.ShownSet.{raised_at, events_of_change, ACTIVATE, DEACTIVATE}
use Rattle.vt_server.specs.state.AddressViews.{Act, Hears, Rebinds, Raises}
use Rattle.vt_server.specs.Steps.{before, rebind_acts, rebind_former_acts, former_address, former_holder, changes, heard_at_source}
use Rattle.vt_server.specs.Terminals.{State, holder}
use Rattle.vt_server.specs.message.Verdicts.{Verdict}
use Rattle.vt_node.specs.declared.bus.FrameMeaning.{FrameMeaning}
use Rattle.vt_node.specs.declared.bus.FrameMeaning.TheVariants.{Claim, ClaimRequest, Master, Member, Message, Tp, Etp, Nothing}

-- ---- lists of acts with their addresses

abbrev pub AllAt : (ℕ → Act → Type 0) → List (ℕ × Act) → Type 0
AllAt P [] = Unit {0}
AllAt P (h ∷ hs) = P h.0 h.1 × AllAt P hs

pub at-append : (P : ℕ → Act → Type 0) (hs ks : List (ℕ × Act)) → AllAt P hs → AllAt P ks → AllAt P (hs ++ ks)
at-append P [] ks first second = second
at-append P (h ∷ hs) ks first second = (first.0, at-append P hs ks first.1 second)

pub at-below : (P : ℕ → Act → Type 0) (holds : ℕ → Bool) (what : Act) (n : ℕ) → ((a : ℕ) → a < n → P a what) → AllAt P (each_below holds what n)
unfolding each_below
at-below P holds what zero each = tt
at-below P holds what (suc n) each =
    at-append P (each_below holds what n) (cond (holds n) ((n, what) ∷ []) []) (at-below P holds what n (λ a lt. each a (omega arith))) (cases (holds n))
  where
    cases : (b : Bool) → AllAt P (cond b ((n, what) ∷ []) [])
    cases true = (each n (omega arith), tt)
    cases false = tt

at-changed : (P : ℕ → Act → Type 0) → ((a : ℕ) → P a Rebinds) → (was : Option ℕ) (t : State) (a : ℕ) → AllAt P (rebind_acts was t a)
at-changed P each was t a = cases (option_eq nat_eq was (holder t a))
  where
    cases : (b : Bool) → AllAt P (cond b [] ((a, Rebinds) ∷ []))
    cases true = tt
    cases false = (each a, tt)

at-left : (P : ℕ → Act → Type 0) → ((a : ℕ) → P a Rebinds) → (was : Option ℕ) (t : State) (o : Option ℕ) → AllAt P (rebind_former_acts was t o)
at-left P each was t None = tt
at-left P each was t (Some left) = at-changed P each was t left

pub at-changes : (P : ℕ → Act → Type 0) → ((a : ℕ) → P a Rebinds) → (s : State) (source : ℕ) (n : FrameMeaning) → AllAt P (changes s source n)
at-changes P each s source (Claim name) =
    let t = before s source (Claim name) in
    let left = former_address source (address_of s.claims.addresses name) in
    at-append P (rebind_former_acts (former_holder s left) t left) (rebind_acts (holder s source) t source) (at-left P each (former_holder s left) t left) (at-changed P each (holder s source) t source)
at-changes P each s source ClaimRequest = tt
at-changes P each s source (Master count) = tt
at-changes P each s source (Member name) = tt
at-changes P each s source Message = tt
at-changes P each s source Tp = tt
at-changes P each s source Etp = tt
at-changes P each s source Nothing = tt

pub at-heard : (P : ℕ → Act → Type 0) (own source : ℕ) (n : FrameMeaning) (f : Frame) (verdict : Verdict) → P source (Hears n f verdict) → AllAt P (heard_at_source own source n f verdict)
at-heard P own source n f verdict is = cases (eqb source own)
  where
    cases : (b : Bool) → AllAt P (cond b [] ((source, Hears n f verdict) ∷ []))
    cases true = tt
    cases false = (is, tt)

at-raised : (P : ℕ → Act → Type 0) → ((a event : ℕ) → P a (Raises event)) → (o : Option ℕ) (event : ℕ) → AllAt P (raised_at o event)
at-raised P each None event = tt
at-raised P each (Some a) event = (each a event, tt)

pub at-change : (P : ℕ → Act → Type 0) → ((a event : ℕ) → P a (Raises event)) → (was now : Option ℕ) → AllAt P (events_of_change was now)
at-change P each was now = cases (option_eq nat_eq was now)
  where
    cases : (b : Bool) → AllAt P (cond b [] (raised_at was DEACTIVATE ++ raised_at now ACTIVATE))
    cases true = tt
    cases false = at-append P (raised_at was DEACTIVATE) (raised_at now ACTIVATE) (at-raised P each was DEACTIVATE) (at-raised P each now ACTIVATE)
