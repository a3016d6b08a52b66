-- Each step keeps the profile.
use Rattle.std.proofs.Common.{◌≡◌, ℕ, refl, ap, ◌∙◌}
use Rattle.vt_node.specs.declared.bus.FrameMeaning.{FrameMeaning}
use Rattle.vt_node.specs.declared.bus.FrameMeaning.TheVariants.{Claim, ClaimRequest, Master, Member, Message, Tp, Etp, Nothing}
use Rattle.vt_node.specs.declared.profile.Profile.{Profile}
use Rattle.vt_server.specs.state.AddressViews.{Preloads}
use Rattle.vt_server.specs.Steps.{before}
use Rattle.vt_server.specs.Terminals.{State}
use Rattle.vt_server.proofs.lemmas.acts.ComposedActs.{act-is}
use Rattle.vt_server.proofs.lemmas.steps.StepInvariants.{IsKept, step-keeps}
use Rattle.vt_laws.specs.Ticks.{ProfilesAreKept}

profile-kept : (profile : Profile) → IsKept (λ s. s.profile ≡ profile)
profile-kept profile = record {
  act = λ s a h is. ap (λ (t : State). t.profile) (act-is s a h) ∙ is;
  heard = heard;
  timed = λ s time is. is;
  chosen = λ s selected shown lost is. is;
}
  where
    heard : (s : State) (source : ℕ) (n : FrameMeaning) → s.profile ≡ profile → (before s source n).profile ≡ profile
    heard s source (Claim name) is = is
    heard s source ClaimRequest is = is
    heard s source (Master count) is = is
    heard s source (Member name) is = is
    heard s source Message is = is
    heard s source Tp is = is
    heard s source Etp is = is
    heard s source Nothing is = is

pub profiles : ProfilesAreKept
profiles = record {
  steps = λ s e. step-keeps (λ t. t.profile ≡ s.profile) (profile-kept s.profile) s e refl;
  preloads = λ s address contents. ap (λ (t : State). t.profile) (act-is s address (Preloads contents));
}
