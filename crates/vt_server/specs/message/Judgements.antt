-- The code's judgement of an upload carries out a right verdict (docs/PROFILE.md, "End of Object Pool (12)").
use Rattle.std.specs.Prelude.{◌≡◌, ℕ, List, Option, Some, None}
use Rattle.vt_stores.specs.Stores.{Objects, ObjectMap, map_of}
use Rattle.vt_verify.specs.Updates.{updated}
use Rattle.vt_machine.specs.Replacements.{AreReplacements}
use Rattle.vt_machine.specs.SetStates.{SetState, renewed}
use Rattle.vt_server.specs.state.AddressStates.{SetPool}
use Rattle.vt_server.specs.message.Verdicts.{Verdict, Accepts, Faulty, Refuses, IsVerdict, after_verdict, with_objects_of, end_reply}
use Rattle.vt_server.specs.message.UploadEnds.{end_by}
use Rattle.vt_server.specs.declared.upload_end.UploadEnd.{UploadEnd}
use Rattle.vt_server.specs.declared.upload_end.UploadEnd.TheVariants as ends
use Rattle.vt_node.specs.AddressFunctions.{with_at}
use Rattle.vt_server.specs.declared.message.end_of_pool.Judgement.{Judgement}
use Rattle.vt_server.specs.declared.message.end_of_pool.Judgement.TheVariants as judgements

-- The objects replace others of a set's pool with the same macros and references, and these are its objects then.
abbrev pub IsReplaced : Option SetState → Objects → ObjectMap → Type 0
IsReplaced None replacement objects = ⊥
IsReplaced (Some state) replacement objects = AreReplacements state.objects replacement × (objects ≡ map_of (updated state.objects replacement))

-- a set's pool with these objects in place of others
abbrev pub with_replaced : SetState → Objects → SetState
with_replaced state replacement = renewed state (map_of (updated state.objects replacement))

-- A judgement carries out a verdict: it has the new pool of the set, the objects that change in it, or the reply that
-- refuses the upload with the reason.
abbrev pub CarriesOut : SetPool → Verdict → Judgement → Type 0
CarriesOut content (Accepts objects) (judgements.Accepted pool) = pool.value ≡ with_objects_of content.pool objects
CarriesOut content (Accepts objects) (judgements.Replaced replacement) = IsReplaced content.pool replacement objects
CarriesOut content (Faulty fault) (judgements.Refused reply end) = (reply ≡ end_reply (Faulty fault)) × (end ≡ end_by (Faulty fault))
CarriesOut content (Refuses refusal) (judgements.Refused reply end) = (reply ≡ end_reply (Refuses refusal)) × (end ≡ end_by (Refuses refusal))
CarriesOut content verdict judgement = ⊥

-- how the upload ends by a judgement
abbrev pub end_of : Judgement → UploadEnd
end_of (judgements.Accepted pool) = ends.Accepted
end_of (judgements.Replaced replacement) = ends.Accepted
end_of (judgements.Refused reply end) = end

pub record IsJudgement (content : SetPool) (judgement : Judgement) : Type 0 where
  pub verdict : Verdict
  pub right : IsVerdict content verdict
  pub carried_out : CarriesOut content verdict judgement

-- The upload of an address ends by a right verdict, with this reply.
pub record IsEnded (old : ℕ → SetPool) (address : ℕ) (judgement : Judgement) (reply : List ℕ) (new : ℕ → SetPool) : Type 0 where
  pub verdict : Verdict
  pub right : IsVerdict (old address) verdict
  pub content : new ≡ with_at address (after_verdict (old address) verdict) old
  pub reply_is : reply ≡ end_reply verdict
