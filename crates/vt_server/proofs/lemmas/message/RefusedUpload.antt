-- A refused upload ends with its pool unchanged.
use Rattle.std.proofs.Common.{◌≡◌, ℕ, List, []}
use Rattle.vt_server.specs.message.Judgements.{CarriesOut, IsJudgement, IsEnded}
use Rattle.vt_server.specs.state.AddressStates.{SetPool}
use Rattle.vt_node.specs.AddressFunctions.{with_at}
use Rattle.vt_server.specs.message.Verdicts.{Verdict, Accepts, Faulty, Refuses, IsVerdict}
use Rattle.vt_server.specs.declared.message.end_of_pool.Judgement.TheVariants as judgements
use Rattle.vt_server.specs.declared.upload_end.UploadEnd.{UploadEnd}

-- The end of a refused upload removes the upload and leaves the pool unchanged.
pub ends-refused : (old new : ℕ → SetPool) (a : ℕ) (reply : List ℕ) (end : UploadEnd) → IsJudgement (old a) (judgements.Refused reply end)
    → new ≡ with_at a (record (old a) { transfer = [] }) old → IsEnded old a (judgements.Refused reply end) reply new
ends-refused old new a reply end is left = cases is.verdict is.right is.carried_out
  where
    cases : (v : Verdict) → IsVerdict (old a) v → CarriesOut (old a) v (judgements.Refused reply end) → IsEnded old a (judgements.Refused reply end) reply new
    cases (Accepts objects) right out = absurd out
    cases (Faulty fault) right out = record { verdict = Faulty fault; right = right; content = left; reply_is = out.0 }
    cases (Refuses refusal) right out = record { verdict = Refuses refusal; right = right; content = left; reply_is = out.0 }
