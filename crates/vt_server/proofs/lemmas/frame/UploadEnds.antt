-- What is told of an upload that a frame ends is the end by a right verdict.
use Rattle.std.proofs.Common.{◌≡◌, ℕ, true, List, Option, Some, None, is_some, true≢false, refl, sym, ap, subst, ◌∙◌}
use Rattle.vt_can.specs.declared.frames.frame.Frame.{Frame}
use Rattle.vt_can.specs.frames.Frame.{source_of}
use Rattle.vt_names.specs.Registry.{Set, set_at}
use Rattle.vt_node.specs.Bus.{meaning_of}
use Rattle.vt_node.specs.declared.bus.FrameMeaning.{FrameMeaning}
use Rattle.vt_node.specs.declared.bus.FrameMeaning.TheVariants as meanings
use Rattle.vt_server.specs.Judgements.{ends_transfer}
use Rattle.vt_server.specs.frame.FrameContracts.{FitsMessage, FitsCompleted, FitsAfterTimeouts, HasUpload, end_prepared, message_by}
use Rattle.vt_server.specs.frame.SessionEffects.{came}
use Rattle.vt_server.specs.message.Judgements.{CarriesOut, IsJudgement, end_of}
use Rattle.vt_server.specs.message.UploadEnds.{IsEndOf, TellsEndIn, end_by}
use Rattle.vt_server.specs.message.Verdicts.{Verdict, Accepts, Faulty, Refuses}
use Rattle.vt_server.specs.state.AddressStates.{SetPool}
use Rattle.vt_server.specs.state.PoolTables.{content_of, spare_of}
use Rattle.vt_server.specs.States.{state_of}
use Rattle.vt_server.specs.Steps.{answer_to, is_lost_by}
use Rattle.vt_server.specs.Terminals.{State}
use Rattle.vt_server.specs.declared.frame.step.PreparedFrame.{PreparedFrame}
use Rattle.vt_server.specs.declared.frame.step.PreparedFrame.TheVariants as readies
use Rattle.vt_server.specs.declared.message.end_of_pool.Judgement.{Judgement}
use Rattle.vt_server.specs.declared.message.end_of_pool.Judgement.TheVariants as judgements
use Rattle.vt_server.specs.declared.message.upload.PreparedMessage.{PreparedMessage}
use Rattle.vt_server.specs.declared.message.upload.PreparedMessage.TheVariants as uploads
use Rattle.vt_server.specs.declared.terminal.Terminal.{Terminal}
use Rattle.vt_server.specs.declared.upload_end.UploadEnd.{UploadEnd}
use Rattle.vt_server.proofs.lemmas.frame.FrameStep.{by-message, none-ends}
use Rattle.vt_server.proofs.lemmas.message.EffectsAndReplies.{piece-ends_none, other-ends_none}

-- ---- by a judgement

by-verdict : (content : SetPool) (v : Verdict) (j : Judgement) → CarriesOut content v j → Some (end_of j) ≡ Some (end_by v)
by-verdict content (Accepts objects) (judgements.Accepted pool) out = refl
by-verdict content (Accepts objects) (judgements.Replaced replacement) out = refl
by-verdict content (Accepts objects) (judgements.Refused reply end) out = absurd out
by-verdict content (Faulty fault) (judgements.Accepted pool) out = absurd out
by-verdict content (Faulty fault) (judgements.Replaced replacement) out = absurd out
by-verdict content (Faulty fault) (judgements.Refused reply end) out = ap (λ (e : UploadEnd). Some e) out.1
by-verdict content (Refuses refusal) (judgements.Accepted pool) out = absurd out
by-verdict content (Refuses refusal) (judgements.Replaced replacement) out = absurd out
by-verdict content (Refuses refusal) (judgements.Refused reply end) out = ap (λ (e : UploadEnd). Some e) out.1

by-judgement : (content : SetPool) (j : Judgement) → IsJudgement content j → IsEndOf content (Some (end_of j))
by-judgement content j is = record { verdict = is.verdict; right = is.right; told_is = by-verdict content is.verdict j is.carried_out }

-- ---- by the work done in advance

told-by : (o : Option Set) (m : Option (List ℕ)) (content : SetPool) (spare : ℕ) (upload : PreparedMessage)
    → (is_some o ≡ true → FitsCompleted content spare m upload) → ends_transfer o m ≡ true → IsEndOf content (end_prepared (readies.Prepared upload))
told-by None m content spare upload ready ends = absurd (true≢false (sym ends))
told-by (Some set) None content spare upload ready ends = absurd (true≢false (sym ends))
told-by (Some set) (Some bytes) content spare upload ready ends = cases upload (ready refl)
  where
    cases : (u : PreparedMessage) → FitsMessage content spare bytes u → IsEndOf content (end_prepared (readies.Prepared u))
    cases uploads.Nothing is = other-ends_none (Some set) bytes is ends (IsEndOf content None)
    cases uploads.Capacity is = piece-ends_none (Some set) bytes is.0 ends (IsEndOf content None)
    cases (uploads.Piece piece) is = piece-ends_none (Some set) bytes is.0 ends (IsEndOf content None)
    cases (uploads.End judgement) is = by-judgement content judgement is.1

-- a frame by which the terminal may lose its address has no message
no-message : (s : State) (a : ℕ) (n : FrameMeaning) (frame : Frame) → is_lost_by (answer_to s a n) ≡ true
    → (came s.now s.claims.own a (s.places a) n frame).message ≡ None
no-message s a (meanings.Claim name) frame lost = refl
no-message s a meanings.ClaimRequest frame lost = absurd (true≢false (sym lost))
no-message s a (meanings.Master count) frame lost = absurd (true≢false (sym lost))
no-message s a (meanings.Member name) frame lost = absurd (true≢false (sym lost))
no-message s a meanings.Message frame lost = absurd (true≢false (sym lost))
no-message s a meanings.Tp frame lost = absurd (true≢false (sym lost))
no-message s a meanings.Etp frame lost = absurd (true≢false (sym lost))
no-message s a meanings.Nothing frame lost = absurd (true≢false (sym lost))

-- no upload ends without a message
none-told : (o : Option Set) (m : Option (List ℕ)) → m ≡ None → ends_transfer o m ≡ true → (P : Type 0) → P
none-told o m none ends P = none-ends o (ap (λ (x : Option (List ℕ)). ends_transfer o x) (sym none) ∙ ends) P

module _ (s : State) (t : Terminal) (n : FrameMeaning) (frame : Frame) (meaning : n ≡ meaning_of s.claims.own s.claims.name frame) where
  abbrev a : ℕ
  a = source_of frame

  abbrev message : FrameMeaning → Option (List ℕ)
  message m = (came s.now s.claims.own a (s.places a) m frame).message

  at-terminal : state_of t ≡ s → (upload : PreparedMessage) → HasUpload t n frame upload → ends_transfer (set_at a s.sets) (message n) ≡ true
      → IsEndOf (s.places a).content (end_prepared (readies.Prepared upload))
  at-terminal same upload has ends =
      let given = subst (λ (x : State). ends_transfer (set_at a x.sets) (came x.now x.claims.own a (x.places a) n frame).message ≡ true) (sym same) ends in
      subst (λ (x : State). IsEndOf (x.places a).content (end_prepared (readies.Prepared upload))) same
      (told-by (set_at a t.registry.sets) (message_by t t.time ((state_of t).places a) n frame) (content_of t.contents a) (spare_of t.contents a) upload
      (λ some. by-message n (content_of t.contents a) (spare_of t.contents a) t.time t.node.claims.own a ((state_of t).places a) frame upload (has some)) given)

  pub end-told : (ready : PreparedFrame) → FitsAfterTimeouts s t n frame ready → TellsEndIn s frame (end_prepared ready)
  end-told ready fits ends = cases ready fits
    where
      with-meaning : ends_transfer (set_at a s.sets) (message n) ≡ true
      with-meaning = ap (λ (m : FrameMeaning). ends_transfer (set_at a s.sets) (message m)) meaning ∙ ends

      cases : (r : PreparedFrame) → FitsAfterTimeouts s t n frame r → IsEndOf (s.places a).content (end_prepared r)
      cases readies.Loses is = none-told (set_at a s.sets) (message n) (no-message s a n frame is.1) with-meaning (IsEndOf (s.places a).content None)
      cases (readies.Claimed former) is =
          none-told (set_at a s.sets) (message n) (ap message is.1) with-meaning (IsEndOf (s.places a).content None)
      cases (readies.Prepared upload) is = at-terminal is.0 upload is.3 with-meaning
