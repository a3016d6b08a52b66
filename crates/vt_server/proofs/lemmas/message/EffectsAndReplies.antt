-- The effect of a message from the master of a set, and its reply.
use Rattle.std.proofs.Common.{◌≡◌, ℕ, true, false, cond, eqb, List, [], ◌∷◌, drop, Option, Some, None, is_some, true≢false, refl, sym, ap, ◌∙◌, eq-eqb, ne_eqb}
use Rattle.std.specs.Option.{option_map, option_to_list}
use Rattle.vt_can.specs.declared.frames.frame.Frame.{Frame}
use Rattle.vt_names.specs.Registry.{Set, set_at}
use Rattle.vt_commands.specs.declared.command.Command.{Command}
use Rattle.vt_commands.specs.Commands.{command_at}
use Rattle.vt_server.specs.message.CommandEffects.{content_after, error_after}
use Rattle.vt_server.specs.Judgements.{ends_transfer}
use Rattle.vt_server.specs.message.MessageEffects.{Handled, handled, asked, commanded, transferred, end_handled, TRANSFER, END_OF_POOL}
use Rattle.vt_server.specs.frame.FrameContracts.{HandlesMessage, IsReplyTo, BeginsWithByte, is_other, with_content_at, IsJudgedAt}
use Rattle.vt_node.specs.Messages.{message_to, technical_reply}
use Rattle.vt_node.specs.declared.profile.Profile.{Profile}
use Rattle.vt_server.specs.state.AddressViews.{AddressOutcome, unchanged, with_reply, after_message}
use Rattle.vt_server.specs.state.AddressStates.{SetPool, AddressState, with_content}
use Rattle.vt_server.specs.message.CommandReplies.{command_reply}
use Rattle.vt_server.specs.Terminals.{State, part, put}
use Rattle.vt_node.specs.AddressFunctions.{with_at}
use Rattle.vt_server.specs.message.Verdicts.{Verdict, IsVerdict}
use Rattle.vt_server.proofs.lemmas.state.WritesByAddress.{put-place, put-kept}
use Rattle.vt_node.proofs.ByAddress.{places-same}

-- ---- a technical request or a command

pub same-content : (a : ℕ) (s : State) → with_content_at a (s.places a).content s ≡ s
same-content a s = ap (λ (p : ℕ → AddressState). record s { places = p }) (places-same a s.places (s.places a) refl)

module _ (s : State) (a : ℕ) (bytes : List ℕ) where
  module _ (none : None ≡ technical_reply s.profile bytes) where
    asked-is : asked (s.places a).content bytes (technical_reply s.profile bytes) ≡ commanded (s.places a).content (command_at bytes)
    asked-is = ap (asked (s.places a).content bytes) (sym none)

    pub is-ignored : None ≡ command_at bytes → IsReplyTo s a bytes None s
    is-ignored is =
        let e = asked-is ∙ ap (commanded (s.places a).content) (sym is) in record {
          state = sym (ap (λ (h : Handled). with_content_at a h.content s) e ∙ same-content a s);
          reply_is = sym (ap (λ (h : Handled). h.reply) e);
        }

    pub is-commanded : (command : Command) (places : ℕ → AddressState) (found : Option ℕ) → Some command ≡ command_at bytes
        → places ≡ with_at a (with_content (s.places a) (content_after command (s.places a).content)) s.places
        → found ≡ error_after command (s.places a).content.pool
        → IsReplyTo s a bytes (option_map (command_reply command) found) (record s { places = places })
    is-commanded command places found is left error =
        let e = asked-is ∙ ap (commanded (s.places a).content) (sym is) in record {
          state = ap (λ (p : ℕ → AddressState). record s { places = p }) left ∙ sym (ap (λ (h : Handled). with_content_at a h.content s) e);
          reply_is = ap (option_map (command_reply command)) error ∙ sym (ap (λ (h : Handled). h.reply) e);
        }

-- ---- a message at an address

module _ (s : State) (a : ℕ) (bytes : List ℕ) where
  abbrev pub answer_by : Verdict → Option Set → AddressOutcome
  answer_by verdict set = after_message a (part a s) verdict set (Some bytes)

  -- Without a set a message changes nothing.
  unheard : (verdict : Verdict) (o : Option Set) → false ≡ is_some o → answer_by verdict o ≡ unchanged (part a s)
  unheard verdict None none = refl
  unheard verdict (Some set) none = absurd (true≢false (sym none))

  no-end : (verdict : Verdict) (o : Option Set) → false ≡ is_some o → ends_transfer o (Some bytes) ≡ true → IsVerdict (s.places a).content verdict
  no-end verdict None none ends = absurd (true≢false (sym ends))
  no-end verdict (Some set) none ends = absurd (true≢false (sym none))

  pub answers-none : (verdict : Verdict) → false ≡ is_some (set_at a s.sets) → HandlesMessage s a bytes None s
  answers-none verdict none = record {
    verdict = verdict;
    judged = no-end verdict (set_at a s.sets) none;
    state = sym (ap (λ (o : AddressOutcome). put a o s) (unheard verdict (set_at a s.sets) none) ∙ put-kept a s (unchanged (part a s)) refl refl);
    reply_is = sym (ap (λ (o : AddressOutcome). o.frames) (unheard verdict (set_at a s.sets) none));
  }

  -- With a set a message is handled.
  module _ (some : true ≡ is_some (set_at a s.sets)) where
    heard : (verdict : Verdict) (o : Option Set) → true ≡ is_some o → answer_by verdict o ≡ with_reply a (part a s) (handled s.profile (s.places a).content verdict bytes)
    heard verdict None e = absurd (true≢false e)
    heard verdict (Some set) e = refl

    module _ (verdict : Verdict) (done : Handled) (is : handled s.profile (s.places a).content verdict bytes ≡ done) where
      outcome-is : answer_by verdict (set_at a s.sets) ≡ with_reply a (part a s) done
      outcome-is = heard verdict (set_at a s.sets) some ∙ ap (with_reply a (part a s)) is

      pub answers-by : (t : State) (reply : Option Frame) → IsJudgedAt (part a s) bytes verdict
          → t ≡ with_content_at a done.content s
          → option_to_list reply ≡ option_to_list (option_map (message_to s.claims.own a) done.reply) → HandlesMessage s a bytes reply t
      answers-by t reply judged left said = record {
        verdict = verdict;
        judged = judged;
        state = left ∙ sym (ap (λ (o : AddressOutcome). put a o s) outcome-is ∙ put-place a s (with_reply a (part a s) done) refl);
        reply_is = said ∙ sym (ap (λ (o : AddressOutcome). o.frames) outcome-is);
      }

-- ---- the functions of messages

pub other-handled : (profile : Profile) (content : SetPool) (verdict : Verdict) (bytes : List ℕ) → is_other bytes → handled profile content verdict bytes ≡ asked content bytes (technical_reply profile bytes)
other-handled profile content verdict [] other = refl
other-handled profile content verdict (byte ∷ bytes) other =
    ap (λ b. cond b (transferred content bytes) (cond (eqb byte END_OF_POOL) (end_handled content verdict) (asked content (byte ∷ bytes) (technical_reply profile (byte ∷ bytes)))))
    (ne_eqb byte TRANSFER other.0)
    ∙ ap (λ b. cond b (end_handled content verdict) (asked content (byte ∷ bytes) (technical_reply profile (byte ∷ bytes)))) (ne_eqb byte END_OF_POOL other.1)

pub piece-handled : (profile : Profile) (content : SetPool) (verdict : Verdict) (bytes : List ℕ) → BeginsWithByte TRANSFER bytes → handled profile content verdict bytes ≡ transferred content (drop 1 bytes)
piece-handled profile content verdict [] begins = absurd begins
piece-handled profile content verdict (byte ∷ bytes) begins =
    ap (λ b. cond b (transferred content bytes) (cond (eqb byte END_OF_POOL) (end_handled content verdict) (asked content (byte ∷ bytes) (technical_reply profile (byte ∷ bytes)))))
    (eq-eqb byte TRANSFER begins)

pub end-handled : (profile : Profile) (content : SetPool) (verdict : Verdict) (bytes : List ℕ) → BeginsWithByte END_OF_POOL bytes → handled profile content verdict bytes ≡ end_handled content verdict
end-handled profile content verdict [] begins = absurd begins
end-handled profile content verdict (byte ∷ bytes) begins =
    ap (λ (n : ℕ). handled profile content verdict (n ∷ bytes)) begins

-- A piece of a pool does not end an upload.
pub piece-ends_none : (o : Option Set) (bytes : List ℕ) → BeginsWithByte TRANSFER bytes → ends_transfer o (Some bytes) ≡ true → (P : Type 0) → P
piece-ends_none None bytes begins ends P = absurd (true≢false (sym ends))
piece-ends_none (Some set) [] begins ends P = absurd begins
piece-ends_none (Some set) (byte ∷ bytes) begins ends P = absurd (true≢false (sym (ap (λ n. eqb n END_OF_POOL) (sym begins) ∙ ends)))

pub other-ends_none : (o : Option Set) (bytes : List ℕ) → is_other bytes → ends_transfer o (Some bytes) ≡ true → (P : Type 0) → P
other-ends_none None bytes other ends P = absurd (true≢false (sym ends))
other-ends_none (Some set) [] other ends P = absurd (true≢false (sym ends))
other-ends_none (Some set) (byte ∷ bytes) other ends P = absurd (true≢false (sym (sym (ne_eqb byte END_OF_POOL other.1) ∙ ends)))
