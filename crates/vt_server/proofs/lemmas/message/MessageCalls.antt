-- The calls that handle a message from the master of a set meet their contracts.
use Rattle.std.proofs.Common.{◌≡◌, ℕ, true, false, List, [], ◌++◌, drop, Option, Some, None, is_some, true≢false, refl, sym, ap, subst, ◌∙◌, append_assoc, append-nil}
use Rattle.std.specs.FinMap as finite
use Rattle.std.specs.Option.{option_map, option_to_list}
use Rattle.vt_can.specs.declared.frames.frame.Frame.{Frame}
use Rattle.vt_can.specs.declared.transport.heard.Heard.{Heard}
use Rattle.vt_can.specs.frames.Frame.{source_of}
use Rattle.vt_can.specs.declared.transport.sessions.Timed.{Timed}
use Rattle.vt_can.specs.transport.Messages.{Message}
use Rattle.vt_names.specs.Registry.{Set, set_at}
use Rattle.vt_transport.specs.Senders.{Answer, answered, unanswered}
use Rattle.vt_transport.specs.Wire.{tp_frame}
use Rattle.vt_server.specs.message.Judgements.{IsEnded}
use Rattle.vt_server.specs.Judgements.{ends_transfer}
use Rattle.vt_server.specs.message.MessageEffects.{asked, transferred, end_handled, TRANSFER, END_OF_POOL}
use Rattle.vt_server.specs.frame.FrameContracts.{HandlesMessage, Handles, IsReplyTo, AppliesMeaning, BeginsWithByte, is_other, with_content_at}
use Rattle.vt_node.specs.Messages.{message_to, technical_reply}
use Rattle.vt_node.specs.Nodes.{NodeState, HasTaken, HasAnswered, tp_taken, etp_taken, sender_answer}
use Rattle.vt_server.specs.Outputs.{frames_of}
use Rattle.vt_server.specs.state.AddressViews.{unchanged, after_message}
use Rattle.vt_server.specs.state.AddressStates.{SetPool, AddressState, with_piece}
use Rattle.vt_node.specs.ReceiverResults.{frames_in, message_in}
use Rattle.vt_server.specs.frame.SessionEffects.{Came, came_tp, came_etp, message_to_terminal}
use Rattle.vt_server.specs.States.{state_of, places_by}
use Rattle.vt_server.specs.Terminals.{State, part, put}
use Rattle.vt_node.specs.AddressFunctions.{with_at}
use Rattle.vt_server.specs.message.Verdicts.{after_verdict}
use Rattle.vt_server.specs.state.PoolTables.{content_of}
use Rattle.vt_node.specs.Watches.{heard_of}
use Rattle.vt_server.specs.declared.pools.PoolTable.{PoolTable}
use Rattle.vt_server.specs.declared.message.end_of_pool.Judgement.{Judgement}
use Rattle.vt_node.specs.declared.bus.FrameMeaning.TheVariants as meanings
use Rattle.vt_server.specs.declared.output.Output.{Output}
use Rattle.vt_server.specs.declared.terminal.Terminal.{Terminal}
use Rattle.vt_server.proofs.lemmas.message.EffectsAndReplies.{answers-by, other-handled, piece-handled, end-handled, piece-ends_none, other-ends_none}
use Rattle.vt_server.proofs.lemmas.frame.FrameEffect.{any_verdict, frames-append, with_place_at, takes-came}
use Rattle.vt_server.proofs.lemmas.state.WritesByAddress.{content-placed, put-kept}
use Rattle.vt_node.proofs.ByAddress.{places-written}

-- ---- the content of one address

-- the terminal with another table of pools and uploads
abbrev pub with_contents : Terminal → PoolTable → Terminal
with_contents t contents = record t { contents = contents }

pub contents-state : (t : Terminal) (contents : PoolTable) (a : ℕ) (x : SetPool) → content_of contents ≡ with_at a x (content_of t.contents)
    → state_of (with_contents t contents) ≡ with_content_at a x (state_of t)
contents-state t contents a x is =
    ap (λ (f : ℕ → SetPool). record (state_of t) { places = places_by f t.node (heard_of t.registry.watch) }) is
    ∙ ap (λ (p : ℕ → AddressState). record (state_of t) { places = p }) (content-placed (content_of t.contents) t.node (heard_of t.registry.watch) a x)

-- ---- the three kinds of messages: a piece, the end of an upload, any other

module _ (s : State) (a : ℕ) (bytes : List ℕ) (some : true ≡ is_some (set_at a s.sets)) where
  pub piece-answered : (t : State) → BeginsWithByte TRANSFER bytes → t ≡ with_content_at a (with_piece (s.places a).content (drop 1 bytes)) s → HandlesMessage s a bytes None t
  piece-answered t begins left =
      answers-by s a bytes some any_verdict (transferred (s.places a).content (drop 1 bytes)) (piece-handled s.profile (s.places a).content any_verdict bytes begins) t None
      (λ ends. piece-ends_none (set_at a s.sets) bytes begins ends _) left refl

  pub end-answered : (t : State) (judgement : Judgement) (reply : List ℕ) (new : ℕ → SetPool) → BeginsWithByte END_OF_POOL bytes
      → (is : IsEnded (λ q. (s.places q).content) a judgement reply new) → t ≡ with_content_at a (after_verdict (s.places a).content is.verdict) s
      → HandlesMessage s a bytes (Some (message_to s.claims.own a reply)) t
  end-answered t judgement reply new begins is left =
      answers-by s a bytes some is.verdict (end_handled (s.places a).content is.verdict) (end-handled s.profile (s.places a).content is.verdict bytes begins) t
      (Some (message_to s.claims.own a reply)) (λ _. is.right) left
      (ap (λ (r : List ℕ). option_to_list (Some (message_to s.claims.own a r))) is.reply_is)

  pub other-answered : (t : State) (reply : Option (List ℕ)) → is_other bytes → IsReplyTo s a bytes reply t
      → HandlesMessage s a bytes (option_map (message_to s.claims.own a) reply) t
  other-answered t reply other is =
      answers-by s a bytes some any_verdict (asked (s.places a).content bytes (technical_reply s.profile bytes)) (other-handled s.profile (s.places a).content any_verdict bytes other) t
      (option_map (message_to s.claims.own a) reply) (λ ends. other-ends_none (set_at a s.sets) bytes other ends _) is.state
      (ap (λ (r : Option (List ℕ)). option_to_list (option_map (message_to s.claims.own a) r)) is.reply_is)

-- ---- no message for the terminal

module _ (s : State) (a : ℕ) where
  quiet : (set : Option Set) → (after_message a (part a s) any_verdict set None ≡ unchanged (part a s)) × (ends_transfer set None ≡ false)
  quiet None = (refl, refl)
  quiet (Some set) = (refl, refl)

  pub none-handled : Handles s a None None s
  none-handled =
      let same = quiet (set_at a s.sets) in record {
        verdict = any_verdict;
        judged = λ ends. absurd (true≢false (sym ends ∙ same.1));
        state = sym (ap (λ o. put a o s) same.0 ∙ put-kept a s (unchanged (part a s)) refl refl);
        reply_is = ap (λ o. o.frames) (sym same.0);
      }

-- the frames of a receiver and then those of the sender
pub sent-both : (before : List Output) (xs ys : List Frame) → (before ++ frames_of xs) ++ frames_of ys ≡ before ++ frames_of (xs ++ ys)
sent-both before xs ys = append_assoc before (frames_of xs) (frames_of ys) ∙ ap (λ l. before ++ l) (sym (frames-append xs ys))

-- ---- frames of sessions

-- A frame of the transport protocol goes to the receiver, then to the sender.
module _ (t : Terminal) (frame : Frame) (heard : Heard) (first second : NodeState) (frames : List Frame)
    (rest : first ≡ record t.node { tp = first.tp; tp_spare = first.tp_spare })
    (taken : HasTaken (tp_taken t.node t.time frame) (source_of frame) t.node.tp first.tp heard)
    (left : second ≡ record first { sending = second.sending })
    (answered : HasAnswered (sender_answer first t.time frame) (source_of frame) first.sending second.sending frames) where
  abbrev tp_came : Came
  tp_came = came_tp t.time t.node.claims.own (source_of frame) ((state_of t).places (source_of frame)) frame

  tp-given : sender_answer first t.time frame ≡ sender_answer t.node t.time frame
  tp-given = ap (λ (n : NodeState). sender_answer n t.time frame) rest

  tp-placed : places_by (content_of t.contents) second (heard_of t.registry.watch) ≡ with_at (source_of frame) tp_came.place (state_of t).places
  tp-placed =
      let a = source_of frame in
      places-written a (state_of t).places (places_by (content_of t.contents) second (heard_of t.registry.watch)) tp_came.place
      (λ i. record ((state_of t).places a) {
        tp = (ap (λ (n : NodeState). finite.get n.tp a) left ∙ taken.session) i;
        etp = (ap (λ (n : NodeState). finite.get n.etp a) left ∙ ap (λ (n : NodeState). finite.get n.etp a) rest) i;
        sending = (answered.session ∙ ap (λ g. g.session) tp-given) i;
      })
      (λ b ne. λ i. record ((state_of t).places b) {
        tp = (ap (λ (n : NodeState). finite.get n.tp b) left ∙ taken.others b ne) i;
        etp = (ap (λ (n : NodeState). finite.get n.etp b) left ∙ ap (λ (n : NodeState). finite.get n.etp b) rest) i;
        sending = (answered.others b ne ∙ ap (λ (n : NodeState). finite.get n.sending b) rest) i;
      })

  tp-state : state_of (record t { node = second }) ≡ with_place_at (source_of frame) tp_came.place (state_of t)
  tp-state = λ i. record (state_of t) {
    claims = (ap (λ (n : NodeState). n.claims) left ∙ ap (λ (n : NodeState). n.claims) rest) i;
    places = tp-placed i;
  }

  pub tp-takes : (u : State) (q : ℕ) (message : Option (List ℕ)) (reply : Option Frame) (before after : List Output) → q ≡ source_of frame
      → message ≡ message_to_terminal (message_in heard) → Handles (state_of (record t { node = second })) q message reply u
      → after ≡ (before ++ frames_of (frames_in heard ++ frames)) ++ frames_of (option_to_list reply) → AppliesMeaning (state_of t) meanings.Tp frame u before after
  tp-takes u q message reply before after is message-is handles sent =
      takes-came (state_of t) frame meanings.Tp tp_came refl (λ p v. refl) refl u reply before after
      (subst (λ s. Handles s (source_of frame) tp_came.message reply u) tp-state
      (subst (λ m. Handles (state_of (record t { node = second })) (source_of frame) m reply u) (message-is ∙ ap message_to_terminal taken.message)
      (subst (λ a. Handles (state_of (record t { node = second })) a message reply u) is handles)))
      (sent ∙ (λ i. (before ++ frames_of (taken.frames i ++ (answered.frames_are ∙ ap (λ g. g.frames) tp-given) i)) ++ frames_of (option_to_list reply)))

-- A sender without a session sends nothing to the address.
none-is : {X : Type 0} (o : Option X) → is_some o ≡ false → o ≡ None
none-is None none = refl
none-is (Some x) some = absurd (true≢false some)

none-answered : (node : NodeState) (now : ℕ) (frame : Frame) → is_some (finite.get node.sending (source_of frame)) ≡ false
    → HasAnswered (sender_answer node now frame) (source_of frame) node.sending node.sending []
none-answered node now frame none =
    let closed = none-is (finite.get node.sending (source_of frame)) none in
    let given : sender_answer node now frame ≡ unanswered None =
    ap (λ (o : Option (Timed Message)). answered node.claims.own (source_of frame) now o (tp_frame node.claims.own frame)) closed in record {
      frames_are = ap (λ (g : Answer). g.frames) (sym given);
      session = closed ∙ ap (λ (g : Answer). g.session) (sym given);
      others = λ b ne. refl;
    }

pub tp-takes-alone : (t : Terminal) (frame : Frame) (heard : Heard) (node : NodeState) → node ≡ record t.node { tp = node.tp; tp_spare = node.tp_spare }
    → HasTaken (tp_taken t.node t.time frame) (source_of frame) t.node.tp node.tp heard → is_some (finite.get node.sending (source_of frame)) ≡ false
    → (u : State) (q : ℕ) (message : Option (List ℕ)) (reply : Option Frame) (before after : List Output) → q ≡ source_of frame
    → message ≡ message_to_terminal (message_in heard) → Handles (state_of (record t { node = node })) q message reply u
    → after ≡ (before ++ frames_of (frames_in heard)) ++ frames_of (option_to_list reply) → AppliesMeaning (state_of t) meanings.Tp frame u before after
tp-takes-alone t frame heard node rest taken none u q message reply before after is message-is handles sent =
    tp-takes t frame heard node node [] rest taken refl (none-answered node t.time frame none) u q message reply before after is message-is handles
    (sent ∙ ap (λ l. (before ++ frames_of l) ++ frames_of (option_to_list reply)) (sym (append-nil (frames_in heard))))

-- A frame of the extended transport protocol goes to its receiver.
module _ (t : Terminal) (frame : Frame) (heard : Heard) (node : NodeState)
    (rest : node ≡ record t.node { etp = node.etp; etp_spare = node.etp_spare })
    (taken : HasTaken (etp_taken t.node t.time frame) (source_of frame) t.node.etp node.etp heard) where
  abbrev etp_came : Came
  etp_came = came_etp t.time t.node.claims.own (source_of frame) ((state_of t).places (source_of frame)) frame

  etp-placed : places_by (content_of t.contents) node (heard_of t.registry.watch) ≡ with_at (source_of frame) etp_came.place (state_of t).places
  etp-placed =
      let a = source_of frame in
      places-written a (state_of t).places (places_by (content_of t.contents) node (heard_of t.registry.watch)) etp_came.place
      (λ i. record ((state_of t).places a) {
        tp = ap (λ (n : NodeState). finite.get n.tp a) rest i;
        etp = taken.session i;
        sending = ap (λ (n : NodeState). finite.get n.sending a) rest i;
      })
      (λ b ne. λ i. record ((state_of t).places b) {
        tp = ap (λ (n : NodeState). finite.get n.tp b) rest i;
        etp = taken.others b ne i;
        sending = ap (λ (n : NodeState). finite.get n.sending b) rest i;
      })

  etp-state : state_of (record t { node = node }) ≡ with_place_at (source_of frame) etp_came.place (state_of t)
  etp-state = λ i. record (state_of t) { claims = ap (λ (n : NodeState). n.claims) rest i; places = etp-placed i }

  pub etp-takes : (u : State) (q : ℕ) (message : Option (List ℕ)) (reply : Option Frame) (before after : List Output) → q ≡ source_of frame
      → message ≡ message_to_terminal (message_in heard) → Handles (state_of (record t { node = node })) q message reply u
      → after ≡ (before ++ frames_of (frames_in heard)) ++ frames_of (option_to_list reply) → AppliesMeaning (state_of t) meanings.Etp frame u before after
  etp-takes u q message reply before after is message-is handles sent =
      takes-came (state_of t) frame meanings.Etp etp_came refl (λ p v. refl) refl u reply before after
      (subst (λ s. Handles s (source_of frame) etp_came.message reply u) etp-state
      (subst (λ m. Handles (state_of (record t { node = node })) (source_of frame) m reply u) (message-is ∙ ap message_to_terminal taken.message)
      (subst (λ a. Handles (state_of (record t { node = node })) a message reply u) is handles)))
      (sent ∙ ap (λ l. (before ++ frames_of l) ++ frames_of (option_to_list reply)) taken.frames)
