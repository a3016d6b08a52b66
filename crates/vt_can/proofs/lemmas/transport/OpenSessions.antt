-- Histories of a source, the latest session event first, and the sessions open in them.
use Rattle.std.proofs.Common.{◌≡◌, ◌<◌, Bool, true, false, cond, List, [], ◌∷◌, ◌++◌, Option, Some, None, ap, sym, subst, ◌∙◌, refl}
use Rattle.vt_can.specs.declared.transport.sessions.Timed.{Timed}
use Rattle.vt_can.specs.transport.Histories.{SessionEvent, Came, Spelling, AreQuiet, HasBrought, IsOpen}
use Rattle.vt_can.specs.transport.Steps.{Matches, IsStanding}

module _ {F : Type 0} where
  head_of : (x y : SessionEvent F) (xs ys : List (SessionEvent F)) → x ∷ xs ≡ y ∷ ys → x ≡ y
  head_of x y xs ys e = cc

  tail_of : (x y : SessionEvent F) (xs ys : List (SessionEvent F)) → x ∷ xs ≡ y ∷ ys → xs ≡ ys
  tail_of x y xs ys e = cc

  no_history : (x : SessionEvent F) (later earlier : List (SessionEvent F)) → [] ≡ later ++ x ∷ earlier → ⊥
  no_history x [] earlier e = cc
  no_history x (y ∷ later) earlier e = cc

module _ {F O P : Type 0} (s : Spelling F O P) where
  pub sent_first : (hs : List (SessionEvent F)) (o : O) (packets : P) → s.opens o ≡ true → s.Brings o [] packets → HasBrought s (Came (s.request o) ∷ hs) o packets
  sent_first hs o packets opened brought = record { earlier = hs; later = []; split = refl; opened = opened; quiet = tt; brought = brought }

  -- one more quiet session event, and the packets after it
  pub sent_more : (hs : List (SessionEvent F)) (x : SessionEvent F) (o : O) (packets packets' : P) → s.IsQuiet x
      → ((later : List (SessionEvent F)) → s.Brings o later packets → s.Brings o (x ∷ later) packets') → HasBrought s hs o packets → HasBrought s (x ∷ hs) o packets'
  sent_more hs x o packets packets' quiet brings sent = record {
    earlier = sent.earlier;
    later = x ∷ sent.later;
    split = ap (λ ys. x ∷ ys) sent.split;
    opened = sent.opened;
    quiet = (quiet, sent.quiet);
    brought = brings sent.later sent.brought;
  }

  -- a history without its latest session event, which is the request or a later one
  pub data Last (x : SessionEvent F) (hs : List (SessionEvent F)) (o : O) (packets : P) : Type 0 where
    AtRequest : x ≡ Came (s.request o) → s.opens o ≡ true → s.Brings o [] packets → Last x hs o packets
    Later : (later earlier : List (SessionEvent F)) → hs ≡ later ++ Came (s.request o) ∷ earlier → s.opens o ≡ true → s.IsQuiet x → AreQuiet s later
        → s.Brings o (x ∷ later) packets → Last x hs o packets

  split_last : (x : SessionEvent F) (hs later earlier : List (SessionEvent F)) (o : O) (packets : P) → x ∷ hs ≡ later ++ Came (s.request o) ∷ earlier
      → s.opens o ≡ true → AreQuiet s later → s.Brings o later packets → Last x hs o packets
  split_last x hs [] earlier o packets split opened quiet brought = AtRequest (head_of _ _ _ _ split) opened brought
  split_last x hs (y ∷ later) earlier o packets split opened quiet brought =
      let same : y ≡ x = sym (head_of _ _ _ _ split) in
      Later later earlier (tail_of _ _ _ _ split) opened (subst s.IsQuiet same quiet.0) quiet.1
      (subst (λ (z : SessionEvent F). s.Brings o (z ∷ later) packets) same brought)

  pub last_of : (x : SessionEvent F) (hs : List (SessionEvent F)) (o : O) (packets : P) → HasBrought s (x ∷ hs) o packets → Last x hs o packets
  last_of x hs o packets sent = split_last x hs sent.later sent.earlier o packets sent.split sent.opened sent.quiet sent.brought

  -- a quiet session event without a request or a packet
  pub record IsBystander (x : SessionEvent F) : Type 0 where
    pub quiet : s.IsQuiet x
    pub other : (o : O) → x ≡ Came (s.request o) → ⊥
    pub more : (o : O) (later : List (SessionEvent F)) (packets : P) → s.Brings o later packets → s.Brings o (x ∷ later) packets
    pub less : (o : O) (later : List (SessionEvent F)) (packets : P) → s.Brings o (x ∷ later) packets → s.Brings o later packets

  -- a session event that ends any session
  pub record IsEnd (x : SessionEvent F) : Type 0 where
    pub loud : s.IsQuiet x → ⊥
    pub other : (o : O) → x ≡ Came (s.request o) → ⊥

  quiet_last : (x : SessionEvent F) (hs : List (SessionEvent F)) (o : O) (packets : P) → IsBystander x → Last x hs o packets → HasBrought s hs o packets
  quiet_last x hs o packets by (AtRequest is opened brought) = absurd (by.other o is)
  quiet_last x hs o packets by (Later later earlier split opened quiet rest brought) = record {
    earlier = earlier;
    later = later;
    split = split;
    opened = opened;
    quiet = rest;
    brought = by.less o later packets brought;
  }

  nothing_last : (x : SessionEvent F) (hs : List (SessionEvent F)) (o : O) (packets : P) → IsEnd x → Last x hs o packets → ⊥
  nothing_last x hs o packets end (AtRequest is opened brought) = end.other o is
  nothing_last x hs o packets end (Later later earlier split opened quiet rest brought) = end.loud quiet

  module _ {S : Type 0} (opening : S → O) (HasPackets : Option (Timed S) → O → P → Type 0) where
    pub matches_none : Matches s opening HasPackets [] None
    matches_none = record {
      stands = λ o packets stands. absurd (no_history _ stands.sent.later stands.sent.earlier stands.sent.split);
      only = λ current is. absurd cc;
    }

    pub matches_quiet : (hs : List (SessionEvent F)) (session : Option (Timed S)) (x : SessionEvent F) → IsBystander x
        → Matches s opening HasPackets hs session → Matches s opening HasPackets (x ∷ hs) session
    matches_quiet hs session x by m = record {
      stands = λ o packets stands. m.stands o packets (record { sent = quiet_last x hs o packets by (last_of x hs o packets stands.sent); more = stands.more });
      only = λ current is.
          let k = m.only current is in
          let o = opening current.session in
          (k.0, record { sent = sent_more hs x o k.0 k.0 by.quiet (λ later. by.more o later k.0) k.1.sent; more = k.1.more }, k.2);
    }

    pub matches_end : (hs : List (SessionEvent F)) (x : SessionEvent F) → IsEnd x → Matches s opening HasPackets (x ∷ hs) None
    matches_end hs x end = record {
      stands = λ o packets stands. absurd (nothing_last x hs o packets end (last_of x hs o packets stands.sent));
      only = λ current is. absurd cc;
    }

    -- Over a request, the session opened by it, and its packets, of which there are none yet.
    module _ (o : O) (first : Timed S) (none : P) (opening_is : opening first.session ≡ o)
        (loud : s.IsQuiet (Came (s.request o)) → ⊥) (same : (o' : O) → Came (s.request o) ≡ Came (s.request o') → o ≡ o')
        (begun : s.Brings o [] none) (more : s.opens o ≡ true → s.count none < s.total o)
        (has : (packets : P) → s.Brings o [] packets → HasPackets (Some first) o packets) where
      request_has : (o' : O) (packets : P) → o ≡ o' → s.opens o' ≡ true → s.Brings o' [] packets
          → HasPackets (cond (s.opens o) (Some first) None) o' packets
      request_has o' packets is opened brought =
          let here : s.opens o ≡ true = ap s.opens is ∙ opened in
          subst (λ (q : O). HasPackets (cond (s.opens o) (Some first) None) q packets) is
          (subst (λ (b : Bool). HasPackets (cond b (Some first) None) o packets) (sym here)
          (has packets (subst (λ (q : O). s.Brings q [] packets) (sym is) brought)))

      request_last : (hs : List (SessionEvent F)) (o' : O) (packets : P) → Last (Came (s.request o)) hs o' packets
          → HasPackets (cond (s.opens o) (Some first) None) o' packets
      request_last hs o' packets (AtRequest is opened brought) = request_has o' packets (same o' is) opened brought
      request_last hs o' packets (Later later earlier split opened quiet rest brought) = absurd (loud quiet)

      request_standing : (hs : List (SessionEvent F)) (b : Bool) (current : Timed S) → s.opens o ≡ b → cond b (Some first) None ≡ Some current
          → IsStanding s opening HasPackets (Came (s.request o) ∷ hs) current
      request_standing hs false current opened is = absurd cc
      request_standing hs true current opened is =
          let same : first ≡ current = cc in
          subst (IsStanding s opening HasPackets (Came (s.request o) ∷ hs)) same (
            none,
            subst (λ (q : O). IsOpen s (Came (s.request o) ∷ hs) q none) (sym opening_is) (record { sent = sent_first hs o none opened begun; more = more opened }),
            subst (λ (q : O). HasPackets (Some first) q none) (sym opening_is) (has none begun),
          )

      pub matches_request : (hs : List (SessionEvent F)) → Matches s opening HasPackets (Came (s.request o) ∷ hs) (cond (s.opens o) (Some first) None)
      matches_request hs = record {
        stands = λ o' packets stands. request_last hs o' packets (last_of _ hs o' packets stands.sent);
        only = λ current is. request_standing hs (s.opens o) current refl is;
      }
