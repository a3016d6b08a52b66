-- ETP histories with one more session event. Every history has the latest first.
use Rattle.std.proofs.Common.{◌≡◌, ℕ, ◌+◌, ◌≤◌, ◌<◌, true, List, [], ◌∷◌, ◌++◌, length, ap, subst, ◌∙◌, refl, arith}
use Rattle.vt_can.specs.transport.Histories.{Came, AreQuiet, HasBrought}
use Rattle.vt_can.proofs.lemmas.transport.OpenSessions.{sent_more, Last, AtRequest, Later}
use Rattle.vt_extended.specs.declared.messages.Opening.{Opening}
use Rattle.vt_extended.specs.declared.messages.Part.{Part}
use Rattle.vt_extended.specs.declared.messages.Part.TheVariants.{Offset, Packet}
use Rattle.vt_extended.specs.declared.messages.EtpFrame.TheVariants as etp
use Rattle.vt_extended.specs.Messages.{SessionEvent, Group, Announced, opens, received, edge, AreSound, parts_of, parts_in, spelling}

-- a history with one more DPO or DT, which extends the groups
sent_part : (hs : List SessionEvent) (part : Part) (o : Opening) (groups groups' : List Group) → part ∷ parts_of groups ≡ parts_of groups'
    → (AreSound o groups → AreSound o groups') → HasBrought spelling hs o groups → HasBrought spelling (Came (etp.Part part) ∷ hs) o groups'
sent_part hs part o groups groups' is sound =
    sent_more spelling hs (Came (etp.Part part)) o groups groups' tt
    (λ later brought. record { in_order = ap (λ ys. part ∷ ys) brought.in_order ∙ is; sound = sound brought.sound })

pub sent_offset : (hs : List SessionEvent) (count offset : ℕ) (o : Opening) (groups : List Group) → 1 ≤ count → received groups + count ≤ edge o groups
    → offset ≡ received groups → HasBrought spelling hs o groups → HasBrought spelling (Came (etp.Part (Offset count offset)) ∷ hs) o (Announced count [] ∷ groups)
sent_offset hs count offset o groups one within next =
    sent_part hs (Offset count offset) o groups (Announced count [] ∷ groups)
    (ap (λ (k : ℕ). Offset count k ∷ parts_of groups) next)
    (λ sound. (one, within, omega arith, sound))

pub sent_packet : (hs : List SessionEvent) (number : ℕ) (packet : List ℕ) (o : Opening) (count : ℕ) (packets : List (List ℕ)) (groups : List Group)
    → number ≡ length packets + 1 → length packets < count → HasBrought spelling hs o (Announced count packets ∷ groups)
    → HasBrought spelling (Came (etp.Part (Packet number packet)) ∷ hs) o (Announced count (packet ∷ packets) ∷ groups)
sent_packet hs number packet o count packets groups next more =
    sent_part hs (Packet number packet) o (Announced count packets ∷ groups) (Announced count (packet ∷ packets) ∷ groups)
    (ap (λ (k : ℕ). Packet k packet ∷ parts_of (Announced count packets ∷ groups)) next)
    (λ sound. (sound.0, sound.1, omega arith, sound.3))

pub no_parts : (groups : List Group) → [] ≡ parts_of groups → groups ≡ []
no_parts [] e = refl
no_parts (Announced count [] ∷ groups) e = absurd cc
no_parts (Announced count (packet ∷ packets) ∷ groups) e = absurd cc

not_rts : (part : Part) (o : Opening) → Came (etp.Part part) ≡ Came (etp.Rts o) → ⊥
not_rts part o e = cc

-- a history that ends with a DPO, and the groups before it
pub record IsAnnounced (hs : List SessionEvent) (count offset : ℕ) (o : Opening) (groups : List Group) : Type 0 where
  pub before : List Group
  pub all : groups ≡ Announced count [] ∷ before
  pub next : offset ≡ received before
  pub one : 1 ≤ count
  pub within : received before + count ≤ edge o before
  pub sent : HasBrought spelling hs o before

offset_of : (hs later earlier : List SessionEvent) (count offset : ℕ) (o : Opening) (groups : List Group) → hs ≡ later ++ Came (etp.Rts o) ∷ earlier
    → opens o ≡ true → AreQuiet spelling later → Offset count offset ∷ parts_in later ≡ parts_of groups → AreSound o groups → IsAnnounced hs count offset o groups
offset_of hs later earlier count offset o [] split opened quiet in_order sound = absurd cc
offset_of hs later earlier count offset o (Announced count' (packet ∷ packets) ∷ before) split opened quiet in_order sound = absurd cc
offset_of hs later earlier count offset o (Announced count' [] ∷ before) split opened quiet in_order sound =
    let same : count' ≡ count = cc in
    record {
      before = before;
      all = ap (λ (k : ℕ). Announced k [] ∷ before) same;
      next = cc;
      one = subst (λ (k : ℕ). 1 ≤ k) same sound.0;
      within = subst (λ (k : ℕ). received before + k ≤ edge o before) same sound.1;
      sent = record { earlier = earlier; later = later; split = split; opened = opened; quiet = quiet; brought = record { in_order = cc; sound = sound.3 } };
    }

pub offset_last : (hs : List SessionEvent) (count offset : ℕ) (o : Opening) (groups : List Group) → Last spelling (Came (etp.Part (Offset count offset))) hs o groups
    → IsAnnounced hs count offset o groups
offset_last hs count offset o groups (AtRequest is opened none) = absurd (not_rts _ o is)
offset_last hs count offset o groups (Later later earlier split opened quiet rest brought) =
    offset_of hs later earlier count offset o groups split opened rest brought.in_order brought.sound

-- a history that ends with a DT, and the groups before it
pub record IsNext (hs : List SessionEvent) (number : ℕ) (packet : List ℕ) (o : Opening) (groups : List Group) : Type 0 where
  pub count : ℕ
  pub packets : List (List ℕ)
  pub before : List Group
  pub all : groups ≡ Announced count (packet ∷ packets) ∷ before
  pub next : number ≡ length packets + 1
  pub more : length packets < count
  pub sent : HasBrought spelling hs o (Announced count packets ∷ before)

packet_of : (hs later earlier : List SessionEvent) (number : ℕ) (packet : List ℕ) (o : Opening) (groups : List Group) → hs ≡ later ++ Came (etp.Rts o) ∷ earlier
    → opens o ≡ true → AreQuiet spelling later → Packet number packet ∷ parts_in later ≡ parts_of groups → AreSound o groups → IsNext hs number packet o groups
packet_of hs later earlier number packet o [] split opened quiet in_order sound = absurd cc
packet_of hs later earlier number packet o (Announced count [] ∷ before) split opened quiet in_order sound = absurd cc
packet_of hs later earlier number packet o (Announced count (last ∷ packets) ∷ before) split opened quiet in_order sound =
    let same : last ≡ packet = cc in
    record {
      count = count;
      packets = packets;
      before = before;
      all = ap (λ (p : List ℕ). Announced count (p ∷ packets) ∷ before) same;
      next = cc;
      more = omega (arith, sound.2);
      sent = record {
        earlier = earlier;
        later = later;
        split = split;
        opened = opened;
        quiet = quiet;
        brought = record { in_order = cc; sound = (sound.0, sound.1, omega (arith, sound.2), sound.3) };
      };
    }

pub packet_last : (hs : List SessionEvent) (number : ℕ) (packet : List ℕ) (o : Opening) (groups : List Group) → Last spelling (Came (etp.Part (Packet number packet))) hs o groups
    → IsNext hs number packet o groups
packet_last hs number packet o groups (AtRequest is opened none) = absurd (not_rts _ o is)
packet_last hs number packet o groups (Later later earlier split opened quiet rest brought) =
    packet_of hs later earlier number packet o groups split opened rest brought.in_order brought.sound
