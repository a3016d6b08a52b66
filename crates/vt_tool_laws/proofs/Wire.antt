-- What a frame says, by what a receiver decodes.
use Rattle.std.proofs.Common.{◌≡◌, ◌<◌, ℕ, ◌^◌, eqb, cond, Bool, true, false, ◌||◌, Option, Some, None, length, refl, sym, ap, ◌∙◌, ◌⊎◌, inl, inr, ⊎_elim}
use Rattle.std.proofs.lemmas.Bool.{and_parts, and_cases, or_parts, false≢true, eqb-true, eq-eqb, cases_Bool}
use Rattle.vt_can.specs.declared.frames.frame.Frame.{Frame}
use Rattle.vt_can.specs.frames.Identifier.{parts_of, pgn_of, destination_of}
use Rattle.vt_can.specs.frames.Frame.{source_of, is_to}
use Rattle.vt_can.specs.Assigned.{ETP_CM, ETP_DT, TP_CM, TP_DT}
use Rattle.vt_can.specs.transport.Wire.{is_transport_frame_to}
use Rattle.log_listen.specs.declared.part.Part.{Part}
use Rattle.log_listen.specs.Parts.{managed, extended_managed, is_extended, part_by_group, part_in}
use Rattle.log_listen.specs.Channels.{channel_of, sent, said}
use Rattle.log_listen.proofs.Channels.{says_nothing}
use Rattle.vt_tool_laws.proofs.Channels.{says_to, says_away}

abbrev pub pgn_in : Frame → ℕ
pgn_in frame = pgn_of (parts_of frame.id)

-- one of two values, by three tests
abbrev pub tested : {F : Type 0} → Bool → Bool → Bool → F → F → Option F
tested b c d x y = cond b (cond c (Some x) (cond d (Some y) None)) None

-- a frame to the address, of one of two parameter groups, decodes to one of two values
pub record IsRead {F : Type 0} (management transfer own : ℕ) (frame : Frame) (x y f : F) : Type 0 where
  pub to : destination_of (parts_of frame.id) ≡ Some own
  pub eight : eqb (length frame.bytes.items) 8 ≡ true
  pub by : ((pgn_in frame ≡ management) × (f ≡ x)) ⊎ ((pgn_in frame ≡ transfer) × (f ≡ y))

some_of_tests : {F : Type 0} (b c d : Bool) (x y f : F) → tested b c d x y ≡ Some f → (b ≡ true) × (((c ≡ true) × (f ≡ x)) ⊎ ((d ≡ true) × (f ≡ y)))
some_of_tests true true d x y f is = (refl, inl (refl, let e = is in cc))
some_of_tests true false true x y f is = (refl, inr (refl, let e = is in cc))
some_of_tests true false false x y f is = absurd (let e = is in cc)
some_of_tests false c d x y f is = absurd (let e = is in cc)

none_of_tests : {F : Type 0} (b c d : Bool) (x y : F) → tested b c d x y ≡ None → (b ≡ false) ⊎ ((c ≡ false) × (d ≡ false))
none_of_tests true true d x y is = absurd (let e = is in cc)
none_of_tests true false true x y is = absurd (let e = is in cc)
none_of_tests true false false x y is = inr (refl, refl)
none_of_tests false c d x y is = inl refl

to_own : (own : ℕ) (destination : Option ℕ) → is_to own destination ≡ true → destination ≡ Some own
to_own own None is = absurd (false≢true is)
to_own own (Some destination) is = ap (λ (n : ℕ). Some n) (eqb-true destination own is)

pub is_read : {F : Type 0} (management transfer own : ℕ) (frame : Frame) (x y f : F)
    → tested (is_transport_frame_to own frame) (eqb (pgn_in frame) management) (eqb (pgn_in frame) transfer) x y ≡ Some f → IsRead management transfer own frame x y f
is_read management transfer own frame x y f is =
    let tests = some_of_tests (is_transport_frame_to own frame) (eqb (pgn_in frame) management) (eqb (pgn_in frame) transfer) x y f is in
    let addressed = and_parts (is_to own (destination_of (parts_of frame.id))) (eqb (length frame.bytes.items) 8) tests.0 in
    record {
      to = to_own own (destination_of (parts_of frame.id)) addressed.0;
      eight = addressed.1;
      by = ⊎_elim
          (λ (first : (eqb (pgn_in frame) management ≡ true) × (f ≡ x)). inl (eqb-true (pgn_in frame) management first.0, first.1))
          (λ (second : (eqb (pgn_in frame) transfer ≡ true) × (f ≡ y)). inr (eqb-true (pgn_in frame) transfer second.0, second.1))
          tests.1;
    }

-- a frame of eight bytes to the address says the part of its bytes
pub says_by_group : (extended : Bool) (pgn own : ℕ) (frame : Frame) → destination_of (parts_of frame.id) ≡ Some own → eqb (length frame.bytes.items) 8 ≡ true → pgn_in frame ≡ pgn
    → is_extended pgn ≡ extended → said (channel_of extended (source_of frame) own) frame ≡ sent (part_by_group pgn frame.bytes.items)
says_by_group extended pgn own frame to eight is protocol =
    ap (λ e. said (channel_of e (source_of frame) own) frame) (sym (ap is_extended is ∙ protocol))
    ∙ says_to frame own to
    ∙ ap (λ b. sent (cond b (part_by_group (pgn_in frame) frame.bytes.items) None)) eight
    ∙ ap (λ p. sent (part_by_group p frame.bytes.items)) is

not_to_own : (own : ℕ) (destination : Option ℕ) → is_to own destination ≡ false → destination ≡ Some own → ⊥
not_to_own own destination away to =
    false≢true (sym away ∙ ap (is_to own) to ∙ eq-eqb own own refl)

-- a frame that is not to the address, or not of eight bytes, says nothing
says_not_addressed : (extended : Bool) (own : ℕ) (frame : Frame) → own < 2 ^ 8 → is_transport_frame_to own frame ≡ false → said (channel_of extended (source_of frame) own) frame ≡ None
says_not_addressed extended own frame small away =
    ⊎_elim
    (λ (elsewhere : is_to own (destination_of (parts_of frame.id)) ≡ false).
    says_away extended own small frame (λ to _. not_to_own own (destination_of (parts_of frame.id)) elsewhere to))
    (λ (short : eqb (length frame.bytes.items) 8 ≡ false).
    says_nothing frame (ap (λ b. cond b (part_by_group (pgn_in frame) frame.bytes.items) None) short) (channel_of extended (source_of frame) own))
    (and_cases (is_to own (destination_of (parts_of frame.id))) (eqb (length frame.bytes.items) 8) away)

none_by_tests : (eight cm ecm dt edt : Bool) (x y z : Option Part) → cm ≡ false → ecm ≡ false → dt ≡ false → edt ≡ false
    → cond eight (cond cm x (cond ecm y (cond (dt || edt) z None))) None ≡ None
none_by_tests false cm ecm dt edt x y z a b c d = refl
none_by_tests true cm ecm dt edt x y z a b c d =
    ap (λ v. cond v x (cond ecm y (cond (dt || edt) z None))) a ∙ ap (λ v. cond v y (cond (dt || edt) z None)) b ∙ ap (λ v. cond (v || edt) z None) c ∙ ap (λ v. cond v z None) d

no_part : (frame : Frame) → eqb (pgn_in frame) TP_CM ≡ false → eqb (pgn_in frame) TP_DT ≡ false → is_extended (pgn_in frame) ≡ false → part_in frame ≡ None
no_part frame no_cm no_dt no_etp =
    let parts = or_parts (eqb (pgn_in frame) ETP_CM) (eqb (pgn_in frame) ETP_DT) no_etp in
    none_by_tests (eqb (length frame.bytes.items) 8) (eqb (pgn_in frame) TP_CM) (eqb (pgn_in frame) ETP_CM) (eqb (pgn_in frame) TP_DT) (eqb (pgn_in frame) ETP_DT)
    (managed frame.bytes.items) (extended_managed frame.bytes.items) _ no_cm parts.0 no_dt parts.1

pub transport_unread : {F : Type 0} (own : ℕ) (frame : Frame) (x y : F) → own < 2 ^ 8
    → tested (is_transport_frame_to own frame) (eqb (pgn_in frame) TP_CM) (eqb (pgn_in frame) TP_DT) x y ≡ None
    → said (channel_of false (source_of frame) own) frame ≡ None
transport_unread own frame x y small is =
    ⊎_elim
    (says_not_addressed false own frame small)
    (λ (groups : (eqb (pgn_in frame) TP_CM ≡ false) × (eqb (pgn_in frame) TP_DT ≡ false)). ⊎_elim
    (λ (etp : is_extended (pgn_in frame) ≡ true). says_away false own small frame (λ _ same. false≢true (same ∙ etp)))
    (λ (other : is_extended (pgn_in frame) ≡ false). says_nothing frame (no_part frame groups.0 groups.1 other) (channel_of false (source_of frame) own))
    (cases_Bool (is_extended (pgn_in frame))))
    (none_of_tests (is_transport_frame_to own frame) (eqb (pgn_in frame) TP_CM) (eqb (pgn_in frame) TP_DT) x y is)

pub extended_unread : {F : Type 0} (own : ℕ) (frame : Frame) (x y : F) → own < 2 ^ 8
    → tested (is_transport_frame_to own frame) (eqb (pgn_in frame) ETP_CM) (eqb (pgn_in frame) ETP_DT) x y ≡ None
    → said (channel_of true (source_of frame) own) frame ≡ None
extended_unread own frame x y small is =
    ⊎_elim
    (says_not_addressed true own frame small)
    (λ (groups : (eqb (pgn_in frame) ETP_CM ≡ false) × (eqb (pgn_in frame) ETP_DT ≡ false)).
    says_away true own small frame (λ _ same. false≢true (sym (same ∙ ap (λ b. b || eqb (pgn_in frame) ETP_DT) groups.0 ∙ groups.1))))
    (none_of_tests (is_transport_frame_to own frame) (eqb (pgn_in frame) ETP_CM) (eqb (pgn_in frame) ETP_DT) x y is)
