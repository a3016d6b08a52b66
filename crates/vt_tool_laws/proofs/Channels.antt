-- What frames say in the channel from a source to an address.
use Rattle.std.proofs.Common.{◌≡◌, ◌<◌, ℕ, ◌^◌, eqb, cond, Bool, Option, Some, None, refl, sym, ap, ◌∙◌, subst, ◌⊎◌, inl, inr, ⊎_elim}
use Rattle.std.proofs.lemmas.Bool.{cases_eq, eq-eqb, ne_eqb}
use Rattle.vt_can.specs.declared.frames.frame.Frame.{Frame}
use Rattle.vt_can.specs.frames.Identifier.{parts_of, pgn_of, destination_of}
use Rattle.vt_can.specs.frames.Frame.{source_of}
use Rattle.log_listen.specs.declared.part.Part.{Part}
use Rattle.log_listen.specs.declared.part.Part.TheVariants.{Request, Packet, Offset, Abort}
use Rattle.log_listen.specs.Parts.{is_extended, part_in}
use Rattle.log_listen.specs.Channels.{channel_of, own_channel, other_channel, sent, refused, said_to, said}
use Rattle.log_listen.proofs.Channels.{same_channel, small_source, small_destination}
use Rattle.vt_tool_laws.specs.ListenLaws.{IsRefusalTo, IsRefusal}

-- a refusal, in the channel of the node that is refused
pub record Refuses (channel : ℕ) (frame : Frame) (said_is : Option Part) : Type 0 where
  pub pgn : ℕ
  pub is : said_is ≡ Some (Abort pgn)
  pub refusal : IsRefusal channel pgn frame

refused_part : (o : Option Part) → (refused o ≡ None) ⊎ ((pgn : ℕ) × ((refused o ≡ Some (Abort pgn)) × (o ≡ Some (Abort pgn))))
refused_part None = inl refl
refused_part (Some (Request size pgn)) = inl refl
refused_part (Some (Packet number bytes)) = inl refl
refused_part (Some (Offset packets)) = inl refl
refused_part (Some (Abort pgn)) = inr (pgn, (refl, refl))

-- a frame of another source says nothing in the channel, or refuses
module _ (extended : Bool) (source own : ℕ) (small : source < 2 ^ 8) (small' : own < 2 ^ 8) (frame : Frame) where
  said_by_destination : (destination : Option ℕ) → destination_of (parts_of frame.id) ≡ destination → (source_of frame ≡ source → ⊥)
      → (said (channel_of extended source own) frame ≡ None) ⊎ Refuses (channel_of extended source own) frame (said (channel_of extended source own) frame)
  said_by_destination None none other = inl (ap (said_to (channel_of extended source own) frame) none)
  said_by_destination (Some destination) to other =
      let channel = channel_of extended source own in
      let mine = own_channel frame destination in
      let apart : channel ≡ mine → ⊥ = λ same. other (sym (same_channel extended (is_extended (pgn_of (parts_of frame.id))) source own (source_of frame) destination
      small small' (small_source frame) (small_destination frame destination to) same).source_is) in
      let says = ap (said_to channel frame) to
      ∙ ap (λ b. cond b (sent (part_in frame)) (cond (eqb channel (other_channel frame destination)) (refused (part_in frame)) None)) (ne_eqb channel mine apart) in
      ⊎_elim
      (λ (same : channel ≡ other_channel frame destination).
      let says' = says ∙ ap (λ b. cond b (refused (part_in frame)) None) (eq-eqb channel (other_channel frame destination) same) in
      ⊎_elim
      (λ (none : refused (part_in frame) ≡ None). inl (says' ∙ none))
      (λ some. inr (record {
        pgn = some.0;
        is = says' ∙ some.1.0;
        refusal = subst (IsRefusalTo channel some.0 frame) (sym to) (same, some.1.1);
      }))
      (refused_part (part_in frame)))
      (λ (apart' : channel ≡ other_channel frame destination → ⊥).
      inl (says ∙ ap (λ b. cond b (refused (part_in frame)) None) (ne_eqb channel (other_channel frame destination) apart')))
      (cases_eq channel (other_channel frame destination))

  pub says_of_another : (source_of frame ≡ source → ⊥)
      → (said (channel_of extended source own) frame ≡ None) ⊎ Refuses (channel_of extended source own) frame (said (channel_of extended source own) frame)
  says_of_another other = said_by_destination (destination_of (parts_of frame.id)) refl other

-- a frame of the source to the address says its part, if it is of the protocol
pub says_to : (frame : Frame) (own : ℕ) → destination_of (parts_of frame.id) ≡ Some own
    → said (channel_of (is_extended (pgn_of (parts_of frame.id))) (source_of frame) own) frame ≡ sent (part_in frame)
says_to frame own to =
    let mine = own_channel frame own in
    ap (said_to mine frame) to
    ∙ ap (λ b. cond b (sent (part_in frame)) (cond (eqb mine (other_channel frame own)) (refused (part_in frame)) None)) (eq-eqb mine mine refl)

-- a frame of the source that is not to the address, or is of the other protocol, says nothing
module _ (extended : Bool) (own : ℕ) (small : own < 2 ^ 8) (frame : Frame) where
  says_away_to : (destination : Option ℕ) → destination_of (parts_of frame.id) ≡ destination
      → (destination ≡ Some own → extended ≡ is_extended (pgn_of (parts_of frame.id)) → ⊥) → said (channel_of extended (source_of frame) own) frame ≡ None
  says_away_to None none away = ap (said_to (channel_of extended (source_of frame) own) frame) none
  says_away_to (Some destination) to away =
      let channel = channel_of extended (source_of frame) own in
      let small'' = small_destination frame destination to in
      let apart : channel ≡ own_channel frame destination → ⊥ = λ same.
      (let is = same_channel extended (is_extended (pgn_of (parts_of frame.id))) (source_of frame) own (source_of frame) destination
      (small_source frame) small (small_source frame) small'' same in
      away (ap (λ (n : ℕ). Some n) (sym is.destination_is)) is.extended_is) in
      let apart' : channel ≡ other_channel frame destination → ⊥ = λ same.
      (let is = same_channel extended (is_extended (pgn_of (parts_of frame.id))) (source_of frame) own destination (source_of frame)
      (small_source frame) small small'' (small_source frame) same in
      away (ap (λ (n : ℕ). Some n) (sym is.source_is ∙ sym is.destination_is)) is.extended_is) in
      ap (said_to channel frame) to
      ∙ ap (λ b. cond b (sent (part_in frame)) (cond (eqb channel (other_channel frame destination)) (refused (part_in frame)) None)) (ne_eqb channel (own_channel frame destination) apart)
      ∙ ap (λ b. cond b (refused (part_in frame)) None) (ne_eqb channel (other_channel frame destination) apart')

  pub says_away : (destination_of (parts_of frame.id) ≡ Some own → extended ≡ is_extended (pgn_of (parts_of frame.id)) → ⊥)
      → said (channel_of extended (source_of frame) own) frame ≡ None
  says_away away = says_away_to (destination_of (parts_of frame.id)) refl away
