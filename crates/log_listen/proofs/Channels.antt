-- The channels of frames.
use Rattle.std.proofs.Common.{◌≡◌, ◌<◌, ℕ, ◌/◌, ◌%◌, ◌^◌, nat_lt, eqb, cond, Bool, true, false, Option, Some, None, refl, ap, ◌∙◌, subst, arith}
use Rattle.vt_can.specs.declared.frames.frame.Frame.{Frame}
use Rattle.vt_can.specs.frames.Identifier.{parts_of, destination_of}
use Rattle.vt_can.specs.frames.Frame.{source_of}
use Rattle.log_listen.specs.declared.part.Part.{Part}
use Rattle.log_listen.specs.Parts.{part_in}
use Rattle.log_listen.specs.Channels.{channel_of, own_channel, other_channel, sent, refused, said_to, said}

-- two channels are the same
pub record IsSameChannel (extended : Bool) (source destination : ℕ) (extended' : Bool) (source' destination' : ℕ) : Type 0 where
  pub extended_is : extended ≡ extended'
  pub source_is : source ≡ source'
  pub destination_is : destination ≡ destination'

pub same_channel : (extended extended' : Bool) (source destination source' destination' : ℕ) → source < 2 ^ 8 → destination < 2 ^ 8 → source' < 2 ^ 8 → destination' < 2 ^ 8
    → channel_of extended source destination ≡ channel_of extended' source' destination' → IsSameChannel extended source destination extended' source' destination'
same_channel true true source destination source' destination' a b c d is = record { extended_is = refl; source_is = omega arith; destination_is = omega arith }
same_channel true false source destination source' destination' a b c d is = absurd (omega arith)
same_channel false true source destination source' destination' a b c d is = absurd (omega arith)
same_channel false false source destination source' destination' a b c d is = record { extended_is = refl; source_is = omega arith; destination_is = omega arith }

-- the channels of the two directions are two
pub back_apart : (extended : Bool) (source destination : ℕ) → (source ≡ destination → ⊥) → channel_of extended source destination ≡ channel_of extended destination source → ⊥
back_apart true source destination apart same = apart (omega arith)
back_apart false source destination apart same = apart (omega arith)

in_some : (b : Bool) (x y : ℕ) → cond b (Some x) None ≡ Some y → x ≡ y
in_some true x y is = cc
in_some false x y is = absurd (let e = is in cc)

small_remainder : (n : ℕ) → n % 2 ^ 8 < 2 ^ 8
small_remainder n = omega arith

pub small_source : (frame : Frame) → source_of frame < 2 ^ 8
small_source frame = small_remainder frame.id

pub small_destination : (frame : Frame) (destination : ℕ) → destination_of (parts_of frame.id) ≡ Some destination → destination < 2 ^ 8
small_destination frame destination is =
    let P : ℕ → Type 0 = λ n. n < 2 ^ 8 in
    subst P (in_some (nat_lt (frame.id / 2 ^ 16 % 2 ^ 8) 240) (frame.id / 2 ^ 8 % 2 ^ 8) destination is) (small_remainder (frame.id / 2 ^ 8))

none_either : (b d : Bool) → ◌≡◌ {A = Option Part} (cond b None (cond d None None)) None
none_either true d = refl
none_either false true = refl
none_either false false = refl

said_to_none : (frame : Frame) → part_in frame ≡ None → (channel : ℕ) (destination : Option ℕ) → said_to channel frame destination ≡ None
said_to_none frame none channel None = refl
said_to_none frame none channel (Some destination) =
    ap (λ o. cond (eqb channel (own_channel frame destination)) (sent o) (cond (eqb channel (other_channel frame destination)) (refused o) None)) none
    ∙ none_either (eqb channel (own_channel frame destination)) (eqb channel (other_channel frame destination))

-- a frame without a part says nothing
pub says_nothing : (frame : Frame) → part_in frame ≡ None → (channel : ℕ) → said channel frame ≡ None
says_nothing frame none channel = said_to_none frame none channel (destination_of (parts_of frame.id))
