-- A frame line in its usual form has a time and a shape.
use Rattle.std.proofs.Common.{◌≡◌, ℕ, ◌+◌, ◌*◌, ◌^◌, ◌≤◌, Bool, true, false, not, cond, inl, inr, List, [], ◌∷◌, ◌++◌, length, Result, Ok, Err, refl, sym, ap, subst, ◌∙◌, append-nil}
use Rattle.std.specs.Char.{is_ascii_digit}
use Rattle.std.specs.List.{list_all}
use Rattle.std.specs.Str.Parse.{digits_value}
use Rattle.std.proofs.lemmas.List.{take_all}
use Rattle.std.proofs.lemmas.List.Sums.{AllPass-from_list_all}
use Rattle.hex.specs.Hex.{decode_of, is_hex_digit}
use Rattle.hex.specs.declared.error.FromHexError.{FromHexError}
use Rattle.hex.proofs.HexLemmas.{decode_of-ok}
use Rattle.vt_can.specs.declared.frames.frame.Frame.{Frame}
use Rattle.vt_can.specs.declared.lines.line.LineFault.{LineFault}
use Rattle.vt_can.specs.declared.lines.line.LineFault.TheVariants.{Hex}
use Rattle.vt_can.specs.declared.lines.line.Skipped.TheVariants.{Remote, Fd, Short, Error}
use Rattle.vt_can.specs.lines.Readings.{ParsedLine, FrameAt, SkippedFrame}
use Rattle.vt_can.specs.lines.Line.{AreDigits, HasShape, HasTime, IsRead, data_reading, frame_line, frame_line_reading}
use Rattle.vt_can.specs.lines.Fields.{IsSplitAtByte}
use Rattle.vt_can.proofs.lemmas.lines.Shape.{TimeCut, ShapeCut, shape-made, time-made}
use Rattle.vt_can.proofs.lemmas.lines.UniqueSplit.{Lacks-append, Lacks-cons, Lacks-from_pass}

-- the parts of the line
pub record AreParts (content seconds fraction interface id payload : List ℕ) : Type 0 where
  pub text : List ℕ
  pub words : List ℕ
  pub word : List ℕ
  pub opens : content ≡ 40 ∷ text
  pub point : IsSplitAtByte 46 text seconds (fraction ++ 41 ∷ 32 ∷ words)
  pub space : IsSplitAtByte 32 words interface word
  pub sign : word ≡ id ++ 35 ∷ payload

-- ---- what was read has digits alone

record HasDigits (id text : List ℕ) : Type 0 where
  id_digits : list_all is_hex_digit id ≡ true
  bytes : List ℕ
  decoded : decode_of text ≡ Ok bytes

data_case : (time id t : ℕ) (f : Frame) (r : Result (List ℕ) FromHexError) → data_reading time id r ≡ Ok (FrameAt t f) → (bytes : List ℕ) × (r ≡ Ok bytes)
data_case time id t f (Ok bytes) is = (bytes, refl)
data_case time id t f (Err e) is = absurd cc

cases : (a b c d e : Bool) (t : ℕ) (f : Frame) (r : Result ParsedLine LineFault)
    → cond (not a) (Err Hex) (cond b (Ok (SkippedFrame Short)) (cond c (Ok (SkippedFrame Error)) (cond d (Ok (SkippedFrame Remote)) (cond e (Ok (SkippedFrame Fd)) r)))) ≡ Ok (FrameAt t f)
    → (a ≡ true) × (r ≡ Ok (FrameAt t f))
cases false b c d e t f r is = absurd cc
cases true true c d e t f r is = absurd cc
cases true false true d e t f r is = absurd cc
cases true false false true e t f r is = absurd cc
cases true false false false true t f r is = absurd cc
cases true false false false false t f r is = (refl, is)

has_digits : (time : ℕ) (id text : List ℕ) (t : ℕ) (f : Frame) → frame_line_reading time id text ≡ Ok (FrameAt t f) → HasDigits id text
has_digits time id text t f is =
    let both = cases (list_all is_hex_digit id) _ _ _ _ t f _ is in
    let payload = data_case time _ t f (decode_of text) both.1 in
    record { id_digits = both.0; bytes = payload.0; decoded = payload.1 }

-- ---- the time and the shape

module _ (content seconds fraction interface id payload : List ℕ) (parts : AreParts content seconds fraction interface id payload) where
  has_time : (time : ℕ) → AreDigits 1 12 seconds → AreDigits 6 6 fraction → time ≡ digits_value 10 seconds * 10 ^ 6 + digits_value 10 fraction
      → HasTime content time (32 ∷ parts.words)
  has_time time first second is =
      let cut : TimeCut content seconds fraction (32 ∷ parts.words) = record {
        is = parts.opens ∙ ap (λ (x : List ℕ). 40 ∷ x) parts.point.whole;
        seconds_lack = parts.point.front_lacks;
        fraction_lacks = Lacks-from_pass is_ascii_digit 41 fraction (λ e. cc e) second.digits;
      } in
      time-made cut first (inl second)
      (is ∙ ap (λ (x : List ℕ). digits_value 10 seconds * 10 ^ 6 + digits_value 10 x) (sym (take_all 6 fraction second.no_more)))

  has_shape : 1 ≤ length interface → length interface ≤ 15 → length id ≡ 8 → HasDigits id payload → HasShape (32 ∷ parts.words) id payload
  has_shape some short eight digits =
      let own = AllPass-from_list_all is_hex_digit id digits.id_digits in
      let later = (decode_of-ok payload digits.bytes digits.decoded).1 in
      let cut : ShapeCut (32 ∷ parts.words) interface id payload = record {
        last = parts.word;
        is = ap (λ (x : List ℕ). 32 ∷ x) parts.space.whole;
        interface_lacks = parts.space.front_lacks;
        word = record {
          suffix = [];
          no_space = Lacks-append 32 id (35 ∷ payload) (Lacks-from_pass is_hex_digit 32 id (λ e. cc e) own)
              (Lacks-cons 32 35 payload (λ e. cc e) (Lacks-from_pass is_hex_digit 32 payload (λ e. cc e) later));
          whole = parts.sign ∙ sym (append-nil (id ++ 35 ∷ payload));
          suffix_is = inl refl;
        };
        id_lacks = Lacks-from_pass is_hex_digit 35 id (λ e. cc e) own;
      } in
      shape-made cut some short (inr eight)

  pub usual_read : (time t : ℕ) (f : Frame) → AreDigits 1 12 seconds → AreDigits 6 6 fraction → time ≡ digits_value 10 seconds * 10 ^ 6 + digits_value 10 fraction
      → 1 ≤ length interface → length interface ≤ 15 → length id ≡ 8 → Ok (FrameAt t f) ≡ frame_line_reading time id payload → IsRead content (Ok (FrameAt t f))
  usual_read time t f first second is some short eight reads =
      subst (λ (r : Result ParsedLine LineFault). IsRead content r) (sym reads)
      (frame_line time (32 ∷ parts.words) id payload (has_time time first second is) (has_shape some short eight (has_digits time id payload t f (sym reads))))
