-- The line written for a frame reads back as the frame.
use Rattle.std.proofs.Common.{◌≡◌, ℕ, ◌+◌, ◌*◌, ◌/◌, ◌%◌, ◌^◌, ◌<◌, ◌≤◌, Bool, true, false, eqb, ltb, List, [], ◌∷◌, ◌++◌, length, zero, suc, Result, Ok, refl, sym, ap, ◌∙◌, subst, inl, inr, arith, append_assoc, lit<, lit≤}
use Rattle.std.proofs.lemmas.List.{append-nil}
use Rattle.std.specs.Prelude.{codes, not}
use Rattle.std.specs.Char.{digit_value, is_ascii_digit}
use Rattle.std.specs.Fmt.{decimal}
use Rattle.std.specs.List.{AllByRecursion, AllPass, list_all}
use Rattle.std.specs.Str.Parse.{AllDigits, digits_value}
use Rattle.std.proofs.lemmas.Bool.{cond-false, le-ltb, ne_eqb, not_from_true}
use Rattle.std.proofs.lemmas.Fmt.{decimal_is_IsNumeral}
use Rattle.std.proofs.lemmas.Bool.Decides.{nat_tests}
use Rattle.std.proofs.lemmas.Int.Digits.{digits_value_push}
use Rattle.std.proofs.lemmas.Str.{digit_value_digit}
use Rattle.std.proofs.lemmas.Str.Parse.{digit_from_value}
use Rattle.std.proofs.lemmas.List.Elements.{All-append, All-cons, All-nil}
use Rattle.std.proofs.lemmas.List.Sums.{AllPass-from_list_all, list_all-from_AllPass}
use Rattle.byteorder.specs.Endian.{big_bytes, big_number}
use Rattle.byteorder.specs.Numbers.{big_number-reads_back}
use Rattle.hex.specs.Hex.{IsBytes, decode_of, encode_upper, is_hex_digit, upper_digits}
use Rattle.hex.proofs.HexLemmas.{decode_of-encode_upper, decode_of-ok, length-encode_with}
use Rattle.vt_can.specs.declared.lines.line.LineFault.{LineFault}
use Rattle.vt_can.specs.lines.Readings.{ParsedLine, FrameAt}
use Rattle.vt_can.specs.lines.Line.{AreDigits, HasShape, HasTime, IsRead, begins_with, data_reading, id_of, frame_line, frame_line_reading}
use Rattle.vt_can.specs.lines.Fields.{Lacks}
use Rattle.vt_can.specs.lines.WrittenForms.{WrittenLinesAreRead, line_text, lowest_digits}
use Rattle.vt_can.proofs.lemmas.lines.UniqueSplit.{Lacks-append, Lacks-from_pass, Lacks-head, cut_missing}
use Rattle.vt_can.proofs.lemmas.lines.Digits.{data-short}
use Rattle.vt_can.proofs.lemmas.lines.WrittenDigits.{seconds-short}

-- ---- the time

digit_passes : (c : ℕ) → digit_value c < 10 → is_ascii_digit c ≡ true
digit_passes c lt = let range = digit_from_value c lt in grind (arith, nat_tests)

digits-pass : (text : List ℕ) → AllDigits 10 text → AllPass is_ascii_digit text
digits-pass [] h = All-nil (λ x. is_ascii_digit x ≡ true)
digits-pass (c ∷ text) h = All-cons (λ x. is_ascii_digit x ≡ true) c text (digit_passes c h.0) (digits-pass text h.1)

digit_at : (d : ℕ) → d < 10 → digit_value (48 + d) ≡ d
digit_at d lt = let back = digit_value_digit (48 + d) (omega arith, omega arith) in omega arith

last-pass : (n : ℕ) → AllPass is_ascii_digit ((48 + n % 10) ∷ [])
last-pass n =
    let value = digit_at (n % 10) (omega arith) in
    All-cons (λ x. is_ascii_digit x ≡ true) (48 + n % 10) [] (digit_passes (48 + n % 10) (omega arith)) (All-nil (λ x. is_ascii_digit x ≡ true))

lowest-pass : (k n : ℕ) → AllPass is_ascii_digit (lowest_digits k n)
lowest-pass zero n = All-nil (λ x. is_ascii_digit x ≡ true)
lowest-pass (suc k) n = All-append (λ x. is_ascii_digit x ≡ true) (lowest_digits k (n / 10)) ((48 + n % 10) ∷ []) (lowest-pass k (n / 10)) (last-pass n)

lowest-value : (k n : ℕ) → digits_value 10 (lowest_digits (suc k) n) ≡ digits_value 10 (lowest_digits k (n / 10)) * 10 + n % 10
lowest-value k n =
    let value = digit_at (n % 10) (omega arith) in
    let push = digits_value_push 10 (lowest_digits k (n / 10)) (48 + n % 10) in
    omega arith

micros_is : (n : ℕ) → digits_value 10 (lowest_digits 6 n) ≡ n % 10 ^ 6
micros_is n =
    let a = lowest-value 5 n in
    let b = lowest-value 4 (n / 10) in
    let c = lowest-value 3 (n / 10 / 10) in
    let d = lowest-value 2 (n / 10 / 10 / 10) in
    let e = lowest-value 1 (n / 10 / 10 / 10 / 10) in
    let f = lowest-value 0 (n / 10 / 10 / 10 / 10 / 10) in
    omega arith

seconds_are : (time : ℕ) → time < 10 ^ 18 → AreDigits 1 12 (decimal (time / 10 ^ 6))
seconds_are time lt =
    let numeral = (decimal_is_IsNumeral (time / 10 ^ 6) (omega arith)).0 in
    record { digits = digits-pass (decimal (time / 10 ^ 6)) numeral.1; no_fewer = numeral.0; no_more = seconds-short time lt }

line_spelled : (seconds fraction text : List ℕ) → codes "(" ++ seconds ++ codes "." ++ fraction ++ codes ") can0 " ++ text ≡ codes "(" ++ seconds ++ codes "." ++ fraction ++ codes ")" ++ (codes " can0 " ++ text)
line_spelled seconds fraction text = simp append_assoc

time_read : (time : ℕ) (text : List ℕ) → time < 10 ^ 18 → HasTime (codes "(" ++ decimal (time / 10 ^ 6) ++ codes "." ++ lowest_digits 6 time ++ codes ") can0 " ++ text) time (codes " can0 " ++ text)
time_read time text lt =
    let value = (decimal_is_IsNumeral (time / 10 ^ 6) (omega arith)).1 in
    let micros = micros_is time in
    record {
      seconds = decimal (time / 10 ^ 6);
      fraction = lowest_digits 6 time;
      whole = line_spelled (decimal (time / 10 ^ 6)) (lowest_digits 6 time) text;
      seconds_digits = seconds_are time lt;
      fraction_digits = inl (record { digits = lowest-pass 6 time; no_fewer = lit≤ tt; no_more = lit≤ tt });
      time_is = omega arith;
    }

-- ---- the shape

shape_spelled : (id text : List ℕ) → codes " can0 " ++ (id ++ codes "#" ++ text) ≡ codes " " ++ codes "can0" ++ codes " " ++ id ++ codes "#" ++ text ++ []
shape_spelled id text =
    let whole : codes " can0 " ++ (id ++ codes "#" ++ text) ≡ codes " " ++ codes "can0" ++ codes " " ++ id ++ codes "#" ++ text = simp append_assoc in
    whole ∙ sym (append-nil (codes " " ++ codes "can0" ++ codes " " ++ id ++ codes "#" ++ text))

shape_read : (id text : List ℕ) → length id ≡ 8 → AllPass is_hex_digit id → AllPass is_hex_digit text → HasShape (codes " can0 " ++ (id ++ codes "#" ++ text)) id text
shape_read id text len good fine = record {
  interface = codes "can0";
  suffix = [];
  whole = shape_spelled id text;
  interface_no_space = AllPass-from_list_all (λ byte. not (eqb byte 32)) (codes "can0") refl;
  interface_some = lit≤ tt;
  interface_short = lit≤ tt;
  id_no_space = Lacks-from_pass is_hex_digit 32 id (λ e. cc e) good;
  id_no_sign = Lacks-from_pass is_hex_digit 35 id (λ e. cc e) good;
  id_length = inr len;
  text_no_space = Lacks-from_pass is_hex_digit 32 text (λ e. cc e) fine;
  suffix_is = inl refl;
}

-- ---- the values of the fields

begins-other : (test : ℕ → Bool) (byte : ℕ) (text : List ℕ) → (test byte ≡ true → ⊥) → AllPass test text → begins_with byte text ≡ false
begins-other test byte [] fails pass = refl
begins-other test byte (x ∷ text) fails pass = ne_eqb x byte (Lacks-head byte x text (Lacks-from_pass test byte (x ∷ text) fails pass))

frame_line_as : (time number : ℕ) (id text bytes : List ℕ) → length id ≡ 8 → AllPass is_hex_digit id → id_of (decode_of id) ≡ number → number < 2 ^ 29 → AllPass is_hex_digit text → decode_of text ≡ Ok bytes → length bytes ≤ 8
    → frame_line_reading time id text ≡ Ok (FrameAt time (record { id = number; bytes = record { items = bytes } }))
frame_line_as time number id text bytes len good is small fine read short =
    cond-false (not (list_all is_hex_digit id)) _ _ (not_from_true (list_all is_hex_digit id) (list_all-from_AllPass is_hex_digit id good))
    ∙ cond-false (eqb (length id) 3) _ _ (ne_eqb (length id) 3 (λ e. omega arith))
    ∙ cond-false (ltb 0x1FFFFFFF (id_of (decode_of id))) _ _ (le-ltb 0x1FFFFFFF (id_of (decode_of id)) (omega arith))
    ∙ cond-false (begins_with 82 text) _ _ (begins-other is_hex_digit 82 text (λ e. cc e) fine)
    ∙ cond-false (begins_with 35 text) _ _ (begins-other is_hex_digit 35 text (λ e. cc e) fine)
    ∙ ap (λ (x : ℕ). data_reading time x (decode_of text)) is
    ∙ data-short text bytes read short time number

-- ---- bytes

all_bytes : (xs : List ℕ) → AllByRecursion (λ byte. byte < 256) xs → IsBytes xs
all_bytes [] h i = lit< tt
all_bytes (x ∷ xs) h zero = h.0
all_bytes (x ∷ xs) h (suc i) = all_bytes xs h.1 i

id_bytes : (x : ℕ) → IsBytes (big_bytes 4 x)
id_bytes x = all_bytes (big_bytes 4 x) (omega arith, (omega arith, (omega arith, (omega arith, tt))))

id_read : (x : ℕ) → x < 2 ^ 29 → id_of (decode_of (encode_upper (big_bytes 4 x))) ≡ x
id_read x small =
    ap id_of (decode_of-encode_upper (big_bytes 4 x) (id_bytes x))
    ∙ ap (big_number 4) (sym (append-nil (big_bytes 4 x)))
    ∙ big_number-reads_back 4 x [] (omega arith)

-- ---- the line

plain : (text : List ℕ) → list_all (λ other. not (eqb other 13)) text ≡ true → Lacks 13 text
plain text e = AllPass-from_list_all (λ other. not (eqb other 13)) text e

line_lacks : (seconds fraction id text : List ℕ) → Lacks 13 seconds → Lacks 13 fraction → Lacks 13 id → Lacks 13 text → Lacks 13 (codes "(" ++ seconds ++ codes "." ++ fraction ++ codes ") can0 " ++ (id ++ codes "#" ++ text))
line_lacks seconds fraction id text s f i t =
    let begin = codes "(" in
    let a = Lacks-append 13 begin seconds (plain begin refl) s in
    let b = Lacks-append 13 (begin ++ seconds) (codes ".") a (plain (codes ".") refl) in
    let c = Lacks-append 13 (begin ++ seconds ++ codes ".") fraction b f in
    let d = Lacks-append 13 (begin ++ seconds ++ codes "." ++ fraction) (codes ") can0 ") c (plain (codes ") can0 ") refl) in
    let e = Lacks-append 13 (id ++ codes "#") text (Lacks-append 13 id (codes "#") i (plain (codes "#") refl)) t in
    Lacks-append 13 (begin ++ seconds ++ codes "." ++ fraction ++ codes ") can0 ") (id ++ codes "#" ++ text) d e

pub lines-read : WrittenLinesAreRead
lines-read time frame lt is =
    let id = encode_upper (big_bytes 4 frame.id) in
    let text = encode_upper frame.bytes.items in
    let id-read = decode_of-encode_upper (big_bytes 4 frame.id) (id_bytes frame.id) in
    let text-read = decode_of-encode_upper frame.bytes.items (all_bytes frame.bytes.items is.fits) in
    let good = (decode_of-ok id (big_bytes 4 frame.id) id-read).1 in
    let fine = (decode_of-ok text frame.bytes.items text-read).1 in
    let len : length id ≡ 8 = length-encode_with upper_digits (big_bytes 4 frame.id) in
    let reads = frame_line_as time frame.id id text frame.bytes.items len good (id_read frame.id is.id) is.id fine text-read is.short in
    let seconds = Lacks-from_pass is_ascii_digit 13 (decimal (time / 10 ^ 6)) (λ e. cc e) (seconds_are time lt).digits in
    let fraction = Lacks-from_pass is_ascii_digit 13 (lowest_digits 6 time) (λ e. cc e) (lowest-pass 6 time) in
    let lacks = line_lacks (decimal (time / 10 ^ 6)) (lowest_digits 6 time) id text seconds fraction (Lacks-from_pass is_hex_digit 13 id (λ e. cc e) good) (Lacks-from_pass is_hex_digit 13 text (λ e. cc e) fine) in
    let line = line_text time frame in (
      line,
      inr (refl, λ front e. cut_missing 13 line front [] lacks e),
      subst (λ (r : Result ParsedLine LineFault). IsRead line r) reads (frame_line time (codes " can0 " ++ (id ++ codes "#" ++ text)) id text (time_read time (id ++ codes "#" ++ text) lt) (shape_read id text len good fine)),
    )
