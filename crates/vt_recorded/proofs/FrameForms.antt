-- The cases of the plain forms.
use Rattle.std.proofs.Common.{◌≡◌, ◌<◌, ◌-◌, ℕ, zero, suc, true, false, List, [], ◌++◌, take, drop, codes, refl, sym, arith, ap}
use Rattle.vt_recorded.specs.PlainForms.{word_length, unpadded, word, second_word, after_word, starts_with_byte, is_data, is_of_fd, is_pair, pairs, data_form, frame_form}

pub word_is : (text : List ℕ) → word text ≡ take (word_length (unpadded text)) (unpadded text)
unfolding word
word_is text = refl

pub after_word_is : (text : List ℕ) → after_word text ≡ drop (word_length (unpadded text)) (unpadded text)
unfolding after_word
after_word_is text = refl

pub remote_form : (text : List ℕ) → starts_with_byte 114 (word text) ≡ true → data_form text ≡ codes "R"
unfolding data_form
remote_form text is = rw is refl

pub bytes_form : (text : List ℕ) → starts_with_byte 114 (word text) ≡ false → is_data (word text) ≡ true → data_form text ≡ pairs 8 text
unfolding data_form
bytes_form text is some = rw (is, some) refl

pub other_form : (text : List ℕ) → starts_with_byte 114 (word text) ≡ false → is_data (word text) ≡ false → data_form text ≡ codes " "
unfolding data_form
other_form text is none = rw (is, none) refl

pub fd_form : (text : List ℕ) → starts_with_byte 91 (second_word text) ≡ true → is_of_fd (second_word text) ≡ true → frame_form text ≡ word text ++ codes "##"
unfolding frame_form
fd_form text is fd = rw (is, fd) refl

pub bracket_form : (text : List ℕ) → starts_with_byte 91 (second_word text) ≡ true → is_of_fd (second_word text) ≡ false
    → frame_form text ≡ word text ++ codes "#" ++ data_form (after_word (after_word text))
unfolding frame_form
bracket_form text is classic = rw (is, classic) refl

pub bare_form : (text : List ℕ) → starts_with_byte 91 (second_word text) ≡ false → frame_form text ≡ text
unfolding frame_form
bare_form text is = rw is refl

pub more_pairs : (most : ℕ) (text : List ℕ) → 0 < most → is_pair (word text) ≡ true → pairs most text ≡ word text ++ pairs (most - 1) (after_word text)
unfolding pairs
more_pairs zero text some is = absurd (let never : 0 < 0 = some in omega (arith, never))
more_pairs (suc most) text some is =
    let less : suc most - 1 ≡ most = omega arith in rw is (ap (λ n. word text ++ pairs n (after_word text)) (sym less))

pub no_pairs : (most : ℕ) (text : List ℕ) → is_pair (word text) ≡ false → pairs most text ≡ []
unfolding pairs
no_pairs zero text is = refl
no_pairs (suc most) text is = rw is refl
