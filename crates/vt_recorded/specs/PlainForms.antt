-- The plain form of a line: what `candump -L` writes for a frame that was recorded in another way (docs/PROFILE.md, "Lines of
-- other recorders").
use Rattle.std.specs.Prelude.{ℕ, zero, suc, ◌==◌, ◌&&◌, ◌||◌, not, Bool, false, if◌then◌else◌, unwrap_or, List, [], ◌∷◌, ◌++◌, length, take, drop, codes, position}
use Rattle.std.specs.Str.{bytes_eq}

-- where the first word of a text begins, and how long the word at the front of a text is: words stand between spaces
unfoldable pub word_start : List ℕ → ℕ
word_start text = unwrap_or (position (λ byte. not (byte == 32)) text) (length text)

unfoldable pub word_length : List ℕ → ℕ
word_length text = unwrap_or (position (λ byte. byte == 32) text) (length text)

-- a text without the spaces at its front
abbrev pub unpadded : List ℕ → List ℕ
unpadded text = drop (word_start text) text

-- the first word of a text, and the text after it
unfoldable pub word : List ℕ → List ℕ
word text = take (word_length (unpadded text)) (unpadded text)

unfoldable pub after_word : List ℕ → List ℕ
after_word text = drop (word_length (unpadded text)) (unpadded text)

abbrev pub second_word : List ℕ → List ℕ
second_word text = word (after_word text)

abbrev pub starts_with_byte : ℕ → List ℕ → Bool
starts_with_byte byte [] = false
starts_with_byte byte (first ∷ rest) = first == byte

-- a byte of data: two characters that are no quotation
abbrev pub is_pair : List ℕ → Bool
is_pair text = length text == 2 && not (starts_with_byte 39 text)

-- up to so many bytes of data, each a word of two characters, without the spaces between them
unfoldable pub pairs : ℕ → List ℕ → List ℕ
pairs zero text = []
pairs (suc most) text = if is_pair (word text) then word text ++ pairs most (after_word text) else []

-- whether bytes of data, or none, are at the front of a text: nothing is there but perhaps the characters of candump -a
abbrev pub is_data : List ℕ → Bool
is_data word = is_pair word || length word == 0 || starts_with_byte 39 word

-- the data of a frame: its bytes, R for a remote frame, or a space, which no data begins with, if another word is there
unfoldable pub data_form : List ℕ → List ℕ
data_form text =
    if starts_with_byte 114 (word text) then codes "R"
    else if is_data (word text) then pairs 8 text
    else codes " "

-- a number of bytes in brackets, as [8]; that of a CAN FD frame has two digits, as [08]
abbrev pub is_of_fd : List ℕ → Bool
is_of_fd word = length word == 4

-- The frame of a line, which begins behind its time and its interface: an ID, the number of bytes in brackets, and the bytes, as candump
-- writes them; or the text as it stands.
unfoldable pub frame_form : List ℕ → List ℕ
frame_form text =
    if not (starts_with_byte 91 (second_word text)) then text
    else if is_of_fd (second_word text) then word text ++ codes "##"
    else word text ++ codes "#" ++ data_form (after_word (after_word text))

-- the direction of a frame, which candump -x writes in front of it: RX or TX
abbrev pub is_direction : List ℕ → Bool
is_direction word = bytes_eq word (codes "RX") || bytes_eq word (codes "TX")

-- a text without a direction at its front, and without the two words of flags behind the direction, as RX - -
abbrev pub without_direction : List ℕ → List ℕ
without_direction text = if is_direction (word text) then unpadded (after_word (after_word (after_word text))) else text

-- the plain form of a line that begins with a time
abbrev pub plain_form : List ℕ → List ℕ
plain_form line =
    word line ++ codes " " ++ second_word line ++ codes " " ++ frame_form (without_direction (unpadded (after_word (after_word line))))
