-- The bytes of packets that stand one after the other, seven of each.
use Rattle.std.proofs.Common.{◌≡◌, ◌≤◌, ℕ, ◌+◌, List, ◌++◌, length, take, drop, sym, ap, ◌∙◌, arith}
use Rattle.std.proofs.lemmas.List.{take-take, drop-take, take-append-drop, drop-append-le, take-append-le, take_at, drop_at, take_all, length-append, length-drop, length-take-le}
use Rattle.std.proofs.lemmas.Slice.{take-put_mid_below, drop-put_mid}
use borrow.Rule.Slice.PartMut.{put_mid, post_of}

pub one_more : (bytes : List ℕ) (at : ℕ) → take at bytes ++ take 7 (drop at bytes) ≡ take (at + 7) bytes
one_more bytes at =
    ap (λ l. l ++ take 7 (drop at bytes)) (sym (take-take at (at + 7) bytes (omega arith)))
    ∙ ap (λ l. take at (take (at + 7) bytes) ++ l) (sym (drop-take at 7 bytes))
    ∙ take-append-drop at (take (at + 7) bytes)

-- one packet is appended
pub before_appended : (front packet : List ℕ) (at : ℕ) → at + 7 ≤ length front → take 7 (drop at (front ++ packet)) ≡ take 7 (drop at front)
before_appended front packet at within =
    ap (take 7) (drop-append-le at front packet (omega arith))
    ∙ take-append-le 7 (drop at front) packet (let n = length-drop at front in omega arith)

pub appended : (front packet : List ℕ) (at : ℕ) → length front ≡ at → length packet ≡ 7 → take 7 (drop at (front ++ packet)) ≡ packet
appended front packet at end seven = ap (take 7) (drop_at front packet at end) ∙ take_all 7 packet (omega arith)

-- one packet is written over another
pub before_written : (from : ℕ) (front packet : List ℕ) (at : ℕ) → at + 7 ≤ from → from ≤ length front
    → take 7 (drop at (put_mid from 7 front packet)) ≡ take 7 (drop at front)
before_written from front packet at below within =
    sym (drop-take at 7 (put_mid from 7 front packet))
    ∙ ap (drop at) (take-put_mid_below from 7 front packet (at + 7) below within)
    ∙ drop-take at 7 front

pub after_written : (from : ℕ) (front packet : List ℕ) (at : ℕ) → from + 7 ≤ at → from ≤ length front → length packet ≡ 7
    → take 7 (drop at (put_mid from 7 front packet)) ≡ take 7 (drop at front)
after_written from front packet at above within seven = ap (take 7) (drop-put_mid from 7 front packet at above within seven)

pub written : (from : ℕ) (front packet : List ℕ) → from ≤ length front → length packet ≡ 7 → take 7 (drop from (put_mid from 7 front packet)) ≡ packet
written from front packet within seven =
    ap (take 7) (drop_at (take from front) (packet ++ post_of from 7 front) from (length-take-le from front within))
    ∙ take_at packet (post_of from 7 front) 7 seven

pub length_written : (from : ℕ) (front packet : List ℕ) → from + 7 ≤ length front → length packet ≡ 7 → length (put_mid from 7 front packet) ≡ length front
length_written from front packet within seven =
    let all = length-append (take from front) (packet ++ post_of from 7 front) in
    let later = length-append packet (post_of from 7 front) in
    let earlier = length-take-le from front (omega arith) in
    let rest = length-drop 7 (drop from front) in
    let past = length-drop from front in
    omega arith
