use Rattle.std.proofs.Common.{◌≡◌, ◌∷◌, ◌++◌, [], Some, refl, sym, ◌∙◌}
use Rattle.std.specs.Prelude.{codes}
use Rattle.std.proofs.lemmas.Bool.Decides.{Decides-eqb}
use Rattle.std.proofs.lemmas.Slice.Eq.{strip_prefix_is}
use Rattle.vt_can.proofs.lemmas.lines.Digits.{byte-read, decode_sized-from}
use Rattle.vt_can.proofs.lemmas.lines.Actions.{no_number, no_set, no_text, number-made, number-none}
use Rattle.vt_can.proofs.lines.action.action.Goals as goal
use Rattle.vt_can.proofs.lines.action.action.Goals.{In-Some-strip_prefix-3, In-Some-strip_prefix-4, In_ok-strip_prefix}

numbered : (c : In-Some-strip_prefix-3) → c.args.rest.now ≡ codes "number " ++ c.in-Some-strip_prefix-3.more.now
numbered c = strip_prefix_is Decides-eqb c.args.rest.now (codes "number ") (Some c.in-Some-strip_prefix-3.more) c.in-Some-strip_prefix-3.ensures.cases

texted : (c : In-Some-strip_prefix-4) → c.args.rest.now ≡ codes "text " ++ c.in-Some-strip_prefix-4.more.now
texted c = strip_prefix_is Decides-eqb c.args.rest.now (codes "text ") (Some c.in-Some-strip_prefix-4.more) c.in-Some-strip_prefix-4.ensures.cases

setting : (c : In_ok-strip_prefix) → c.args.rest.now ≡ codes "set " ++ c.in_ok-strip_prefix.field-0.now
setting c = strip_prefix_is Decides-eqb c.args.rest.now (codes "set ") (Some c.in_ok-strip_prefix.field-0) c.in_ok-strip_prefix.ensures.cases

pub returns-in_err-id : goal.returns-in_err-id
returns-in_err-id c =
    let word = numbered (goal.at.returns-in_err-id c).In-Some-strip_prefix-3 in
    rw c.from_residual-in_err-id.ensures (no_number c.args.rest.now c.in-Some-strip_prefix-3.more.now word (λ id n more i is. c.in_err-id.ensures id more i))

pub returns-in_err-decimal : goal.returns-in_err-decimal
returns-in_err-decimal c =
    let word = numbered (goal.at.returns-in_err-decimal c).In-Some-strip_prefix-3 in
    rw c.from_residual-in_err-decimal.ensures
    (no_number c.args.rest.now c.in-Some-strip_prefix-3.more.now word (number-none c.in-Some-strip_prefix-3.more.now c.in_ok-id.number.now c.in_ok-id.id c.in_ok-id.ensures c.in_err-decimal.ensures))

pub returns-in_err-id-2 : goal.returns-in_err-id-2
returns-in_err-id-2 c =
    let word = texted (goal.at.returns-in_err-id-2 c).In-Some-strip_prefix-4 in
    rw c.from_residual-in_err-id-2.ensures (no_text c.args.rest.now c.in-Some-strip_prefix-4.more.now word c.in_err-id-2.ensures)

pub returns-in_ok-decimal : goal.returns-in_ok-decimal
returns-in_ok-decimal c =
    let word = numbered (goal.at.returns-in_ok-decimal c).In-Some-strip_prefix-3 in
    number-made c.args.rest.now c.in-Some-strip_prefix-3.more.now word c.in_ok-id.id c.in_ok-decimal.field-0 c.in_ok-id.number.now c.in_ok-id.ensures c.in_ok-decimal.ensures

pub returns-in_err-address : goal.returns-in_err-address
returns-in_err-address c =
    let word = setting (goal.at.returns-in_err-address c).In_ok-strip_prefix in
    rw c.from_residual-in_err-address.ensures (no_set c.args.rest.now c.in_ok-strip_prefix.field-0.now word (λ a is.
    let read = c.from_hex.ensures ∙ decode_sized-from c.in_ok-strip_prefix.field-0.now (a ∷ []) 1 is refl in
    let ok = rw read at c.ok.ensures.value in
    let none = c.in_err-address.was in
    cc))

pub returns-in_ok-address : goal.returns-in_ok-address
returns-in_ok-address c =
    let word = setting (goal.at.returns-in_ok-address c).In_ok-strip_prefix in
    let is = sym c.in_ok-address.was ∙ c.ok.ensures.value in
    let read = rw c.from_hex.ensures at is in
    (c.in_ok-strip_prefix.field-0.now, word, byte-read c.in_ok-strip_prefix.field-0.now c.in_ok-address.field-0 (sym read))
