use Rattle.std.proofs.Common.{◌≡◌, ◌<◌, ◌^◌, ℕ, Option, None, Some, MatchOption, ap, sym, subst, ◌∙◌}
use Rattle.std.specs.Option.{option_map}
use Rattle.vt_dialogs.specs.TypedNumbers.{IsRaw}
use Rattle.vt_dialogs.specs.declared.typed.Typed.{Typed}
use Rattle.vt_kinds.specs.Records.{Seen, seen}
use Rattle.vt_kinds.specs.declared.input_fields.InputNumber.{InputNumber}
use Rattle.vt_kinds.specs.declared.object.Object.TheVariants as objects
use Rattle.vt_session.specs.Dialogs.{IsRawOf}
use Rattle.vt_session.proofs.dialog.raw_in.Goals as goal

told : (o : InputNumber) (typed : Typed) (raw : Option ℕ) → MatchOption raw ((n : ℕ) → n < 2 ^ 32 → IsRaw o typed n → ⊥) (λ n. IsRaw o typed n)
    → IsRawOf (Some (objects.InputNumber o)) typed raw
told o typed None none = λ n fits digits decimals is. none n fits is
told o typed (Some n) is = is

pub returns : goal.returns
returns c =
    let is : option_map (λ o. seen o.now) c.args.object ≡ Some (seen c.in-Some.object.now) = ap (λ o. option_map (λ o. seen o.now) o) c.in-Some.is in
    let number = ap (λ o. Some (seen o)) c.in-InputNumber.is in
    subst (λ (s : Option Seen). IsRawOf s c.args.typed c.raw_of.result) (sym (is ∙ number))
    (told c.in-InputNumber.input c.args.typed c.raw_of.result c.raw_of.ensures)
