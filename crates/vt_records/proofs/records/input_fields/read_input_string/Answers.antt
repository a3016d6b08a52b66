use Rattle.std.proofs.Common.{refl, inl, inr}
use Rattle.std.proofs.lemmas.Result.{err_from_is_err_and}
use Rattle.vt_records.proofs.records.input_fields.read_input_string.Goals as goal

pub returns-in_err-macros-clause-read : goal.returns-in_err-macros-clause-read
returns-in_err-macros-clause-read c =
    let p = err_from_is_err_and c.from_residual-in_err-macros.result c.from_residual-in_err-macros.ensures.1 in
    rw (p.1, p.2)
    (elim c.in_err-macros.ensures.read [
      | inl memory ↦ rw memory tt
      | inr short ↦
          rw (
            short.0,
            c.u16-width.ensures.read,
            c.u16-height.ensures.read,
            c.u8-colour.ensures.read,
            c.id-font.ensures.read,
            c.id-input_attributes.ensures.read,
            c.u8-options.ensures.read,
            c.id-variable.ensures.read,
            c.u8-justification.ensures.read,
            c.u8-length.ensures.read,
            c.in_ok-text.ensures.read,
          )
          (rw (c.in_ok-enabled.ensures, c.in_ok-macro_count.ensures, short.1) refl)
    ])

pub returns-clause-read : goal.returns-clause-read
returns-clause-read c =
    rw (
      c.u16-width.ensures.read,
      c.u16-height.ensures.read,
      c.u8-colour.ensures.read,
      c.id-font.ensures.read,
      c.id-input_attributes.ensures.read,
      c.u8-options.ensures.read,
      c.id-variable.ensures.read,
      c.u8-justification.ensures.read,
      c.u8-length.ensures.read,
      c.in_ok-text.ensures.read,
    )
    (rw (
      c.in_ok-enabled.ensures,
      c.in_ok-macro_count.ensures,
      c.in_ok-macros.ensures.read,
      c.in_ok-text.ensures.len,
      c.in_ok-macros.ensures.len,
    ) refl)
