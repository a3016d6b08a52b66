-- What a frame says in words (docs/EMBEDDING.md, "Words for a log window").
use Rattle.std.specs.Prelude.{◌≡◌, ℕ, None}
use Rattle.vt_session.specs.declared.session.Session.{Session}
use Rattle.vt_session.specs.Inputs.{frame_input}
use Rattle.vt_session.specs.Readings.{Writes}

-- Some text is written, or memory was refused. Numbers that are no frame have no text.
pub record WritesWords (before : Session) (id count bits : ℕ) (after : Session) (result : ℕ) : Type 0 where
  pub writes : Writes (λ text. Unit {0}) before after result
  pub none : frame_input 0 id count bits ≡ None → result ≡ 0
