-- Members with texts.
use Rattle.std.specs.Prelude.{◌≡◌, ℕ, List}
use Rattle.serde_json.specs.Data.{Members, put as with_member, string}

-- The members have gained one of this name with a text.
pub record GainsText (name : List ℕ) (old new : Members) : Type 0 where
  pub text : List ℕ
  pub whole : new ≡ with_member name (string text) old
