-- Objects of JSON with plain members.
use Rattle.std.specs.Borrow.{Bor}
use Rattle.std.specs.Prelude.{ℕ, List, [], ◌∷◌}
use Rattle.serde_json.specs.Data.{Data, Members, number, put as with_member, string, unsigned}
use Rattle.check_json.specs.declared.members.PlainValue.{PlainValue}
use Rattle.check_json.specs.declared.members.PlainValue.TheVariants as plain

abbrev pub plain_data : PlainValue → Data
plain_data (plain.Number n) = number (unsigned n)
plain_data (plain.Text text) = string text.now

-- the members, put in one after the other, each at the place of its name
abbrev pub with_plain : Members → List (Bor (List ℕ) × PlainValue) → Members
with_plain members [] = members
with_plain members (c ∷ cs) = with_plain (with_member c.0.now (plain_data c.1) members) cs
