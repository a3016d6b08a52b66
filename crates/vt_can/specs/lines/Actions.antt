-- The operator's actions and their lines (docs/PROFILE.md, "Operator lines").
use Rattle.std.specs.Prelude.{◌≡◌, ◌<◌, ◌≤◌, ℕ, List, [], ◌∷◌, ◌++◌, length, codes, Ok}
use Rattle.std.specs.List.{AllPass}
use Rattle.std.specs.Char.{is_ascii_digit}
use Rattle.std.specs.Str.Parse.{digits_value}
use Rattle.hex.specs.Hex.{decode_of}
use Rattle.vt_can.specs.declared.lines.line.Action.{Action}
use Rattle.vt_can.specs.declared.lines.line.Action.TheVariants as actions

-- an action as a value, without the address of its text in memory
pub data ActionValue : Type 0 where
  Press : (id : ℕ) → ActionValue
  Release : (id : ℕ) → ActionValue
  Select : (id : ℕ) → ActionValue
  Number : (id n : ℕ) → ActionValue
  Text : (id : ℕ) (text : List ℕ) → ActionValue
  Set : (address : ℕ) → ActionValue

abbrev pub action_value : Action → ActionValue
action_value (actions.Press id) = Press id
action_value (actions.Release id) = Release id
action_value (actions.Select id) = Select id
action_value (actions.Number id n) = Number id n
action_value (actions.Text id text) = Text id text.now
action_value (actions.Set address) = Set address

-- a number written in one or more decimal digits
pub record IsNumber (text : List ℕ) (n most : ℕ) : Type 0 where
  pub digits : AllPass is_ascii_digit text
  pub some : 0 < length text
  pub value : n ≡ digits_value 10 text
  pub fits : n ≤ most

-- a word and an object ID
pub record HasId (word rest : List ℕ) (id : ℕ) : Type 0 where
  pub digits : List ℕ
  pub whole : rest ≡ word ++ digits
  pub id_is : IsNumber digits id 65534

-- a word, an object ID, a space and more text
pub record HasIdAnd (word rest : List ℕ) (id : ℕ) (more : List ℕ) : Type 0 where
  pub digits : List ℕ
  pub whole : rest ≡ word ++ digits ++ codes " " ++ more
  pub id_is : IsNumber digits id 65534

-- the text of an action, after `! `
abbrev pub IsActionText : List ℕ → ActionValue → Type 0
IsActionText rest (Press id) = HasId (codes "press ") rest id
IsActionText rest (Release id) = HasId (codes "release ") rest id
IsActionText rest (Select id) = HasId (codes "select ") rest id
IsActionText rest (Number id n) = (digits : List ℕ) × HasIdAnd (codes "number ") rest id digits × IsNumber digits n 4294967295
IsActionText rest (Text id text) = HasIdAnd (codes "text ") rest id text
IsActionText rest (Set address) = (digits : List ℕ) × (rest ≡ codes "set " ++ digits) × (decode_of digits ≡ Ok (address ∷ []))
