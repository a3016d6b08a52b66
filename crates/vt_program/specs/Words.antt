-- The words of the command line and the statuses (docs/PROFILE.md, "Words", "Faults and statuses").
use Rattle.std.specs.Prelude.{◌≡◌, ◌≢◌, ◌≤◌, ◌⊎◌, ◌∷◌, ◌++◌, [], ℕ, Bool, List, length, Option, Some, None, Ok, IfSome, IsSome, IsSomeAnd, codes, is_some, true, false}
use Rattle.byteorder.specs.Endian.{big_number}
use Rattle.clap.specs.Words.{App, Kinds, IsAmong, Rule, Text, fault_of, first_of, kind_of, matches_of, new_app, new_rule, one_of}
use Rattle.clap.specs.declared.builder.action.ArgAction.TheVariants.{Set, SetTrue}
use Rattle.clap.specs.declared.error.Error.{Error}
use Rattle.clap.specs.declared.error.kind.ErrorKind.TheVariants.{OutOfMemory}
use Rattle.hex.specs.Hex.{decode_of}
use Rattle.vt_cli.specs.Addresses.{IsAddress}
use Rattle.vt_program.specs.declared.options.Options.{Options}
use Rattle.vt_program.specs.declared.options.Preload.{Preload}
use Rattle.vt_program.specs.declared.options.UsageError.{UsageError}
use Rattle.vt_program.specs.declared.options.UsageError.TheVariants.{Words, Address, Name, OwnerIsOwn, Alone, Memory}
use Rattle.vt_program.specs.declared.program.Status.{Status}
use Rattle.vt_program.specs.declared.program.Status.TheVariants.{Done, Fault, Usage}

-- ---- what the program takes

-- The rule of the file, which is required.
abbrev pub file_word : Rule
file_word = record (new_rule (codes "FILE")) { required = true; action = Some Set }

-- The rule of an option with one value.
abbrev pub valued_option : Text → Rule
valued_option name = record (new_rule name) { long = Some name; action = Some Set; value_names = 1 }

-- The rule of the flag that asks for a report.
abbrev pub report_flag : Rule
report_flag = record (new_rule (codes "report")) { long = Some (codes "report"); action = Some SetTrue }

abbrev pub app : App
app = record (new_app (codes "vt_replay")) {
  top = record (new_app (codes "vt_replay")).top {
    has_version = true;
    rules = file_word ∷ valued_option (codes "own") ∷ valued_option (codes "name") ∷ valued_option (codes "pool") ∷ valued_option (codes "owner")
        ∷ report_flag ∷ [];
  };
}

-- ---- what words give

-- The text given for each word and option, if there is one. The text of a flag is "true" or "false".
pub record Given : Type 0 where
  pub file : Option Text
  pub own : Option Text
  pub name : Option Text
  pub pool : Option Text
  pub owner : Option Text
  pub report : Option Text

-- The texts given, by the names of the values and of the flag.
abbrev pub given_in : (Text → Option Text) → (Text → Option Text) → Given
given_in value flag = record {
  file = value (codes "FILE");
  own = value (codes "own");
  name = value (codes "name");
  pool = value (codes "pool");
  owner = value (codes "owner");
  report = flag (codes "report");
}

-- The texts that clap finds in the words.
unfoldable pub given_by : List Text → Given
given_by words = given_in (λ name. first_of name (matches_of app words)) (λ name. one_of name (matches_of app words))

-- The kinds of fault that clap finds in the words, none or one.
unfoldable pub faults_in : List Text → Kinds
faults_in words = fault_of app words

-- ---- addresses

-- A text gives the address that it writes, and no text gives none.
abbrev pub GivesAddress : Option Text → Option ℕ → Type 0
GivesAddress None address = address ≡ None
GivesAddress (Some text) address = IsSomeAnd address (IsAddress text)

-- The text is given and is not an address.
abbrev pub GivesNoAddress : Option Text → Type 0
GivesNoAddress value = IsSomeAnd value (λ text. (n : ℕ) → IsAddress text n → ⊥)

-- The terminal's own address, which is 26 where none is given.
abbrev pub IsOwn : Option Text → ℕ → Type 0
IsOwn None n = n ≡ 0x26
IsOwn (Some text) n = IsAddress text n

-- ---- NAMEs

-- 16 hex digits write the NAME n, the highest byte first.
pub record IsName (text : Text) (n : ℕ) : Type 0 where
  pub bytes : List ℕ
  pub digits : decode_of text ≡ Ok bytes
  pub long : length bytes ≡ 8
  pub number : n ≡ big_number 8 bytes

-- The text is given and is not a NAME.
abbrev pub GivesNoName : Option Text → Type 0
GivesNoName value = IsSomeAnd value (λ text. (n : ℕ) → IsName text n → ⊥)

-- The terminal's NAME, which is 20001D0000000001 where none is given.
abbrev pub IsOwnName : Option Text → ℕ → Type 0
IsOwnName None n = n ≡ 0x20001D0000000001
IsOwnName (Some text) n = IsName text n

-- ---- which words give which options

-- A pool and its owner are given, or neither.
abbrev pub GivesPreload : Option Text → Option Text → Option Preload → Type 0
GivesPreload None None preload = preload ≡ None
GivesPreload (Some pool) (Some owner) preload = IsSomeAnd preload (λ p. (p.pool.now ≡ pool) × IsAddress owner p.owner)
GivesPreload None (Some owner) preload = ⊥
GivesPreload (Some pool) None preload = ⊥

-- The value of a flag by its text: false where it is absent.
pub record IsFlag (text : Option Text) (set : Bool) : Type 0 where
  pub absent : text ≡ None → set ≡ false
  pub there : text ≡ Some (codes "true") → set ≡ true
  pub left_out : text ≡ Some (codes "false") → set ≡ false

pub record GivesOptions (given : Given) (options : Options) : Type 0 where
  pub file : given.file ≡ Some options.file.now
  pub own : IsOwn given.own options.own
  pub name : IsOwnName given.name options.name
  pub preload : GivesPreload given.pool given.owner options.preload
  pub report : IsFlag given.report options.report

-- The addresses are at most 253, and the owner's is not the terminal's own.
pub record HasValidAddresses (options : Options) : Type 0 where
  pub own : options.own ≤ 253
  pub owner : IfSome options.preload (λ p. p.owner ≤ 253)
  pub apart : IfSome options.preload (λ p. p.owner ≢ options.own)

-- The words are a command line that asks for these options.
pub record WordsGive (words : List Text) (options : Options) : Type 0 where
  pub no_fault : faults_in words ≡ []
  pub gives : GivesOptions (given_by words) options
  pub apart : HasValidAddresses options

-- ---- which words are refused

-- The value of an option is not an address; the refusal has the value.
abbrev pub IsBadAddress : Text → Option Text → UsageError → Type 0
IsBadAddress name given (Address option value) = (option.now ≡ name) × (given ≡ Some value.now) × GivesNoAddress given
IsBadAddress name given refusal = ⊥

-- The value of --name is not a NAME; the refusal has the value.
abbrev pub IsBadName : Option Text → UsageError → Type 0
IsBadName given (Name value) = (given ≡ Some value.now) × GivesNoName given
IsBadName given refusal = ⊥

-- A pool is given, and its owner has the terminal's own address.
pub record HasOwnOwner (given : Given) : Type 0 where
  pub pool : IsSome given.pool
  pub address : ℕ
  pub own : IsOwn given.own address
  pub owner : GivesAddress given.owner (Some address)

-- A mistake in the texts given.
abbrev pub IsMistake : Given → UsageError → Type 0
IsMistake given (Address option value) =
    IsBadAddress (codes "own") given.own (Address option value) ⊎ IsBadAddress (codes "owner") given.owner (Address option value)
IsMistake given (Name value) = IsBadName given.name (Name value)
IsMistake given (OwnerIsOwn value) = (given.owner ≡ Some value.now) × HasOwnOwner given
IsMistake given Alone = is_some given.pool ≢ is_some given.owner
IsMistake given (Words error) = ⊥
IsMistake given Memory = ⊥

-- A mistake in words in which clap finds no fault.
abbrev pub IsMistakeIn : List Text → UsageError → Type 0
IsMistakeIn words refusal = (faults_in words ≡ []) × IsMistake (given_by words) refusal

-- The refusals of words. Memory may run out at any words.
abbrev pub IsRefusalOf : List Text → UsageError → Type 0
IsRefusalOf words (Words error) = IsAmong (kind_of error) (faults_in words)
IsRefusalOf words (Address option value) = IsMistakeIn words (Address option value)
IsRefusalOf words (Name value) = IsMistakeIn words (Name value)
IsRefusalOf words (OwnerIsOwn value) = IsMistakeIn words (OwnerIsOwn value)
IsRefusalOf words Alone = IsMistakeIn words Alone
IsRefusalOf words Memory = Unit {0}

-- The refusal for an error of clap.
abbrev pub IsRefusalFor : Error → UsageError → Type 0
IsRefusalFor error Memory = kind_of error ≡ OutOfMemory
IsRefusalFor error (Words other) = (other ≡ error) × (kind_of error ≢ OutOfMemory)
IsRefusalFor error (Address option value) = ⊥
IsRefusalFor error (Name value) = ⊥
IsRefusalFor error (OwnerIsOwn value) = ⊥
IsRefusalFor error Alone = ⊥

-- The text of a refusal. The text of an error of clap is not stated.
abbrev pub usage_text : UsageError → Option Text
usage_text (Words error) = None
usage_text (Address option value) = Some (codes "error: --" ++ option.now ++ codes " " ++ value.now ++ codes ": expected two hex digits up to FD\n")
usage_text (Name value) = Some (codes "error: --name " ++ value.now ++ codes ": expected 16 hex digits\n")
usage_text (OwnerIsOwn value) =
    Some (codes "error: --owner " ++ value.now ++ codes ": expected another address than the terminal's own (--own, 26 unless given)\n")
usage_text Alone = Some (codes "error: --pool and --owner are given together or not at all\n")
usage_text Memory = Some (codes "vt_replay: out of memory\n")

-- ---- statuses

-- The exit status of the process.
abbrev pub status_code : Status → ℕ
status_code Done = 0
status_code Fault = 1
status_code Usage = 2
