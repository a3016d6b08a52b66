-- The report and the screen of an object pool as texts (docs/EMBEDDING.md, "Texts of pools").
use Rattle.std.specs.Prelude.{◌≡◌, ◌⊎◌, ℕ, ◌-◌, ◌^◌, ◌≤◌, false, List, [], ◌∷◌, ◌++◌, length, take, drop}
use Rattle.vt_stores.specs.Stores.{Objects, ObjectMap, map_of}
use Rattle.vt_commands.specs.declared.command.Command.{Command}
use Rattle.vt_commands.specs.declared.command.Command.TheVariants.{ChangeActiveMask}
use Rattle.vt_layout.specs.Screens.{IsScreen}
use Rattle.vt_machine.specs.declared.live.Outcome.TheVariants.{Done, Refused}
use Rattle.vt_machine.specs.SetStates.{Applied, working_set_in}
use Rattle.vt_records.specs.FaultTexts.{fault_text}
use Rattle.vt_verify.specs.Reports.{report_text, refusal_text}
use Rattle.vt_judge.specs.declared.NotAccepted.{NotAccepted}
use Rattle.vt_judge.specs.declared.NotAccepted.TheVariants as why
use Rattle.vt_judge.specs.Judgements.{IsAcceptedPool, IsNotAccepted, wants_memory}

-- the result that says that memory was refused
abbrev pub NO_MEMORY : ℕ
NO_MEMORY = 2 ^ 64 - 1

-- the first items over others, as many as there is room for
abbrev pub written_over : {A : Type 0} → List A → List A → List A
written_over items old = take (length old) items ++ drop (length items) old

-- ---- reports

-- the line of a fault or a refusal
abbrev pub line_of : NotAccepted → List ℕ
line_of (why.Fault fault) = fault_text fault ++ 10 ∷ []
line_of (why.Refused refusal) = refusal_text refusal ++ 10 ∷ []

-- The report of an accepted pool, or the line of the first fault or refusal.
abbrev pub IsReportOf : List ℕ → List ℕ → Type 0
IsReportOf bytes text =
    ((objects : Objects) × (IsAcceptedPool bytes objects × (text ≡ report_text objects)))
    ⊎ ((reason : NotAccepted) × (IsNotAccepted bytes reason × ((wants_memory reason ≡ false) × (text ≡ line_of reason))))

-- A text is written over the old bytes and its length returned.
pub record WritesText (IsText : List ℕ → Type 0) (old new : List ℕ) (result : ℕ) : Type 0 where
  pub text : List ℕ
  pub is_text : IsText text
  pub written : new ≡ written_over text old
  pub count : result ≡ length text

-- Memory was refused, and nothing is written.
abbrev pub LacksMemory : List ℕ → List ℕ → ℕ → Type 0
LacksMemory old new result = (new ≡ old) × (result ≡ NO_MEMORY)

abbrev pub Reports : List ℕ → List ℕ → List ℕ → ℕ → Type 0
Reports bytes old new result = WritesText (IsReportOf bytes) old new result ⊎ LacksMemory old new result

-- ---- screens

-- a Change Active Mask command of the working set
abbrev pub shows_mask : ObjectMap → ℕ → Command
shows_mask objects mask = ChangeActiveMask (working_set_in objects) mask

-- The screen of the objects of a pool at an address: of the mask that is active at first, or of another after its Change Active Mask.
abbrev pub IsScreenOfObjects : Objects → ℕ → ℕ → List ℕ → Type 0
IsScreenOfObjects objects address mask text =
    ((mask ≡ 65535) × IsScreen address (map_of objects) text)
    ⊎ ((steps : ℕ) × ((after : ObjectMap) × (Applied (map_of objects) (shows_mask (map_of objects) mask) (Done steps) after × IsScreen address after text)))

-- The Change Active Mask to a mask is refused.
abbrev pub HasNoMask : Objects → ℕ → Type 0
HasNoMask objects mask = (bits : ℕ) × ((after : ObjectMap) × Applied (map_of objects) (shows_mask (map_of objects) mask) (Refused bits) after)

pub record IsScreenOfPool (bytes : List ℕ) (address mask : ℕ) (text : List ℕ) : Type 0 where
  pub objects : Objects
  pub accepted : IsAcceptedPool bytes objects
  pub screen : IsScreenOfObjects objects address mask text

-- The bytes are no accepted pool, for a reason other than want of memory.
pub record IsNoPool (bytes : List ℕ) : Type 0 where
  pub reason : NotAccepted
  pub not_accepted : IsNotAccepted bytes reason
  pub not_memory : wants_memory reason ≡ false

pub record HasOtherMask (bytes : List ℕ) (mask : ℕ) : Type 0 where
  pub objects : Objects
  pub accepted : IsAcceptedPool bytes objects
  pub refused : HasNoMask objects mask

-- There is no address or mask of this number, the bytes are no accepted pool, or its mask of this ID cannot become active.
abbrev pub HasNoScreen : List ℕ → ℕ → ℕ → Type 0
HasNoScreen bytes address mask = ((256 ≤ address) ⊎ (65536 ≤ mask)) ⊎ (IsNoPool bytes ⊎ HasOtherMask bytes mask)

abbrev pub Draws : List ℕ → ℕ → ℕ → List ℕ → List ℕ → ℕ → Type 0
Draws bytes address mask old new result =
    WritesText (IsScreenOfPool bytes address mask) old new result
    ⊎ (((HasNoScreen bytes address mask) × ((new ≡ old) × (result ≡ 0))) ⊎ LacksMemory old new result)
