-- The commands of an implement, their functions and their bytes (ISO 11783-6; docs/PROFILE.md, "Commands", "Commands: all rows"), and the
-- functions of the messages that tell an implement of its operator ("Soft key and button activation (00, 01)").
use Rattle.std.specs.Prelude.{◌≡◌, ℕ, ℤ, List, [], ◌∷◌, take, drop, length, nat_le, ◌==◌, ◌&&◌, if◌then◌else◌, Option, Some, None, slice_index}
use Rattle.std.specs.Int.{w16, cast_signed}
use Rattle.byteorder.specs.Endian.{little_number}
use Rattle.vt_commands.specs.declared.command.Command.{Command}
use Rattle.vt_commands.specs.declared.command.Command.TheVariants.{HideShow, EnableDisable, ControlAudio, SetVolume, ChangeChildLocation, ChangeSize, ChangeBackgroundColour, ChangeNumericValue, ChangeEndPoint, ChangeFontAttributes, ChangeLineAttributes, ChangeFillAttributes, ChangeActiveMask, ChangeSoftKeyMask, ChangeAttribute, ChangePriority, ChangeListItem, DeletePool, ChangeStringValue, ChangeChildPosition, ExecuteMacro}
use Rattle.vt_commands.specs.declared.event.Event.TheVariants as events
use Rattle.vt_commands.specs.declared.row.Raises.{Raises}
use Rattle.vt_commands.specs.declared.row.Raises.TheVariants.{Nothing, One, ByState, ActiveMask}

-- ---- the functions: the first byte of each command, and of the reply to it

abbrev pub HIDE_SHOW : ℕ
HIDE_SHOW = 0xA0

abbrev pub ENABLE_DISABLE : ℕ
ENABLE_DISABLE = 0xA1

abbrev pub CONTROL_AUDIO : ℕ
CONTROL_AUDIO = 0xA3

abbrev pub SET_VOLUME : ℕ
SET_VOLUME = 0xA4

abbrev pub CHANGE_CHILD_LOCATION : ℕ
CHANGE_CHILD_LOCATION = 0xA5

abbrev pub CHANGE_SIZE : ℕ
CHANGE_SIZE = 0xA6

abbrev pub CHANGE_BACKGROUND_COLOUR : ℕ
CHANGE_BACKGROUND_COLOUR = 0xA7

abbrev pub CHANGE_NUMERIC_VALUE : ℕ
CHANGE_NUMERIC_VALUE = 0xA8

abbrev pub CHANGE_END_POINT : ℕ
CHANGE_END_POINT = 0xA9

abbrev pub CHANGE_FONT_ATTRIBUTES : ℕ
CHANGE_FONT_ATTRIBUTES = 0xAA

abbrev pub CHANGE_LINE_ATTRIBUTES : ℕ
CHANGE_LINE_ATTRIBUTES = 0xAB

abbrev pub CHANGE_FILL_ATTRIBUTES : ℕ
CHANGE_FILL_ATTRIBUTES = 0xAC

abbrev pub CHANGE_ACTIVE_MASK : ℕ
CHANGE_ACTIVE_MASK = 0xAD

abbrev pub CHANGE_SOFT_KEY_MASK : ℕ
CHANGE_SOFT_KEY_MASK = 0xAE

abbrev pub CHANGE_ATTRIBUTE : ℕ
CHANGE_ATTRIBUTE = 0xAF

abbrev pub CHANGE_PRIORITY : ℕ
CHANGE_PRIORITY = 0xB0

abbrev pub CHANGE_LIST_ITEM : ℕ
CHANGE_LIST_ITEM = 0xB1

abbrev pub DELETE_POOL : ℕ
DELETE_POOL = 0xB2

abbrev pub CHANGE_STRING_VALUE : ℕ
CHANGE_STRING_VALUE = 0xB3

abbrev pub CHANGE_CHILD_POSITION : ℕ
CHANGE_CHILD_POSITION = 0xB4

abbrev pub EXECUTE_MACRO : ℕ
EXECUTE_MACRO = 0xBE

-- the function of a command
abbrev pub function_of : Command → ℕ
function_of (HideShow id state) = HIDE_SHOW
function_of (EnableDisable id state) = ENABLE_DISABLE
function_of (ControlAudio count frequency on off) = CONTROL_AUDIO
function_of (SetVolume volume) = SET_VOLUME
function_of (ChangeChildLocation parent child dx dy) = CHANGE_CHILD_LOCATION
function_of (ChangeSize id width height) = CHANGE_SIZE
function_of (ChangeBackgroundColour id colour) = CHANGE_BACKGROUND_COLOUR
function_of (ChangeNumericValue id value) = CHANGE_NUMERIC_VALUE
function_of (ChangeEndPoint id width height direction) = CHANGE_END_POINT
function_of (ChangeFontAttributes id colour size type style) = CHANGE_FONT_ATTRIBUTES
function_of (ChangeLineAttributes id colour width art) = CHANGE_LINE_ATTRIBUTES
function_of (ChangeFillAttributes id type colour pattern) = CHANGE_FILL_ATTRIBUTES
function_of (ChangeActiveMask set mask) = CHANGE_ACTIVE_MASK
function_of (ChangeSoftKeyMask type mask keys) = CHANGE_SOFT_KEY_MASK
function_of (ChangeAttribute id number value) = CHANGE_ATTRIBUTE
function_of (ChangePriority id priority) = CHANGE_PRIORITY
function_of (ChangeListItem id index item) = CHANGE_LIST_ITEM
function_of DeletePool = DELETE_POOL
function_of (ChangeStringValue id length text) = CHANGE_STRING_VALUE
function_of (ChangeChildPosition parent child x y) = CHANGE_CHILD_POSITION
function_of (ExecuteMacro id) = EXECUTE_MACRO

-- ---- messages of the operator's actions

-- Soft Key Activation
abbrev pub SOFT_KEY_ACTIVATION : ℕ
SOFT_KEY_ACTIVATION = 0x00

-- Button Activation
abbrev pub BUTTON_ACTIVATION : ℕ
BUTTON_ACTIVATION = 0x01

-- the numeric value that the operator enters
abbrev pub NUMERIC_VALUE : ℕ
NUMERIC_VALUE = 0x05

-- the string value that the operator enters
abbrev pub STRING_VALUE : ℕ
STRING_VALUE = 0x08

-- ---- the table of commands

-- the byte at an offset, and the numbers of two and four bytes at an offset
abbrev pub byte : List ℕ → ℕ → ℕ
byte bytes place = slice_index bytes place

abbrev pub word : List ℕ → ℕ → ℕ
word bytes place = little_number 2 (drop place bytes)

abbrev pub signed_word : List ℕ → ℕ → ℤ
signed_word bytes place = cast_signed w16 (word bytes place)

abbrev pub long : List ℕ → ℕ → ℕ
long bytes place = little_number 4 (drop place bytes)

-- What the table says of the reply to a command: the index of the object, if the reply names one, and that of the error byte, the
-- events that the command raises if it is done, and the bits of the error byte that refuse it.
pub record Columns : Type 0 where
  pub object_at : Option ℕ
  pub error_at : ℕ
  pub raises : Raises
  pub bits : List ℕ

-- A row of the table: the function of a command, its least number of bytes, its decoder, and the columns of its reply.
pub record CommandRow : Type 0 where
  pub function : ℕ
  pub least : ℕ
  pub command : List ℕ → Command
  pub columns : Columns

abbrev row : ℕ → ℕ → (List ℕ → Command) → Columns → CommandRow
row function least command columns = record { function = function; least = least; command = command; columns = columns }

abbrev about : Option ℕ → ℕ → Raises → List ℕ → Columns
about object_at error_at raises bits = record { object_at = object_at; error_at = error_at; raises = raises; bits = bits }

abbrev pub rows : List CommandRow
rows =
    row HIDE_SHOW 8 (λ b. HideShow (word b 1) (byte b 3))
    (about (Some 1) 4 (ByState events.Hide events.Show) (1 ∷ 2 ∷ []))
    ∷ row ENABLE_DISABLE 8 (λ b. EnableDisable (word b 1) (byte b 3))
    (about (Some 1) 4 (ByState events.Disable events.Enable) (1 ∷ 2 ∷ []))
    ∷ row CONTROL_AUDIO 8 (λ b. ControlAudio (byte b 1) (word b 2) (word b 4) (word b 6))
    (about None 1 Nothing [])
    ∷ row SET_VOLUME 8 (λ b. SetVolume (byte b 1))
    (about None 1 Nothing (4 ∷ []))
    ∷ row CHANGE_CHILD_LOCATION 8 (λ b. ChangeChildLocation (word b 1) (word b 3) (byte b 5) (byte b 6))
    (about (Some 1) 5 (One events.ChildLocation) (0 ∷ 1 ∷ 4 ∷ []))
    ∷ row CHANGE_SIZE 8 (λ b. ChangeSize (word b 1) (word b 3) (word b 5))
    (about (Some 1) 3 (One events.Size) (0 ∷ []))
    ∷ row CHANGE_BACKGROUND_COLOUR 8 (λ b. ChangeBackgroundColour (word b 1) (byte b 3))
    (about (Some 1) 4 (One events.BackgroundColour) (0 ∷ []))
    ∷ row CHANGE_NUMERIC_VALUE 8 (λ b. ChangeNumericValue (word b 1) (long b 4))
    (about (Some 1) 3 (One events.Value) (0 ∷ 1 ∷ []))
    ∷ row CHANGE_END_POINT 8 (λ b. ChangeEndPoint (word b 1) (word b 3) (word b 5) (byte b 7))
    (about (Some 1) 3 (One events.EndPoint) (0 ∷ 1 ∷ []))
    ∷ row CHANGE_FONT_ATTRIBUTES 8 (λ b. ChangeFontAttributes (word b 1) (byte b 3) (byte b 4) (byte b 5) (byte b 6))
    (about (Some 1) 3 (One events.Font) (0 ∷ []))
    ∷ row CHANGE_LINE_ATTRIBUTES 8 (λ b. ChangeLineAttributes (word b 1) (byte b 3) (byte b 4) (word b 5))
    (about (Some 1) 3 (One events.Line) (0 ∷ []))
    ∷ row CHANGE_FILL_ATTRIBUTES 8 (λ b. ChangeFillAttributes (word b 1) (byte b 3) (byte b 4) (word b 5))
    (about (Some 1) 3 (One events.Fill) (0 ∷ 3 ∷ []))
    ∷ row CHANGE_ACTIVE_MASK 8 (λ b. ChangeActiveMask (word b 1) (word b 3))
    (about (Some 1) 3 ActiveMask (0 ∷ 1 ∷ []))
    ∷ row CHANGE_SOFT_KEY_MASK 8 (λ b. ChangeSoftKeyMask (byte b 1) (word b 2) (word b 4))
    (about (Some 1) 5 (One events.SoftKeyMask) (0 ∷ 1 ∷ []))
    ∷ row CHANGE_ATTRIBUTE 8 (λ b. ChangeAttribute (word b 1) (byte b 3) (long b 4))
    (about (Some 1) 4 (One events.Attribute) (0 ∷ 1 ∷ 2 ∷ []))
    ∷ row CHANGE_PRIORITY 8 (λ b. ChangePriority (word b 1) (byte b 3))
    (about (Some 1) 4 (One events.Priority) (0 ∷ 1 ∷ []))
    ∷ row CHANGE_LIST_ITEM 8 (λ b. ChangeListItem (word b 1) (byte b 3) (word b 4))
    (about (Some 1) 6 Nothing (0 ∷ 1 ∷ 2 ∷ []))
    ∷ row DELETE_POOL 8 (λ b. DeletePool)
    (about None 1 Nothing [])
    ∷ row CHANGE_STRING_VALUE 5 (λ b. ChangeStringValue (word b 1) (word b 3) (take (word b 3) (drop 5 b)))
    (about (Some 3) 5 (One events.Value) (1 ∷ 2 ∷ []))
    ∷ row CHANGE_CHILD_POSITION 9 (λ b. ChangeChildPosition (word b 1) (word b 3) (signed_word b 5) (signed_word b 7))
    (about (Some 1) 5 (One events.ChildPosition) (0 ∷ 1 ∷ []))
    ∷ row EXECUTE_MACRO 8 (λ b. ExecuteMacro (word b 1))
    (about (Some 1) 3 (One events.RunByName) (0 ∷ 1 ∷ 2 ∷ []))
    ∷ []

-- the columns of the first row with a function
abbrev pub columns_among : List CommandRow → ℕ → Option Columns
columns_among [] function = None
columns_among (r ∷ rs) function = if function == r.function then Some r.columns else columns_among rs function

-- What the table says of the reply to a function, if a command has it.
abbrev pub columns_at : ℕ → Option Columns
columns_at function = columns_among rows function

-- the first row with the function of the bytes decodes them, if they are long enough
abbrev pub command_among : List CommandRow → List ℕ → Option Command
command_among [] bytes = None
command_among (r ∷ rs) bytes =
    if byte bytes 0 == r.function && nat_le r.least (length bytes) then Some (r.command bytes) else command_among rs bytes

-- The command in a message's bytes, if there is one.
abbrev pub command_at : List ℕ → Option Command
command_at bytes = command_among rows bytes

-- The function of a command is the first byte of its message.
abbrev pub FunctionIsFirst : Type 0
FunctionIsFirst = (bytes : List ℕ) (command : Command) → command_at bytes ≡ Some command → function_of command ≡ byte bytes 0
