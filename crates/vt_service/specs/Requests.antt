-- What a line asks for (docs/LIVE.md, "Requests").
use Rattle.std.specs.Prelude.{◌≡◌, ◌⊎◌, ℕ, Bool, true, false, List, codes, Option, Some, None, option_and_then, Result, Ok, Err}
use Rattle.serde_json.specs.Data.{Data}
use Rattle.serde_json.specs.Find.{as_str, get}
use Rattle.vt_can.specs.declared.frames.frame.Frame.{Frame}
use Rattle.vt_can.specs.declared.lines.line.Action.{Action}
use Rattle.vt_can.specs.declared.lines.line.Action.TheVariants as actions
use Rattle.vt_dialogs.specs.declared.typed.Typed.{Typed}
use Rattle.vt_node.specs.declared.profile.Profile.{Profile}
use Rattle.vt_node.specs.Profile.{standard}
use Rattle.vt_service.specs.Members.{bytes_in, frame_in, member_name, name_in, number_in, typed_in}
use Rattle.vt_service.specs.declared.members.Malformed.{Malformed}
use Rattle.vt_service.specs.declared.members.Malformed.TheVariants as malformed
use Rattle.vt_service.specs.declared.members.Member.{Member}
use Rattle.vt_service.specs.declared.members.Member.TheVariants as members
use Rattle.vt_service.specs.declared.profile.Fonts.{Fonts}
use Rattle.vt_service.specs.declared.profile.Hardware.{Hardware}
use Rattle.vt_service.specs.declared.profile.SoftKeys.{SoftKeys}
use Rattle.vt_service.specs.declared.request.RequestKind.{RequestKind}
use Rattle.vt_service.specs.declared.request.RequestKind.TheVariants as kinds
use Rattle.vt_service.specs.declared.request.CommandKind.{CommandKind}
use Rattle.vt_service.specs.declared.request.CommandKind.TheVariants.{Begin, Preload, Frame as FrameKind, Tick, Act, Text, Claim, Status}
use Rattle.vt_service.specs.declared.request.ActKind.{ActKind}
use Rattle.vt_service.specs.declared.request.ActKind.TheVariants.{Press, Release, Select, Number, Set}
use Rattle.vt_service.specs.declared.request.QuestionKind.{QuestionKind}
use Rattle.vt_service.specs.declared.request.QuestionKind.TheVariants.{Screen, Picture, Part, Elements, Object, Sets, Limits, Raw, Touch, Words}
use Rattle.vt_service.specs.declared.request.Request.{Request}
use Rattle.vt_service.specs.declared.request.Request.TheVariants as requests
use Rattle.vt_service.specs.declared.request.Command.{Command}
use Rattle.vt_service.specs.declared.request.Command.TheVariants as commands
use Rattle.vt_service.specs.declared.request.Question.{Question}
use Rattle.vt_service.specs.declared.request.Question.TheVariants as questions

-- ---- names

abbrev pub act_name : ActKind → List ℕ
act_name Press = codes "press"
act_name Release = codes "release"
act_name Select = codes "select"
act_name Number = codes "number"
act_name Set = codes "set"

abbrev pub command_name : CommandKind → List ℕ
command_name Begin = codes "begin"
command_name Preload = codes "preload"
command_name FrameKind = codes "frame"
command_name Tick = codes "tick"
command_name (Act kind) = act_name kind
command_name Text = codes "text"
command_name Claim = codes "claim"
command_name Status = codes "status"

abbrev pub question_name : QuestionKind → List ℕ
question_name Screen = codes "screen"
question_name Picture = codes "picture"
question_name Part = codes "part"
question_name Elements = codes "elements"
question_name Object = codes "object"
question_name Sets = codes "sets"
question_name Limits = codes "limits"
question_name Raw = codes "raw"
question_name Touch = codes "touch"
question_name Words = codes "words"

abbrev pub kind_name : RequestKind → List ℕ
kind_name (kinds.Command kind) = command_name kind
kind_name (kinds.Question kind) = question_name kind

-- The member `do` of a request names its kind.
abbrev pub Names : Data → RequestKind → Type 0
Names d kind = option_and_then as_str (get (codes "do") d) ≡ Some (kind_name kind)

-- ---- members, one after the other: the first that is missing or has another form is told

abbrev pub then : {A B : Type 0} → Result A Malformed → (A → Result B Malformed) → Result B Malformed
then (Ok a) next = next a
then (Err e) next = Err e

-- the number of a member, or another one where it is not there
abbrev pub number_if_there : Option Data → ℕ → Result ℕ Malformed → Result ℕ Malformed
number_if_there None other found = Ok other
number_if_there (Some value) other found = found

abbrev pub number_or : Data → Member → ℕ → Result ℕ Malformed
number_or d member other = number_if_there (get (member_name member) d) other (number_in d member)

-- the soft keys of a request: what it has, and else what another profile has
unfoldable pub soft_keys_in : Data → Profile → Result SoftKeys Malformed
soft_keys_in d other =
    then (number_or d members.SoftKeyWidth other.soft_key_width) (λ width. then (number_or d members.SoftKeyHeight other.soft_key_height) (λ height.
    then (number_or d members.VirtualSoftKeys other.virtual_soft_keys) (λ in_navigation.
    then (number_or d members.PhysicalSoftKeys other.physical_soft_keys) (λ physical.
    Ok (record { width = width; height = height; in_navigation = in_navigation; physical = physical })))))

-- the fonts of a request: what it has, and else what another profile has
unfoldable pub fonts_in : Data → Profile → Result Fonts Malformed
fonts_in d other =
    then (number_or d members.SmallFonts other.small_fonts) (λ small. then (number_or d members.LargeFonts other.large_fonts) (λ large.
    then (number_or d members.FontStyles other.font_styles) (λ styles. Ok (record { small = small; large = large; styles = styles }))))

-- the hardware of a request: what it has, and else what another profile has
unfoldable pub hardware_in : Data → Profile → Result Hardware Malformed
hardware_in d other =
    then (number_or d members.BootTime other.boot_time) (λ boot. then (number_or d members.GraphicType other.graphic_type) (λ graphic.
    then (number_or d members.Hardware other.hardware) (λ hardware. Ok (record { boot_time = boot; graphic_type = graphic; hardware = hardware }))))

-- the profile of a request: what it has, and else what the standard profile has
abbrev pub profile_in : Data → Result Profile Malformed
profile_in d =
    then (number_or d members.Memory standard.memory) (λ memory. then (soft_keys_in d standard) (λ keys. then (fonts_in d standard) (λ fonts.
    then (hardware_in d standard) (λ hardware. then (number_or d members.Width standard.width) (λ width.
    then (number_or d members.Height standard.height) (λ height. Ok (record {
      memory = memory;
      soft_key_width = keys.width;
      soft_key_height = keys.height;
      virtual_soft_keys = keys.in_navigation;
      physical_soft_keys = keys.physical;
      small_fonts = fonts.small;
      large_fonts = fonts.large;
      font_styles = fonts.styles;
      boot_time = hardware.boot_time;
      graphic_type = hardware.graphic_type;
      hardware = hardware.hardware;
      width = width;
      height = height;
    })))))))

-- the address of a set, and the ID of an object of it
abbrev pub place_in : Data → Result (ℕ × ℕ) Malformed
place_in d = then (number_in d members.Address) (λ address. then (number_in d members.Object) (λ object. Ok (address, object)))

-- ---- commands

-- a command as a value, with bytes as they are
pub data CommandValue : Type 0 where
  Begins : (own name : ℕ) (profile : Profile) → CommandValue
  Preloads : (address : ℕ) (pool : List ℕ) → CommandValue
  Hears : (time : ℕ) (frame : Frame) → CommandValue
  Ticks : (time : ℕ) → CommandValue
  Acts : (time : ℕ) (action : Action) → CommandValue
  Texts : (time object : ℕ) (text : List ℕ) → CommandValue
  Claims : CommandValue
  SendsStatus : CommandValue

abbrev pub command_value : Command → CommandValue
command_value (commands.Begin own name profile) = Begins own name profile
command_value (commands.Preload address pool) = Preloads address pool.items
command_value (commands.Frame time frame) = Hears time frame
command_value (commands.Tick time) = Ticks time
command_value (commands.Act time action) = Acts time action
command_value (commands.Text time object text) = Texts time object text.items
command_value commands.Claim = Claims
command_value commands.Status = SendsStatus

abbrev pub action_in : Data → ActKind → Result Action Malformed
action_in d Press = then (number_in d members.Object) (λ id. Ok (actions.Press id))
action_in d Release = then (number_in d members.Object) (λ id. Ok (actions.Release id))
action_in d Select = then (number_in d members.Object) (λ id. Ok (actions.Select id))
action_in d Number = then (number_in d members.Object) (λ id. then (number_in d members.Value) (λ value. Ok (actions.Number id value)))
action_in d Set = then (number_in d members.Address) (λ address. Ok (actions.Set address))

abbrev pub command_in : Data → CommandKind → Result CommandValue Malformed
command_in d Begin = then (number_in d members.Own) (λ own. then (name_in d) (λ name. then (profile_in d) (λ profile. Ok (Begins own name profile))))
command_in d Preload = then (number_in d members.Address) (λ address. then (bytes_in d members.Pool) (λ pool. Ok (Preloads address pool)))
command_in d FrameKind = then (number_in d members.Time) (λ time. then (frame_in d) (λ frame. Ok (Hears time frame)))
command_in d Tick = then (number_in d members.Time) (λ time. Ok (Ticks time))
command_in d (Act kind) = then (number_in d members.Time) (λ time. then (action_in d kind) (λ action. Ok (Acts time action)))
command_in d Text =
    then (number_in d members.Time) (λ time. then (number_in d members.Object) (λ object. then (bytes_in d members.Text) (λ text.
    Ok (Texts time object text))))
command_in d Claim = Ok Claims
command_in d Status = Ok SendsStatus

-- ---- questions

abbrev pub question_in : Data → QuestionKind → Result Question Malformed
question_in d Screen = Ok questions.Screen
question_in d Picture = then (number_in d members.Address) (λ address. then (number_in d members.Mask) (λ mask. Ok (questions.Picture address mask)))
question_in d Part = then (place_in d) (λ place. Ok (questions.Part place.0 place.1))
question_in d Elements = Ok questions.Elements
question_in d Object = then (place_in d) (λ place. Ok (questions.Object place.0 place.1))
question_in d Sets = Ok questions.Sets
question_in d Limits = then (place_in d) (λ place. Ok (questions.Limits place.0 place.1))
question_in d Raw = then (place_in d) (λ place. then (typed_in d) (λ typed. Ok (questions.Raw place.0 place.1 typed)))
question_in d Touch = then (number_in d members.X) (λ x. then (number_in d members.Y) (λ y. Ok (questions.Touch x y)))
question_in d Words = then (frame_in d) (λ frame. Ok (questions.Words frame))

-- ---- requests

-- A request reads as this one.
abbrev pub Reads : Data → Request → Type 0
Reads d (requests.Command command) = (kind : CommandKind) × Names d (kinds.Command kind) × (command_in d kind ≡ Ok (command_value command))
Reads d (requests.Question question) = (kind : QuestionKind) × Names d (kinds.Question kind) × (question_in d kind ≡ Ok question)

-- whether a command takes memory for bytes of its own
abbrev pub copies_bytes : CommandKind → Bool
copies_bytes Begin = false
copies_bytes Preload = true
copies_bytes FrameKind = false
copies_bytes Tick = false
copies_bytes (Act kind) = false
copies_bytes Text = true
copies_bytes Claim = false
copies_bytes Status = false

-- Why a value that names a command reads as none: memory was refused to its bytes, or it lacks a member.
abbrev pub IsNoCommand : Data → CommandKind → Malformed → Type 0
IsNoCommand d kind e = ((e ≡ malformed.NoMemory) × (copies_bytes kind ≡ true)) ⊎ (command_in d kind ≡ Err e)

abbrev pub IsNoRequest : Data → RequestKind → Malformed → Type 0
IsNoRequest d (kinds.Command kind) e = IsNoCommand d kind e
IsNoRequest d (kinds.Question kind) e = question_in d kind ≡ Err e

-- Why a value reads as no request: it names none, or it is none of the kind that it names.
abbrev pub IsRefused : Data → Malformed → Type 0
IsRefused d e =
    ((e ≡ malformed.UnknownRequest) × ((kind : RequestKind) → Names d kind → ⊥)) ⊎ ((kind : RequestKind) × Names d kind × IsNoRequest d kind e)
