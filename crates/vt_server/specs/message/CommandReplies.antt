-- The reply to each command (ISO 11783-6; docs/PROFILE.md, "Commands: all rows").
use Rattle.std.specs.Prelude.{ℕ, List, [], ◌∷◌, ◌++◌}
use Rattle.byteorder.specs.Endian.{little_bytes}
use Rattle.vt_commands.specs.declared.command.Command.{Command}
use Rattle.vt_commands.specs.Commands.{function_of}
use Rattle.vt_commands.specs.declared.command.Command.TheVariants.{HideShow, EnableDisable, ControlAudio, SetVolume, ChangeChildLocation, ChangeSize, ChangeBackgroundColour, ChangeNumericValue, ChangeEndPoint, ChangeFontAttributes, ChangeLineAttributes, ChangeFillAttributes, ChangeActiveMask, ChangeSoftKeyMask, ChangeAttribute, ChangePriority, ChangeListItem, DeletePool, ChangeStringValue, ChangeChildPosition, ExecuteMacro}

-- a reply of the function and the error byte
abbrev pub plain : ℕ → ℕ → List ℕ
plain function error = function ∷ error ∷ 0xFF ∷ 0xFF ∷ 0xFF ∷ 0xFF ∷ 0xFF ∷ 0xFF ∷ []

-- a reply of the function, an object and the error byte
abbrev pub about : ℕ → ℕ → ℕ → List ℕ
about function id error = (function ∷ little_bytes 2 id) ++ error ∷ 0xFF ∷ 0xFF ∷ 0xFF ∷ 0xFF ∷ []

-- a reply of the function, an object, a byte of the command and the error byte
abbrev pub about_with : ℕ → ℕ → ℕ → ℕ → List ℕ
about_with function id said error = (function ∷ little_bytes 2 id) ++ said ∷ error ∷ 0xFF ∷ 0xFF ∷ 0xFF ∷ []

-- a reply of the function, two objects and the error byte
abbrev pub about_two : ℕ → ℕ → ℕ → ℕ → List ℕ
about_two function first second error = (function ∷ little_bytes 2 first) ++ little_bytes 2 second ++ error ∷ 0xFF ∷ 0xFF ∷ []

abbrev pub value_reply : ℕ → ℕ → ℕ → ℕ → List ℕ
value_reply function id value error = (function ∷ little_bytes 2 id) ++ error ∷ little_bytes 4 value

abbrev pub with_item : ℕ → ℕ → ℕ → ℕ → ℕ → List ℕ
with_item function id index item error = (function ∷ little_bytes 2 id) ++ (index ∷ little_bytes 2 item) ++ error ∷ 0xFF ∷ []

abbrev pub of_text : ℕ → ℕ → ℕ → List ℕ
of_text function id error = (function ∷ 0xFF ∷ 0xFF ∷ little_bytes 2 id) ++ error ∷ 0xFF ∷ 0xFF ∷ []

-- by the function of the command
abbrev pub reply_by : ℕ → Command → ℕ → List ℕ
reply_by function (HideShow id state) error = about_with function id state error
reply_by function (EnableDisable id state) error = about_with function id state error
reply_by function (ControlAudio count frequency on off) error = plain function error
reply_by function (SetVolume volume) error = plain function error
reply_by function (ChangeChildLocation parent child dx dy) error = about_two function parent child error
reply_by function (ChangeSize id width height) error = about function id error
reply_by function (ChangeBackgroundColour id colour) error = about_with function id colour error
reply_by function (ChangeNumericValue id value) error = value_reply function id value error
reply_by function (ChangeEndPoint id width height direction) error = about function id error
reply_by function (ChangeFontAttributes id colour size font_type style) error = about function id error
reply_by function (ChangeLineAttributes id colour width line_art) error = about function id error
reply_by function (ChangeFillAttributes id fill_type colour pattern) error = about function id error
reply_by function (ChangeActiveMask set mask) error = about function mask error
reply_by function (ChangeSoftKeyMask mask_type mask keys) error = about_two function mask keys error
reply_by function (ChangeAttribute id number value) error = about_with function id number error
reply_by function (ChangePriority id priority) error = about_with function id priority error
reply_by function (ChangeListItem id index item) error = with_item function id index item error
reply_by function DeletePool error = plain function error
reply_by function (ChangeStringValue id count text) error = of_text function id error
reply_by function (ChangeChildPosition parent child x y) error = about_two function parent child error
reply_by function (ExecuteMacro id) error = about function id error

-- the eight bytes of the reply to a command with an error byte
abbrev pub command_reply : Command → ℕ → List ℕ
command_reply command error = reply_by (function_of command) command error
