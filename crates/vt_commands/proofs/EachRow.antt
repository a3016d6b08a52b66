-- Each command has a row, which says what the command raises.
use Rattle.std.proofs.Common.{inl, inr, refl}
use Rattle.vt_commands.specs.declared.command.Command.TheVariants.{HideShow, EnableDisable, ControlAudio, SetVolume, ChangeChildLocation, ChangeSize, ChangeBackgroundColour, ChangeNumericValue, ChangeEndPoint, ChangeFontAttributes, ChangeLineAttributes, ChangeFillAttributes, ChangeActiveMask, ChangeSoftKeyMask, ChangeAttribute, ChangePriority, ChangeListItem, DeletePool, ChangeStringValue, ChangeChildPosition, ExecuteMacro}
use Rattle.vt_commands.specs.Rows.{EachCommandHasItsRow, has, nothing, one, of_state, active_mask}

pub each_command_has_its_row : EachCommandHasItsRow
each_command_has_its_row (HideShow id state) = has (of_state (inl refl) refl)
each_command_has_its_row (EnableDisable id state) = has (of_state (inr refl) refl)
each_command_has_its_row (ControlAudio count frequency on off) = has (nothing refl)
each_command_has_its_row (SetVolume volume) = has (nothing refl)
each_command_has_its_row (ChangeChildLocation parent child dx dy) = has (one refl refl)
each_command_has_its_row (ChangeSize id width height) = has (one refl refl)
each_command_has_its_row (ChangeBackgroundColour id colour) = has (one refl refl)
each_command_has_its_row (ChangeNumericValue id value) = has (one refl refl)
each_command_has_its_row (ChangeEndPoint id width height direction) = has (one refl refl)
each_command_has_its_row (ChangeFontAttributes id colour size type style) = has (one refl refl)
each_command_has_its_row (ChangeLineAttributes id colour width art) = has (one refl refl)
each_command_has_its_row (ChangeFillAttributes id type colour pattern) = has (one refl refl)
each_command_has_its_row (ChangeActiveMask set mask) = has (active_mask refl refl)
each_command_has_its_row (ChangeSoftKeyMask type mask keys) = has (one refl refl)
each_command_has_its_row (ChangeAttribute id number value) = has (one refl refl)
each_command_has_its_row (ChangePriority id priority) = has (one refl refl)
each_command_has_its_row (ChangeListItem id index item) = has (nothing refl)
each_command_has_its_row DeletePool = has (nothing refl)
each_command_has_its_row (ChangeStringValue id length text) = has (one refl refl)
each_command_has_its_row (ChangeChildPosition parent child x y) = has (one refl refl)
each_command_has_its_row (ExecuteMacro id) = has (one refl refl)
