use Rattle.std.proofs.Common.{refl}
use Rattle.vt_commands.specs.declared.command.Command.TheVariants.{HideShow, EnableDisable, ControlAudio, SetVolume, ChangeChildLocation, ChangeSize, ChangeBackgroundColour, ChangeNumericValue, ChangeEndPoint, ChangeFontAttributes, ChangeLineAttributes, ChangeFillAttributes, ChangeActiveMask, ChangeSoftKeyMask, ChangeAttribute, ChangePriority, ChangeListItem, DeletePool, ChangeStringValue, ChangeChildPosition, ExecuteMacro}
use Rattle.vt_laws.specs.RepliesInRows.{RepliesFitTheirRows, fits, neither, at}
use Rattle.vt_laws.proofs.replies_fit_their_rows.Goals as goal

replies-fit : RepliesFitTheirRows
replies-fit (HideShow id state) error = fits refl (at refl)
replies-fit (EnableDisable id state) error = fits refl (at refl)
replies-fit (ControlAudio count frequency on off) error = fits refl neither
replies-fit (SetVolume volume) error = fits refl neither
replies-fit (ChangeChildLocation parent child dx dy) error = fits refl (at refl)
replies-fit (ChangeSize id width height) error = fits refl (at refl)
replies-fit (ChangeBackgroundColour id colour) error = fits refl (at refl)
replies-fit (ChangeNumericValue id value) error = fits refl (at refl)
replies-fit (ChangeEndPoint id width height direction) error = fits refl (at refl)
replies-fit (ChangeFontAttributes id colour size type style) error = fits refl (at refl)
replies-fit (ChangeLineAttributes id colour width art) error = fits refl (at refl)
replies-fit (ChangeFillAttributes id type colour pattern) error = fits refl (at refl)
replies-fit (ChangeActiveMask set mask) error = fits refl (at refl)
replies-fit (ChangeSoftKeyMask type mask keys) error = fits refl (at refl)
replies-fit (ChangeAttribute id number value) error = fits refl (at refl)
replies-fit (ChangePriority id priority) error = fits refl (at refl)
replies-fit (ChangeListItem id index item) error = fits refl (at refl)
replies-fit DeletePool error = fits refl neither
replies-fit (ChangeStringValue id length text) error = fits refl (at refl)
replies-fit (ChangeChildPosition parent child x y) error = fits refl (at refl)
replies-fit (ExecuteMacro id) error = fits refl (at refl)

pub returns : goal.returns
returns c = replies-fit
