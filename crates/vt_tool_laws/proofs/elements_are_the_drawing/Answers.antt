use Rattle.vt_tool_laws.proofs.WholePictures.{elements_shown}
use Rattle.vt_tool_laws.proofs.elements_are_the_drawing.Goals as goal

pub returns : goal.returns
returns c = elements_shown
