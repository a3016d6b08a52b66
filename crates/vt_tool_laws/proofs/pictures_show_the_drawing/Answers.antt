use Rattle.vt_tool_laws.proofs.WholePictures.{picture_shows}
use Rattle.vt_tool_laws.proofs.pictures_show_the_drawing.Goals as goal

pub returns : goal.returns
returns c = picture_shows
