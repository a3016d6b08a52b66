use Rattle.draw_picture.proofs.WrittenPictures.{picture_written, pictures_once}
use Rattle.vt_tool_laws.proofs.pictures_are_written_once.Goals as goal

pub returns : goal.returns
returns c = record { once = pictures_once; written = picture_written }
