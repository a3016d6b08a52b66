use Rattle.std.proofs.Common.{refl}
use Rattle.draw_shapes.proofs.References.{refers}
use Rattle.vt_tool_laws.proofs.shapes_refer_to_their_picture.Goals as goal

pub returns : goal.returns
returns c = record { right = refers; shown = λ sizes store id p. refl }
