use Rattle.draw_picture.specs.Marks.{cut}
use Rattle.vt_tool_laws.proofs.FirstMarks.{first_ids, ids_counted}
use Rattle.vt_tool_laws.proofs.cut_marks_are_first.Goals as goal

pub returns : goal.returns
returns c = λ n m. (first_ids n m, ids_counted (cut n m))
