use Rattle.pts_bytes.proofs.Utf8.{not_utf8, has_utf8}
use Rattle.pts_bytes.proofs.text.text_of.Goals as goal

pub returns-in-Err : goal.returns-in-Err
returns-in-Err c = not_utf8 _ c.in-Err.ensures.cases.0

pub returns-in-Ok : goal.returns-in-Ok
returns-in-Ok c = (has_utf8 _ c.in-Ok.ensures.cases.1, c.in-Ok.ensures.cases.0)
