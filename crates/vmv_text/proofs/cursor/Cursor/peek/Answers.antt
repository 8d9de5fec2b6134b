use Rattle.std.proofs.Common.{◌∙◌, ap}
use Rattle.vmv_text.specs.Reading.{first_of}
use Rattle.vmv_text.proofs.Unrolled.{front_first}
use Rattle.vmv_text.proofs.cursor.Cursor.peek.Goals as goal

pub returns : goal.returns
returns c = front_first c.self.inside.language c.self.inside.front.token _ _ ∙ ap first_of c.self.view_is
