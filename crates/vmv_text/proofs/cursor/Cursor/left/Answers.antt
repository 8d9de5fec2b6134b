use Rattle.std.proofs.Common.{length, ◌∙◌, ap}
use Rattle.vmv_text.specs.Faults.{left_from}
use Rattle.vmv_text.proofs.Unrolled.{front_left}
use Rattle.vmv_text.proofs.cursor.Cursor.left.Goals as goal

pub returns : goal.returns
returns c = ap length (front_left c.self.inside.language c.self.inside.front.token _ _ c.self.invariant ∙ ap left_from c.self.view_is)
