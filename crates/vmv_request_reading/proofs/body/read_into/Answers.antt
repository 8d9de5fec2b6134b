-- The room is filled behind the bytes that were put first.
use Rattle.std.proofs.Common.{List, ℕ, subst}
use Rattle.std.specs.Prelude.{OnOk}
use Rattle.vmv_request_reading.specs.Inputs.{IsFilled}
use Rattle.vmv_request_reading.proofs.body.read_into.Goals as goal

pub returns-clause-filled : goal.returns-clause-filled
returns-clause-filled g c =
    let P : List ℕ → Type 0 = λ l. OnOk c.fill.result (IsFilled (g.L.Link.input c.args.link.now) (g.L.Link.input c.fill.new.link) l c.fill.new.room) in
    subst P c.put_first.ensures c.fill.ensures.filled
