use Rattle.std.proofs.Common.{FitsSigned, rules}
use Rattle.std.specs.Int.{w128}
use Rattle.std.proofs.lemmas.Int.{to_z-of_z}
use Rattle.vmv_demands.proofs.Standing.{less_leads}
use Rattle.vmv_demands.proofs.sources.less.Goals as goal

pub returns : goal.returns
returns c = λ before stands want w.
    let by : FitsSigned w128 c.args.by = search rules in
    let one = simp to_z-of_z at (c.less.ensures want w) in
    less_leads before c.args.sources.now stands c.args.slot c.args.by c.less.result c.held.result c.moved.result want c.held.ensures (c.moved.ensures want w) one
