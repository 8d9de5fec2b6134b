use Rattle.std.proofs.Common.{rules, FitsSigned}
use Rattle.std.specs.Int.{w128}
use Rattle.std.proofs.lemmas.Int.{to_z-of_z}
use Rattle.vmv_zone.proofs.four.least.Goals as goal

pub returns : goal.returns
returns c =
    let a : FitsSigned w128 c.args.a = c.ranges.a in
    let b : FitsSigned w128 c.args.b = c.ranges.b in
    let d : FitsSigned w128 c.args.c = c.ranges.c in
    let e : FitsSigned w128 c.args.d = c.ranges.d in
    let f : FitsSigned w128 c.min.result = search rules in
    let g : FitsSigned w128 c.min-2.result = search rules in
    let h : FitsSigned w128 c.min-3.result = search rules in
    let one = simp to_z-of_z at c.min.ensures.value in
    let two = simp to_z-of_z at c.min-2.ensures.value in
    let three = simp to_z-of_z at c.min-3.ensures.value in
    simp to_z-of_z (rw (three, one, two))
