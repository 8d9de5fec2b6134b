use Rattle.std.proofs.Common.{◌≡◌, neg_ℤ, FitsSigned, w64, rules}
use Rattle.std.specs.Int.{w128}
use Rattle.std.proofs.lemmas.Int.{to_z-of_z}
use Rattle.vmv_demands.proofs.Standing.{sum_left, sum_right, less_right}
use Rattle.vmv_demands.proofs.sources.computed.Goals as goal

pub returns-in-Lit-right : goal.returns-in-Lit-right
returns-in-Lit-right c = λ before stands want w.
    let word : FitsSigned w64 c.in-Lit-right.word = search rules in
    let by : FitsSigned w128 c.negated.result = search rules in
    let one = simp to_z-of_z at c.negated.ensures in
    let two = simp to_z-of_z at (c.less.ensures before stands want w) in
    sum_left before c.args.op c.args.left c.args.right c.in-Var.slot c.in-Lit-right.word c.negated.result c.less.result want c.in-Add.is c.in-Var.is c.in-Lit-right.is one two

pub returns-in-Var-right-2 : goal.returns-in-Var-right-2
returns-in-Var-right-2 c = λ before stands want w.
    let word : FitsSigned w64 c.in-Lit.word = search rules in
    let by : FitsSigned w128 c.negated-in-Var-right-2.result = search rules in
    let one = simp to_z-of_z at c.negated-in-Var-right-2.ensures in
    let two = simp to_z-of_z at (c.less-in-Var-right-2.ensures before stands want w) in
    sum_right before c.args.op c.args.left c.args.right c.in-Var-right-2.slot c.in-Lit.word c.negated-in-Var-right-2.result c.less-in-Var-right-2.result want c.in-Add.is c.in-Lit.is c.in-Var-right-2.is one two

pub returns-in-Lit-right-3 : goal.returns-in-Lit-right-3
returns-in-Lit-right-3 c = λ before stands want w.
    let word : FitsSigned w64 c.in-Lit-right-3.word = search rules in
    let by : FitsSigned w128 c.from.result = search rules in
    let one = simp to_z-of_z at c.from.ensures in
    let two = simp to_z-of_z at (c.less-in-Lit-right-3.ensures before stands want w) in
    less_right before c.args.op c.args.left c.args.right c.in-Var-left.slot c.in-Lit-right-3.word c.from.result c.less-in-Lit-right-3.result want c.in-Sub.is c.in-Var-left.is c.in-Lit-right-3.is one two
