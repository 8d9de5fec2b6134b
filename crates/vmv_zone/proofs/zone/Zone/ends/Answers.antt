use Rattle.std.proofs.Common.{arith, rules, ◌∙◌, ◌≡◌, FitsSigned, to_z, of_z}
use Rattle.std.specs.Int.{w64}
use Rattle.std.proofs.lemmas.Int.{ints}
use Rattle.vmv_zone.proofs.Words.{literal_low, literal_up, variable_low, variable_up}
use Rattle.vmv_zone.proofs.zone.Zone.ends.Goals as goal

pub returns-in-Lit : goal.returns-in-Lit
returns-in-Lit c =
    let fits : FitsSigned w64 c.in-Lit.c = search rules in
    let e : to_z w64 (of_z w64 c.in-Lit.c) ≡ c.in-Lit.c = omega (arith, ints) in
    rw c.in-Lit.is (record { lo = e ∙ literal_low c.args.self.now c.in-Lit.c c.requires.normal; hi = e ∙ literal_up c.args.self.now c.in-Lit.c c.requires.normal })

pub returns-in-Var : goal.returns-in-Var
returns-in-Var c =
    rw c.in-Var.is (record { lo = c.variable_ends.ensures.lo ∙ variable_low c.args.self.now c.in-Var.y; hi = c.variable_ends.ensures.hi ∙ variable_up c.args.self.now c.in-Var.y })
