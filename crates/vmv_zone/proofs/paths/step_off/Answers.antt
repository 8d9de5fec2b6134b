use Rattle.std.proofs.Common.{arith, rules, ◌*◌, ◌+◌}
use Rattle.std.proofs.lemmas.Int.{ints}
use Rattle.vmv_zone.specs.Bounds.{IsTight}
use Rattle.vmv_zone.proofs.Places.{stepped_off}
use Rattle.vmv_zone.proofs.paths.step_off.Goals as goal

pub returns-clause-relaxes : goal.returns-clause-relaxes
returns-clause-relaxes c =
    let ij = c.requires.reach (18 * c.args.i + c.args.j) in
    stepped_off (λ n. IsTight n c.args.marks.now c.args.vars) c.args.vars c.args.bounds.now c.args.i c.args.j (search rules) c.requires.vars c.requires.i c.requires.j c.requires.reach
    (omega (arith, ints)) c.requires.off
