use Rattle.std.proofs.Common.{◌≡◌, arith, refl}
use Rattle.vmv_check.specs.Walker.{walk_of}
use Rattle.vmv_check.proofs.Match.{matches}
use Rattle.vmv_check.proofs.walk.Walker.is_match.Goals as goal

pub returns : goal.returns
returns c =
    let same : c.args.row.now.input.vars ≡ c.args.args.now.vars = omega arith in (
      λ t. matches (walk_of c.args.self.now) c.args.callee.0 c.args.args.now c.args.row.now c.proc_name-name.result c.requires.callee c.requires.one c.proc_name-name.ensures (c.if-not-is_name.ensures.0 refl) same (c.below.ensures.0 t),
      λ m. c.below.ensures.1 m.above,
    )
