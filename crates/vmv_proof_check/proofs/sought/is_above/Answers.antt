use Rattle.std.proofs.Common.{◌≡◌, arith, refl}
use Rattle.vmv_proof_check.proofs.AboveBoxes.{above_told}
use Rattle.vmv_proof_check.proofs.sought.is_above.Goals as goal

pub returns : goal.returns
returns c = λ program number box named is.
    (let same : c.args.row.now.input.vars ≡ c.args.sought.now.least.vars = omega arith in
    let told = c.is_below.ensures in
    above_told program number box c.args.sought.now c.args.row.now told.0 c.is_below.result named is (c.if-not-is_name.ensures.0 refl) same told.1 told.2)
