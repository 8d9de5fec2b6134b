use Rattle.std.proofs.Common.{List, sym, subst}
use Rattle.vmv_snapshot.specs.Resolution.{Resolution}
use Rattle.vmv_need.specs.declared.cut.Cut.{Cut}
use Rattle.vmv_proving.specs.Exclusions.{AreRecorded, AreExclusions}
use Rattle.vmv_review_proof.proofs.Basing.{recorded, proof_is}
use Rattle.vmv_review_proof.proofs.making.proof_by.Goals as goal

pub exclusions_of-requires : goal.exclusions_of-requires
exclusions_of-requires c =
    let based = c.args.baseline.now in
    let ends = c.args.ends.now in
    let are = recorded based ends c.args.needed.now c.args.cuts.now c.base.ensures.found c.requires.needed c.requires.ends in
    subst (λ (b : Resolution). AreRecorded b ends c.as_slice.result.now) (sym c.base.ensures.base) (subst (λ (cs : List Cut). AreRecorded based.base ends cs) (sym c.as_slice.ensures) are)

pub returns-clause-proof : goal.returns-clause-proof
returns-clause-proof c =
    let based = c.args.baseline.now in
    let ends = c.args.ends.now in
    let told =
    subst (λ (cs : List Cut). AreExclusions based.base ends cs c.in_ok-exclusions.exclusions) c.as_slice.ensures
    (subst (λ (b : Resolution). AreExclusions b ends c.as_slice.result.now c.in_ok-exclusions.exclusions) c.base.ensures.base c.in_ok-exclusions.ensures) in
    proof_is based c.args.revision.now ends c.args.needed.now c.args.cuts.now _ c.base.ensures.found c.requires.needed c.requires.ends told c.in_ok-shown.ensures
