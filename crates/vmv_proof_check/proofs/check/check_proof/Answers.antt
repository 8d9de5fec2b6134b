use Rattle.std.proofs.Common.{List, subst}
use Rattle.vmv_assumption.specs.Assumed.{cond_of}
use Rattle.vmv_proof.specs.declared.proof.Exclusion.{Exclusion}
use Rattle.vmv_proof.specs.declared.proof.Shown.{Shown}
use Rattle.vmv_proof_check.specs.Cuts.{IsCutBy}
use Rattle.vmv_proof_check.specs.Parts.{AllPass, IsShaped}
use Rattle.vmv_proof_check.specs.Proofs.{IsProofAccepted}
use Rattle.vmv_proof_check.proofs.Correct.{accepted_correct}
use Rattle.vmv_proof_check.proofs.Finishing.{all_accepted, shown_refused}
use Rattle.vmv_proof_check.proofs.check.check_proof.Goals as goal

pub returns-in-Ok-clause-accepted : goal.returns-in-Ok-clause-accepted
returns-in-Ok-clause-accepted c =
    let X : List Exclusion → Type 0 = λ xs. AllPass c.args.base.now xs in
    let C : List Exclusion → Type 0 = λ xs. IsCutBy xs (cond_of c.in_ok-cut.cut) in
    let S : List Shown → Type 0 = λ ss. IsShaped c.args.revision.now ss in
    let pass : AllPass c.args.base.now c.args.proof.now.exclusions = subst X c.as_slice.ensures c.in_ok-cut.ensures.pass in
    let cut : IsCutBy c.args.proof.now.exclusions (cond_of c.in_ok-cut.cut) = subst C c.as_slice.ensures c.in_ok-cut.ensures.cut.cut in
    let shaped : IsShaped c.args.revision.now c.args.proof.now.shown = subst S c.as_slice-2.ensures (c.in_ok-is_shaped.ensures.0 c.if-not-branch.false) in
    all_accepted c.args.base.now c.args.proof.now _ pass c.as_slice-3.ensures cut c.in-Ok.claims shaped c.in-Ok.ensures.tallied

pub returns-in-Ok-clause-correct : goal.returns-in-Ok-clause-correct
returns-in-Ok-clause-correct c =
    let X : List Exclusion → Type 0 = λ xs. AllPass c.args.base.now xs in
    let C : List Exclusion → Type 0 = λ xs. IsCutBy xs (cond_of c.in_ok-cut.cut) in
    let S : List Shown → Type 0 = λ ss. IsShaped c.args.revision.now ss in
    let pass : AllPass c.args.base.now c.args.proof.now.exclusions = subst X c.as_slice.ensures c.in_ok-cut.ensures.pass in
    let cut : IsCutBy c.args.proof.now.exclusions (cond_of c.in_ok-cut.cut) = subst C c.as_slice.ensures c.in_ok-cut.ensures.cut.cut in
    let shaped : IsShaped c.args.revision.now c.args.proof.now.shown = subst S c.as_slice-2.ensures (c.in_ok-is_shaped.ensures.0 c.if-not-branch.false) in
    let ok : IsProofAccepted c.args.base.now c.args.revision.now c.args.proof.now c.in-Ok.claims = all_accepted c.args.base.now c.args.proof.now _ pass c.as_slice-3.ensures cut c.in-Ok.claims shaped c.in-Ok.ensures.tallied in
    accepted_correct c.args.base.now c.args.revision.now c.args.proof.now c.in-Ok.claims c.program-base.ensures.resolution c.program-revision.ensures.resolution ok

pub returns-clause-refused : goal.returns-clause-refused
returns-clause-refused c =
    let X : List Exclusion → Type 0 = λ xs. AllPass c.args.base.now xs in
    let C : List Exclusion → Type 0 = λ xs. IsCutBy xs (cond_of c.in_ok-cut.cut) in
    let S : List Shown → Type 0 = λ ss. IsShaped c.args.revision.now ss in
    let pass : AllPass c.args.base.now c.args.proof.now.exclusions = subst X c.as_slice.ensures c.in_ok-cut.ensures.pass in
    let cut : IsCutBy c.args.proof.now.exclusions (cond_of c.in_ok-cut.cut) = subst C c.as_slice.ensures c.in_ok-cut.ensures.cut.cut in
    let shaped : IsShaped c.args.revision.now c.args.proof.now.shown = subst S c.as_slice-2.ensures (c.in_ok-is_shaped.ensures.0 c.if-not-branch.false) in
    shown_refused c.args.base.now c.args.proof.now _ pass c.as_slice-3.ensures cut c.in-Err.why shaped c.in-Err.ensures.refused
