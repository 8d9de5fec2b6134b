use Rattle.std.proofs.Common.{List, sym, subst, ◌∙◌}
use Rattle.vmv_tree.specs.declared.name.Name.{Name}
use Rattle.vmv_cond.specs.declared.cond.Cond.{Cond}
use Rattle.vmv_snapshot.specs.Resolution.{Resolution}
use Rattle.vmv_assumption.specs.Assumed.{cond_of}
use Rattle.vmv_demands.specs.Ends.{AreEnds}
use Rattle.vmv_proof.specs.declared.proof.Shown.{Shown}
use Rattle.vmv_proving.specs.Shown.{AreShown}
use Rattle.vmv_review_proof.proofs.Basing.{held_is}
use Rattle.vmv_review_proof.proofs.judged.judge_with_proof.Goals as goal

pub proof_by-requires-clause-needed : goal.proof_by-requires-clause-needed
proof_by-requires-clause-needed g c = sym c.needed.ensures.needed ∙ c.in-Conditions.is

pub proof_by-requires-clause-ends : goal.proof_by-requires-clause-ends
proof_by-requires-clause-ends g c = subst (λ (b : Resolution). AreEnds b c.in_ok-ends-in-Conditions.ends) c.base.ensures.base c.in_ok-ends-in-Conditions.ensures

pub judge_by-requires-clause-ends : goal.judge_by-requires-clause-ends
judge_by-requires-clause-ends g c = λ κs within. subst (λ (b : Resolution). AreEnds b c.in_ok-ends-in-Conditions.ends) c.base.ensures.base c.in_ok-ends-in-Conditions.ensures

pub judge_by-requires-clause-shown : goal.judge_by-requires-clause-shown
judge_by-requires-clause-shown g c = λ κs within held cuts e.
    (let same = held_is c.args.baseline.now.needed c.in-Conditions.assumption held c.in-Conditions.cuts cuts (sym c.needed.ensures.needed ∙ c.in-Conditions.is) e in
    let there = subst (λ (ss : List Shown). AreShown c.args.revision.now c.in_ok-ends-in-Conditions.ends (cond_of c.in-Conditions.assumption) ss) (sym c.as_slice-shown.ensures) c.in_ok-proof-in-Conditions.ensures.shown in
    subst (λ (h : List (Name × Cond)). AreShown c.args.revision.now c.in_ok-ends-in-Conditions.ends (cond_of h) c.as_slice-shown.result.now) same there)
