use Rattle.std.proofs.Common.{List, Option, take, sym, subst}
use Rattle.vmv_snapshot.proofs.Zips.{take_one_more}
use Rattle.vmv_check.specs.declared.refused.Refused.{Refused}
use Rattle.vmv_proof.specs.declared.proof.Exclusion.{Exclusion}
use Rattle.vmv_proof_check.specs.Parts.{ExclusionTurns, passes}
use Rattle.vmv_proof_check.specs.Work.{AreCuts, turn_of}
use Rattle.vmv_proof_check.proofs.Lists.{none_in}
use Rattle.vmv_proof_check.proofs.Excluding.{none_pass, name_passing, pass_next, named_next, refused_here}
use Rattle.vmv_proof_check.proofs.exclusion.check_exclusions.Goals as goal

pub loop-i-init : goal.loop-i-init
loop-i-init c = record { cuts = c.in_ok-cuts.ensures; pass = none_pass c.args.base.now; named = λ x there. absurd (none_in x there) }

pub returns-in-Some-clause-refused : goal.returns-in-Some-clause-refused
returns-in-Some-clause-refused c =
    refused_here c.args.base.now c.args.exclusions.now c.loop-i.i c.index-exclusions-i.result c.loop-i-test.true c.index-exclusions-i.is c.in-Some.at.row c.in-Some.at.step c.loop-i.invariant.pass
    (subst (λ (o : Option Refused). ExclusionTurns c.args.base.now (take c.loop-i.i c.args.exclusions.now) c.index-exclusions-i.result (turn_of o)) c.in-Some.is c.in_ok-at.ensures)

pub loop-i-preserved : goal.loop-i-preserved
loop-i-preserved c =
    let turn : ExclusionTurns c.args.base.now (take c.loop-i.i c.args.exclusions.now) c.index-exclusions-i.result passes =
    subst (λ (o : Option Refused). ExclusionTurns c.args.base.now (take c.loop-i.i c.args.exclusions.now) c.index-exclusions-i.result (turn_of o)) c.in-None.is c.in_ok-at.ensures in
    record {
      cuts = subst (λ (ys : List Exclusion). AreCuts c.args.base.now ys c.add.new.self) (sym (take_one_more c.args.exclusions.now c.loop-i.i c.index-exclusions-i.result c.loop-i-test.true c.index-exclusions-i.is))
          (c.in_ok-add-in-None.ensures c.args.base.now c.loop-i.invariant.cuts (name_passing c.args.base.now (take c.loop-i.i c.args.exclusions.now) c.index-exclusions-i.result turn));
      pass = pass_next c.args.base.now c.args.exclusions.now c.loop-i.i c.index-exclusions-i.result c.loop-i-test.true c.index-exclusions-i.is c.loop-i.invariant.pass turn;
      named = named_next c.args.base.now c.args.exclusions.now c.loop-i.i c.index-exclusions-i.result c.loop-i-test.true c.index-exclusions-i.is c.loop-i.invariant.named turn;
    }
