use Rattle.std.proofs.Common.{refl, subst, IsTrue}
use Rattle.vmv_witness.specs.Reading.{lacks, SplitsAt}
use Rattle.std.proofs.Common.{◌-◌, ◌+◌, length, take, drop}
use Rattle.vmv_proof_read.proofs.Feeds.{nowhere_lacks, found_splits}
use Rattle.vmv_proof_read.proofs.lines.Lines.next.Goals as goal

pub returns-in_default-clause-none : goal.returns-in_default-clause-none
returns-in_default-clause-none c =
    (refl, subst (λ t. IsTrue (lacks 10 t)) c.self.view_is (nowhere_lacks 10 c.self.inside.left.now c.in_default.ensures))

pub returns-clause-ok : goal.returns-clause-ok
returns-clause-ok c =
    let left = c.self.inside.left.now in
    let at = c.in-Some.at in
    subst (λ t. SplitsAt 10 t (take at left) (take (length left - (at + 1)) (drop (at + 1) left))) c.self.view_is (found_splits 10 left at c.in-Some.ensures)
