use Rattle.std.proofs.Common.{◌↔◌, IsTrue, subst}
use Rattle.vmv_assumption.specs.Assumed.{cond_of}
use Rattle.vmv_need.specs.declared.candidate.Candidate.{Candidate}
use Rattle.vmv_need.specs.Acts.{Acts}
use Rattle.vmv_need.proofs.Lists.{at_in, got_at}
use Rattle.vmv_need.proofs.judge.Judging.judge.Goals as goal

pub acts-requires-clause-candidate : goal.acts-requires-clause-candidate
acts-requires-clause-candidate c = at_in _ _ c.args.place _ c.requires.place c.index.ensures c.requires.ready.planned.candidates

pub returns : goal.returns
returns c = λ d at.
    let self = c.args.self.now in
    subst (λ (x : Candidate). IsTrue c.in_ok-acts.acts ↔ Acts self.base.now self.plan.now.scope (cond_of self.frozen.now) x) (got_at _ c.args.place _ d c.requires.place c.index.ensures at) c.in_ok-acts.ensures
