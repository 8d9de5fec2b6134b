use Rattle.std.proofs.Common.{subst}
use Rattle.vmv_assumption.specs.Assumed.{cond_of}
use Rattle.vmv_enough.specs.declared.plan.Subject.{Subject}
use Rattle.vmv_enough.specs.Plan.{IsJudged}
use Rattle.vmv_enough.proofs.Lists.{same_there}
use Rattle.vmv_enough.proofs.Judged.{subject_is}
use Rattle.vmv_enough.proofs.judge.Judging.unproved.Goals as goal

pub unproved_sites-requires-clause-thresholds : goal.unproved_sites-requires-clause-thresholds
unproved_sites-requires-clause-thresholds c =
    let plan = c.args.self.now.plan.now in
    let at = subject_is plan.subjects _ c.args.place c.index-subjects-place.result c.as_slice-subjects.ensures c.requires.place c.index-subjects-place.is in
    (plan.ends, (c.requires.plan.subjects.each c.args.place c.index-subjects-place.result at).0.thresholds)

pub returns : goal.returns
returns c = λ subject there.
    let self = c.args.self.now in
    let at = subject_is self.plan.now.subjects _ c.args.place c.index-subjects-place.result c.as_slice-subjects.ensures c.requires.place c.index-subjects-place.is in
    let is = (c.requires.plan.subjects.each c.args.place c.index-subjects-place.result at).0 in
    subst (λ (s : Subject). IsJudged self.base.now self.plan.now.ends (cond_of self.assumed.now) s.entry.0 c.in_ok-sites.sites) (same_there self.plan.now.subjects c.args.place c.index-subjects-place.result subject at there)
    (record { decides = λ site. c.in_ok-sites.ensures.provable self.plan.now.ends site is.thresholds; sites = c.in_ok-sites.ensures.sites })
