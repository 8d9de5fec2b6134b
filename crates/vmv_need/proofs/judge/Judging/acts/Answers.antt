use Rattle.std.proofs.Common.{◌↔◌, Bool, IsTrue, List, ap, sym, subst, ◌∙◌}
use Rattle.vmv_tree.specs.declared.name.Name.{Name}
use Rattle.vmv_cond.specs.declared.cond.Cond.{Cond}
use Rattle.std.specs.List.{Contains}
use Rattle.vmv_assumption.specs.Assumed.{names_of, cond_of}
use Rattle.vmv_assumption.specs.Change.{IsKept}
use Rattle.vmv_cert.specs.Tables.{Dead}
use Rattle.vmv_need.specs.Acts.{Meets}
use Rattle.vmv_need.proofs.Fit.{candidate_fits}
use Rattle.vmv_need.proofs.Deaths.{acts_is}
use Rattle.vmv_need.proofs.judge.Judging.acts.Goals as goal

pub death_of-requires-clause-entry : goal.death_of-requires-clause-entry
death_of-requires-clause-entry c = (candidate_fits _ _ c.requires.ready.planned.scope c.requires.ready.planned.is_resolution c.args.candidate.now c.requires.candidate).0

pub returns : goal.returns
returns c =
    let self = c.args.self.now in
    let fits = candidate_fits _ _ c.requires.ready.planned.scope c.requires.ready.planned.is_resolution c.args.candidate.now c.requires.candidate in
    let held = subst (λ (names : List Name). Contains names c.args.candidate.now.name) (sym (ap names_of c.in_ok-kept.ensures ∙ c.requires.ready.names)) fits.1 in
    let kept = c.keep_to-held.ensures.conds (c.keep_to-held.ensures.held.1 held) in
    acts_is _ _ c.args.candidate.now (cond_of c.args.self.now.frozen.now) (cond_of c.keep_to-held.new.self) _
    (subst (λ (d : Cond). Meets d c.args.candidate.now.piece) c.get.ensures (c.meets.ensures.0 c.if-not-meets.false))
    (subst (λ (a : List (Name × Cond)). IsKept (cond_of a) c.args.candidate.now.name c.args.candidate.now.piece (cond_of c.keep_to-held.new.self)) c.in_ok-kept.ensures kept)
    (subst (λ (b : Bool). IsTrue b ↔ Dead self.base.now c.args.candidate.now.entry.0 c.args.candidate.now.within self.plan.now.scope.ends (cond_of c.keep_to-held.new.self)) (sym c.is_some.ensures) c.in_ok-death.ensures.dead)
