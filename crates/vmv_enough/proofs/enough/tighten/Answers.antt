use Rattle.std.proofs.Common.{rules, List, sym, subst}
use Rattle.std.specs.List.{Contains}
use Rattle.vmv_tree.specs.declared.name.Name.{Name}
use Rattle.vmv_assumption.specs.Assumed.{cond_of}
use Rattle.vmv_enough.proofs.Opened.{open_name}
use Rattle.vmv_enough.proofs.Steps.{demand_step, level_step}
use Rattle.vmv_enough.proofs.enough.tighten.Goals as goal

pub meet_demand-requires : goal.meet_demand-requires
meet_demand-requires c =
    subst (λ (xs : List Name). Contains xs c.in-Some.demand.name) (sym c.requires.names) (open_name c.args.base.now c.args.plan.now (cond_of c.args.assumed.now) c.in-Some.demand c.requires.plan c.in-Some.ensures.some)

pub returns-in-Some-clause-some : goal.returns-in-Some-clause-some
returns-in-Some-clause-some c =
    let there = open_name c.args.base.now c.args.plan.now (cond_of c.args.assumed.now) c.in-Some.demand c.requires.plan c.in-Some.ensures.some in
    demand_step c.args.base.now c.args.plan.now.ends (cond_of c.args.assumed.now) (cond_of c.meet_demand.new.assumed) c.args.taken c.in-Some.demand c.requires.taken there c.in-Some.ensures.some c.meet_demand.ensures.met

pub returns-then-taken-lt4-clause-some : goal.returns-then-taken-lt4-clause-some
returns-then-taken-lt4-clause-some c =
    level_step c.args.base.now c.args.plan.now.ends (cond_of c.args.assumed.now) (cond_of c.keep_to_level.new.assumed) c.args.taken _ c.if-taken-lt4.true
    (search rules) c.in_default.ensures.none c.keep_to_level.ensures.levelled
