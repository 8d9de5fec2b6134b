use Rattle.std.proofs.Common.{◌+◌, IsNone, rules, subst}
use Rattle.vmv_assumption.specs.Assumed.{cond_of}
use Rattle.vmv_cert.specs.Tables.{Passes, Accepted, IsRefused}
use Rattle.vmv_check.proofs.Lists.{upto_more, upto_end}
use Rattle.vmv_check.proofs.Bodies.{refused_of}
use Rattle.vmv_check.proofs.table.check_table.Goals as goal

pub returns-in-Some-clause-refused : goal.returns-in-Some-clause-refused
returns-in-Some-clause-refused c =
    subst (λ rows. IsRefused c.args.snapshot.now (cond_of c.args.assumed.now) rows (c.loop-i.i + 1) c.in-Some.step) c.as_slice-rows.ensures
    (refused_of c.args.snapshot.now (cond_of c.args.assumed.now) c.as_slice-rows.result.now c.loop-i.i c.in-Some.step c.index-rows-i.result c.loop-i-test.true c.index-rows-i.is c.loop-i.invariant c.in-Some.ensures.fails)

pub loop-i-preserved : goal.loop-i-preserved
loop-i-preserved c =
    let none : IsNone c.failing_step.result = search rules in
    upto_more (Passes c.args.snapshot.now (cond_of c.args.assumed.now) c.as_slice-rows.result.now) c.as_slice-rows.result.now c.loop-i.i c.index-rows-i.result c.loop-i-test.true c.index-rows-i.is c.loop-i.invariant
    (c.failing_step.ensures.holds none)

pub returns-clause-accepted : goal.returns-clause-accepted
returns-clause-accepted c =
    subst (Accepted c.args.snapshot.now (cond_of c.args.assumed.now)) c.as_slice-rows.ensures
    (upto_end (Passes c.args.snapshot.now (cond_of c.args.assumed.now) c.as_slice-rows.result.now) c.as_slice-rows.result.now c.loop-i.i c.loop-i-test.false c.loop-i.invariant)
