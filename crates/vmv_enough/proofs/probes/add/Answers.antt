use Rattle.std.proofs.Common.{◌<◌, ◌≤◌, rules, subst}
use Rattle.vmv_assumption.specs.Assumed.{cond_of}
use Rattle.vmv_enough.proofs.Adding.{adds_left_out, adds_one, adds_full}
use Rattle.vmv_enough.proofs.probes.add.Goals as goal

pub returns-then-not-can_miss : goal.returns-then-not-can_miss
returns-then-not-can_miss c = adds_left_out (cond_of c.args.enough.now) c.args.probe c.args.probes.now (λ h. let t = c.can_miss.ensures.1 h in let f = c.if-not-can_miss.true in absurd (cc))

pub returns-then-len-lt1000 : goal.returns-then-len-lt1000
returns-then-len-lt1000 c =
    adds_one (cond_of c.args.enough.now) c.args.probe c.args.probes.now c.push.new.self (c.can_miss.ensures.0 (search rules)) (subst (λ n. n < 1000) c.len.ensures c.if-len-lt1000.true) c.in_ok-push.ensures.ok

pub returns : goal.returns
returns c = adds_full (cond_of c.args.enough.now) c.args.probe c.args.probes.now (c.can_miss.ensures.0 (search rules)) (subst (λ n. 1000 ≤ n) c.len.ensures c.if-len-lt1000.false)
