use Rattle.vmv_check.proofs.Orders.{same_told, apart_told}
use Rattle.vmv_check.proofs.sites.precedes.Goals as goal

pub returns-then-first-second : goal.returns-then-first-second
returns-then-first-second c =
    same_told c.args.snapshot.now c.in-Some.first.0 c.in-Some-find_proc.second.0 c.args.one.now c.args.other.now c.requires c.in-Some.ensures.named c.in-Some-find_proc.ensures.named c.if-first-second.true

pub returns : goal.returns
returns c =
    apart_told c.args.snapshot.now c.in-Some.first.0 c.in-Some-find_proc.second.0 c.args.one.now c.args.other.now c.requires c.in-Some.ensures.named c.in-Some-find_proc.ensures.named c.if-first-second.false
