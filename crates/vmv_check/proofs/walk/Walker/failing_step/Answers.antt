use Rattle.std.proofs.Common.{IsOk, refl, rules}
use Rattle.vmv_check.specs.Walker.{walk_of}
use Rattle.vmv_check.proofs.Bodies.{no_proc, not_formed, ok_walks}
use Rattle.vmv_check.proofs.walk.Walker.failing_step.Goals as goal

pub returns-in_default-clause-fails : goal.returns-in_default-clause-fails
returns-in_default-clause-fails c = no_proc (walk_of c.args.self.now) (λ h. let s = c.find_proc.ensures.found.1 h in search rules)

pub returns-then-not-is_formed-clause-fails : goal.returns-then-not-is_formed-clause-fails
returns-then-not-is_formed-clause-fails c = not_formed (walk_of c.args.self.now) c.in-Some.proc.0 c.requires c.in-Some.ensures.named (λ s. let t = c.if-not-is_formed.ensures.1 s in absurd (cc))

pub returns-in-Ok-clause-holds : goal.returns-in-Ok-clause-holds
returns-in-Ok-clause-holds c none =
    let is : IsOk c.walk_body.result = search rules in
    ok_walks (walk_of c.args.self.now) c.in-Some.proc.0 c.walk_body.result c.walk_body.ensures.0 (c.if-not-is_formed.ensures.0 refl) c.walk_body.ensures.1 is
