use Rattle.std.proofs.Common.{inl, inr, refl}
use Rattle.vmv_enough.proofs.Levelled.{level_meet}
use Rattle.vmv_enough.proofs.levels.kept_to.Goals as goal

pub returns-then-is_empty : goal.returns-then-is_empty
returns-then-is_empty c = record {
  met = c.meet-met.result;
  meet = level_meet c.args.level c.args.had c.level_cond.result c.meet-met.result c.level_cond.ensures c.meet-met.ensures;
  choice = inr (c.is_empty.ensures.empty.0 c.if-is_empty.true, refl);
}

pub returns-else-is_empty : goal.returns-else-is_empty
returns-else-is_empty c = record {
  met = c.meet-met.result;
  meet = level_meet c.args.level c.args.had c.level_cond.result c.meet-met.result c.level_cond.ensures c.meet-met.ensures;
  choice = inl (λ h. let t = c.is_empty.ensures.empty.1 h in let f = c.if-is_empty.false in absurd (cc), refl);
}
