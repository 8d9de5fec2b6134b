use Rattle.std.proofs.Common.{arith, rules}
use Rattle.vmv_zone.proofs.Bottoms.{stored_bottom}
use Rattle.vmv_zone.proofs.Extending.{operands_more, stored_of}
use Rattle.vmv_zone.proofs.Normed.{norm_itself}
use Rattle.vmv_zone.proofs.zone.Zone.store.Goals as goal

pub give-requires-clause-value : goal.give-requires-clause-value
give-requires-clause-value c = operands_more c.args.value _ _ (omega (arith, c.extend.ensures.extends.vars)) c.requires.value

pub returns-then-self : goal.returns-then-self
returns-then-self c = stored_bottom c.args.self.now c.args.to c.args.value c.requires.normal c.requires.few (search rules)

pub returns : goal.returns
returns c = stored_of c.args.self.now c.args.self.now c.extend.new.self c.give.new.self c.normalize_closed.new.self c.drop_to.new.self c.args.to c.args.value
    (norm_itself c.args.self.now c.requires.normal) c.requires.value c.extend.ensures.confines c.extend.ensures.extends c.give.ensures c.normalize_closed.ensures c.drop_to.ensures
