use Rattle.std.proofs.Common.{inl, refl}
use Rattle.vmv_proof_check.specs.Work.{turn_of}
use Rattle.vmv_proof_check.proofs.Excluding.{few_ranges, turned}
use Rattle.vmv_proof_check.proofs.exclusion.turns.Goals as goal

pub returns-then-not-is_headed : goal.returns-then-not-is_headed
returns-then-not-is_headed c = inl (λ h. let t = c.if-not-is_headed.ensures.1 h in absurd (cc), refl)

pub tried-requires-clause-ranges : goal.tried-requires-clause-ranges
tried-requires-clause-ranges c = let h = c.if-not-is_headed.ensures.0 refl in few_ranges c.args.base.now h.number h.params c.args.x.now.entry c.args.x.now.within c.requires.resolution h.entry_is h.box_is

pub returns : goal.returns
returns c = turned c.args.base.now c.args.before.now c.args.x.now c.in_ok-assumed.assumed c.keep_to-held.new.self c.keep_to-held.result (turn_of c.tried.result) (c.if-not-is_headed.ensures.0 refl) (c.in_ok-assumed.ensures c.args.base.now c.requires.cuts c.requires.named) c.keep_to-held.ensures.held c.keep_to-held.ensures.conds c.tried.ensures
