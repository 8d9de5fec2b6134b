use Rattle.std.proofs.Common.{◌≡◌}
use Rattle.vmv_proof.specs.declared.proof.Shown.{Shown}
use Rattle.vmv_check.proofs.Lists.{upto_more, upto_end}
use Rattle.vmv_report.proofs.proving.shown_for.Goals as goal

pub loop-own-preserved : goal.loop-own-preserved
loop-own-preserved c =
    upto_more (λ (own : Shown). own.entry ≡ c.args.name.now → ⊥) c.args.shown.now c.loop-own.own-index _ c.loop-own-test.true c.own-item.is c.loop-own.invariant
    (λ e. let t = c.if-is_named.ensures.1 e in absurd (cc))

pub returns-clause-none : goal.returns-clause-none
returns-clause-none c = λ own there. upto_end (λ (s : Shown). s.entry ≡ c.args.name.now → ⊥) c.args.shown.now c.loop-own.own-index c.loop-own-test.false c.loop-own.invariant own there
