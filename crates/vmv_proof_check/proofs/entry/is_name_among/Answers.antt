use Rattle.std.proofs.Common.{◌≡◌, refl}
use Rattle.vmv_tree.specs.declared.name.Name.{Name}
use Rattle.vmv_check.proofs.Lists.{upto_more, upto_end}
use Rattle.vmv_proof_check.proofs.entry.is_name_among.Goals as goal

pub loop-other-preserved : goal.loop-other-preserved
loop-other-preserved c =
    upto_more (λ (x : Name). x ≡ c.args.name.now → ⊥) c.args.names.now c.loop-other.other-index c.other-item.result c.loop-other-test.true c.other-item.is c.loop-other.invariant
    (λ e. let t = c.if-is_name.ensures.1 e in absurd (cc))

pub returns : goal.returns
returns c = (
  λ t. absurd (cc),
  λ there. absurd (upto_end (λ (x : Name). x ≡ c.args.name.now → ⊥) c.args.names.now c.loop-other.other-index c.loop-other-test.false c.loop-other.invariant c.args.name.now there refl),
)
