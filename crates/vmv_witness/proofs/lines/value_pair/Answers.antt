use Rattle.std.proofs.Common.{refl}
use Rattle.std.specs.Prelude.{ℤ}
use Rattle.std.specs.Fmt.{signed_decimal}
use Rattle.vmv_tree.specs.declared.name.Name.{Name}
use Rattle.vmv_witness.specs.Numbers.{IsValue}
use Rattle.std.proofs.lemmas.Bool.{false≢true}
use Rattle.vmv_witness.proofs.Parts.{pair_not_named, pair_ill}
use Rattle.vmv_witness.proofs.lines.value_pair.Goals as goal

pub returns-in_default-read : goal.returns-in_default-read
returns-in_default-read c =
    pair_not_named 32 refl c.args.bytes.now c.in-Some.name.now c.in-Some.number.now c.in-Some.ensures.some (λ h. false≢true (c.in_default-read.ensures.some.1 h))

pub returns-in-Err : goal.returns-in-Err
returns-in-Err c =
    pair_ill {A = Name × ℤ} {B = ℤ} 32 refl (λ p. p.0) (λ p. signed_decimal p.1) signed_decimal IsValue c.args.bytes.now c.in-Some.name.now c.in-Some.number.now c.in-Err.ill c.in-Some.ensures.some (c.in-Some-read.ensures.some.0 refl) c.in-Err.ensures
