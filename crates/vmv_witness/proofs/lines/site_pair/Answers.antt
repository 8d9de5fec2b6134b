use Rattle.std.proofs.Common.{refl, ℕ}
use Rattle.std.specs.Fmt.{decimal}
use Rattle.vmv_tree.specs.declared.site.NamedSite.{NamedSite}
use Rattle.vmv_witness.specs.Numbers.{IsSiteNumber}
use Rattle.std.proofs.lemmas.Bool.{false≢true}
use Rattle.vmv_witness.proofs.Parts.{pair_not_named, pair_ill}
use Rattle.vmv_witness.proofs.lines.site_pair.Goals as goal

pub returns-in_default-read : goal.returns-in_default-read
returns-in_default-read c =
    pair_not_named 35 refl c.args.bytes.now c.in-Some.name.now c.in-Some.number.now c.in-Some.ensures.some (λ h. false≢true (c.in_default-read.ensures.some.1 h))

pub returns-in-Err : goal.returns-in-Err
returns-in-Err c =
    pair_ill {A = NamedSite} {B = ℕ} 35 refl (λ s. s.proc) (λ s. decimal s.index) decimal IsSiteNumber c.args.bytes.now c.in-Some.name.now c.in-Some.number.now c.in-Err.ill c.in-Some.ensures.some (c.in-Some-read.ensures.some.0 refl) c.in-Err.ensures
