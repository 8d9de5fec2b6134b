use Rattle.std.proofs.Common.{refl, sym, subst}
use Rattle.std.proofs.lemmas.Bool.{false≢true}
use Rattle.vmv_witness.specs.Numbers.{IsNumber}
use Rattle.vmv_proof_line.proofs.SiteWords.{site_once, not_named}
use Rattle.vmv_proof_line.proofs.left.is_site_loosely.Goals as goal

pub returns-in_default-read : goal.returns-in_default-read
returns-in_default-read c = (
  λ t. absurd (false≢true t),
  λ h. absurd (not_named c.args.word.now c.in-Some.name.now c.in-Some.number.now h.0.0 h.0.1 c.in-Some.ensures.some (λ n. false≢true (c.in_default-read.ensures.some.1 n)) h.1.0 h.2),
)

pub returns : goal.returns
returns c =
    let split = c.in-Some.ensures.some in (
      λ t. ((c.in-Some.name.now, c.in-Some.number.now), (c.in-Some-read.ensures.some.0 refl, c.is_number.ensures.0 t), split.1),
      λ h. c.is_number.ensures.1 (subst IsNumber (sym (site_once c.args.word.now c.in-Some.name.now c.in-Some.number.now h.0.0 h.0.1 split h.1.0 h.2).1) h.1.1),
    )
