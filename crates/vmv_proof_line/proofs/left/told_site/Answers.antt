use Rattle.std.specs.Fmt.{decimal}
use Rattle.std.proofs.lemmas.Bool.{false≢true}
use Rattle.vmv_proof_line.proofs.SiteWords.{site_once, not_named}
use Rattle.vmv_proof_line.proofs.left.told_site.Goals as goal

pub returns-in_default-read : goal.returns-in_default-read
returns-in_default-read c =
    λ s h. not_named c.args.word.now c.in-Some.name.now c.in-Some.number.now s.proc (decimal s.index) c.in-Some.ensures.some (λ n. false≢true (c.in_default-read.ensures.some.1 n)) h.0.named h.1

pub returns-in-None : goal.returns-in-None
returns-in-None c =
    λ s h. c.in-None.ensures s.index (h.0.small, (site_once c.args.word.now c.in-Some.name.now c.in-Some.number.now s.proc (decimal s.index) c.in-Some.ensures.some h.0.named h.1).1)
