use Rattle.std.proofs.Common.{sym, ◌∙◌, arith, below_more}
use Rattle.std.proofs.lemmas.Bool.{false≢true}
use Rattle.std.proofs.lemmas.Option.{slice_get_within}
use Rattle.vmv_snapshot.specs.Resolution.{tree_of, procs_of}
use Rattle.vmv_witness.specs.Fit.{IsSiteIn}
use Rattle.vmv_witness.proofs.fitting.has_site.Goals as goal

pub loop-n-preserved : goal.loop-n-preserved
loop-n-preserved c =
    below_more (λ m. IsSiteIn (tree_of c.args.snapshot.now) c.args.entry.0 c.args.site.now m → ⊥) c.loop-n.n c.loop-n.invariant
    (λ h. false≢true (sym c.if-is_site_in.false ∙ c.is_site_in.ensures.1 h))

pub returns : goal.returns
returns c =
    (λ t. absurd (false≢true t), λ h. absurd (c.loop-n.invariant h.0 (omega (arith, slice_get_within (procs_of c.args.snapshot.now) h.0 h.1.1.0 h.1.1.1)) h.1))
