use Rattle.std.proofs.Common.{sym, ◌∙◌, arith, below_more}
use Rattle.std.proofs.lemmas.Bool.{false≢true}
use Rattle.std.proofs.lemmas.Option.{slice_get_within}
use Rattle.vmv_tree.specs.Tree.{entry}
use Rattle.vmv_snapshot.specs.Resolution.{tree_of, procs_of}
use Rattle.vmv_witness.specs.Fit.{HasEntry}
use Rattle.vmv_witness.proofs.fitting.entry_named.Goals as goal

pub loop-n-preserved : goal.loop-n-preserved
loop-n-preserved c =
    below_more (λ k. HasEntry (tree_of c.args.snapshot.now) c.args.name.now k → ⊥) c.loop-n.n c.loop-n.invariant
    (λ h. false≢true (sym c.if-is_entry_named.false ∙ c.is_entry_named.ensures.1 h))

pub returns-clause-none : goal.returns-clause-none
returns-clause-none c =
    λ n h. c.loop-n.invariant n (omega (arith, slice_get_within (procs_of c.args.snapshot.now) n (entry c.args.name.now h.0 h.1.0) h.1.1)) h
