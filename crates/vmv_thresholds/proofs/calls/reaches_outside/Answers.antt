use Rattle.std.proofs.Common.{ap, sym, refl, ◌∙◌, arith, below_more}
use Rattle.std.proofs.lemmas.Bool.{false≢true}
use Rattle.std.proofs.lemmas.Option.{slice_get_within}
use Rattle.vmv_snapshot.specs.Procs.{outsides}
use Rattle.vmv_snapshot.specs.Resolution.{tree_of, procs_of}
use Rattle.vmv_valid.specs.Names.{is_among}
use Rattle.vmv_thresholds.specs.Collect.{CallsFrom}
use Rattle.vmv_thresholds.proofs.Among.{among_in, in_among}
use Rattle.vmv_thresholds.proofs.calls.reaches_outside.Goals as goal

pub returns-then-not-is_among : goal.returns-then-not-is_among
returns-then-not-is_among c = (
  λ t. absurd (false≢true t),
  λ h.
      let all = c.is_among.ensures ∙ ap (λ names. is_among names c.args.name.now) c.outsides.ensures in
      absurd (false≢true (sym c.if-not-is_among.true ∙ (all ∙ in_among (outsides (tree_of c.args.snapshot.now)) c.args.name.now h.0))),
)

pub returns-then-calls_from : goal.returns-then-calls_from
returns-then-calls_from c =
    let all = c.is_among.ensures ∙ ap (λ names. is_among names c.args.name.now) c.outsides.ensures in
    let f = c.calls_from.ensures.0 c.if-calls_from.true in
    (λ t. (among_in (outsides (tree_of c.args.snapshot.now)) c.args.name.now (sym all ∙ c.if-not-is_among.false), (c.loop-n.n, f.0, f.1, f.2, f.3)), λ h. refl)

pub loop-n-preserved : goal.loop-n-preserved
loop-n-preserved c =
    below_more (λ k. CallsFrom (tree_of c.args.snapshot.now) c.args.from.0 c.args.name.now k → ⊥) c.loop-n.n c.loop-n.invariant
    (λ h. false≢true (sym c.if-calls_from.false ∙ c.calls_from.ensures.1 h))

pub returns : goal.returns
returns c = (
  λ t. absurd (false≢true t),
  λ h. absurd (c.loop-n.invariant h.1.0 (omega (arith, slice_get_within (procs_of c.args.snapshot.now) h.1.0 h.1.1 h.1.3)) (h.1.1, h.1.2, h.1.3, h.1.4)),
)
