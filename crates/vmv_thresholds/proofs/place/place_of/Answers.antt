use Rattle.std.proofs.Common.{◌≡◌, ◌+◌, sym, subst, arith, ◌∙◌}
use Rattle.vmv_thresholds.proofs.Placed.{Sought, sought_here, sought_less, sought_past, sought_none}
use Rattle.vmv_thresholds.proofs.place.place_of.Goals as goal
use Rattle.vmv_thresholds.proofs.place.place_of.Goals.{then-is_proc+else-before-eq0, else-is_proc}

pub returns-then-before-eq0-clause-place : goal.returns-then-before-eq0-clause-place
returns-then-before-eq0-clause-place c =
    sought_here c.args.items.now c.args.number c.loop-place.place c.index-items-place.result c.loop-place-test.true c.index-items-place.is (sym c.is_proc.ensures ∙ c.if-is_proc.true)
    (subst (λ b. Sought c.args.items.now c.args.number b c.loop-place.place) c.if-before-eq0.true c.loop-place.invariant)

pub loop-place-preserved : goal.loop-place-preserved
loop-place-preserved c =
    elim c.if-is_proc.branch [
      | then-is_proc+else-before-eq0 w ↦
          let less : c.loop-place.before ≡ 1 + c.if-is_proc.before = omega (arith, w.before-is, w.if-before-eq0.false) in
          sought_less c.args.items.now c.args.number c.loop-place.before c.if-is_proc.before c.loop-place.place c.index-items-place.result c.loop-place-test.true c.index-items-place.is
          (sym c.is_proc.ensures ∙ w.if-is_proc.true) less c.loop-place.invariant
      | else-is_proc w ↦
          subst (λ b. Sought c.args.items.now c.args.number b (c.loop-place.place + 1)) (sym w.before-is)
          (sought_past c.args.items.now c.args.number c.loop-place.before c.loop-place.place c.index-items-place.result c.loop-place-test.true c.index-items-place.is
          (sym c.is_proc.ensures ∙ w.if-is_proc.false) c.loop-place.invariant)
    ]

pub returns : goal.returns
returns c = absurd (sought_none c.args.items.now c.args.number c.loop-place.before c.loop-place.place c.loop-place-test.false c.loop-place.invariant c.requires)
