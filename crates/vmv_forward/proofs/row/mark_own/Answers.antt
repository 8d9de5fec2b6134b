use Rattle.std.proofs.Common.{◌+◌, Bool, List, sym, subst, arith}
use Rattle.vmv_forward.specs.Rows.{IsOwn, AreMarkedBy}
use Rattle.vmv_forward.proofs.Stepping.{untold}
use Rattle.vmv_forward.proofs.Flagging.{Upto, upto_start, upto_mark, upto_skip, upto_end}
use Rattle.vmv_forward.proofs.row.mark_own.Goals.{then-is_flagged, else-is_flagged}
use Rattle.vmv_forward.proofs.row.mark_own.Goals as goal

pub loop-before-init : goal.loop-before-init
loop-before-init c = upto_start (λ i. IsOwn c.args.instance.now c.args.proc.0 (i + 1)) c.args.marks.now

pub loop-before-preserved : goal.loop-before-preserved
loop-before-preserved c =
    elim c.if-is_flagged.branch [
      | then-is_flagged w ↦
          subst (λ (l : List Bool). AreMarkedBy (Upto (λ i. IsOwn c.args.instance.now c.args.proc.0 (i + 1)) (c.loop-before.before + 1)) c.args.marks.now l) (sym w.marks-is)
          (upto_mark (λ i. IsOwn c.args.instance.now c.args.proc.0 (i + 1)) c.args.marks.now c.loop-before.marks c.loop-before.before (let h = c.loop-before-test.true in let n = c.requires in omega arith) (c.is_flagged.ensures.0 w.if-is_flagged.true) c.loop-before.invariant)
      | else-is_flagged w ↦
          subst (λ (l : List Bool). AreMarkedBy (Upto (λ i. IsOwn c.args.instance.now c.args.proc.0 (i + 1)) (c.loop-before.before + 1)) c.args.marks.now l) (sym w.marks-is)
          (upto_skip (λ i. IsOwn c.args.instance.now c.args.proc.0 (i + 1)) c.args.marks.now c.loop-before.marks c.loop-before.before (untold c.is_flagged.result w.if-is_flagged.false c.is_flagged.ensures.1) c.loop-before.invariant)
    ]

pub returns : goal.returns
returns c = upto_end (λ i. IsOwn c.args.instance.now c.args.proc.0 (i + 1)) c.args.marks.now c.loop-before.marks c.loop-before.before (let h = c.loop-before-test.false in let n = c.requires in omega arith) c.loop-before.invariant
