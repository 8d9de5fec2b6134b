use Rattle.std.proofs.Common.{[], ◌∷◌, ◌++◌, bit_or, ap, ◌∙◌, arith}
use Rattle.std.proofs.lemmas.Nat.{one_shl}
use Rattle.vmv_snapshot.proofs.Marks.{rows_more}
use Rattle.vmv_snapshot.proofs.reach.reach_rows.Goals as goal

pub loop-i-preserved : goal.loop-i-preserved
loop-i-preserved c =
    rows_more c.args.procs.now c.loop-i.i c.loop-i.rows.items c.push.new.self.items c.index-procs-i.result c.block_reach-callees.result c.loop-i-test.true c.index-procs-i.is c.loop-i.invariant
    (λ n. rw (← c.as_slice.ensures.value, ← c.as_slice-in-loop-i.ensures) (c.block_reach-callees.ensures n))
    (c.in_ok-push.ensures.items ∙ ap (λ s. c.loop-i.rows.items ++ bit_or s c.block_reach-callees.result ∷ []) (one_shl c.loop-i.i 128 (omega (arith, c.requires, c.loop-i-test.true))))
