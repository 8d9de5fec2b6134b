use Rattle.std.proofs.Common.{◌≡◌, arith}
use Rattle.vmv_text.proofs.Skipping.{skipped_none, too_few, at_last, past_next}
use Rattle.vmv_text.proofs.cursor.Cursor.go_to_name.Goals as goal

pub loop-passed-init : goal.loop-passed-init
loop-passed-init c = skipped_none c.args.self.now

pub returns-then-not-go_to_next : goal.returns-then-not-go_to_next
returns-then-not-go_to_next c =
    too_few c.loop-passed._passed c.args.number _ _ c.go_to_next.new.self c.loop-passed.invariant c.if-not-go_to_next.ensures (omega arith)

pub returns : goal.returns
returns c =
    let all : c.loop-passed._passed ≡ c.args.number = omega arith in
    at_last c.go_to_next-2.result c.loop-passed._passed c.args.number _ _ c.go_to_next-2.new.self c.loop-passed.invariant c.go_to_next-2.ensures all

pub loop-passed-preserved : goal.loop-passed-preserved
loop-passed-preserved c =
    past_next c.loop-passed._passed _ _ c.go_to_next.new.self _ c.loop-passed.invariant c.if-not-go_to_next.ensures c.skip.ensures.exact
