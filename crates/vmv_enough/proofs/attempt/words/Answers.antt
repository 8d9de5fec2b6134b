use Rattle.std.proofs.Common.{ℤ, pos, get_or, subst}
use Rattle.std.proofs.lemmas.List.{take_all}
use Rattle.vmv_tree.specs.Words.{IsWord}
use Rattle.vmv_snapshot.proofs.Zips.{zip_more}
use Rattle.vmv_enough.specs.Picks.{IsPick}
use Rattle.vmv_enough.specs.Probes.{IsInRange}
use Rattle.vmv_enough.specs.Tried.{ArePicks}
use Rattle.vmv_enough.proofs.Lists.{same_item}
use Rattle.vmv_enough.proofs.Words.{read_word}
use Rattle.vmv_enough.proofs.attempt.words.Goals as goal

pub loop-range-preserved : goal.loop-range-preserved
loop-range-preserved c =
    let ranges = c.args.ranges.now in
    let i = c.loop-range.range-index in
    let x : ℤ × ℤ = get_or ranges i (pos 0, pos 0) in
    zip_more (λ (range : ℤ × ℤ) (word : ℤ). IsWord word × IsPick c.args.mode (IsInRange range) word) ranges c.loop-range.words.items c.push.new.self.items i x _ c.loop-range-test.true (same_item ranges i (pos 0, pos 0) x c.loop-range-test.true)
    c.loop-range.invariant (read_word (λ w. IsWord w × IsPick c.args.mode (IsInRange x) w) c.pick_in_range.result c.pick_in_range.ensures.word (c.pick_in_range.ensures.word, c.pick_in_range.ensures.pick)) c.in_ok-push.ensures.items

pub returns : goal.returns
returns c = subst (λ xs. ArePicks c.args.mode xs c.loop-range.words.items) (take_all c.loop-range.range-index c.args.ranges.now c.loop-range-test.false) c.loop-range.invariant
