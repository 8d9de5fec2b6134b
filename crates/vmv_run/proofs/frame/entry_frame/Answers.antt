use Rattle.std.proofs.Common.{rules, pos, get_or, arith, w64}
use Rattle.std.specs.Prelude.{FitsSigned}
use Rattle.std.proofs.lemmas.Int.{to_z-of_z}
use Rattle.vmv_run.proofs.Frames.{no_words_yet, entry_more}
use Rattle.vmv_run.proofs.frame.entry_frame.Goals as goal

pub loop-i-init : goal.loop-i-init
loop-i-init c = no_words_yet c.args.words.now

pub loop-i-preserved : goal.loop-i-preserved
loop-i-preserved c =
    let fits : FitsSigned w64 (get_or c.args.words.now c.loop-i.i (pos 0)) = search rules in
    entry_more c.args.words.now c.loop-i.own c.loop-i.i _ (omega arith) (omega arith) (to_z-of_z w64 _ fits) c.loop-i.invariant
