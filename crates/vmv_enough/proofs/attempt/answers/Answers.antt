use Rattle.std.proofs.Common.{ℤ}
use Rattle.vmv_tree.specs.declared.name.Name.{Name}
use Rattle.vmv_tree.specs.Words.{IsWord}
use Rattle.vmv_snapshot.proofs.Zips.{zip_more}
use Rattle.vmv_assumption.specs.Assumed.{cond_of}
use Rattle.vmv_enough.specs.Probes.{IsAnswer}
use Rattle.vmv_enough.proofs.Words.{read_word}
use Rattle.vmv_enough.proofs.attempt.answers.Goals as goal

pub loop-name-preserved : goal.loop-name-preserved
loop-name-preserved c =
    let assumed = cond_of c.args.enough.now in
    let probe = c.args.probe.now in
    zip_more (λ (name : Name) (w : ℤ). IsWord w × IsAnswer assumed probe.mode probe.missed name w) c.args.names.now c.loop-name.values.items c.push.new.self.items c.loop-name.name-index c.name-item.result _ c.loop-name-test.true c.name-item.is c.loop-name.invariant
    (read_word (λ w. IsWord w × IsAnswer assumed probe.mode probe.missed c.name-item.result w) c.answer.result c.answer.ensures.word (c.answer.ensures.word, c.answer.ensures.answer)) c.in_ok-push.ensures.items
