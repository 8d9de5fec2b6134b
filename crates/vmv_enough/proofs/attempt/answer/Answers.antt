use Rattle.vmv_assumption.specs.Assumed.{cond_of}
use Rattle.vmv_enough.specs.Probes.{IsAnswer}
use Rattle.vmv_enough.proofs.Answering.{missing_is}
use Rattle.vmv_enough.proofs.Words.{read_word}
use Rattle.vmv_enough.proofs.attempt.answer.Goals as goal

pub returns-in-Some-clause-answer : goal.returns-in-Some-clause-answer
returns-in-Some-clause-answer c =
    read_word (λ w. IsAnswer (cond_of c.args.enough.now) c.args.probe.now.mode c.args.probe.now.missed c.args.name.now w) c.missing.result c.missing.ensures.word
    (missing_is (cond_of c.args.enough.now) c.args.probe.now.mode c.args.probe.now.missed c.args.name.now c.in-Some.demand c.get-cond.result c.missing.result c.in-Some.is c.get-cond.ensures c.missing.ensures.there c.missing.ensures.elsewhere)
