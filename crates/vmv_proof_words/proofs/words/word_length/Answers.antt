use Rattle.std.proofs.Common.{length, take, subst, ◌≡◌, IsTrue, arith}
use Rattle.vmv_witness.specs.Reading.{lacks}
use Rattle.vmv_proof_words.proofs.Splitting.{split_words}
use Rattle.vmv_proof_words.proofs.words.word_length.Goals as goal

pub returns-then-b-eq32-clause-words : goal.returns-then-b-eq32-clause-words
returns-then-b-eq32-clause-words c = split_words c.args.bytes.now c.loop-i.i c.loop-i.invariant (λ _. c.if-b-eq32.true)

pub returns-clause-words : goal.returns-clause-words
returns-clause-words c =
    let whole : c.loop-i.i ≡ length c.args.bytes.now = omega (arith, c.loop-i-test.false, c.loop-i.auto.i-end) in
    split_words c.args.bytes.now (length c.args.bytes.now) (subst (λ i. IsTrue (lacks 32 (take i c.args.bytes.now))) whole c.loop-i.invariant) (λ less. absurd (omega (arith, less)))
