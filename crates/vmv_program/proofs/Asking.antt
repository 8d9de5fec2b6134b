-- Words that ask for a service ask for nothing else.
use Rattle.std.proofs.Common.{ℕ, List, Option}
use Rattle.vmv_words.specs.Words.{Word, Request, review, recheck, Asks}
use Rattle.vmv_words.specs.Services.{Service, AsksService, AsksNoService}
use Rattle.vmv_command.specs.Command.{VerdictHolds, ProofHolds}
use Rattle.vmv_command.specs.Regressions.{RegressionHolds}

-- words that ask for something else ask for no service
abbrev pub AskNothingBeside : Type 0
AskNothingBeside = (words : List Word) (request : Request) → Asks words request → AsksNoService words

-- words that ask for a service are no review and no check of a proof
module _ (beside : AskNothingBeside) (words : List Word) (read : Service) (asks : AsksService words read) (told : List ℕ → Option (List ℕ)) where
  pub no_verdict : (before after : Option (List ℕ)) → VerdictHolds words told before after
  no_verdict before after b r base revision old printed B R (count, proved, asks_review) = absurd (beside words (review b r count proved) asks_review read asks)

  pub no_proof : (status : ℕ) → ProofHolds words told status
  no_proof status b r base revision B R (proof, asks_recheck) = absurd (beside words (recheck b r proof) asks_recheck read asks)

  pub no_regression : (before after : Option (List ℕ)) (status : ℕ) → RegressionHolds words told before after status
  no_regression before after status b r base revision old printed B R (count, proved, asks_review) = absurd (beside words (review b r count proved) asks_review read asks)
