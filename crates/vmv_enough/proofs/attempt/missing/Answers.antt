use Rattle.std.proofs.Common.{FitsSigned, w64, rules}
use Rattle.vmv_tree.specs.Words.{IsWord}
use Rattle.vmv_enough.proofs.Words.{fits_word, read_back}
use Rattle.vmv_enough.proofs.attempt.missing.Goals as goal

pub returns-in-Some-clause-word : goal.returns-in-Some-clause-word
returns-in-Some-clause-word c =
    let fits : FitsSigned w64 c.in-Some.word = search rules in
    read_back IsWord c.in-Some.word fits (fits_word c.in-Some.word fits)
