use Rattle.std.proofs.Common.{◌≡◌, []}
use Rattle.vmv_enough.proofs.Lists.{Before}
use Rattle.vmv_enough.proofs.judge.are_empty.Given as goal

abbrev pub invariant-loop-sites : goal.invariant-loop-sites
invariant-loop-sites l = Before (λ sites. sites ≡ []) l.judged l.sites-index
