use Rattle.std.proofs.Common.{◌≡◌, map, take}
use Rattle.vmv_command.proofs.replays.words_of.Given as goal

abbrev pub invariant-loop-param : goal.invariant-loop-param
invariant-loop-param l = l.words.items ≡ map (λ p. p.value) (take l.param-index l.params)
