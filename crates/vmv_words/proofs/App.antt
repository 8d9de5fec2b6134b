-- The command of names and options as it is built.
use Rattle.std.proofs.Common.{refl, true, List, ◌≡◌}
use Rattle.clap.specs.Walk.{Rule}
use Rattle.clap.specs.Simple.{Shape, built, filled, with_index, is_simple}
use Rattle.clap.specs.Faults.{is_simple_and_free}
use Rattle.clap.proofs.OnLiterals.{clap_on_literals}
use Rattle.vmv_words.specs.Clap.{name_rule, workers_rule, proof_rule, app}

pub free : is_simple_and_free app ≡ true
unfolding clap_on_literals
free = refl

pub simple : is_simple app ≡ true
unfolding clap_on_literals
simple = refl

abbrev pub shape : Shape
shape = (built app).top

abbrev pub rules : List Rule
rules = shape.rules

abbrev pub name_built : Rule
name_built = with_index 1 (filled name_rule)

abbrev pub workers_built : Rule
workers_built = with_index 2 (filled workers_rule)

abbrev pub proof_built : Rule
proof_built = with_index 2 (filled proof_rule)
