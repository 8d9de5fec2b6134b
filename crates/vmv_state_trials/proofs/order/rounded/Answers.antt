use Rattle.std.proofs.Common.{arith, refl, pos, [], ◌∷◌}
use Rattle.std.proofs.lemmas.Int.{ints}
use Rattle.vmv_zone.proofs.Ascending.{sorted_one, sorted_more}
use Rattle.vmv_state_trials.proofs.order.rounded.Goals as goal

pub round_up-requires-clause-sorted : goal.round_up-requires-clause-sorted
round_up-requires-clause-sorted c = sorted_more (pos 0) (pos 9223372036854775807) ((pos 9223372036854775808) ∷ (pos 18446744073709551615) ∷ []) (omega (arith, ints)) (sorted_more (pos 9223372036854775807) (pos 9223372036854775808) ((pos 18446744073709551615) ∷ []) (omega (arith, ints)) (sorted_more (pos 9223372036854775808) (pos 18446744073709551615) [] (omega (arith, ints)) (sorted_one (pos 18446744073709551615))))

pub round_up-requires-clause-zero : goal.round_up-requires-clause-zero
round_up-requires-clause-zero c = (0, omega arith, refl)

pub round_up-requires-clause-greatest_word : goal.round_up-requires-clause-greatest_word
round_up-requires-clause-greatest_word c = (1, omega arith, refl)

pub round_up-requires-clause-least_word : goal.round_up-requires-clause-least_word
round_up-requires-clause-least_word c = (2, omega arith, refl)

pub round_up-requires-clause-most : goal.round_up-requires-clause-most
round_up-requires-clause-most c = (3, omega arith, refl)
