use Rattle.std.proofs.Common.{◌-◌, ◌^◌, pos, negsuc, arith, refl}
use Rattle.vmv_thresholds.proofs.Rounding.{sorted_rising, most_held, around_fixed}
use Rattle.vmv_thresholds.proofs.laws.states_may_be_rounded_up.Goals as goal

pub returns-clause-sorted : goal.returns-clause-sorted
returns-clause-sorted c = λ program proc ends ts are. sorted_rising ts are.rising

pub returns-clause-zero : goal.returns-clause-zero
returns-clause-zero c = λ program proc ends ts are. around_fixed program proc ends ts are (pos 0) (pos 0) (2, omega arith, refl) (0, omega arith, refl)

pub returns-clause-greatest_word : goal.returns-clause-greatest_word
returns-clause-greatest_word c =
    λ program proc ends ts are. around_fixed program proc ends ts are (pos (2 ^ 63 - 1)) (pos (2 ^ 63 - 1)) (1, omega arith, refl) (0, omega arith, refl)

pub returns-clause-least_word : goal.returns-clause-least_word
returns-clause-least_word c =
    λ program proc ends ts are. around_fixed program proc ends ts are (negsuc (2 ^ 63 - 1)) (pos (2 ^ 63)) (0, omega arith, refl) (3, omega arith, refl)

pub returns-clause-most : goal.returns-clause-most
returns-clause-most c = most_held
