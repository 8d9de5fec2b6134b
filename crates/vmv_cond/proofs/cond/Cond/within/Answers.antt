use Rattle.std.proofs.Common.{arith, FitsSigned, w64, rules, ◌+ℤ◌, ◌-ℤ◌, pos}
use Rattle.std.proofs.lemmas.Int.{ints, to_z-of_z}
use Rattle.vmv_cond.proofs.Ranges.{iff_through, iff_second, in_range_from, in_range_to, in_range_zero, in_range_none_below, in_range_none_above, less_is, more_is}
use Rattle.vmv_cond.proofs.cond.Cond.within.Goals as goal

pub returns-then-c : goal.returns-then-c
returns-then-c c = λ w. rw c.in-Below.is (iff_through (c.of.ensures w) (in_range_none_below c.args.self.lo c.args.self.hi c.in-Below.c c.args.self.zero_out w (search rules) (omega (arith, ints))))

pub returns-then-c-eq9223372036854775807 : goal.returns-then-c-eq9223372036854775807
returns-then-c-eq9223372036854775807 c = λ w. rw c.in-Above.is (iff_through (c.of-then-c-eq9223372036854775807.ensures w) (in_range_none_above c.args.self.lo c.args.self.hi c.in-Above.c c.args.self.zero_out w (search rules) (omega (arith, ints))))

pub returns-else-c : goal.returns-else-c
returns-else-c c = λ w.
    let a : FitsSigned w64 c.args.self.lo = search rules in
    let b : FitsSigned w64 c.args.self.hi = search rules in
    let e : FitsSigned w64 c.min.result = search rules in
    let d : FitsSigned w64 c.in-Below.c = search rules in
    let f : FitsSigned w64 (c.in-Below.c -ℤ pos 1) = omega (arith, ints) in
    let held = simp to_z-of_z at (c.of-in-Below.ensures w) in
    let high = simp to_z-of_z at c.min.ensures.value in
    rw c.in-Below.is (iff_second (iff_through held (in_range_to _ _ (c.in-Below.c -ℤ pos 1) _ _ w high)) (less_is _ w _ (omega (arith, ints))))

pub returns-else-c-eq9223372036854775807 : goal.returns-else-c-eq9223372036854775807
returns-else-c-eq9223372036854775807 c = λ w.
    let a : FitsSigned w64 c.args.self.lo = search rules in
    let b : FitsSigned w64 c.args.self.hi = search rules in
    let e : FitsSigned w64 c.max.result = search rules in
    let d : FitsSigned w64 c.in-Above.c = search rules in
    let f : FitsSigned w64 (c.in-Above.c +ℤ pos 1) = omega (arith, ints) in
    let held = simp to_z-of_z at (c.of-in-Above.ensures w) in
    let high = simp to_z-of_z at c.max.ensures.value in
    rw c.in-Above.is (iff_second (iff_through held (in_range_from _ _ (c.in-Above.c +ℤ pos 1) _ _ w high)) (more_is _ w _ (omega (arith, ints))))

pub returns-in-Zero : goal.returns-in-Zero
returns-in-Zero c = λ w.
    let a : FitsSigned w64 c.args.self.lo = search rules in
    let b : FitsSigned w64 c.args.self.hi = search rules in
    let d : FitsSigned w64 c.max-in-Zero.result = search rules in
    let e : FitsSigned w64 c.min-in-Zero.result = search rules in
    let held = simp to_z-of_z at (c.of-in-Zero.ensures w) in
    let high = simp to_z-of_z at c.min-in-Zero.ensures.value in
    let low = simp to_z-of_z at c.max-in-Zero.ensures.value in
    rw c.in-Zero.is (iff_through held (in_range_zero _ _ _ _ _ w low high))
