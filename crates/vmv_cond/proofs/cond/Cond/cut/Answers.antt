use Rattle.std.proofs.Common.{FitsSigned, w64, rules}
use Rattle.std.proofs.lemmas.Int.{to_z-of_z}
use Rattle.vmv_cond.proofs.Ranges.{iff_through, iff_second, in_range_from, in_range_to, in_range_nonzero, not_less}
use Rattle.vmv_cond.proofs.cond.Cond.cut.Goals as goal

pub returns-in-Below : goal.returns-in-Below
returns-in-Below c = λ w.
    let a : FitsSigned w64 c.args.self.lo = search rules in
    let b : FitsSigned w64 c.args.self.hi = search rules in
    let d : FitsSigned w64 c.in-Below.c = search rules in
    let e : FitsSigned w64 c.max.result = search rules in
    let held = simp to_z-of_z at (c.of.ensures w) in
    let high = simp to_z-of_z at c.max.ensures.value in
    rw c.in-Below.is (iff_second (iff_through held (in_range_from _ _ _ _ _ w high)) (not_less _ w))

pub returns-in-Above : goal.returns-in-Above
returns-in-Above c = λ w.
    let a : FitsSigned w64 c.args.self.lo = search rules in
    let b : FitsSigned w64 c.args.self.hi = search rules in
    let d : FitsSigned w64 c.in-Above.c = search rules in
    let e : FitsSigned w64 c.min.result = search rules in
    let held = simp to_z-of_z at (c.of-in-Above.ensures w) in
    let high = simp to_z-of_z at c.min.ensures.value in
    rw c.in-Above.is (iff_second (iff_through held (in_range_to _ _ _ _ _ w high)) (not_less w _))

pub returns-in-Zero : goal.returns-in-Zero
returns-in-Zero c = λ w.
    let a : FitsSigned w64 c.args.self.lo = search rules in
    let b : FitsSigned w64 c.args.self.hi = search rules in
    let held = simp to_z-of_z at (c.of-in-Zero.ensures w) in
    rw c.in-Zero.is (iff_through held (in_range_nonzero _ _ _ w))
