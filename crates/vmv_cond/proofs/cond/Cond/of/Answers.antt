use Rattle.std.proofs.Common.{arith, IsTrue, pos, negsuc, ◌⊎◌, inl, inr, rules, FitsSigned, w64, ◌<ℤ◌}
use Rattle.std.proofs.lemmas.Int.{ints, to_z-of_z}
use Rattle.vmv_cond.proofs.Ranges.{OffZero, in_range_off_zero, in_range_none, in_range_marked, iff_through}
use Rattle.vmv_cond.proofs.cond.Cond.of.Goals as goal
use Rattle.vmv_cond.proofs.cond.Cond.of.Goals.{then-zero_out-via-then-zero_out, then-zero_out-via-else-zero_out+then-lo-gt0, then-zero_out-via-else-zero_out+else-lo-gt0+then-hi-lt0}

pub returns-then-lo-hi : goal.returns-then-lo-hi
returns-then-lo-hi c = λ w.
    let low : OffZero c.args.lo c.args.zero_out (pos 1) c.off_zero-lo.result =
    record { unmarked = grind (arith, ints, to_z-of_z); nonzero = grind (arith, ints, to_z-of_z); zero = grind (arith, ints, to_z-of_z) } in
    let high : OffZero c.args.hi c.args.zero_out (negsuc 0) c.off_zero-hi.result =
    record { unmarked = grind (arith, ints, to_z-of_z); nonzero = grind (arith, ints, to_z-of_z); zero = grind (arith, ints, to_z-of_z) } in
    iff_through (in_range_none _ _ c.off_zero-lo.result c.off_zero-hi.result _ _ w (omega (arith, ints)) (omega (arith, ints))) (in_range_off_zero _ _ _ _ _ w low high)

pub returns-then-zero_out : goal.returns-then-zero_out
returns-then-zero_out c = λ w.
    let low : OffZero c.args.lo c.args.zero_out (pos 1) c.off_zero-lo.result =
    record { unmarked = grind (arith, ints, to_z-of_z); nonzero = grind (arith, ints, to_z-of_z); zero = grind (arith, ints, to_z-of_z) } in
    let high : OffZero c.args.hi c.args.zero_out (negsuc 0) c.off_zero-hi.result =
    record { unmarked = grind (arith, ints, to_z-of_z); nonzero = grind (arith, ints, to_z-of_z); zero = grind (arith, ints, to_z-of_z) } in
    let a : FitsSigned w64 c.off_zero-lo.result = search rules in
    let b : FitsSigned w64 c.off_zero-hi.result = search rules in
    let out : IsTrue c.args.zero_out ⊎ (pos 0 <ℤ c.off_zero-lo.result) ⊎ (c.off_zero-hi.result <ℤ pos 0) =
    elim c.then-zero_out.branch [
      | then-zero_out-via-then-zero_out v ↦ inl (search rules)
      | then-zero_out-via-else-zero_out+then-lo-gt0 v ↦ inr (inl (omega (arith, ints)))
      | then-zero_out-via-else-zero_out+else-lo-gt0+then-hi-lt0 v ↦ inr (inr (omega (arith, ints)))
    ] in
    simp to_z-of_z (iff_through (in_range_marked _ _ c.args.zero_out w out) (in_range_off_zero _ _ _ _ _ w low high))
