use Rattle.std.proofs.Common.{◌≡◌, ◌+◌, ◌<◌, FitsSigned, w64, to_z, of_z, length, get_or, pos, ap, ◌∙◌, length-append, arith, rules}
use Rattle.std.proofs.lemmas.Int.{to_z-of_z}
use Rattle.vmv_snapshot.specs.Boxes.{Range}
use Rattle.vmv_back.proofs.Narrowing.{narrow_more, nonempty_more, narrow_none}
use Rattle.vmv_back.proofs.fact.Fact.narrowed.Goals as goal

pub loop-i-preserved : goal.loop-i-preserved
loop-i-preserved c =
    let lo : FitsSigned w64 c.in-Some.lo = search rules in
    let hi : FitsSigned w64 c.in-Some.hi = search rules in
    let q : ◌≡◌ {A = Range} (to_z w64 (of_z w64 c.in-Some.lo), to_z w64 (of_z w64 c.in-Some.hi)) (c.in-Some.lo, c.in-Some.hi) = λ i. (to_z-of_z w64 c.in-Some.lo lo i, to_z-of_z w64 c.in-Some.hi hi i) in
    let small : c.loop-i.i < length c.args.within.now = omega (arith, c.loop-i-test.true, ap length c.ranges-range-items.ensures) in
    let told = c.in-Some.ensures in
    record {
      whole = narrow_more c.args.self c.args.within.now _ _ _ _ _ _ _ small (ap (λ b. get_or b c.loop-i.i (pos 0, pos 0)) c.ranges-range-items.ensures) c.loop-i.invariant.whole (q ∙ told.0) c.push.ensures;
      count = ap length c.push.ensures ∙ (length-append _ _ ∙ ap (λ n. n + 1) c.loop-i.invariant.count);
      nonempty = nonempty_more _ _ _ _ c.loop-i.invariant.nonempty c.push.ensures (q ∙ told.0) told.1;
    }

pub returns-in_default : goal.returns-in_default
returns-in_default c =
    let small : c.loop-i.i < length c.args.within.now = omega (arith, c.loop-i-test.true, ap length c.ranges-range-items.ensures) in
    narrow_none c.args.self c.args.within.now _ _ _ _ _ small (ap (λ b. get_or b c.loop-i.i (pos 0, pos 0)) c.ranges-range-items.ensures) c.loop-i.invariant.whole c.in_default.ensures
