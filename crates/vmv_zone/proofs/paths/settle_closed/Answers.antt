use Rattle.std.proofs.Common.{arith, rules, ◌≡◌, ◌<◌, ◌∙◌, sym, length}
use Rattle.vmv_zone.specs.Bounds.{IsTight, weight}
use Rattle.vmv_zone.proofs.Shortest.{settles_on, relaxed, weight_least}
use Rattle.vmv_zone.proofs.paths.settle_closed.Goals as goal

pub loop-bounds-preserved : goal.loop-bounds-preserved
loop-bounds-preserved c = record {
  full = c.if-not-close.ensures.full;
  closed = c.if-not-close.ensures.closed (search rules);
  settles = settles_on (λ n. IsTight n c.args.marks.now c.args.vars) _ (λ n. IsTight n c.args.marks.now c.args.vars) _ _ _ _ (λ n tight. tight) (λ n tight below. tight.closed)
      (settles_on _ _ (λ n. IsTight n c.args.marks.now c.args.vars) _ _ _ _ (λ n tight. tight) (λ n tight below. tight) c.loop-bounds.invariant.settles (relaxed _ _ _ _ _ c.in-Lower.ensures.relaxes))
      c.if-not-close.ensures.settles;
}

pub loop-bounds-smaller : goal.loop-bounds-smaller
loop-bounds-smaller c =
    let less : weight c.tighten.new.bounds < weight c.loop-bounds.bounds = c.in-Lower.ensures.relaxes.changes in
    let long : length c.tighten.new.bounds ≡ 324 = search rules in
    let least = weight_least c.close.new.bounds c.tighten.new.bounds (c.if-not-close.ensures.full ∙ sym long) c.if-not-close.ensures.settles.reach c.if-not-close.ensures.settles.lower in
    let falls : weight c.close.new.bounds < weight c.loop-bounds.bounds = omega (arith, less, least) in
    falls

pub returns-then-not-close-clause-settles : goal.returns-then-not-close-clause-settles
returns-then-not-close-clause-settles c =
    settles_on (λ n. IsTight n c.args.marks.now c.args.vars) _ (λ n. IsTight n c.args.marks.now c.args.vars) _ _ _ _ (λ n tight. tight) (λ n tight below. tight.closed)
    (settles_on _ _ (λ n. IsTight n c.args.marks.now c.args.vars) _ _ _ _ (λ n tight. tight) (λ n tight below. tight) c.loop-bounds.invariant.settles (relaxed _ _ _ _ _ c.in-Lower.ensures.relaxes))
    c.if-not-close.ensures.settles

pub returns-then-not-close-clause-empty : goal.returns-then-not-close-clause-empty
returns-then-not-close-clause-empty c t n tight below =
    c.if-not-close.ensures.empty (search rules) n tight.closed (c.in-Lower.ensures.relaxes.below n tight (c.loop-bounds.invariant.settles.below n tight below))
