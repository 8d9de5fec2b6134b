use Rattle.std.proofs.Common.{◌+◌, ◌*◌, arith, rules, refl}
use Rattle.std.proofs.lemmas.Int.{ints, clamps}
use Rattle.vmv_zone.proofs.Confining.{lowered_none, lowered_empty, lowered_through, confines_bottom}
use Rattle.vmv_zone.proofs.zone.Zone.lower.Goals as goal

pub returns-then-self : goal.returns-then-self
returns-then-self c = confines_bottom _ _ _ _ refl (search rules) (search rules)

pub returns-then-kept-bound : goal.returns-then-kept-bound
returns-then-kept-bound c =
    let value = c.max-kept.ensures.value in
    let bound = c.bound.ensures in
    let r = c.args.self.now.reach (18 * c.args.i + c.args.j) in
    let rl = r.low in let rh = r.high in
    lowered_none c.args.self.now c.args.i c.args.j c.args.bound c.max-kept.result c.requires.i c.requires.j (omega (arith, ints, clamps)) (omega (arith, ints, clamps, c.if-kept-bound.true))

pub overflow_add-kept : goal.overflow_add-kept
overflow_add-kept c =
    let value = c.max-kept.ensures.value in
    let bound = c.bound.ensures in
    let bound' = c.bound-2.ensures in
    let r = c.args.self.now.reach (18 * c.args.i + c.args.j) in
    let r' = c.args.self.now.reach (18 * c.args.j + c.args.i) in
    let rl = r.low in let rh = r.high in let rl' = r'.low in let rh' = r'.high in
    omega (arith, ints, clamps, c.if-kept-bound.false)

pub returns-then-kept-bound-lt0 : goal.returns-then-kept-bound-lt0
returns-then-kept-bound-lt0 c =
    let value = c.max-kept.ensures.value in
    let bound = c.bound.ensures in
    let bound' = c.bound-2.ensures in
    let r = c.args.self.now.reach (18 * c.args.i + c.args.j) in
    let r' = c.args.self.now.reach (18 * c.args.j + c.args.i) in
    let rl = r.low in let rh = r.high in let rl' = r'.low in let rh' = r'.high in
    lowered_empty c.args.self.now c.empty.new.self c.args.i c.args.j c.args.bound c.max-kept.result c.empty.ensures.vars c.empty.ensures.bottom c.requires.i c.requires.j
    (omega (arith, ints, clamps)) (omega (arith, ints, clamps, c.if-kept-bound-lt0.true))

pub close_through-requires-clause-bound : goal.close_through-requires-clause-bound
close_through-requires-clause-bound c =
    let value = c.max-kept.ensures.value in
    let bound = c.bound.ensures in
    let r = c.args.self.now.reach (18 * c.args.i + c.args.j) in
    let rl = r.low in let rh = r.high in
    record { low = omega (arith, ints, clamps, c.if-kept-bound.false); high = omega (arith, ints, clamps, c.if-kept-bound.false) }

pub close_through-requires-clause-cycle : goal.close_through-requires-clause-cycle
close_through-requires-clause-cycle c =
    let value = c.max-kept.ensures.value in
    let bound = c.bound.ensures in
    let bound' = c.bound-2.ensures in
    let r = c.args.self.now.reach (18 * c.args.i + c.args.j) in
    let r' = c.args.self.now.reach (18 * c.args.j + c.args.i) in
    let rl = r.low in let rh = r.high in let rl' = r'.low in let rh' = r'.high in
    omega (arith, ints, clamps, c.if-kept-bound.false, c.if-kept-bound-lt0.false)

pub invariant_of-self : goal.invariant_of-self
invariant_of-self c = record {
  few = c.args.self.now.few;
  full = c.close_through.ensures.full;
  reach = c.close_through.ensures.reach;
  topped = λ i j hi hj. let e = c.close_through.ensures.at i j hi hj in let top = c.args.self.now.topped i j hi hj in omega (arith, ints, clamps);
  outside = c.close_through.ensures.outside;
  sized = c.args.self.now.sized;
  variables = c.args.self.now.variables;
  emptied = λ t. absurd (search rules);
}

pub returns : goal.returns
returns c =
    let value = c.max-kept.ensures.value in
    let bound = c.bound.ensures in
    let bound' = c.bound-2.ensures in
    let r = c.args.self.now.reach (18 * c.args.i + c.args.j) in
    let r' = c.args.self.now.reach (18 * c.args.j + c.args.i) in
    let rl = r.low in let rh = r.high in let rl' = r'.low in let rh' = r'.high in
    lowered_through c.args.self.now _ c.args.i c.args.j c.args.bound _ c.requires.i c.requires.j refl (search rules) (search rules) refl c.requires.closed
    (omega (arith, ints, clamps)) (omega (arith, ints, clamps, c.if-kept-bound-lt0.false)) c.close_through.ensures
