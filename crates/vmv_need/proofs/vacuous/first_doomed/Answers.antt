use Rattle.std.proofs.Common.{◌<◌, ◌≤◌, Option, IfSome, List, length, sym, ap, subst, arith}
use Rattle.std.specs.List.{Contains}
use Rattle.std.specs.Option.{is_some}
use Rattle.vmv_snapshot.specs.declared.code.ProcId.{ProcId}
use Rattle.vmv_assumption.specs.Assumed.{cond_of}
use Rattle.vmv_cert.specs.declared.table.Table.{Table}
use Rattle.vmv_cert.specs.Tables.{Box}
use Rattle.vmv_forward.specs.Least.{IsLeastTable}
use Rattle.vmv_need.specs.Candidates.{places_of}
use Rattle.vmv_need.specs.Vacuous.{IsDoomed}
use Rattle.vmv_need.proofs.Lists.{none_in, at_in, none_more, none_at_all}
use Rattle.vmv_need.proofs.Fit.{place_fits}
use Rattle.vmv_need.proofs.Firsts.{first_is}
use Rattle.vmv_need.proofs.Pushed.{not_judged}
use Rattle.vmv_need.proofs.vacuous.first_doomed.Goals as goal

pub loop-place-init : goal.loop-place-init
loop-place-init g c = λ place there. absurd (none_in place there)

pub loop-place-preserved-then-not-index : goal.loop-place-preserved-then-not-index
loop-place-preserved-then-not-index g c =
    let P = IsDoomed c.args.base.now c.args.plan.now.scope (cond_of c.args.assumed.now) in
    let inside : c.loop-place.place < length c.args.plan.now.places.items = omega (arith, c.loop-place-test.true, c.len-place-end.ensures, c.args.plan.now.places.ok.0) in
    none_more P c.args.plan.now.places.items c.loop-place.place c.index.result.now inside c.index.ensures c.loop-place.invariant
    (not_judged P c.args.plan.now.places.items c.in_ok-doomed.doomed.items c.loop-place.place c.index.result.now c.index-in-loop-place.result.now c.in_ok-doomed.ensures inside c.index.ensures c.index-in-loop-place.ensures c.if-not-index.true)

pub death_of-requires-clause-entry : goal.death_of-requires-clause-entry
death_of-requires-clause-entry g c =
    let inside : c.loop-place.place < length c.args.plan.now.places.items = omega (arith, c.loop-place-test.true, c.len-place-end.ensures, c.args.plan.now.places.ok.0) in
    place_fits _ _ c.requires.planned.scope c.index.result.now (at_in _ _ c.loop-place.place _ inside c.index.ensures c.requires.planned.places)

pub loop-place-preserved : goal.loop-place-preserved
loop-place-preserved g c =
    let inside : c.loop-place.place < length c.args.plan.now.places.items = omega (arith, c.loop-place-test.true, c.len-place-end.ensures, c.args.plan.now.places.ok.0) in
    none_more (IsDoomed c.args.base.now c.args.plan.now.scope (cond_of c.args.assumed.now)) c.args.plan.now.places.items c.loop-place.place c.index.result.now inside c.index.ensures c.loop-place.invariant
    (λ dead. let t = c.in_ok-table.ensures.dead.1 dead in let n = ap (λ (o : Option Table). is_some o) c.in_default.is in absurd (cc))

pub returns-in-Some : goal.returns-in-Some
returns-in-Some g c =
    let inside : c.loop-place.place < length c.args.plan.now.places.items = omega (arith, c.loop-place-test.true, c.len-place-end.ensures, c.args.plan.now.places.ok.0) in
    let found = ap (λ (o : Option Table). is_some o) c.in-Some.is in (
      first_is (IsDoomed c.args.base.now c.args.plan.now.scope (cond_of c.args.assumed.now)) c.args.plan.now.places.items (places_of c.args.plan.now.scope) c.loop-place.place c.index.result.now inside c.index.ensures
          c.requires.planned.places c.loop-place.invariant (c.in_ok-table.ensures.dead.0 found),
      subst (λ (o : Option Table). IfSome o (λ t. IsLeastTable c.args.base.now c.index.result.now.0.0 c.index.result.now.1 c.args.plan.now.scope.ends (cond_of c.args.assumed.now) t.rows)) c.in-Some.is c.in_ok-table.ensures.table,
    )

pub returns : goal.returns
returns g c =
    let P = IsDoomed c.args.base.now c.args.plan.now.scope (cond_of c.args.assumed.now) in
    let over : length c.args.plan.now.places.items ≤ c.loop-place.place = omega (arith, c.loop-place-test.false, c.len-place-end.ensures, c.args.plan.now.places.ok.0) in
    λ place there. none_at_all P c.args.plan.now.places.items c.loop-place.place over c.loop-place.invariant place (subst (λ (zs : List (ProcId × Box)). Contains zs place) (sym c.requires.planned.places) there)
