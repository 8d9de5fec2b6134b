use Rattle.std.proofs.Common.{◌≡◌, Some, slice_get, sym, subst}
use Rattle.std.specs.List.{Contains}
use Rattle.vmv_snapshot.specs.Resolves.{Scope}
use Rattle.vmv_snapshot.proofs.Helpers.{not_missing, helper_found}
use Rattle.vmv_snapshot.proofs.resolver.Resolver.helper.Goals as goal

pub unreachable-requires : goal.unreachable-requires
unreachable-requires c =
    let there = subst (λ (s : Scope). Contains s.helpers (Some c.args.callee.now)) (sym c.self.view_is) c.requires in
    not_missing c.self.inside.tables.now c.self.invariant.1 c.args.callee.now there c.in-None.ensures.index

pub returns : goal.returns
returns c =
    let there = subst (λ (s : Scope). Contains s.helpers (Some c.args.callee.now)) (sym c.self.view_is) c.requires in
    subst (λ (s : Scope). slice_get s.helpers c.in-Some.number ≡ Some (Some c.args.callee.now)) c.self.view_is
    (helper_found c.self.inside.tables.now c.self.invariant.1 c.args.callee.now there c.in-Some.number c.in-Some.ensures.index)
