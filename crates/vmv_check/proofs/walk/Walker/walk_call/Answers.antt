use Rattle.std.proofs.Common.{IsNone, inl, inr, refl, rules}
use Rattle.vmv_zone.proofs.MoreLaws.{assign_normal}
use Rattle.vmv_check.proofs.Lists.{up_of}
use Rattle.vmv_check.proofs.walk.Walker.walk_call.Goals as goal

pub returns-in_default-clause-way : goal.returns-in_default-clause-way
returns-in_default-clause-way c =
    let none : IsNone c.returned.result = search rules in
    inr (up_of c.args.zone.now.bottom c.if-is_bottom.ensures.1, (c.pass_into.new.into, c.pass_into.ensures, inl ((λ row m. c.returned.ensures.none none (row, m)), refl)))

pub returns-then-not-are_allowed-clause-way : goal.returns-then-not-are_allowed-clause-way
returns-then-not-are_allowed-clause-way c =
    inr (
      up_of c.args.zone.now.bottom c.if-is_bottom.ensures.1,
      (
        c.pass_into.new.into,
        c.pass_into.ensures,
        inr (
          c.in-Some.ensures.matched,
          (
            c.in-Some.cond,
            c.store.new.self,
            c.in-Some.ensures.returned,
            c.store.ensures,
            inr ((λ p. let t = c.if-not-are_allowed.ensures.1 p in absurd (cc)), refl),
          ),
        ),
      ),
    )

pub returns-clause-way : goal.returns-clause-way
returns-clause-way c =
    inr (
      up_of c.args.zone.now.bottom c.if-is_bottom.ensures.1,
      (
        c.pass_into.new.into,
        c.pass_into.ensures,
        inr (
          c.in-Some.ensures.matched,
          (
            c.in-Some.cond,
            c.store.new.self,
            c.in-Some.ensures.returned,
            c.store.ensures,
            inl (c.if-not-are_allowed.ensures.0 refl, refl),
          ),
        ),
      ),
    )

pub returns-clause-normal : goal.returns-clause-normal
returns-clause-normal c = assign_normal _ _ _ _ c.requires.to.0 c.store.ensures
