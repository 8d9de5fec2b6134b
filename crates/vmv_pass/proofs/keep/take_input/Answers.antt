use Rattle.std.proofs.Common.{◌≡◌, ◌∙◌, Some, inl, inr, refl, sym, ap, subst, slice_get}
use Rattle.vmv_zone.specs.declared.zone.Zone.{Zone}
use Rattle.vmv_zone.specs.Zone.{vars_of, IsBelow, IsJoin}
use Rattle.vmv_check.proofs.Lists.{at_place, some_same}
use Rattle.vmv_pass.proofs.Zips.{map_set}
use Rattle.vmv_pass.proofs.Flags.{told_take}
use Rattle.vmv_pass.proofs.keep.take_input.Goals as goal

pub returns-then-below-clause-takes : goal.returns-then-below-clause-takes
returns-then-below-clause-takes c keeps flags looped steps = (
  c.index-inputs-c.result,
  at_place c.args.inputs.now c.args.c c.index-inputs-c.result c.requires.inside c.index-inputs-c.is,
  inl (subst (IsBelow c.args.args.now) (sym c.index-inputs-c.is) (c.if-below.ensures.0 refl), refl),
)

pub returns-clause-takes : goal.returns-clause-takes
returns-clause-takes c keeps flags looped steps =
    let there : slice_get c.args.inputs.now c.args.c ≡ Some c.index-inputs-c.result = at_place c.args.inputs.now c.args.c c.index-inputs-c.result c.requires.inside c.index-inputs-c.is in
    let there' : slice_get c.args.inputs.now c.args.c ≡ Some c.index-inputs-c-2.result = at_place c.args.inputs.now c.args.c c.index-inputs-c-2.result c.requires.inside c.index-inputs-c-2.is in
    let raised = c.raise_input.ensures in (
      c.index-inputs-c-2.result,
      there',
      inr (
        λ b. let t = c.if-below.ensures.1 (subst (IsBelow c.args.args.now) (some_same (sym there' ∙ there) ∙ c.index-inputs-c.is) b) in absurd (cc),
        (raised.0, c.raise_input.new.input, subst (λ (z : Zone). IsJoin z c.args.args.now raised.0) (sym c.index-inputs-c-2.is) raised.1, raised.2, refl),
      ),
    )

pub returns-clause-sizes : goal.returns-clause-sizes
returns-clause-sizes c =
    map_set vars_of c.args.inputs.now c.args.c c.raise_input.new.input c.index-inputs-c-2.result (at_place c.args.inputs.now c.args.c c.index-inputs-c-2.result c.requires.inside c.index-inputs-c-2.is)
    (c.raise_input.ensures.2.vars ∙ (c.raise_input.ensures.1.vars ∙ ap vars_of (sym c.index-inputs-c-2.is)))

pub returns-clause-told : goal.returns-clause-told
returns-clause-told c = told_take c.args.inputs.now c.args.risen.now c.set_flag.new.flags c.args.c c.raise_input.new.input c.set_flag.ensures
