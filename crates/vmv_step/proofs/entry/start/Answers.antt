use Rattle.std.proofs.Common.{◌∙◌, arith}
use Rattle.vmv_step.proofs.Told.{up_of, clash}
use Rattle.vmv_step.proofs.entry.start.Goals as goal

pub returns : goal.returns
returns c =
    let up' = up_of _ _ c.is_bottom.ensures c.if-is_bottom.false in
    let vars = c.fill.ensures.vars in
    let bounds = c.set_bounds.ensures in
    let marks = c.set_marks.ensures in
    record {
      vars = c.normalize.ensures.vars ∙ marks.vars ∙ bounds.vars ∙ vars;
      bottom = λ none. absurd (clash _ none up');
      entered = λ h. (
        c.set_marks.new.zone,
        record {
          vars = marks.vars ∙ bounds.vars ∙ vars;
          not_bottom = marks.not_bottom;
          bounds = λ i j hi hj. marks.bounds i j ∙ bounds.bounds i j (omega arith) (omega arith);
          marks = λ i hi. marks.marks i;
        },
        c.normalize.ensures,
      );
    }
