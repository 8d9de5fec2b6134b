use Rattle.std.proofs.Common.{◌∙◌, ◌≡◌, ◌≢◌, arith, ⊎_elim}
use Rattle.std.proofs.lemmas.Bool.{cases_eq}
use Rattle.vmv_step.proofs.entry.set_bounds.Goals as goal

pub loop-i-preserved : goal.loop-i-preserved
loop-i-preserved c =
    let row = c.set_row.ensures in
    let was = c.loop-i.invariant in
    let vars = was.vars in
    record {
      vars = row.vars ∙ was.vars;
      not_bottom = row.not_bottom;
      bounds = λ p q h hp hq. ⊎_elim (λ (at : p ≡ c.loop-i.i). rw at (row.row q (omega arith)))
          (λ (off : p ≢ c.loop-i.i). row.others p q (omega arith) (omega arith) off ∙ was.bounds p q (omega arith) hp hq) (cases_eq p c.loop-i.i);
      left = λ p q h hp hq. row.others p q (omega arith) (omega arith) (λ at. omega arith) ∙ was.left p q (omega arith) hp hq;
      marks = λ p. row.marks p ∙ was.marks p;
    }
