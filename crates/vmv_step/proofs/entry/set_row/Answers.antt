use Rattle.std.proofs.Common.{◌∙◌, ◌≡◌, arith, inl, inr, sym, to_z, of_z}
use Rattle.std.specs.Int.{w128}
use Rattle.std.proofs.lemmas.Int.{ints}
use borrow.Author.Count.{below_more}
use Rattle.vmv_zone.proofs.Confining.{false_along}
use Rattle.vmv_step.proofs.entry.set_row.Goals as goal

pub loop-j-preserved : goal.loop-j-preserved
loop-j-preserved c =
    let change = c.set_bound.ensures in
    let was = c.loop-j.invariant in
    let vars = was.vars in
    let fits : to_z w128 (of_z w128 c.bound_between-bound.result) ≡ c.bound_between-bound.result = omega (arith, ints) in
    record {
      vars = change.vars ∙ was.vars;
      not_bottom = false_along _ _ (sym change.bottom) was.not_bottom;
      left = λ k h hk. change.others c.args.i k (omega arith) (omega arith) (inr (λ e. omega arith)) ∙ was.left k (omega arith) hk;
      row = below_more _ _ (λ k h. change.others c.args.i k (omega arith) (omega arith) (inr (λ e. omega arith)) ∙ was.row k h) (change.changed ∙ fits ∙ c.bound_between-bound.ensures.value);
      others = λ p q hp hq off. change.others p q (omega arith) (omega arith) (inl off) ∙ was.others p q hp hq off;
      marks = λ p. change.marks p ∙ was.marks p;
    }
