use Rattle.std.proofs.Common.{◌∙◌, sym, refl}
use Rattle.vmv_surface_text.proofs.Readers.{asked_product, asked_sum, given_ended}
use Rattle.vmv_surface_text.proofs.reader.Reader.operator.Goals as goal

pub returns-in-Some-clause-reads : goal.returns-in-Some-clause-reads
returns-in-Some-clause-reads c = λ start g.
    asked_product c.in-Some.op c.in-Some.ensures.0 start c.args.self.now c.end_product.new.self _ c.args.cursor.now c.skip.new.self (sym c.peek.ensures ∙ c.in-Some.ensures.1) c.skip.ensures.exact g c.in_ok-end_product.ensures refl refl refl

pub returns-in-Some-sum_of-clause-reads : goal.returns-in-Some-sum_of-clause-reads
returns-in-Some-sum_of-clause-reads c = λ start g.
    asked_sum c.in-Some-sum_of.op c.in-Some-sum_of.ensures.0 start c.args.self.now c.end_product-2.new.self c.end_sum.new.self _ c.args.cursor.now c.skip-in-Some-sum_of.new.self
    (λ op is h. c.in_default.ensures op is (c.peek.ensures ∙ h)) (sym c.peek-2.ensures ∙ c.in-Some-sum_of.ensures.1) c.skip-in-Some-sum_of.ensures.exact g c.in_ok-end_product-2.ensures c.in_ok-end_sum.ensures refl refl refl

pub returns-clause-reads : goal.returns-clause-reads
returns-clause-reads c = λ start g.
    c.close.ensures.reads start
    (given_ended start c.args.self.now c.end_product-2.new.self c.end_sum-2.new.self c.args.cursor.now (λ op is h. c.in_default.ensures op is (c.peek.ensures ∙ h)) (λ op is h. c.in_default-sum_of.ensures op is (c.peek-2.ensures ∙ h)) g c.in_ok-end_product-2.ensures c.in_ok-end_sum-2.ensures)
