use Rattle.std.proofs.Common.{rules, ◌≡◌, ℤ, Some, None, length, w64, ◌∙◌, sym, ap, subst}
use Rattle.std.specs.Prelude.{FitsSigned, slice_set}
use Rattle.std.proofs.lemmas.Int.{to_z-of_z}
use Rattle.vmv_tree.specs.Words.{result_of}
use Rattle.vmv_snapshot.specs.Code.{plain}
use Rattle.vmv_run.specs.declared.walked.Walked.TheVariants.{Next}
use Rattle.vmv_run.specs.Walk.{word_in, Walks}
use Rattle.vmv_run.proofs.Rules.{fits_word, walks_set, walks_arith, walks_fault, walks_pass, walks_refuse, walks_ask, walks_stop}
use Rattle.vmv_run.proofs.walk.walk_simple.Goals as goal

pub returns-in-Set : goal.returns-in-Set
returns-in-Set c program =
    let long : length c.args.frame.now ≡ 256 = search rules in
    let fits : FitsSigned w64 c.value.result = search rules in
    walks_set program c.args.proc c.args.frame.now long c.args.simple.now c.in-Set.to c.in-Set.from _ c.args.source.now c.in-Set.is (to_z-of_z w64 _ fits ∙ c.value.ensures)

pub returns-in-Some : goal.returns-in-Some
returns-in-Some c program =
    let long : length c.args.frame.now ≡ 256 = search rules in
    let fits : FitsSigned w64 c.in-Some.word = search rules in
    let left : FitsSigned w64 c.value-in-Arith.result = search rules in
    let right : FitsSigned w64 c.value-in-Arith-2.result = search rules in
    let is : result_of c.in-Arith.op (word_in c.args.frame.now c.in-Arith.left) (word_in c.args.frame.now c.in-Arith.right) ≡ Some c.in-Some.word =
    (λ i. result_of c.in-Arith.op (sym (to_z-of_z w64 _ left ∙ c.value-in-Arith.ensures) i) (sym (to_z-of_z w64 _ right ∙ c.value-in-Arith-2.ensures) i)) ∙ (sym c.result_of.ensures ∙ c.in-Some.is) in
    walks_arith program c.args.proc c.args.frame.now long c.args.simple.now c.in-Arith.to c.in-Arith.op c.in-Arith.left c.in-Arith.right c.in-Arith.site _ c.args.source.now c.in-Arith.is
    (is ∙ ap (λ (z : ℤ). Some z) (sym (to_z-of_z w64 _ fits)))

pub returns-in-None : goal.returns-in-None
returns-in-None c program =
    let long : length c.args.frame.now ≡ 256 = search rules in
    let left : FitsSigned w64 c.value-in-Arith.result = search rules in
    let right : FitsSigned w64 c.value-in-Arith-2.result = search rules in
    let is : result_of c.in-Arith.op (word_in c.args.frame.now c.in-Arith.left) (word_in c.args.frame.now c.in-Arith.right) ≡ None =
    (λ i. result_of c.in-Arith.op (sym (to_z-of_z w64 _ left ∙ c.value-in-Arith.ensures) i) (sym (to_z-of_z w64 _ right ∙ c.value-in-Arith-2.ensures) i)) ∙ (sym c.result_of.ensures ∙ c.in-None.is) in
    walks_fault program c.args.proc c.args.frame.now long c.args.simple.now c.in-Arith.to c.in-Arith.op c.in-Arith.left c.in-Arith.right c.in-Arith.site c.args.source.now c.in-Arith.is is

pub returns-in-Some-answer : goal.returns-in-Some-answer
returns-in-Some-answer c program =
    let long : length c.args.frame.now ≡ 256 = search rules in
    let fits : FitsSigned w64 c.in-Some-answer.word = search rules in
    let same = to_z-of_z w64 c.in-Some-answer.word fits in
    subst (λ (z : ℤ). Walks program c.args.proc.0 (plain c.args.simple.now) c.args.frame.now (slice_set c.args.frame.now c.in-Ask.to.0 z) c.args.source.now c.answer.new.self Next) (sym same)
    (walks_ask program c.args.proc c.args.frame.now long c.args.simple.now c.in-Ask.to c.in-Ask.callee c.in-Ask.args c.in-Some-answer.word c.args.source.now c.answer.new.self c.in-Ask.is
    (fits_word c.in-Some-answer.word fits) c.in-Some-answer.ensures)

pub returns-in-None-answer : goal.returns-in-None-answer
returns-in-None-answer c program =
    let long : length c.args.frame.now ≡ 256 = search rules in
    walks_stop program c.args.proc c.args.frame.now long c.args.simple.now c.in-Ask.to c.in-Ask.callee c.in-Ask.args c.args.source.now c.answer.new.self c.in-Ask.is c.in-None-answer.ensures

pub returns-then-holds : goal.returns-then-holds
returns-then-holds c program =
    let long : length c.args.frame.now ≡ 256 = search rules in
    walks_pass program c.args.proc c.args.frame.now long c.args.simple.now c.in-Assert.test c.in-Assert.site c.args.source.now c.in-Assert.is (sym c.holds.ensures ∙ c.if-holds.true)

pub returns-else-holds : goal.returns-else-holds
returns-else-holds c program =
    let long : length c.args.frame.now ≡ 256 = search rules in
    walks_refuse program c.args.proc c.args.frame.now long c.args.simple.now c.in-Assert.test c.in-Assert.site c.args.source.now c.in-Assert.is (sym c.holds.ensures ∙ c.if-holds.false)
