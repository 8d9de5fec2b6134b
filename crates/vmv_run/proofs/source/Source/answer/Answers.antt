use Rattle.std.proofs.Common.{rules, ◌≡◌, true, false, Option, Some, None, slice_get, w64, ◌∙◌, subst, refl, sym, ℤ}
use Rattle.std.specs.Prelude.{FitsSigned}
use Rattle.std.specs.Str.{bytes_eq}
use Rattle.std.proofs.lemmas.Int.{to_z-of_z}
use Rattle.std.proofs.lemmas.Option.{slice_get_read, slice_get_past}
use Rattle.std.proofs.lemmas.Slice.Eq.{bytes_eq-Decides}
use Rattle.vmv_run.specs.declared.source.Source.TheVariants.{Given}
use Rattle.vmv_run.specs.Source.{Answered}
use Rattle.vmv_run.proofs.Sources.{differing, given_over, given_other, given_taken, constant_taken, constant_left}
use Rattle.vmv_run.proofs.source.Source.answer.Goals as goal

pub returns-in_err-answer-in-Given : goal.returns-in_err-answer-in-Given
returns-in_err-answer-in-Given c =
    let none : slice_get c.in-Given.answers.now c.in-Given.used ≡ None = slice_get_past c.in-Given.answers.now c.in-Given.used c.in_err-answer-in-Given.ensures.lookup.3 in
    let R : Option ℤ → Type 0 = λ r. Answered c.args.self.now (Given c.in-Given.answers c.in-Given.used) c.args.name.now r in
    subst R (sym c.from_residual.ensures) (given_over c.args.self.now c.in-Given.answers c.in-Given.used c.args.name.now c.in-Given.is none)

pub returns-then-ne : goal.returns-then-ne
returns-then-ne c =
    let h = c.in_ok-answer-in-Given.ensures.lookup in
    let some : slice_get c.in-Given.answers.now c.in-Given.used ≡ Some c.in_ok-answer-in-Given.answer.now = slice_get_read c.in-Given.answers.now _ c.in-Given.used c.in_ok-answer-in-Given.answer.now refl h.3.0 h.1 in
    let other : bytes_eq c.in_ok-answer-in-Given.answer.now.name c.args.name.now ≡ false = search rules in
    given_other c.args.self.now c.in-Given.answers c.in-Given.used c.args.name.now c.in_ok-answer-in-Given.answer.now c.in-Given.is some (differing _ _ other)

pub returns-else-ne : goal.returns-else-ne
returns-else-ne c =
    let h = c.in_ok-answer-in-Given.ensures.lookup in
    let some : slice_get c.in-Given.answers.now c.in-Given.used ≡ Some c.in_ok-answer-in-Given.answer.now = slice_get_read c.in-Given.answers.now _ c.in-Given.used c.in_ok-answer-in-Given.answer.now refl h.3.0 h.1 in
    let same : bytes_eq c.in_ok-answer-in-Given.answer.now.name c.args.name.now ≡ true = search rules in
    let fits : FitsSigned w64 c.in_ok-answer-in-Given.answer.now.value = search rules in
    given_taken c.args.self.now c.in-Given.answers c.in-Given.used c.args.name.now c.in_ok-answer-in-Given.answer.now _ c.in-Given.is some ((bytes_eq-Decides _ _).0 same) (to_z-of_z w64 _ fits)

pub returns-in-Ok : goal.returns-in-Ok
returns-in-Ok c =
    let fits : FitsSigned w64 c.value_of-value.result = search rules in
    constant_taken c.args.self.now c.in-Constant.names c.in-Constant.values c.in-Constant.taken c.push.new.self c.args.name.now _ _ c.in-Constant.is c.in-Ok.ensures.ok refl refl
    (to_z-of_z w64 _ fits ∙ c.value_of-value.ensures)

pub returns-in-Err : goal.returns-in-Err
returns-in-Err c = constant_left c.args.self.now c.in-Constant.names c.in-Constant.values c.in-Constant.taken c.push.new.self c.args.name.now c.in-Constant.is c.in-Err.ensures.err
