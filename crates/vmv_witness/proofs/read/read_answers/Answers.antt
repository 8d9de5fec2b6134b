use Rattle.std.proofs.Common.{◌≡◌, [], ◌∷◌, ◌++◌, length, map, sym, ap, subst, ◌∙◌, to_z, of_z, w64, arith, rules}
use Rattle.std.specs.Prelude.{codes}
use Rattle.std.specs.Fmt.{signed_decimal}
use Rattle.std.proofs.lemmas.List.{map-append, length-map}
use Rattle.vmv_witness.specs.Text.{answer_pair}
use Rattle.vmv_witness.specs.Reading.{TakesPairs}
use Rattle.vmv_witness.proofs.PairLists.{one_more, pairs_within}
use Rattle.vmv_witness.proofs.read.read_answers.Goals as goal

pub loop-name-preserved : goal.loop-name-preserved
loop-name-preserved c =
    let taken = rw c.in-Ok-Some.field-0-is at c.in-Ok-Some.ensures in
    let word : to_z w64 (of_z w64 c.in-Ok-Some.value) ≡ c.in-Ok-Some.value = search rules in
    let pushed =
    simp map-append at (ap (map answer_pair) c.in_ok-push-in-Ok-Some.ensures.ok)
    ∙ ap (λ z. map answer_pair c.loop-name.answers ++ (c.in-Ok-Some.name, signed_decimal z) ∷ []) word in
    subst (λ xs. TakesPairs (codes "answer ") c.args.lines.now xs c.take_pair.new.self) (sym pushed)
    (one_more (codes "answer ") c.args.lines.now (map answer_pair c.loop-name.answers) (c.in-Ok-Some.name, signed_decimal c.in-Ok-Some.value) c.loop-name.lines c.take_pair.new.self c.loop-name.invariant taken.0 taken.1 taken.2)

pub at-requires : goal.at-requires
at-requires c =
    let few = pairs_within (codes "answer ") c.args.lines.now (map answer_pair c.loop-name.answers) c.loop-name.lines c.loop-name.invariant in
    let count : length (map answer_pair c.loop-name.answers) ≡ length c.loop-name.answers = length-map c.loop-name.answers answer_pair in
    omega arith
