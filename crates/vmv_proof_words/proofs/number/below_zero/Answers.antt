use Rattle.std.proofs.Common.{sym, ◌∙◌, suc}
use Rattle.std.proofs.lemmas.Bool.{both_ways}
use Rattle.std.proofs.lemmas.Bool.Decides.{Decides-eqb}
use Rattle.std.proofs.lemmas.Slice.Eq.{slice_eq-Decides}
use Rattle.vmv_proof_words.proofs.Digits.{lowest_read, below_not_read, zero_not_read}
use Rattle.vmv_proof_words.proofs.number.below_zero.Goals as goal

pub returns-then-eq : goal.returns-then-eq
returns-then-eq c = lowest_read c.args.digits.now ((slice_eq-Decides Decides-eqb _ _ _ c.eq.ensures).0 c.if-eq.true ∙ c.as_slice.ensures)

pub returns-in_default : goal.returns-in_default
returns-in_default c =
    below_not_read c.args.digits.now (λ e. both_ways _ c.if-eq.false ((slice_eq-Decides Decides-eqb _ _ _ c.eq.ensures).1 (e ∙ sym c.as_slice.ensures)))
    (λ n. c.in_default.ensures (suc n))

pub returns-then-number-eq0 : goal.returns-then-number-eq0
returns-then-number-eq0 c =
    below_not_read c.args.digits.now (λ e. both_ways _ c.if-eq.false ((slice_eq-Decides Decides-eqb _ _ _ c.eq.ensures).1 (e ∙ sym c.as_slice.ensures)))
    (zero_not_read c.args.digits.now c.in-Some.number c.in-Some.ensures c.if-number-eq0.true)
