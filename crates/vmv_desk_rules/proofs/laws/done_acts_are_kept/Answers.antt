-- An act that was done is kept.
use Rattle.std.proofs.Common.{◌≡◌, Option, IsSomeAnd, sym, subst}
use Rattle.vmv_keeper.specs.declared.act.Command.TheVariants.{Change as ToChange}
use Rattle.vmv_keeper.specs.declared.change.Change.{Change}
use Rattle.vmv_desk_rules.specs.Causes.{Meaning}
use Rattle.vmv_desk_rules.specs.Step.{Step}
use Rattle.vmv_desk_rules.specs.Runs.{Runs}
use Rattle.vmv_desk_rules.specs.Keeping.{IsKeptAs}
use Rattle.vmv_desk_rules.proofs.OnceLemmas.{kept_since}
use Rattle.vmv_desk_rules.proofs.HeardLemmas.{by_two, by_out}
use Rattle.vmv_desk_rules.proofs.laws.done_acts_are_kept.Goals as goal

pub returns : goal.returns
returns g c before behind now caller id act reply commands replies step done runs =
    let judge = c.args._judge.now in
    let I = g.J.Judge.inspected judge in
    let C = g.J.Judge.compared judge in
    by_out I C (λ text a b h k. g.met.J.Judge.one_inspected judge text a b h k) (λ base revision a b h k. g.met.J.Judge.one_compared judge base revision a b h k) (λ text said is h. g.met.J.Judge.utf8 judge text said is h)
    (by_two I C (λ M. Step M before (ToChange caller id act) behind reply) (λ M. Runs M behind commands now replies) (λ M. IsKeptAs now caller id act reply)
    (λ M utf8 first between.
    let kept = kept_since M before behind now caller id act reply commands replies first done between in
    let P : Option Change → Type 0 = λ found. IsSomeAnd found (λ k. (k.act ≡ act) × (k.reply ≡ reply)) in
    subst P (sym kept.1) (kept.2, kept.3)) step runs)
