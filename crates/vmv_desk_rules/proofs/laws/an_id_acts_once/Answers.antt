-- An id acts once.
use Rattle.std.proofs.Common.{◌≡◌}
use Rattle.vmv_keeper.specs.declared.act.Command.TheVariants.{Change}
use Rattle.vmv_desk_rules.specs.Causes.{Meaning}
use Rattle.vmv_desk_rules.specs.Step.{Step}
use Rattle.vmv_desk_rules.specs.Runs.{Runs}
use Rattle.vmv_desk_rules.proofs.OnceLemmas.{once}
use Rattle.vmv_desk_rules.proofs.HeardLemmas.{by_two, by_out}
use Rattle.vmv_desk_rules.proofs.laws.an_id_acts_once.Goals as goal

pub returns : goal.returns
returns g c before behind now then caller id act reply again commands replies step done runs last =
    let judge = c.args._judge.now in
    let I = g.J.Judge.inspected judge in
    let C = g.J.Judge.compared judge in
    let First : Meaning → Type 0 = λ M. Step M before (Change caller id act) behind reply in
    let Between : Meaning → Type 0 = λ M. Runs M behind commands now replies in
    let Last : Meaning → Type 0 = λ M. Step M now (Change caller id act) then again in
    let front = by_two I C First Between (λ M. First M × Between M) (λ M utf8 a b. (a, b)) step runs in
    by_out I C (λ text a b h k. g.met.J.Judge.one_inspected judge text a b h k) (λ base revision a b h k. g.met.J.Judge.one_compared judge base revision a b h k) (λ text said is h. g.met.J.Judge.utf8 judge text said is h)
    (by_two I C (λ M. First M × Between M) Last (λ M. (again ≡ reply) × (then ≡ now))
    (λ M utf8 a b. once M before behind now then caller id act reply again commands replies a.0 done a.1 b) front last)
