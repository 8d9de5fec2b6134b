-- A step is the step of what its caller sees, and a command has one step.
use Rattle.std.proofs.Common.{◌≡◌, sym, subst}
use Rattle.vmv_keeper.specs.Tables.{Tables}
use Rattle.vmv_desk_rules.specs.Step.{Step}
use Rattle.vmv_desk_rules.proofs.HeardLemmas.{by_two, by_out}
use Rattle.vmv_desk_laws.specs.Seen.{seen_by, caller_of}
use Rattle.vmv_desk_laws.proofs.SeenLemmas.{seen_step}
use Rattle.vmv_desk_laws.proofs.DeterminedLemmas.{one_step}
use Rattle.vmv_desk_laws.proofs.laws.callers_are_kept_apart.Goals as goal

pub returns : goal.returns
returns g c tables new others behind command reply again formed others_formed same step other =
    let judge = c.args._judge.now in
    let I = g.J.Judge.inspected judge in
    let C = g.J.Judge.compared judge in
    by_out I C (λ text a b h k. g.met.J.Judge.one_inspected judge text a b h k) (λ base revision a b h k. g.met.J.Judge.one_compared judge base revision a b h k) (λ text said is h. g.met.J.Judge.utf8 judge text said is h)
    (by_two I C (λ M. Step M tables command new reply) (λ M. Step M others command behind again)
    (λ M. (reply ≡ again) × (seen_by (caller_of command) new ≡ seen_by (caller_of command) behind))
    (λ M utf8 one two.
    let P : Tables → Type 0 = λ t. Step M t command (seen_by (caller_of command) behind) again in
    let here = seen_step M tables new command reply formed one in
    let there = subst P (sym same) (seen_step M others behind command again others_formed two) in
    let both = one_step M (seen_by (caller_of command) tables) (seen_by (caller_of command) new) (seen_by (caller_of command) behind) command reply again here there in
    (both.1, both.0)) step other)
