-- Rows stay well over any commands, from none on.
use Rattle.vmv_keeper.specs.Tables.{no_rows}
use Rattle.vmv_desk_rules.specs.Causes.{Meaning}
use Rattle.vmv_desk_rules.specs.Well.{Well}
use Rattle.vmv_desk_rules.specs.Runs.{Runs}
use Rattle.vmv_desk_rules.proofs.BegunLemmas.{Well-none, Well-runs}
use Rattle.vmv_desk_rules.proofs.ChainLemmas.{chains_kept}
use Rattle.vmv_desk_rules.proofs.HeardLemmas.{by_any, by_two, meant}
use Rattle.vmv_desk_rules.proofs.laws.histories_need_no_premise.Goals as goal

pub returns-clause-well : goal.returns-clause-well
returns-clause-well g c new commands replies runs =
    let judge = c.args._judge.now in
    let I = g.J.Judge.inspected judge in
    let C = g.J.Judge.compared judge in
    by_two I C (λ M. Well M no_rows) (λ M. Runs M no_rows commands new replies) (λ M. Well M new)
    (λ M utf8 well ran. Well-runs M no_rows new commands replies utf8 well ran) (by_any I C (λ M. Well M no_rows) Well-none) runs

pub returns-clause-chains : goal.returns-clause-chains
returns-clause-chains g c new commands replies runs =
    let judge = c.args._judge.now in
    let I = g.J.Judge.inspected judge in
    let C = g.J.Judge.compared judge in
    let it = meant I C (λ text a b h k. g.met.J.Judge.one_inspected judge text a b h k) (λ base revision a b h k. g.met.J.Judge.one_compared judge base revision a b h k) (λ text said is h. g.met.J.Judge.utf8 judge text said is h) (λ M. Runs M no_rows commands new replies) runs in
    let M = it.0 in
    chains_kept M (g.J.Judge.keeps judge) (λ text h. g.met.J.Judge.reflexive judge text (M.inspected text) (it.1.inspected text h) h)
    (λ a b d h k. g.met.J.Judge.transitive judge a b d h k) (λ a b h. g.met.J.Judge.sound judge a b (M.compared a b) (it.1.compared a b h) h) new
    (Well-runs M no_rows new commands replies it.1.utf8_read (Well-none M) it.2)
