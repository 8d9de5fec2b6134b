-- The base keeps what the root does.
use Rattle.vmv_desk_rules.specs.Causes.{Meaning}
use Rattle.vmv_desk_rules.specs.Well.{Well}
use Rattle.vmv_desk_rules.proofs.ChainLemmas.{chains_kept}
use Rattle.vmv_desk_rules.proofs.HeardLemmas.{meant}
use Rattle.vmv_desk_rules.proofs.laws.well_rows_keep_chains.Goals as goal

pub returns : goal.returns
returns g c tables well =
    let judge = c.args._judge.now in
    let I = g.J.Judge.inspected judge in
    let C = g.J.Judge.compared judge in
    let it = meant I C (λ text a b h k. g.met.J.Judge.one_inspected judge text a b h k) (λ base revision a b h k. g.met.J.Judge.one_compared judge base revision a b h k) (λ text said is h. g.met.J.Judge.utf8 judge text said is h) (λ M. Well M tables) well in
    let M = it.0 in
    chains_kept M (g.J.Judge.keeps judge) (λ text h. g.met.J.Judge.reflexive judge text (M.inspected text) (it.1.inspected text h) h)
    (λ a b d h k. g.met.J.Judge.transitive judge a b d h k) (λ a b h. g.met.J.Judge.sound judge a b (M.compared a b) (it.1.compared a b h) h) tables it.2
