-- The benches of well formed rows are well formed.
use Rattle.std.proofs.Common.{◌≡◌, map, List, IfOk, subst}
use Rattle.vmv_keeper.specs.declared.project.Project.{Project}
use Rattle.vmv_keeper.specs.Tables.{bench_of}
use Rattle.vmv_keeper.proofs.FormedReads.{formed_answer}
use Rattle.vmv_keeper.proofs.store.Store.benches.Goals as goal

pub returns-clause-formed : goal.returns-clause-formed
returns-clause-formed c =
    let P : List Project → Type 0 = λ ps. IfOk c.benches_of.result (λ benches. benches ≡ map bench_of ps) in
    formed_answer c.benches_of.result (record { projects = c.self.inside.projects.items; replies = c.self.inside.replies.items })
    c.self.invariant (subst P c.as_slice.ensures.value c.benches_of.ensures)
