-- Each submission that waits is given.
use Rattle.std.proofs.Common.{◌≡◌, Some, None, List, ℕ, subst, rules}
use Rattle.vmv_keeper.specs.Outside.{IsAsIn}
use Rattle.vmv_desk.specs.Asked.{rows_in}
use Rattle.vmv_desk.proofs.AskedLemmas.{pending_told, pending_missing}
use Rattle.vmv_desk.proofs.asking.pending_of.Goals as goal

pub returns-in-Some-clause-told : goal.returns-in-Some-clause-told
returns-in-Some-clause-told g c J held formed =
    let numbers : c.deref.result.now ≡ c.args.queue.now.pending = search rules in
    let P : List ℕ → Type 0 = λ l. IsAsIn (rows_in c.args.owner.now c.args.project.now l) (g.K.Keeper.told c.args.keeper.now) (Some c.in-Some.rows) in
    pending_told (g.K.Keeper.told c.args.keeper.now) c.args.owner.now c.args.project.now held c.args.queue.now J c.in-Some.rows (subst P numbers (search rules)) formed

pub returns-clause-told : goal.returns-clause-told
returns-clause-told g c J held formed =
    let numbers : c.deref.result.now ≡ c.args.queue.now.pending = search rules in
    let P : List ℕ → Type 0 = λ l. IsAsIn (rows_in c.args.owner.now c.args.project.now l) (g.K.Keeper.told c.args.keeper.now) None in
    pending_missing (g.K.Keeper.told c.args.keeper.now) c.args.owner.now c.args.project.now held c.args.queue.now J (subst P numbers (search rules)) formed
