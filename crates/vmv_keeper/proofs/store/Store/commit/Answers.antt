-- Rows in which a change was made that fits are well formed.
use Rattle.std.proofs.Common.{sym, subst}
use Rattle.vmv_keeper.specs.Tables.{Tables}
use Rattle.vmv_keeper.specs.Changes.{Fits}
use Rattle.vmv_keeper.proofs.FormedAfter.{formed_committed}
use Rattle.vmv_keeper.proofs.store.Store.commit.Goals as goal

pub invariant_of-self : goal.invariant_of-self
invariant_of-self c =
    let before : Tables = record { projects = c.self.inside.projects.items; replies = c.self.inside.replies.items } in
    let P : Tables → Type 0 = λ t. Fits t c.args.change.now in
    let fits : Fits before c.args.change.now = subst P (sym c.self.view_is) c.requires in
    formed_committed c.make_change.result before c.make_change.new.projects.items c.make_change.new.replies.items c.args.change.now
    c.self.invariant fits c.make_change.ensures.projects c.make_change.ensures.replies
    c.make_change.ensures.projects_refused c.make_change.ensures.replies_refused
