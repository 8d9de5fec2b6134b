-- What is found is well formed, as all rows are.
use Rattle.std.proofs.Common.{rules, ◌≡◌, Option, Some, IfSome, sym, subst}
use Rattle.vmv_keeper.specs.declared.change.Kept.{Kept}
use Rattle.vmv_keeper.specs.Tables.{kept_in}
use Rattle.vmv_keeper.specs.Formed.{AreFormed, IsDone}
use Rattle.vmv_keeper.proofs.FormedReads.{formed_kept}
use Rattle.vmv_keeper.proofs.store.Store.reply_of.Goals as goal

pub returns-in_ok-copy-in-Some-2-clause-formed : goal.returns-in_ok-copy-in-Some-2-clause-formed
returns-in_ok-copy-in-Some-2-clause-formed c =
    let it : Kept = record { act = c.in_ok-copy-in-Some.field-0; reply = c.in_ok-copy-in-Some-2.field-0 } in
    let told : Some it ≡ kept_in c.args.caller.now c.args.id.now c.args.self.now = search rules in
    let formed : AreFormed c.args.self.now = subst AreFormed c.self.view_is c.self.invariant in
    let P : Option Kept → Type 0 = λ o. IfSome o (λ kept. IsDone kept.act kept.reply) in
    subst P (sym told) (formed_kept c.args.caller.now c.args.id.now c.args.self.now formed)
