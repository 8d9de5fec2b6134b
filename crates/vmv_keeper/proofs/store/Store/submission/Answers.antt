-- What is found is well formed, as all rows are.
use Rattle.std.proofs.Common.{rules, ◌≡◌, Option, Some, IfSome, IsUtf8, sym, subst}
use Rattle.vmv_keeper.specs.declared.project.Submitted.{Submitted}
use Rattle.vmv_keeper.specs.Tables.{submission_in}
use Rattle.vmv_keeper.specs.Formed.{AreFormed}
use Rattle.vmv_keeper.proofs.FormedReads.{formed_submission}
use Rattle.vmv_keeper.proofs.store.Store.submission.Goals as goal

pub returns-in_ok-copy-in-Some-waiting_of-clause-formed : goal.returns-in_ok-copy-in-Some-waiting_of-clause-formed
returns-in_ok-copy-in-Some-waiting_of-clause-formed c =
    let it : Submitted = record { by = c.in-Some-waiting_of.waiting.now.row.by; text = c.in_ok-copy-in-Some-waiting_of.field-0 } in
    let told : Some it ≡ submission_in c.args.owner.now c.args.name.now c.args.number c.args.self.now = search rules in
    let formed : AreFormed c.args.self.now = subst AreFormed c.self.view_is c.self.invariant in
    let P : Option Submitted → Type 0 = λ o. IfSome o (λ s. IsUtf8 s.text) in
    subst P (sym told) (formed_submission c.args.owner.now c.args.name.now c.args.number c.args.self.now formed)
