-- What is found is well formed, as all rows are.
use Rattle.std.proofs.Common.{rules, ◌≡◌, Option, Some, IfSome, IsUtf8, List, ℕ, sym, subst}
use Rattle.vmv_keeper.specs.Tables.{text_in}
use Rattle.vmv_keeper.specs.Formed.{AreFormed}
use Rattle.vmv_keeper.proofs.FormedReads.{formed_text}
use Rattle.vmv_keeper.proofs.store.Store.text.Goals as goal

pub returns-in_ok-copy-in-Some-version_of-clause-formed : goal.returns-in_ok-copy-in-Some-version_of-clause-formed
returns-in_ok-copy-in-Some-version_of-clause-formed c =
    let told : Some (c.in_ok-copy-in-Some-version_of.field-0) ≡ text_in c.args.owner.now c.args.name.now c.args.number c.args.self.now = search rules in
    let formed : AreFormed c.args.self.now = subst AreFormed c.self.view_is c.self.invariant in
    let P : Option (List ℕ) → Type 0 = λ o. IfSome o IsUtf8 in
    subst P (sym told) (formed_text c.args.owner.now c.args.name.now c.args.number c.args.self.now formed)
