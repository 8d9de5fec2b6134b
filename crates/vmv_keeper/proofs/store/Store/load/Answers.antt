-- What is found is well formed, as all rows are.
use Rattle.std.proofs.Common.{rules, ◌≡◌, Option, Some, IfSome, sym, subst}
use Rattle.vmv_keeper.specs.Tables.{held_in}
use Rattle.vmv_keeper.specs.Formed.{AreFormed, IsHeld}
use Rattle.vmv_keeper.specs.declared.project.Held.{Held}
use Rattle.vmv_keeper.proofs.FormedReads.{formed_load}
use Rattle.vmv_keeper.proofs.store.Store.load.Goals as goal

pub returns-in_ok-held_of-in-Some-clause-formed : goal.returns-in_ok-held_of-in-Some-clause-formed
returns-in_ok-held_of-in-Some-clause-formed c =
    let told : Some (c.in_ok-held_of-in-Some.field-0) ≡ held_in c.args.owner.now c.args.name.now c.args.self.now = search rules in
    let formed : AreFormed c.args.self.now = subst AreFormed c.self.view_is c.self.invariant in
    let P : Option (Held) → Type 0 = λ o. IfSome o (IsHeld c.args.owner.now) in
    subst P (sym told) (formed_load c.args.owner.now c.args.name.now c.args.self.now formed)
