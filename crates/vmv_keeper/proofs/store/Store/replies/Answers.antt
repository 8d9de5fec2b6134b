-- No caller has more replies than the limit.
use Rattle.std.proofs.Common.{rules, arith, ◌≡◌, subst}
use Rattle.vmv_keeper.specs.Tables.{reply_count}
use Rattle.vmv_keeper.specs.Formed.{AreFormed}
use Rattle.vmv_keeper.proofs.store.Store.replies.Goals as goal

pub overflow_cast-result : goal.overflow_cast-result
overflow_cast-result c =
    let told : c.count_of.result ≡ reply_count c.args.self.now c.args.caller.now = search rules in
    let formed : AreFormed c.args.self.now = subst AreFormed c.self.view_is c.self.invariant in
    let few = formed.few_replies c.args.caller.now in
    omega arith

pub returns-clause-formed : goal.returns-clause-formed
returns-clause-formed c =
    let told : c.count_of.result ≡ reply_count c.args.self.now c.args.caller.now = search rules in
    let formed : AreFormed c.args.self.now = subst AreFormed c.self.view_is c.self.invariant in
    let few = formed.few_replies c.args.caller.now in
    omega arith
