use Rattle.std.proofs.Common.{sym, ◌∙◌}
use Rattle.vmv_assumption.proofs.Lookup.{got_held, got_whole}
use Rattle.vmv_assumption.proofs.assumed.Assumption.get.Goals as goal

pub returns-in-Some : goal.returns-in-Some
returns-in-Some c = got_held _ _ _ c.self.view_is c.as_slice.ensures.value _ _ (sym c.in-Some.ensures) _ c.index.ensures

pub returns-in-None : goal.returns-in-None
returns-in-None c = c.whole_cond.ensures ∙ sym (got_whole _ _ _ c.self.view_is c.as_slice.ensures.value _ (sym c.in-None.ensures))
