use Rattle.std.proofs.Common.{sym, refl}
use Rattle.vmv_assumption.proofs.Lookup.{is_held, not_held, names_stay, cond_is_set}
use Rattle.vmv_assumption.proofs.assumed.Assumption.set.Goals as goal

pub returns-in-Some-clause-held : goal.returns-in-Some-clause-held
returns-in-Some-clause-held c = (λ t. is_held _ _ _ c.self.view_is c.as_slice.ensures.value _ _ (sym c.in-Some.ensures), λ h. refl)

pub returns-in-Some-clause-names : goal.returns-in-Some-clause-names
returns-in-Some-clause-names c = names_stay _ _ _ c.self.view_is c.as_slice.ensures.value _ _ (sym c.in-Some.ensures) _

pub returns-in-Some-clause-conds : goal.returns-in-Some-clause-conds
returns-in-Some-clause-conds c = λ t. cond_is_set _ _ _ c.self.view_is c.as_slice.ensures.value _ _ (sym c.in-Some.ensures) _

pub returns-in-None-clause-held : goal.returns-in-None-clause-held
returns-in-None-clause-held c = (λ t. absurd (cc), λ h. absurd (not_held _ _ _ c.self.view_is c.as_slice.ensures.value _ (sym c.in-None.ensures) h))
