use Rattle.std.proofs.Common.{ap, ◌∙◌}
use Rattle.vmv_assumption.specs.Assumed.{names_of, cond_of}
use Rattle.vmv_assumption.proofs.Lookup.{names_of_all, cond_of_all}
use Rattle.vmv_assumption.proofs.assumed.Assumption.whole.Goals as goal

pub returns-clause-names : goal.returns-clause-names
returns-clause-names c = ap names_of c.in_ok-held.ensures ∙ (names_of_all _ _ ∙ c.outsides.ensures)

pub returns-clause-conds : goal.returns-clause-conds
returns-clause-conds c = λ name. ap (λ h. cond_of h name) c.in_ok-held.ensures ∙ cond_of_all _ _ name c.whole_cond-whole.ensures
