use Rattle.vmv_need.proofs.Existing.{safe_within, none_is_safe}
use Rattle.vmv_need.proofs.laws.vacuous_programs_have_no_safe_environment.Goals as goal

pub returns : goal.returns
returns c = λ program scope a env is necessary vacuous covers safe.
    none_is_safe program scope a env is (safe_within program scope a env is necessary covers safe) vacuous covers safe
