use Rattle.std.proofs.Common.{◌≡◌, ℕ, Result, Err, ap, ◌∙◌}
use Rattle.vmv_text.specs.declared.item_part.Parsed.{Parsed}
use Rattle.vmv_text.specs.declared.fault.ReadFault.{ReadFault}
use Rattle.vmv_text.specs.declared.fault.ReadFault.TheVariants.{NotUtf8}
use Rattle.vmv_text.proofs.ValidFronts.{valid_once, not_valid}
use Rattle.vmv_text.proofs.read.read_program.Goals as goal

pub returns-in-Ok-clause-not_utf8 : goal.returns-in-Ok-clause-not_utf8
returns-in-Ok-clause-not_utf8 c = λ short at h. absurd (not_valid c.args.text.now at c.in-Ok.ensures.cases.1 h)

pub returns-in-Err-clause-not_utf8 : goal.returns-in-Err-clause-not_utf8
returns-in-Err-clause-not_utf8 c =
    λ short at h. wrapped (c.valid_up_to.ensures ∙ valid_once c.args.text.now _ at c.in-Err.ensures.cases.1 h)
  where
    wrapped : {n m : ℕ} → n ≡ m → ◌≡◌ {A = Result Parsed ReadFault} (Err (NotUtf8 n)) (Err (NotUtf8 m))
    wrapped e = ap (λ n. Err (NotUtf8 n)) e
