use Rattle.std.proofs.Common.{subst}
use Rattle.std.specs.Prelude.{Ok, Err}
use Rattle.std.specs.Str.Parse.{ParsesUnsigned}
use Rattle.std.specs.declared.num.ParseIntError.{ParseIntError}
use Rattle.vmv_witness.proofs.Digits.{number_utf8, site_read, site_not_read}
use Rattle.vmv_witness.proofs.number.site_number_of.Goals as goal

pub returns-in_default : goal.returns-in_default
returns-in_default c = λ h. c.in_default.ensures.cases.0 (number_utf8 c.args.bytes.now h)

pub returns-in-Ok-parse : goal.returns-in-Ok-parse
returns-in-Ok-parse c =
    site_read c.args.bytes.now c.in-Ok-parse.number (c.is_number.ensures.0 c.if-not-is_number.false)
    (subst (λ bytes. ParsesUnsigned {E = ParseIntError} 32 10 bytes (Ok c.in-Ok-parse.number)) c.in-Ok.ensures.cases.0 c.in-Ok-parse.ensures.value.0)

pub returns-in-Err : goal.returns-in-Err
returns-in-Err c = (
  c.is_number.ensures.0 c.if-not-is_number.false,
  site_not_read c.args.bytes.now c.in-Err.field-0
      (subst (λ bytes. ParsesUnsigned {E = ParseIntError} 32 10 bytes (Err c.in-Err.field-0)) c.in-Ok.ensures.cases.0 c.in-Err.ensures.value.0),
)
