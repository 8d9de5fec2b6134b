use Rattle.std.proofs.Common.{sym, ap, ◌∙◌, subst}
use Rattle.std.specs.Prelude.{Ok, Err}
use Rattle.std.specs.Int.{w64}
use Rattle.std.specs.Fmt.{signed_decimal}
use Rattle.std.specs.Str.Parse.{ParsesSigned}
use Rattle.std.specs.declared.num.ParseIntError.{ParseIntError}
use Rattle.std.proofs.lemmas.Int.{to_z-of_z}
use Rattle.vmv_witness.proofs.Digits.{number_utf8, value_read, value_not_read}
use Rattle.vmv_witness.proofs.number.value_of.Goals as goal

pub returns-in_default : goal.returns-in_default
returns-in_default c = λ h. c.in_default.ensures.cases.0 (number_utf8 c.args.bytes.now h)

pub returns-in-Ok-parse : goal.returns-in-Ok-parse
returns-in-Ok-parse c =
    let read =
    value_read c.args.bytes.now c.in-Ok-parse.value (c.is_number.ensures.0 c.if-not-is_number.false)
    (subst (λ bytes. ParsesSigned {E = ParseIntError} w64 10 bytes (Ok c.in-Ok-parse.value)) c.in-Ok.ensures.cases.0 c.in-Ok-parse.ensures.value.0) in
    (read.0 ∙ ap signed_decimal (sym (to_z-of_z w64 c.in-Ok-parse.value read.2)), read.1)

pub returns-in-Err : goal.returns-in-Err
returns-in-Err c = (
  c.is_number.ensures.0 c.if-not-is_number.false,
  value_not_read c.args.bytes.now c.in-Err.field-0
      (subst (λ bytes. ParsesSigned {E = ParseIntError} w64 10 bytes (Err c.in-Err.field-0)) c.in-Ok.ensures.cases.0 c.in-Err.ensures.value.0),
)
