use Rattle.std.proofs.Common.{subst}
use Rattle.std.specs.Prelude.{Ok, Err}
use Rattle.std.specs.Str.Parse.{ParsesUnsigned}
use Rattle.std.specs.declared.num.ParseIntError.{ParseIntError}
use Rattle.std.proofs.lemmas.Bool.{iff_false}
use Rattle.vmv_proof_words.proofs.Digits.{natural_utf8, natural_read, natural_not_read, not_natural}
use Rattle.vmv_proof_words.proofs.number.natural_of.Goals as goal

pub returns-then-not-is_natural : goal.returns-then-not-is_natural
returns-then-not-is_natural c = not_natural c.args.digits.now (iff_false c.is_natural.ensures c.if-not-is_natural.true)

pub returns-in_default : goal.returns-in_default
returns-in_default c = absurd (c.in_default.ensures.cases.0 (natural_utf8 c.args.digits.now (c.is_natural.ensures.0 c.if-not-is_natural.false)))

pub returns-in-Ok-parse : goal.returns-in-Ok-parse
returns-in-Ok-parse c =
    natural_read c.args.digits.now c.in-Ok-parse.number (c.is_natural.ensures.0 c.if-not-is_natural.false)
    (subst (λ bytes. ParsesUnsigned {E = ParseIntError} 64 10 bytes (Ok c.in-Ok-parse.number)) c.in-Ok.ensures.cases.0 c.in-Ok-parse.ensures.value.0)

pub returns-in-Err : goal.returns-in-Err
returns-in-Err c =
    natural_not_read c.args.digits.now c.in-Err.field-0
    (subst (λ bytes. ParsesUnsigned {E = ParseIntError} 64 10 bytes (Err c.in-Err.field-0)) c.in-Ok.ensures.cases.0 c.in-Err.ensures.value.0)
