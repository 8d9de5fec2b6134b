use Rattle.std.proofs.Common.{sym, subst}
use Rattle.vmv_text.specs.declared.token.Token.TheVariants.{CloseParen}
use Rattle.vmv_text.specs.Reading.{Stops}
use Rattle.vmv_surface_text.specs.Grammar.{IsExprAt}
use Rattle.vmv_surface_text.specs.Reading.{FitsAt}
use Rattle.vmv_surface_text.proofs.Readers.{took, given_group, group_stops}
use Rattle.vmv_surface_text.proofs.reader.Reader.end_group.Goals as goal

pub returns-then-not-takes-clause-reads : goal.returns-then-not-takes-clause-reads
returns-then-not-takes-clause-reads c = λ start d.
    let t = c.if-not-takes.ensures.tests in
    subst (λ n. Stops (IsExprAt 0) (FitsAt 0) start n) (sym t.1) (group_stops start c.args.self.now c.args.cursor.now t.0 d)

pub returns-clause-reads : goal.returns-clause-reads
returns-clause-reads c = λ start d.
    let p = took CloseParen c.args.cursor.now c.takes.new.self c.if-not-takes.ensures.tests in
    given_group start c.args.self.now c.end_sign.new.self c.args.cursor.now c.takes.new.self p.0 p.1 d c.in_ok-end_sign.ensures
