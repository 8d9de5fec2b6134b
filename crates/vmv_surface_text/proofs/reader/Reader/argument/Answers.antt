use Rattle.std.proofs.Common.{◌∙◌, sym, subst}
use Rattle.vmv_text.specs.declared.token.Token.TheVariants.{CloseParen, Comma}
use Rattle.vmv_text.specs.Tokens.{tokens_of}
use Rattle.vmv_text.specs.Reading.{Lacks, Stops}
use Rattle.vmv_surface_text.specs.declared.reader.Bracket.TheVariants.{Call}
use Rattle.vmv_surface_text.specs.Grammar.{IsExprAt}
use Rattle.vmv_surface_text.specs.Reading.{FitsAt}
use Rattle.vmv_surface_text.specs.Opening.{EndedIn}
use Rattle.vmv_surface_text.proofs.Readers.{took, asked_comma, given_call, argument_stops}
use Rattle.vmv_surface_text.proofs.reader.Reader.argument.Goals as goal

pub returns-then-takes-clause-reads : goal.returns-then-takes-clause-reads
returns-then-takes-clause-reads c = λ start d.
    let p = took Comma c.args.cursor.now c.takes.new.self c.if-takes.ensures.tests in
    asked_comma c.args.callee c.args.before c.in_ok-count.count start c.args.self.now c.enter.new.self c.args.cursor.now c.takes.new.self p.0 p.1 d c.in_ok-count.ensures c.in_ok-enter.ensures

pub returns-then-not-takes-clause-reads : goal.returns-then-not-takes-clause-reads
returns-then-not-takes-clause-reads c = λ start d.
    let t = c.if-takes.ensures.tests in
    let u = c.if-not-takes.ensures.tests in
    let no_close = subst (λ n. Lacks CloseParen (tokens_of n)) t.1 u.0 in
    subst (λ n. Stops (IsExprAt 0) (FitsAt 0) start n) (sym (u.1 ∙ t.1)) (argument_stops c.args.callee c.args.before start c.args.self.now c.args.cursor.now t.0 no_close d)

pub returns-clause-reads : goal.returns-clause-reads
returns-clause-reads c = λ start d.
    let t = c.if-takes.ensures.tests in
    let here = subst (λ n. EndedIn (Call c.args.callee c.args.before) start c.args.self.now n) (sym t.1) d in
    let p = took CloseParen c.takes.new.self c.takes-2.new.self c.if-not-takes.ensures.tests in
    given_call c.args.callee c.args.before c.in_ok-count.count start c.args.self.now c.atom.new.self c.takes.new.self c.takes-2.new.self p.0 p.1 here c.in_ok-count.ensures c.in_ok-atom.ensures
