use Rattle.std.proofs.Common.{sym, subst, [], ◌∷◌}
use Rattle.vmv_text.specs.declared.token.Token.TheVariants.{Named, OpenParen, CloseParen}
use Rattle.vmv_surface_text.specs.Opening.{Asked, Given}
use Rattle.vmv_surface_text.proofs.Readers.{took, asked_more, given_variable, given_none, asked_call}
use Rattle.vmv_surface_text.proofs.reader.Reader.named.Goals as goal

pub returns-then-not-takes-clause-reads : goal.returns-then-not-takes-clause-reads
returns-then-not-takes-clause-reads c = λ start a.
    let t = c.if-not-takes.ensures.tests in
    subst (λ n. Given start c.atom.new.self n) (sym t.1)
    (given_variable c.args.name start c.args.self.now c.atom.new.self c.args.cursor.now t.0 a c.in_ok-atom.ensures)

pub returns-then-takes-clause-reads : goal.returns-then-takes-clause-reads
returns-then-takes-clause-reads c = λ start a.
    let x = c.args.name in
    let r = c.args.self.now in
    let first = took OpenParen c.args.cursor.now c.takes.new.self c.if-not-takes.ensures.tests in
    let second = took CloseParen c.takes.new.self c.takes-2.new.self c.if-takes.ensures.tests in
    let opened = asked_more (Named x ∷ []) OpenParen start r c.args.cursor.now c.takes.new.self first.0 first.1 a in
    let closed = asked_more (Named x ∷ OpenParen ∷ []) CloseParen start r c.takes.new.self c.takes-2.new.self second.0 second.1 opened in
    given_none x start r c.atom-then-takes.new.self c.takes-2.new.self closed c.in_ok-atom-2.ensures

pub returns-clause-reads : goal.returns-clause-reads
returns-clause-reads c = λ start a.
    let x = c.args.name in
    let r = c.args.self.now in
    let first = took OpenParen c.args.cursor.now c.takes.new.self c.if-not-takes.ensures.tests in
    let t = c.if-takes.ensures.tests in
    let opened = asked_more (Named x ∷ []) OpenParen start r c.args.cursor.now c.takes.new.self first.0 first.1 a in
    subst (λ n. Asked [] start c.enter.new.self n) (sym t.1) (asked_call x start r c.enter.new.self c.takes.new.self t.0 opened c.in_ok-enter.ensures)
