use Rattle.std.proofs.Common.{◌≡◌, ◌∙◌, sym, ap, Some, None, []}
use Rattle.vmv_text.specs.declared.token.Token.TheVariants.{Named, OpenParen}
use Rattle.vmv_text.specs.Reading.{first_of}
use Rattle.vmv_surface_text.proofs.Operands.{none_unlike}
use Rattle.vmv_surface_text.proofs.Readers.{operand_stops, asked_more, asked_group}
use Rattle.vmv_surface_text.proofs.reader.Reader.operand.Goals as goal

pub returns-in_default-clause-reads : goal.returns-in_default-clause-reads
returns-in_default-clause-reads c =
    let none : first_of c.args.cursor.now ≡ None = sym c.peek.ensures ∙ c.in_default.is in
    λ start a. operand_stops start c.args.self.now c.args.cursor.now a (none_unlike c.args.self.now.waiting.signed c.args.cursor.now none)

pub returns-in-Named-clause-reads : goal.returns-in-Named-clause-reads
returns-in-Named-clause-reads c =
    let first : first_of c.args.cursor.now ≡ Some (Named c.in-Named.name) = sym c.peek.ensures ∙ (c.in-Some.is ∙ ap Some c.in-Named.is) in
    λ start a. c.named.ensures.reads start (asked_more [] (Named c.in-Named.name) start c.args.self.now c.args.cursor.now c.skip.new.self first c.skip.ensures.exact a)

pub returns-in_ok-enter-in-OpenParen-clause-reads :
    goal.returns-in_ok-enter-in-OpenParen-clause-reads
returns-in_ok-enter-in-OpenParen-clause-reads c =
    let first : first_of c.args.cursor.now ≡ Some OpenParen = sym c.peek.ensures ∙ (c.in-Some.is ∙ ap Some c.in-OpenParen.is) in
    λ start a. asked_group start c.args.self.now c.enter.new.self c.skip-in-OpenParen.new.self (asked_more [] OpenParen start c.args.self.now c.args.cursor.now c.skip-in-OpenParen.new.self first c.skip-in-OpenParen.ensures.exact a) c.in_ok-enter-in-OpenParen.ensures
