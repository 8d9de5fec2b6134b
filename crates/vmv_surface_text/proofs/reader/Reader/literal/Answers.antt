use Rattle.std.proofs.Common.{◌≡◌, ◌++◌, ◌∷◌, [], refl, rules, arith}
use Rattle.std.proofs.lemmas.Grind.{common_steps}
use Rattle.vmv_lower.specs.declared.step.Step.TheVariants.{Lit}
use Rattle.vmv_surface_text.proofs.Operands.{other_unlike}
use Rattle.vmv_surface_text.proofs.Readers.{operand_stops, given_literal}
use Rattle.vmv_surface_text.proofs.reader.Reader.literal.Goals as goal

pub returns-in_default-clause-reads : goal.returns-in_default-clause-reads
returns-in_default-clause-reads c =
    λ start a. operand_stops start c.args.self.now c.args.cursor.now a (other_unlike c.args.self.now.waiting.signed c.args.cursor.now c.args.first c.requires c.in_default.ensures)

pub returns-clause-reads : goal.returns-clause-reads
returns-clause-reads c =
    let pushed : c.push.new.self ≡ c.args.self.now.steps ++ Lit c.in-Some.word ∷ [] = first_of (cc (c.in_ok-push.ensures.ok), first_of (search rules, grind (arith, common_steps))) in
    λ start a. given_literal c.args.first c.in-Some.word start c.args.self.now _ c.args.cursor.now c.skip.new.self c.requires.next c.skip.ensures.exact c.in-Some.ensures a pushed refl refl
