use Rattle.std.proofs.Common.{refl}
use Rattle.vmv_surface_text.proofs.Operands.{sign_unlike}
use Rattle.vmv_surface_text.proofs.Readers.{operand_stops, asked_sign}
use Rattle.vmv_surface_text.proofs.reader.Reader.sign.Goals as goal

pub returns-then-self-clause-reads : goal.returns-then-self-clause-reads
returns-then-self-clause-reads c =
    λ start a. operand_stops start c.args.self.now c.args.cursor.now a (sign_unlike c.args.self.now.waiting.signed c.args.cursor.now c.if-self.true c.requires)

pub returns-clause-reads : goal.returns-clause-reads
returns-clause-reads c =
    λ start a. asked_sign start c.args.self.now _ c.args.cursor.now c.skip.new.self c.requires c.skip.ensures.exact c.if-self.false a refl refl refl
