use Rattle.std.proofs.Common.{◌∙◌}
use Rattle.vmv_run.proofs.Sources.{used_given, used_constant}
use Rattle.vmv_run.proofs.source.Source.used.Goals as goal

pub returns-in-Given : goal.returns-in-Given
returns-in-Given c = used_given c.args.self.now c.in-Given.answers c.in-Given.used c.in-Given.is

pub returns-in-Constant : goal.returns-in-Constant
returns-in-Constant c = λ sound. c.len.ensures ∙ used_constant c.args.self.now c.in-Constant.names c.in-Constant.values c.in-Constant.taken c.in-Constant.is
