use Rattle.vmv_text.specs.Symbols.{as_token}
use Rattle.vmv_text.proofs.Steps.{token_ends, token_refused}
use Rattle.vmv_text.proofs.cursor.Cursor.expect.Goals as goal

pub returns-then-takes-clause-reads : goal.returns-then-takes-clause-reads
returns-then-takes-clause-reads c = token_ends (as_token c.args.wanted) c.if-takes.ensures.tests.0 _ _ c.if-takes.ensures.tests.1

pub returns-else-takes-clause-reads : goal.returns-else-takes-clause-reads
returns-else-takes-clause-reads c = token_refused (as_token c.args.wanted) _ _ c.if-takes.ensures.tests
