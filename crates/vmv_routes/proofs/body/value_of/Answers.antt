use Rattle.std.proofs.Common.{sym, ◌∙◌}
use Rattle.vmv_routes.proofs.Finding.{value_read, value_unread}
use Rattle.vmv_routes.proofs.body.value_of.Goals as goal

pub returns-in-Ok : goal.returns-in-Ok
returns-in-Ok c = value_read _ _ c.in-Ok.ensures.ok.0 c.in-Ok.ensures.ok.1

pub returns-else-is_memory : goal.returns-else-is_memory
returns-else-is_memory c = value_unread _ (λ utf8. c.in-Err.ensures.err (λ memory. let no = sym c.if-is_memory.false ∙ c.is_memory.ensures.1 memory in cc) utf8)
