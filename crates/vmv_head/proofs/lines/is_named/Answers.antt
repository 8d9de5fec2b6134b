use Rattle.std.proofs.Common.{map, ap, ◌∙◌}
use Rattle.std.specs.Prelude.{nat_eq}
use Rattle.std.specs.Char.{to_ascii_lowercase}
use Rattle.std.specs.Cmp.Lexicographic.{pointwise}
use Rattle.vmv_head.proofs.Naming.{told_same}
use Rattle.vmv_head.proofs.lines.is_named.Goals as goal

pub returns : goal.returns
returns c =
    told_same _ _ _ c.eq_ignore_ascii_case.ensures.test
    ∙ ap (λ l. pointwise nat_eq (map to_ascii_lowercase l) (map to_ascii_lowercase c.args.name.now)) c.of.ensures
