use Rattle.std.proofs.Common.{◌≡◌, ◌++◌, drop}
use Rattle.std.specs.List.{flat_map}
use Rattle.vmv_report.specs.Texts.{told_row}
use Rattle.vmv_report.proofs.row_texts.push_told_rows.Given as goal

abbrev pub invariant-loop-row : goal.invariant-loop-row
invariant-loop-row l = l.out.items ++ flat_map (told_row l.revision) (drop l.row-index l.rows) ≡ l.fn.out.items ++ flat_map (told_row l.revision) l.rows
