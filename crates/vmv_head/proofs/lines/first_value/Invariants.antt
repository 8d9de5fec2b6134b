-- The lines so far have other names.
use Rattle.std.proofs.Common.{◌≡◌, drop, map}
use Rattle.httparse.specs.Spans.{header_bytes}
use Rattle.vmv_head.specs.Lines.{first_value}
use Rattle.vmv_head.proofs.lines.first_value.Given as goal

abbrev pub invariant-loop-line : goal.invariant-loop-line
invariant-loop-line l = first_value l.name (map (header_bytes l.head) (drop l.line-index l.lines)) ≡ first_value l.name (map (header_bytes l.head) l.lines)
