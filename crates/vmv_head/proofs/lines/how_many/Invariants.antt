-- The lines so far are counted.
use Rattle.std.proofs.Common.{◌≡◌, ◌≤◌, ◌+◌, drop, map}
use Rattle.httparse.specs.Spans.{header_bytes}
use Rattle.vmv_head.specs.Lines.{how_many}
use Rattle.vmv_head.proofs.lines.how_many.Given as goal

abbrev pub invariant-loop-line : goal.invariant-loop-line
invariant-loop-line l = record {
  few : l.count ≤ l.line-index;
  counted : l.count + how_many l.name (map (header_bytes l.head) (drop l.line-index l.lines)) ≡ how_many l.name (map (header_bytes l.head) l.lines);
}
