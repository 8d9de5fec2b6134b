use Rattle.std.proofs.Common.{rules, ◌≡◌, ◌+◌, [], ◌∷◌, ◌++◌}
use Rattle.std.specs.List.{AllZip, range_with_len}
use Rattle.rayon.proofs.ListFacts.{AllZip-append}
use Rattle.rayon.specs.Shown.{run-append}
use Rattle.vmv_crew.proofs.parts.in_turn.Goals as goal

pub loop-k-preserved : goal.loop-k-preserved
loop-k-preserved g c =
    let Q = g.J.Job.allows c.args.job.now in
    let from = c.args.from in
    let k = c.loop-k.k in
    let x = c.in_ok-at_place.field-0 in
    let one : Q (from + k) x = search rules in
    let last : AllZip Q (range_with_len (from + k) 1) (x ∷ []) = (one, tt) in
    let both = AllZip-append Q (range_with_len from k) (range_with_len (from + k) 1) c.loop-k.list.items (x ∷ []) c.loop-k.invariant last in
    let items : c.push.new.self.items ≡ c.loop-k.list.items ++ x ∷ [] = search rules in
    rw (items, ← run-append from k 1) both
