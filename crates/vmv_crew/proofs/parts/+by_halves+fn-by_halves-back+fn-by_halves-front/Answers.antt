use Rattle.std.proofs.Common.{rules, ◌≡◌, ◌+◌, ◌-◌, ◌/◌, arith, ◌++◌}
use Rattle.std.specs.List.{AllZip, range_with_len}
use Rattle.rayon.proofs.ListFacts.{AllZip-append}
use Rattle.rayon.specs.Shown.{run-append}
use Rattle.vmv_crew.proofs.parts.+by_halves+fn-by_halves-back+fn-by_halves-front.Goals as goal

pub returns : goal.returns
returns g t c =
    let Q = g.J.Job.allows c.args.job.now in
    let n = c.args.count in
    let from = c.args.from in
    let low = n / 2 in
    let whole : low + (n - low) ≡ n = omega arith in
    let xs = c.in_ok-all.all.items in
    let ys = c.in_ok-rest.rest.items in
    let first : AllZip Q (range_with_len from low) xs = search rules in
    let second : AllZip Q (range_with_len (from + low) (n - low)) ys = search rules in
    let both = AllZip-append Q (range_with_len from low) (range_with_len (from + low) (n - low)) xs ys first second in
    let joined : AllZip Q (range_with_len from (low + (n - low))) (xs ++ ys) = rw (← run-append from low (n - low)) both in
    let items : c.append.new.self.items ≡ xs ++ ys = search rules in
    let counted : AllZip Q (range_with_len from n) (xs ++ ys) = rw (← whole) joined in
    rw items counted
