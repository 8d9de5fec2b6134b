use Rattle.std.proofs.Common.{◌++◌, [], ◌∷◌, length, refl, arith}
use Rattle.std.specs.List.{flat_map}
use Rattle.std.specs.Fmt.{decimal}
use Rattle.vmv_proof_text.specs.Loose.{SpelledBound}
use Rattle.vmv_proof_line.specs.LooseWords.{NextBound, things_of, spelled_triple}
use Rattle.vmv_proof_line.proofs.Climbing.{one_more, front}
use Rattle.vmv_proof_line.proofs.LooseLoops.{triple_once, triple_some, fewer, stop}
use Rattle.vmv_proof_line.proofs.loose_states.takes_bounds_loosely.Goals as goal

pub returns-in_default-clause-no : goal.returns-in_default-clause-no
returns-in_default-clause-no c = λ bounds rest h e.
    c.in_default.ensures (length bounds) (decimal (length bounds)) (flat_map spelled_triple bounds ++ rest) (fewer spelled_triple triple_some c.args.words.now c.requires bounds rest e, refl) e

pub returns-in_default-next_bound_loosely-clause-no : goal.returns-in_default-next_bound_loosely-clause-no
returns-in_default-next_bound_loosely-clause-no c =
    let t = c.in-Some.ensures in
    let i = c.loop.invariant in
    stop NextBound things_of spelled_triple triple_once triple_some ([], []) c.args.words.now c.next_natural.new.self c.loop.words t.0 c.loop.counter c.in-Some.count (c.loop.i.now, c.loop.j.now) i.0 c.requires t.1 t.2 i.1 c.loop-test.true
    c.in_default-next_bound_loosely.ensures.none

pub loop-preserved : goal.loop-preserved
loop-preserved c =
    let i = c.loop.invariant in
    let t = c.in-Some-next_bound_loosely.ensures.some in
    let b : SpelledBound = (c.in-Some-next_bound_loosely.next_i.now, c.in-Some-next_bound_loosely.next_j.now, t.0) in
    (i.0 ++ b ∷ [], one_more NextBound things_of spelled_triple ([], []) c.next_natural.new.self c.loop.words c.next_bound_loosely.new.words c.loop.counter (c.loop.i.now, c.loop.j.now) i.0 b i.1 t.1 t.2)

pub returns-clause-yes : goal.returns-clause-yes
returns-clause-yes c =
    let i = c.loop.invariant in
    let t = c.in-Some.ensures in
    record {
      bounds = i.0;
      sorted = i.1.climb;
      words = front spelled_triple i.0 c.args.words.now c.next_natural.new.self c.loop.words t.0 c.in-Some.count t.1.1 (omega (arith, i.1.count, c.loop-test.false, c.loop.auto.counter-end)) t.2 i.1.place;
    }
