use Rattle.std.proofs.Common.{◌++◌, [], ◌∷◌, length, refl, arith, ◌∙◌, ap, ◌≡◌}
use Rattle.std.specs.List.{flat_map}
use Rattle.std.specs.Fmt.{decimal}
use Rattle.std.proofs.lemmas.Bool.{false≢true}
use Rattle.std.proofs.lemmas.List.{append-nil}
use Rattle.vmv_proof_line.specs.StateWords.{counted}
use Rattle.vmv_proof_line.specs.LooseWords.{NextMark, spelled_mark}
use Rattle.vmv_proof_line.proofs.Climbing.{one_more, front, whole}
use Rattle.vmv_proof_line.proofs.LooseLoops.{mark_once, mark_some, fewer, stop, go_on}
use Rattle.vmv_proof_line.proofs.loose_states.are_last_marks.Goals as goal

pub returns-in_default : goal.returns-in_default
returns-in_default c = (
  λ t. absurd (false≢true t),
  λ h. absurd (c.in_default.ensures (length h.0) (decimal (length h.0)) (flat_map spelled_mark h.0)
      (fewer spelled_mark mark_some c.args.words.now c.requires h.0 [] (whole spelled_mark h.0 c.args.words.now h.2), refl) h.2),
)

pub returns-in_default-next_mark_loosely : goal.returns-in_default-next_mark_loosely
returns-in_default-next_mark_loosely c = (
  λ t. absurd (false≢true t),
  λ h. let t = c.in-Some.ensures in
      let i = c.loop.invariant in
      absurd (stop NextMark (λ m. m) spelled_mark mark_once mark_some [] c.args.words.now c.next_natural.new.self c.loop.words t.0 c.loop.counter c.in-Some.count c.loop.last.now i.0 c.requires t.1 t.2 i.1 c.loop-test.true
      c.in_default-next_mark_loosely.ensures.none h.0 [] h.1 (whole spelled_mark h.0 c.args.words.now h.2)),
)

pub loop-preserved : goal.loop-preserved
loop-preserved c =
    let i = c.loop.invariant in
    let t = c.in-Some-next_mark_loosely.ensures.some in (
      i.0 ++ c.in-Some-next_mark_loosely.number.now ∷ [],
      one_more NextMark (λ m. m) spelled_mark [] c.next_natural.new.self c.loop.words c.next_mark_loosely.new.words c.loop.counter c.loop.last.now i.0 c.in-Some-next_mark_loosely.number.now i.1 t.0 t.1,
    )

pub returns : goal.returns
returns c =
    let i = c.loop.invariant in
    let t = c.in-Some.ensures in
    let all : c.loop.counter ≡ c.in-Some.count = omega (arith, c.loop-test.false, c.loop.auto.counter-end) in (
      λ done. (
        i.0,
        i.1.climb,
        front spelled_mark i.0 c.args.words.now c.next_natural.new.self c.loop.words t.0 c.in-Some.count t.1.1 (i.1.count ∙ all) t.2 i.1.place
            ∙ (ap (λ ws. counted spelled_mark i.0 ++ ws) (c.is_done.ensures.0 done) ∙ append-nil (counted spelled_mark i.0)),
      ),
      λ h. c.is_done.ensures.1 (go_on NextMark (λ m. m) spelled_mark mark_once mark_some [] c.args.words.now c.next_natural.new.self c.loop.words t.0 c.loop.counter c.in-Some.count c.loop.last.now i.0 c.requires t.1 t.2 i.1 all h.0 h.1 h.2),
    )
