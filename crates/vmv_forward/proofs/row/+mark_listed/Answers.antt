use Rattle.std.proofs.Common.{◌+◌, Bool, List, length, get_or, sym, ap, subst, ◌∙◌}
use Rattle.vmv_forward.specs.Path.{Path}
use Rattle.vmv_forward.specs.Rounds.{quest_of}
use Rattle.vmv_forward.specs.Rows.{AreMarkedBy}
use Rattle.vmv_forward.proofs.Stepping.{next_of, read, untrue, down_below}
use Rattle.vmv_forward.proofs.Flagging.{FoundUpto, found_start, found_more, found_skip, found_end}
use Rattle.vmv_forward.proofs.row.+mark_listed.Goals.{then-not-is_bottom, else-not-is_bottom}
use Rattle.vmv_forward.proofs.row.+mark_listed.Goals as goal

pub loop-c-init : goal.loop-c-init
loop-c-init t c = found_start c.args.instances.now c.index-instances-number.result c.args.proc.0 c.args.marks.now c.mark_own.new.marks c.mark_own.ensures

pub input-requires : goal.input-requires
input-requires t c =
    let path = c.index-instances-number.result in
    let at = read c.args.instances.now c.args.number path c.requires.to c.index-instances-number.is in
    let items = c.deref-callee-items.ensures.value ∙ ap (λ (p : Path). p.callees) c.instance.view_is in
    (next_of (quest_of c.args.search.now) c.args.instances.now c.args.number path c.deref-callee-items.result.now c.loop-c.c c.requires.kept c.requires.from at items c.loop-c-test.true).input

pub mark_listed-requires : goal.mark_listed-requires
mark_listed-requires t c =
    let path = c.index-instances-number.result in
    let at = read c.args.instances.now c.args.number path c.requires.to c.index-instances-number.is in
    let items = c.deref-callee-items.ensures.value ∙ ap (λ (p : Path). p.callees) c.instance.view_is in
    let n = next_of (quest_of c.args.search.now) c.args.instances.now c.args.number path c.deref-callee-items.result.now c.loop-c.c c.requires.kept c.requires.from at items c.loop-c-test.true in
    (down_below (length c.args.instances.now) c.args.number (get_or c.deref-callee-items.result.now c.loop-c.c 0) t n.later n.inside c.decreases, (n.one, (n.inside, (c.requires.kept, c.loop-c.invariant.count ∙ c.requires.count))))

pub loop-c-preserved : goal.loop-c-preserved
loop-c-preserved t c =
    let path = c.index-instances-number.result in
    let at = read c.args.instances.now c.args.number path c.requires.to c.index-instances-number.is in
    let items = c.deref-callee-items.ensures.value ∙ ap (λ (p : Path). p.callees) c.instance.view_is in
    let n = next_of (quest_of c.args.search.now) c.args.instances.now c.args.number path c.deref-callee-items.result.now c.loop-c.c c.requires.kept c.requires.from at items c.loop-c-test.true in
    elim c.if-not-is_bottom.branch [
      | then-not-is_bottom w ↦
          subst (λ (l : List Bool). AreMarkedBy (λ i. FoundUpto c.args.instances.now path c.args.proc.0 (c.loop-c.c + 1) (i + 1)) c.args.marks.now l) (sym w.marks-is)
          (found_more c.args.instances.now path c.args.proc.0 c.loop-c.c (get_or c.deref-callee-items.result.now c.loop-c.c 0) c.input.result.now c.args.marks.now c.loop-c.marks w.mark_listed.new.marks n.is c.input.ensures
          (untrue c.is_bottom.result c.input.result.now.bottom w.if-not-is_bottom.true c.is_bottom.ensures.1) c.loop-c.invariant w.mark_listed.ensures)
      | else-not-is_bottom w ↦
          subst (λ (l : List Bool). AreMarkedBy (λ i. FoundUpto c.args.instances.now path c.args.proc.0 (c.loop-c.c + 1) (i + 1)) c.args.marks.now l) (sym w.marks-is)
          (found_skip c.args.instances.now path c.args.proc.0 c.loop-c.c c.input.result.now c.args.marks.now c.loop-c.marks c.input.ensures (c.is_bottom.ensures.0 w.if-not-is_bottom.false) c.loop-c.invariant)
    ]

pub returns : goal.returns
returns t c =
    let path = c.index-instances-number.result in
    let at = read c.args.instances.now c.args.number path c.requires.to c.index-instances-number.is in
    let items = c.deref-callee-items.ensures.value ∙ ap (λ (p : Path). p.callees) c.instance.view_is in
    found_end c.args.instances.now c.args.number path c.args.proc.0 c.loop-c.c c.deref-callee-items.result.now c.args.marks.now c.loop-c.marks at items c.loop-c-test.false c.loop-c.invariant
