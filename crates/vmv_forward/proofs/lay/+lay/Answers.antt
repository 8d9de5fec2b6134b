use Rattle.std.proofs.Common.{◌<◌, ◌+◌, length, get_or, Vec, Global, sym, ap, subst, ◌∙◌}
use Rattle.vmv_snapshot.specs.Resolution.{procs_of}
use Rattle.vmv_cert.specs.declared.row.Row.{Row}
use Rattle.vmv_forward.specs.Path.{Path}
use Rattle.vmv_forward.specs.Rounds.{quest_of}
use Rattle.vmv_forward.specs.contracts.instance.Instance.{the_view}
use Rattle.vmv_forward.proofs.Reading.{proc_inside}
use Rattle.vmv_forward.proofs.Stepping.{next_of, read, untold, untrue, down_below}
use Rattle.vmv_forward.proofs.Gathering.{Laying, laying_start, laying_more, laying_skip, laid_before, laid_now, standing, unstanding, next_input}
use Rattle.vmv_forward.proofs.lay.+lay.Goals.{then-not-is_bottom+in_ok-lay, else-not-is_bottom}
use Rattle.vmv_forward.proofs.lay.+lay.Goals as goal

pub stands-requires : goal.stands-requires
stands-requires t c =
    let at = read c.args.instances.now c.args.number c.index-instances-number.result c.requires.to c.index-instances-number.is in
    let e = ap (λ (p : Path). p.proc.0) c.instance.view_is in
    subst (λ n. n < length (procs_of c.args.search.now.snapshot.now)) (sym e) (proc_inside (quest_of c.args.search.now) c.args.instances.now c.args.number c.index-instances-number.result c.requires.kept c.requires.from at)

pub returns-then-stands : goal.returns-then-stands
returns-then-stands t c =
    let path = c.index-instances-number.result in
    let at = read c.args.instances.now c.args.number path c.requires.to c.index-instances-number.is in
    laid_before c.args.search.now.snapshot.now c.args.instances.now c.args.number path c.input_of-input.result.now c.args.rows.now.items c.requires.to at (c.input_of-input.ensures path at)
    (standing c.args.search.now.snapshot.now (the_view c.instance.inside) path c.as_slice.result.now c.args.rows.now.items c.input_of-input.result.now c.instance.view_is c.as_slice.ensures.value (c.stands.ensures.0 c.if-stands.true))

pub loop-c-init : goal.loop-c-init
loop-c-init t c = laying_start c.args.search.now.snapshot.now c.args.instances.now c.args.number c.index-instances-number.result c.add_row.new.rows.items

pub input-requires : goal.input-requires
input-requires t c =
    let path = c.index-instances-number.result in
    let at = read c.args.instances.now c.args.number path c.requires.to c.index-instances-number.is in
    let items = c.deref-callee-items.ensures.value ∙ ap (λ (p : Path). p.callees) c.instance.view_is in
    (next_of (quest_of c.args.search.now) c.args.instances.now c.args.number path c.deref-callee-items.result.now c.loop-c.c c.requires.kept c.requires.from at items c.loop-c-test.true).input

pub lay-requires : goal.lay-requires
lay-requires t c =
    let path = c.index-instances-number.result in
    let at = read c.args.instances.now c.args.number path c.requires.to c.index-instances-number.is in
    let items = c.deref-callee-items.ensures.value ∙ ap (λ (p : Path). p.callees) c.instance.view_is in
    let n = next_of (quest_of c.args.search.now) c.args.instances.now c.args.number path c.deref-callee-items.result.now c.loop-c.c c.requires.kept c.requires.from at items c.loop-c-test.true in
    let up = untrue c.is_bottom.result c.input.result.now.bottom c.if-not-is_bottom.true c.is_bottom.ensures.1 in (
      down_below (length c.args.instances.now) c.args.number (get_or c.deref-callee-items.result.now c.loop-c.c 0) t n.later n.inside c.decreases,
      (n.one, (n.inside, (c.requires.kept, (n.to, c.input.result.now, n.there, next_input c.args.instances.now c.args.number path c.loop-c.c c.input.result.now n.to at n.caller_is n.place_is c.input.ensures, up)))),
    )

pub loop-c-preserved : goal.loop-c-preserved
loop-c-preserved t c =
    let path = c.index-instances-number.result in
    let at = read c.args.instances.now c.args.number path c.requires.to c.index-instances-number.is in
    let items = c.deref-callee-items.ensures.value ∙ ap (λ (p : Path). p.callees) c.instance.view_is in
    let n = next_of (quest_of c.args.search.now) c.args.instances.now c.args.number path c.deref-callee-items.result.now c.loop-c.c c.requires.kept c.requires.from at items c.loop-c-test.true in
    elim c.if-not-is_bottom.branch [
      | then-not-is_bottom+in_ok-lay w ↦
          (let up = untrue c.is_bottom.result c.input.result.now.bottom w.if-not-is_bottom.true c.is_bottom.ensures.1 in
          subst (λ (v : Vec Row Global). Laying c.args.search.now.snapshot.now c.args.instances.now c.args.number path (c.loop-c.c + 1) c.add_row.new.rows.items v.items) (sym w.rows-is)
          (laying_more c.args.search.now.snapshot.now c.args.instances.now c.args.number path c.loop-c.c c.add_row.new.rows.items c.loop-c.rows.items w.lay.new.rows.items (get_or c.deref-callee-items.result.now c.loop-c.c 0) c.input.result.now n.to c.loop-c.invariant at n.is
          c.input.ensures n.later n.there n.caller_is n.place_is up w.in_ok-lay.ensures))
      | else-not-is_bottom w ↦
          laying_skip c.args.search.now.snapshot.now c.args.instances.now c.args.number path c.loop-c.c c.add_row.new.rows.items c.loop-c.rows.items c.if-not-is_bottom.rows.items (get_or c.deref-callee-items.result.now c.loop-c.c 0) c.input.result.now c.loop-c.invariant n.is
          c.input.ensures (c.is_bottom.ensures.0 w.if-not-is_bottom.false) (ap (λ (v : Vec Row Global). v.items) w.rows-is)
    ]

pub returns : goal.returns
returns t c =
    let path = c.index-instances-number.result in
    let at = read c.args.instances.now c.args.number path c.requires.to c.index-instances-number.is in
    let items = c.deref-callee-items.ensures.value ∙ ap (λ (p : Path). p.callees) c.instance.view_is in
    laid_now (quest_of c.args.search.now) c.args.instances.now c.args.number path c.input_of-input.result.now c.args.rows.now.items c.add_row.new.rows.items c.loop-c.rows.items c.in_ok-add_row.ensures.0 c.loop-c.c c.deref-callee-items.result.now c.requires.kept c.requires.from
    c.requires.to at (c.input_of-input.ensures path at)
    (λ s. untold c.stands.result c.if-stands.false c.stands.ensures.1 (unstanding c.args.search.now.snapshot.now (the_view c.instance.inside) path c.as_slice.result.now c.args.rows.now.items c.input_of-input.result.now c.instance.view_is c.as_slice.ensures.value s))
    c.in_ok-add_row.ensures.1 c.in_ok-add_row.ensures.2 items c.loop-c-test.false c.loop-c.auto.c-end c.loop-c.invariant
