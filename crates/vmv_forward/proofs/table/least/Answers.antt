use Rattle.vmv_forward.proofs.Turning.{all_wait}
use Rattle.std.proofs.Common.{◌≡◌, ◌≤◌, ◌+◌, ◌*◌, ℕ, ℤ, List, [], length, sym, subst, ◌∙◌}
use Rattle.std.proofs.lemmas.List.{with_items_is}
use Rattle.vmv_tree.specs.declared.ends.NameEnds.{NameEnds}
use Rattle.vmv_snapshot.specs.Resolution.{tree_of}
use Rattle.vmv_assumption.specs.Assumed.{cond_of}
use Rattle.vmv_check.specs.Walker.{HasParams}
use Rattle.vmv_check.proofs.Lists.{within}
use Rattle.vmv_cert.specs.declared.table.Table.{Table}
use Rattle.vmv_cert.specs.Tables.{Accepted, HasThresholds}
use Rattle.vmv_thresholds.specs.Thresholds.{AreThresholds}
use Rattle.vmv_snapshot.specs.Procs.{procs}
use Rattle.vmv_forward.specs.Path.{Path}
use Rattle.vmv_forward.specs.Grow.{IsStart}
use Rattle.vmv_forward.specs.Instances.{instances}
use Rattle.vmv_forward.specs.Least.{IsLeastTable}
use Rattle.vmv_forward.specs.Rounds.{Quest, AreKept, IsSettled}
use Rattle.vmv_forward.specs.Rows.{Lays}
use Rattle.vmv_forward.proofs.Starting.{start_kept, start_few, of_one}
use Rattle.vmv_forward.proofs.Costs.{cost_of}
use Rattle.vmv_forward.proofs.Opening.{box_few, box_ranges, box_words}
use Rattle.vmv_forward.proofs.Scaling.{scale_of}
use Rattle.vmv_forward.proofs.BoxPoint.{box_up}
use Rattle.vmv_forward.proofs.Listing.{laid_accepted, laid_least, laid_thresholds}
use Rattle.vmv_forward.proofs.Instances.{AreSolved}
use Rattle.vmv_forward.proofs.table.least.Goals as goal

pub box_state-requires : goal.box_state-requires
box_state-requires g c =
    record { few = (box_few c.args.snapshot.now c.args.entry.0 c.requires.entry.0 c.args.within.now c.requires.entry.1 c.requires.entry.2 c.program-program.ensures.resolution).0 }

pub instances_of-requires : goal.instances_of-requires
instances_of-requires g c =
    let at = c.requires.entry.1.2 in
    within (procs (tree_of c.args.snapshot.now)) c.args.entry.0 _ at

pub settle-requires-clause-kept : goal.settle-requires-clause-kept
settle-requires-clause-kept g c =
    let program = c.args.snapshot.now in
    let q : Quest = record { program = program; entry = c.args.entry.0; input = c.norm-input.result; assumed = cond_of c.args.assumed.now; thresholds = c.as_slice.result.now } in
    let few = box_few program c.args.entry.0 c.requires.entry.0 c.args.within.now c.requires.entry.1 c.requires.entry.2 c.program-program.ensures.resolution in
    let over : HasParams program c.args.entry.0 c.norm-input.result.vars = subst (λ (n : ℕ). HasParams program c.args.entry.0 n) (sym (c.norm-input.ensures.vars ∙ c.box_state.ensures.vars)) few.1 in
    let start = subst (λ (l : List Path). IsStart program c.args.entry.0 c.norm-input.result l) (sym c.as_mut_slice.ensures.value) c.in_ok-found.ensures in
    let are = subst (λ (l : List ℤ). AreThresholds (tree_of program) c.args.entry.0 c.requires.thresholds.0 l) (sym c.as_slice.ensures) c.requires.thresholds.1 in
    start_kept q c.as_mut_slice.result.now c.program-program.ensures.resolution (scale_of (tree_of program) c.args.entry.0 c.requires.thresholds.0 c.as_slice.result.now are) start over c.norm-input.ensures.normal

pub settle-requires-clause-waiting : goal.settle-requires-clause-waiting
settle-requires-clause-waiting g c =
    let q : Quest = record { program = c.args.snapshot.now; entry = c.args.entry.0; input = c.norm-input.result; assumed = cond_of c.args.assumed.now; thresholds = c.as_slice.result.now } in
    all_wait q c.as_mut_slice.result.now c.len-count.result c.in_ok-waiting.waiting (c.len-count.ensures ∙ sym c.as_mut_slice.ensures.len) c.in_ok-waiting.ensures

pub table_of-requires-clause-reached : goal.table_of-requires-clause-reached
table_of-requires-clause-reached g c =
    box_up c.args.within.now c.box_state.result c.norm-input.result (box_ranges c.requires.entry.0 c.args.within.now c.requires.entry.2 (box_words c.requires.entry.0 c.args.within.now c.box_state.result c.requires.entry.2 c.box_state.ensures)) c.box_state.ensures c.norm-input.ensures

pub returns-clause-accepted : goal.returns-clause-accepted
returns-clause-accepted g c =
    let program = c.args.snapshot.now in
    let q : Quest = record { program = program; entry = c.args.entry.0; input = c.norm-input.result; assumed = cond_of c.args.assumed.now; thresholds = c.as_slice.result.now } in
    let paths = c.as_slice-2.result.now in
    let same : paths ≡ c.settle.new.instances = c.as_slice-2.ensures.value ∙ with_items_is c.in_ok-found.found c.settle.new.instances (c.settle.auto.instances ∙ c.as_mut_slice.ensures.len) in
    let kept = subst (AreKept q) (sym same) c.settle.ensures.kept in
    let settled = subst (λ (l : List Path). (j : ℕ) → 1 ≤ j → IsSettled q l j) (sym same) c.settle.ensures.settled in
    let solved : AreSolved q paths = record { kept = kept; settled = settled } in
    of_one c.table_of.result (λ (t : Table). Lays (length paths) program paths 1 c.norm-input.result [] t.rows) (λ (t : Table). Accepted program q.assumed t.rows)
    (λ t lays. laid_accepted q paths t.rows (length paths) solved lays) c.table_of.ensures

pub returns-clause-thresholds : goal.returns-clause-thresholds
returns-clause-thresholds g c =
    let program = c.args.snapshot.now in
    let q : Quest = record { program = program; entry = c.args.entry.0; input = c.norm-input.result; assumed = cond_of c.args.assumed.now; thresholds = c.as_slice.result.now } in
    let paths = c.as_slice-2.result.now in
    let same : paths ≡ c.settle.new.instances = c.as_slice-2.ensures.value ∙ with_items_is c.in_ok-found.found c.settle.new.instances (c.settle.auto.instances ∙ c.as_mut_slice.ensures.len) in
    let kept = subst (AreKept q) (sym same) c.settle.ensures.kept in
    let settled = subst (λ (l : List Path). (j : ℕ) → 1 ≤ j → IsSettled q l j) (sym same) c.settle.ensures.settled in
    let solved : AreSolved q paths = record { kept = kept; settled = settled } in
    of_one c.table_of.result (λ (t : Table). Lays (length paths) program paths 1 c.norm-input.result [] t.rows)
    (λ (t : Table). (ends : List NameEnds) → AreThresholds (tree_of program) c.args.entry.0 ends c.args.thresholds.now → HasThresholds program c.args.entry.0 ends t.rows)
    (λ t lays ends are. laid_thresholds q paths ends (length paths) t.rows solved (subst (λ (l : List ℤ). AreThresholds (tree_of program) c.args.entry.0 ends l) (sym c.as_slice.ensures) are) lays) c.table_of.ensures

pub returns-clause-least : goal.returns-clause-least
returns-clause-least g c =
    let program = c.args.snapshot.now in
    let q : Quest = record { program = program; entry = c.args.entry.0; input = c.norm-input.result; assumed = cond_of c.args.assumed.now; thresholds = c.as_slice.result.now } in
    let paths = c.as_slice-2.result.now in
    let same : paths ≡ c.settle.new.instances = c.as_slice-2.ensures.value ∙ with_items_is c.in_ok-found.found c.settle.new.instances (c.settle.auto.instances ∙ c.as_mut_slice.ensures.len) in
    let kept = subst (AreKept q) (sym same) c.settle.ensures.kept in
    let settled = subst (λ (l : List Path). (j : ℕ) → 1 ≤ j → IsSettled q l j) (sym same) c.settle.ensures.settled in
    let solved : AreSolved q paths = record { kept = kept; settled = settled } in
    of_one c.table_of.result (λ (t : Table). Lays (length paths) program paths 1 c.norm-input.result [] t.rows)
    (λ (t : Table). (ends : List NameEnds) → AreThresholds (tree_of program) c.args.entry.0 ends c.args.thresholds.now → IsLeastTable program c.args.entry.0 c.args.within.now ends q.assumed t.rows)
    (λ t lays ends are.
    laid_least q paths t.rows ends c.args.within.now c.box_state.result (length paths) solved (subst (λ (l : List ℤ). AreThresholds (tree_of program) c.args.entry.0 ends l) (sym c.as_slice.ensures) are) lays c.box_state.ensures c.norm-input.ensures)
    c.table_of.ensures

pub returns-clause-cost : goal.returns-clause-cost
returns-clause-cost g c =
    let program = c.args.snapshot.now in
    let q : Quest = record { program = program; entry = c.args.entry.0; input = c.norm-input.result; assumed = cond_of c.args.assumed.now; thresholds = c.as_slice.result.now } in
    let start = subst (λ (l : List Path). IsStart program c.args.entry.0 c.norm-input.result l) (sym c.as_mut_slice.ensures.value) c.in_ok-found.ensures in
    let few = c.settle.ensures.few (start_few q c.as_mut_slice.result.now c.program-program.ensures.resolution start) in
    let cost = cost_of program c.args.entry.0 c.norm-input.result c.as_slice.result.now c.as_mut_slice.result.now c.settle.new.instances c.args.steps.now c.settle.new.steps start few c.settle.ensures.loops c.settle.ensures.cost in
    subst (λ (l : List ℤ). c.settle.new.steps ≤ c.args.steps.now + instances program.codes c.args.entry.0 * (289 * (length l + 2) + 17)) c.as_slice.ensures cost
