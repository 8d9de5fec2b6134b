use Rattle.std.proofs.Common.{◌+◌, sym, subst, take}
use Rattle.vmv_check.specs.Walker.{walk_of}
use Rattle.vmv_check.proofs.Lists.{clash}
use Rattle.vmv_check.proofs.Match.{Found, found_yes, found_no, found_all, found_told}
use Rattle.vmv_check.proofs.walk.Walker.returned.Goals as goal
use Rattle.vmv_check.proofs.walk.Walker.returned.Goals.{then-is_match, else-is_match}

pub loop-row-preserved : goal.loop-row-preserved
loop-row-preserved c =
    elim c.if-is_match.branch [
      | then-is_match w ↦ subst (λ f. Found (walk_of c.args.self.now) c.args.callee.0 c.args.args.now (take (c.loop-row.row-index + 1) c.args.self.now.rows.now) f) (sym w.found-is)
          (found_yes (walk_of c.args.self.now) c.args.callee.0 c.args.args.now c.loop-row.row-index c.row-item.result c.loop-row.found w.narrowed.result c.loop-row-test.true c.row-item.is c.loop-row.invariant
          (c.is_match.ensures.0 w.if-is_match.true) w.narrowed.ensures)
      | else-is_match w ↦ subst (λ f. Found (walk_of c.args.self.now) c.args.callee.0 c.args.args.now (take (c.loop-row.row-index + 1) c.args.self.now.rows.now) f) (sym w.found-is)
          (found_no (walk_of c.args.self.now) c.args.callee.0 c.args.args.now c.loop-row.row-index c.row-item.result c.loop-row.found c.loop-row-test.true c.row-item.is c.loop-row.invariant
          (λ m. clash c.is_match.result (c.is_match.ensures.1 m) w.if-is_match.false))
    ]

pub returns-clause-none : goal.returns-clause-none
returns-clause-none c =
    (found_told (walk_of c.args.self.now) c.args.callee.0 c.args.args.now c.loop-row.found (found_all (walk_of c.args.self.now) c.args.callee.0 c.args.args.now c.loop-row.row-index c.loop-row.found c.loop-row-test.false c.loop-row.invariant)).0

pub returns-clause-returned : goal.returns-clause-returned
returns-clause-returned c =
    (found_told (walk_of c.args.self.now) c.args.callee.0 c.args.args.now c.loop-row.found (found_all (walk_of c.args.self.now) c.args.callee.0 c.args.args.now c.loop-row.row-index c.loop-row.found c.loop-row-test.false c.loop-row.invariant)).1
