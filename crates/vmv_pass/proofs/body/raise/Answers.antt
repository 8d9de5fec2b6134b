use Rattle.std.proofs.Common.{◌≡◌, List, false, refl, sym, ap, subst, ◌∙◌}
use Rattle.vmv_snapshot.specs.declared.code.Code.{Code}
use Rattle.vmv_snapshot.specs.declared.code.CodeStmt.{CodeStmt}
use Rattle.vmv_snapshot.specs.View.{block_of}
use Rattle.vmv_snapshot.specs.Resolution.{procs_of}
use Rattle.vmv_zone.specs.declared.operand.ZoneOperand.{ZoneOperand}
use Rattle.vmv_zone.specs.Operand.{IsOperand}
use Rattle.vmv_zone.specs.Read.{IsRangeOf}
use Rattle.vmv_step.specs.Zones.{zone_operand}
use Rattle.vmv_step.proofs.EnterPoints.{enter_normal}
use Rattle.vmv_check.proofs.Lists.{some_same, item_at}
use Rattle.vmv_pass.specs.Upper.{IsProc}
use Rattle.vmv_pass.specs.Moves.{given_of, lists, stored_of, MovesAll}
use Rattle.vmv_pass.proofs.Bodies.{passable, facts_of, Run, run_stays, run_grown, run_fits, run_settles, run_falls, run_paid, run_counted, run_under}
use Rattle.vmv_pass.proofs.body.raise.Goals as goal

pub pass_block-requires-clause-normal : goal.pass_block-requires-clause-normal
pass_block-requires-clause-normal g c =
    let program = c.args.at.now.snapshot.now in
    let it = item_at (procs_of program) c.args.at.now.proc.0 c.requires.proc in
    (enter_normal _ _ _ _ _ (c.enter_into.ensures it.0 c.code-code.result.now it.1 c.code-code.ensures.kept)).0

pub pass_block-requires-clause-few : goal.pass_block-requires-clause-few
pass_block-requires-clause-few g c =
    let program = c.args.at.now.snapshot.now in
    let n = c.args.at.now.proc.0 in
    let it = item_at (procs_of program) n c.requires.proc in
    let proc : IsProc program n it.0 c.code-code.result.now = record { place = it.1; code_is = c.code-code.ensures.kept } in
    let entered = c.enter_into.ensures it.0 c.code-code.result.now it.1 c.code-code.ensures.kept in
    (passable program n c.args.at.now.thresholds.now it.0 c.code-code.result.now (stored_of c.args.at.now c.args.keeps.now c.args.inputs.now c.args.unproved.now) c.enter_into.new.into c.as_slice.result.now
    c.program-program.ensures.resolution proc (c.requires.fits it.0 c.code-code.result.now proc) entered.vars c.as_slice.ensures).few

pub pass_block-requires-clause-ready : goal.pass_block-requires-clause-ready
pass_block-requires-clause-ready g c =
    let program = c.args.at.now.snapshot.now in
    let n = c.args.at.now.proc.0 in
    let it = item_at (procs_of program) n c.requires.proc in
    let proc : IsProc program n it.0 c.code-code.result.now = record { place = it.1; code_is = c.code-code.ensures.kept } in
    let entered = c.enter_into.ensures it.0 c.code-code.result.now it.1 c.code-code.ensures.kept in
    (passable program n c.args.at.now.thresholds.now it.0 c.code-code.result.now (stored_of c.args.at.now c.args.keeps.now c.args.inputs.now c.args.unproved.now) c.enter_into.new.into c.as_slice.result.now
    c.program-program.ensures.resolution proc (c.requires.fits it.0 c.code-code.result.now proc) entered.vars c.as_slice.ensures).ready

pub pass_block-requires-clause-sites : goal.pass_block-requires-clause-sites
pass_block-requires-clause-sites g c =
    let program = c.args.at.now.snapshot.now in
    let n = c.args.at.now.proc.0 in
    let it = item_at (procs_of program) n c.requires.proc in
    let proc : IsProc program n it.0 c.code-code.result.now = record { place = it.1; code_is = c.code-code.ensures.kept } in
    let entered = c.enter_into.ensures it.0 c.code-code.result.now it.1 c.code-code.ensures.kept in
    (passable program n c.args.at.now.thresholds.now it.0 c.code-code.result.now (stored_of c.args.at.now c.args.keeps.now c.args.inputs.now c.args.unproved.now) c.enter_into.new.into c.as_slice.result.now
    c.program-program.ensures.resolution proc (c.requires.fits it.0 c.code-code.result.now proc) entered.vars c.as_slice.ensures).sites

pub pass_block-requires-clause-kept : goal.pass_block-requires-clause-kept
pass_block-requires-clause-kept g c =
    let program = c.args.at.now.snapshot.now in
    let n = c.args.at.now.proc.0 in
    let it = item_at (procs_of program) n c.requires.proc in
    let proc : IsProc program n it.0 c.code-code.result.now = record { place = it.1; code_is = c.code-code.ensures.kept } in
    let entered = c.enter_into.ensures it.0 c.code-code.result.now it.1 c.code-code.ensures.kept in
    (passable program n c.args.at.now.thresholds.now it.0 c.code-code.result.now (stored_of c.args.at.now c.args.keeps.now c.args.inputs.now c.args.unproved.now) c.enter_into.new.into c.as_slice.result.now
    c.program-program.ensures.resolution proc (c.requires.fits it.0 c.code-code.result.now proc) entered.vars c.as_slice.ensures).kept

pub pass_block-requires-clause-called : goal.pass_block-requires-clause-called
pass_block-requires-clause-called g c =
    let program = c.args.at.now.snapshot.now in
    let n = c.args.at.now.proc.0 in
    let it = item_at (procs_of program) n c.requires.proc in
    let proc : IsProc program n it.0 c.code-code.result.now = record { place = it.1; code_is = c.code-code.ensures.kept } in
    let entered = c.enter_into.ensures it.0 c.code-code.result.now it.1 c.code-code.ensures.kept in
    (passable program n c.args.at.now.thresholds.now it.0 c.code-code.result.now (stored_of c.args.at.now c.args.keeps.now c.args.inputs.now c.args.unproved.now) c.enter_into.new.into c.as_slice.result.now
    c.program-program.ensures.resolution proc (c.requires.fits it.0 c.code-code.result.now proc) entered.vars c.as_slice.ensures).called

pub pass_block-requires-clause-calls : goal.pass_block-requires-clause-calls
pass_block-requires-clause-calls g c =
    let program = c.args.at.now.snapshot.now in
    let n = c.args.at.now.proc.0 in
    let it = item_at (procs_of program) n c.requires.proc in
    let proc : IsProc program n it.0 c.code-code.result.now = record { place = it.1; code_is = c.code-code.ensures.kept } in
    let entered = c.enter_into.ensures it.0 c.code-code.result.now it.1 c.code-code.ensures.kept in
    (passable program n c.args.at.now.thresholds.now it.0 c.code-code.result.now (stored_of c.args.at.now c.args.keeps.now c.args.inputs.now c.args.unproved.now) c.enter_into.new.into c.as_slice.result.now
    c.program-program.ensures.resolution proc (c.requires.fits it.0 c.code-code.result.now proc) entered.vars c.as_slice.ensures).calls

pub pass_block-requires-clause-results : goal.pass_block-requires-clause-results
pass_block-requires-clause-results g c =
    let program = c.args.at.now.snapshot.now in
    let n = c.args.at.now.proc.0 in
    let it = item_at (procs_of program) n c.requires.proc in
    let proc : IsProc program n it.0 c.code-code.result.now = record { place = it.1; code_is = c.code-code.ensures.kept } in
    let entered = c.enter_into.ensures it.0 c.code-code.result.now it.1 c.code-code.ensures.kept in
    (passable program n c.args.at.now.thresholds.now it.0 c.code-code.result.now (stored_of c.args.at.now c.args.keeps.now c.args.inputs.now c.args.unproved.now) c.enter_into.new.into c.as_slice.result.now
    c.program-program.ensures.resolution proc (c.requires.fits it.0 c.code-code.result.now proc) entered.vars c.as_slice.ensures).results

pub range_normed-requires-clause-operand : goal.range_normed-requires-clause-operand
range_normed-requires-clause-operand g c =
    let program = c.args.at.now.snapshot.now in
    let n = c.args.at.now.proc.0 in
    let it = item_at (procs_of program) n c.requires.proc in
    let proc : IsProc program n it.0 c.code-code.result.now = record { place = it.1; code_is = c.code-code.ensures.kept } in
    let entered = c.enter_into.ensures it.0 c.code-code.result.now it.1 c.code-code.ensures.kept in
    let size = c.pass_block.ensures.vars ∙ entered.vars in
    subst (λ (x : ZoneOperand). IsOperand c.pass_block.new.zone.vars x) (sym c.zone_operand.ensures)
    (subst (λ v. IsOperand v (zone_operand c.code-code.result.now.result)) (sym size) (facts_of program n it.0 c.code-code.result.now c.program-program.ensures.resolution proc).output)

pub returns-clause-keeps_stay : goal.returns-clause-keeps_stay
returns-clause-keeps_stay g c still =
    let program = c.args.at.now.snapshot.now in
    let n = c.args.at.now.proc.0 in
    let it = item_at (procs_of program) n c.requires.proc in
    let item = it.0 in
    let code = c.code-code.result.now in
    let proc : IsProc program n item code = record { place = it.1; code_is = c.code-code.ensures.kept } in
    let S = (lists c.args.keeps.now c.args.inputs.now c.args.unproved.now false false c.args.steps.now) in
    let S' = (lists c.pass_block.new.keeps c.pass_block.new.inputs c.pass_block.new.unproved c.pass_block.new.mark.raised c.pass_block.new.mark.looped c.pass_block.new.steps) in
    let same : c.code-code.result.now ≡ code = some_same (sym c.code-code.ensures.kept ∙ proc.code_is) in
    let run : Run program item code (given_of c.args.at.now) c.args.at.now.input.now c.enter_into.new.into c.pass_block.new.zone c.range_normed.result S S' = record {
      facts = facts_of program n item code c.program-program.ensures.resolution proc;
      entered = c.enter_into.ensures item code proc.place proc.code_is;
      moves = subst (λ (b : List CodeStmt). MovesAll (given_of c.args.at.now) 0 0 (block_of b) c.enter_into.new.into S c.pass_block.new.zone S') (c.as_slice.ensures ∙ ap (λ (x : Code). x.block) same) c.pass_block.ensures.moves;
      read = subst (λ (x : ZoneOperand). IsRangeOf c.pass_block.new.zone x c.range_normed.result) (c.zone_operand.ensures ∙ ap (λ (x : Code). zone_operand x.result) same) c.range_normed.ensures;
      fits = c.requires.fits item code proc;
      begun = refl;
    } in
    (run_stays program item code (given_of c.args.at.now) c.args.at.now.input.now c.enter_into.new.into c.pass_block.new.zone c.range_normed.result S S' run still).keeps

pub returns-clause-inputs_stay : goal.returns-clause-inputs_stay
returns-clause-inputs_stay g c still =
    let program = c.args.at.now.snapshot.now in
    let n = c.args.at.now.proc.0 in
    let it = item_at (procs_of program) n c.requires.proc in
    let item = it.0 in
    let code = c.code-code.result.now in
    let proc : IsProc program n item code = record { place = it.1; code_is = c.code-code.ensures.kept } in
    let S = (lists c.args.keeps.now c.args.inputs.now c.args.unproved.now false false c.args.steps.now) in
    let S' = (lists c.pass_block.new.keeps c.pass_block.new.inputs c.pass_block.new.unproved c.pass_block.new.mark.raised c.pass_block.new.mark.looped c.pass_block.new.steps) in
    let same : c.code-code.result.now ≡ code = some_same (sym c.code-code.ensures.kept ∙ proc.code_is) in
    let run : Run program item code (given_of c.args.at.now) c.args.at.now.input.now c.enter_into.new.into c.pass_block.new.zone c.range_normed.result S S' = record {
      facts = facts_of program n item code c.program-program.ensures.resolution proc;
      entered = c.enter_into.ensures item code proc.place proc.code_is;
      moves = subst (λ (b : List CodeStmt). MovesAll (given_of c.args.at.now) 0 0 (block_of b) c.enter_into.new.into S c.pass_block.new.zone S') (c.as_slice.ensures ∙ ap (λ (x : Code). x.block) same) c.pass_block.ensures.moves;
      read = subst (λ (x : ZoneOperand). IsRangeOf c.pass_block.new.zone x c.range_normed.result) (c.zone_operand.ensures ∙ ap (λ (x : Code). zone_operand x.result) same) c.range_normed.ensures;
      fits = c.requires.fits item code proc;
      begun = refl;
    } in
    (run_stays program item code (given_of c.args.at.now) c.args.at.now.input.now c.enter_into.new.into c.pass_block.new.zone c.range_normed.result S S' run still).inputs

pub returns-clause-looped : goal.returns-clause-looped
returns-clause-looped g c still =
    let program = c.args.at.now.snapshot.now in
    let n = c.args.at.now.proc.0 in
    let it = item_at (procs_of program) n c.requires.proc in
    let item = it.0 in
    let code = c.code-code.result.now in
    let proc : IsProc program n item code = record { place = it.1; code_is = c.code-code.ensures.kept } in
    let S = (lists c.args.keeps.now c.args.inputs.now c.args.unproved.now false false c.args.steps.now) in
    let S' = (lists c.pass_block.new.keeps c.pass_block.new.inputs c.pass_block.new.unproved c.pass_block.new.mark.raised c.pass_block.new.mark.looped c.pass_block.new.steps) in
    let same : c.code-code.result.now ≡ code = some_same (sym c.code-code.ensures.kept ∙ proc.code_is) in
    let run : Run program item code (given_of c.args.at.now) c.args.at.now.input.now c.enter_into.new.into c.pass_block.new.zone c.range_normed.result S S' = record {
      facts = facts_of program n item code c.program-program.ensures.resolution proc;
      entered = c.enter_into.ensures item code proc.place proc.code_is;
      moves = subst (λ (b : List CodeStmt). MovesAll (given_of c.args.at.now) 0 0 (block_of b) c.enter_into.new.into S c.pass_block.new.zone S') (c.as_slice.ensures ∙ ap (λ (x : Code). x.block) same) c.pass_block.ensures.moves;
      read = subst (λ (x : ZoneOperand). IsRangeOf c.pass_block.new.zone x c.range_normed.result) (c.zone_operand.ensures ∙ ap (λ (x : Code). zone_operand x.result) same) c.range_normed.ensures;
      fits = c.requires.fits item code proc;
      begun = refl;
    } in
    (run_stays program item code (given_of c.args.at.now) c.args.at.now.input.now c.enter_into.new.into c.pass_block.new.zone c.range_normed.result S S' run still).looped

pub returns-clause-settled : goal.returns-clause-settled
returns-clause-settled g c still item code proc =
    let program = c.args.at.now.snapshot.now in
    let n = c.args.at.now.proc.0 in
    let S = (lists c.args.keeps.now c.args.inputs.now c.args.unproved.now false false c.args.steps.now) in
    let S' = (lists c.pass_block.new.keeps c.pass_block.new.inputs c.pass_block.new.unproved c.pass_block.new.mark.raised c.pass_block.new.mark.looped c.pass_block.new.steps) in
    let same : c.code-code.result.now ≡ code = some_same (sym c.code-code.ensures.kept ∙ proc.code_is) in
    let run : Run program item code (given_of c.args.at.now) c.args.at.now.input.now c.enter_into.new.into c.pass_block.new.zone c.range_normed.result S S' = record {
      facts = facts_of program n item code c.program-program.ensures.resolution proc;
      entered = c.enter_into.ensures item code proc.place proc.code_is;
      moves = subst (λ (b : List CodeStmt). MovesAll (given_of c.args.at.now) 0 0 (block_of b) c.enter_into.new.into S c.pass_block.new.zone S') (c.as_slice.ensures ∙ ap (λ (x : Code). x.block) same) c.pass_block.ensures.moves;
      read = subst (λ (x : ZoneOperand). IsRangeOf c.pass_block.new.zone x c.range_normed.result) (c.zone_operand.ensures ∙ ap (λ (x : Code). zone_operand x.result) same) c.range_normed.ensures;
      fits = c.requires.fits item code proc;
      begun = refl;
    } in
    run_settles program item code (given_of c.args.at.now) c.args.at.now.input.now c.enter_into.new.into c.pass_block.new.zone c.range_normed.result S S' run still

pub returns-clause-fits : goal.returns-clause-fits
returns-clause-fits g c item code proc =
    let program = c.args.at.now.snapshot.now in
    let n = c.args.at.now.proc.0 in
    let S = (lists c.args.keeps.now c.args.inputs.now c.args.unproved.now false false c.args.steps.now) in
    let S' = (lists c.pass_block.new.keeps c.pass_block.new.inputs c.pass_block.new.unproved c.pass_block.new.mark.raised c.pass_block.new.mark.looped c.pass_block.new.steps) in
    let same : c.code-code.result.now ≡ code = some_same (sym c.code-code.ensures.kept ∙ proc.code_is) in
    let run : Run program item code (given_of c.args.at.now) c.args.at.now.input.now c.enter_into.new.into c.pass_block.new.zone c.range_normed.result S S' = record {
      facts = facts_of program n item code c.program-program.ensures.resolution proc;
      entered = c.enter_into.ensures item code proc.place proc.code_is;
      moves = subst (λ (b : List CodeStmt). MovesAll (given_of c.args.at.now) 0 0 (block_of b) c.enter_into.new.into S c.pass_block.new.zone S') (c.as_slice.ensures ∙ ap (λ (x : Code). x.block) same) c.pass_block.ensures.moves;
      read = subst (λ (x : ZoneOperand). IsRangeOf c.pass_block.new.zone x c.range_normed.result) (c.zone_operand.ensures ∙ ap (λ (x : Code). zone_operand x.result) same) c.range_normed.ensures;
      fits = c.requires.fits item code proc;
      begun = refl;
    } in
    run_fits program item code (given_of c.args.at.now) c.args.at.now.input.now c.enter_into.new.into c.pass_block.new.zone c.range_normed.result S S' run

pub returns-clause-keeps_rise : goal.returns-clause-keeps_rise
returns-clause-keeps_rise g c =
    let program = c.args.at.now.snapshot.now in
    let n = c.args.at.now.proc.0 in
    let it = item_at (procs_of program) n c.requires.proc in
    let item = it.0 in
    let code = c.code-code.result.now in
    let proc : IsProc program n item code = record { place = it.1; code_is = c.code-code.ensures.kept } in
    let S = (lists c.args.keeps.now c.args.inputs.now c.args.unproved.now false false c.args.steps.now) in
    let S' = (lists c.pass_block.new.keeps c.pass_block.new.inputs c.pass_block.new.unproved c.pass_block.new.mark.raised c.pass_block.new.mark.looped c.pass_block.new.steps) in
    let same : c.code-code.result.now ≡ code = some_same (sym c.code-code.ensures.kept ∙ proc.code_is) in
    let run : Run program item code (given_of c.args.at.now) c.args.at.now.input.now c.enter_into.new.into c.pass_block.new.zone c.range_normed.result S S' = record {
      facts = facts_of program n item code c.program-program.ensures.resolution proc;
      entered = c.enter_into.ensures item code proc.place proc.code_is;
      moves = subst (λ (b : List CodeStmt). MovesAll (given_of c.args.at.now) 0 0 (block_of b) c.enter_into.new.into S c.pass_block.new.zone S') (c.as_slice.ensures ∙ ap (λ (x : Code). x.block) same) c.pass_block.ensures.moves;
      read = subst (λ (x : ZoneOperand). IsRangeOf c.pass_block.new.zone x c.range_normed.result) (c.zone_operand.ensures ∙ ap (λ (x : Code). zone_operand x.result) same) c.range_normed.ensures;
      fits = c.requires.fits item code proc;
      begun = refl;
    } in
    (run_grown program item code (given_of c.args.at.now) c.args.at.now.input.now c.enter_into.new.into c.pass_block.new.zone c.range_normed.result S S' run).keeps

pub returns-clause-inputs_rise : goal.returns-clause-inputs_rise
returns-clause-inputs_rise g c =
    let program = c.args.at.now.snapshot.now in
    let n = c.args.at.now.proc.0 in
    let it = item_at (procs_of program) n c.requires.proc in
    let item = it.0 in
    let code = c.code-code.result.now in
    let proc : IsProc program n item code = record { place = it.1; code_is = c.code-code.ensures.kept } in
    let S = (lists c.args.keeps.now c.args.inputs.now c.args.unproved.now false false c.args.steps.now) in
    let S' = (lists c.pass_block.new.keeps c.pass_block.new.inputs c.pass_block.new.unproved c.pass_block.new.mark.raised c.pass_block.new.mark.looped c.pass_block.new.steps) in
    let same : c.code-code.result.now ≡ code = some_same (sym c.code-code.ensures.kept ∙ proc.code_is) in
    let run : Run program item code (given_of c.args.at.now) c.args.at.now.input.now c.enter_into.new.into c.pass_block.new.zone c.range_normed.result S S' = record {
      facts = facts_of program n item code c.program-program.ensures.resolution proc;
      entered = c.enter_into.ensures item code proc.place proc.code_is;
      moves = subst (λ (b : List CodeStmt). MovesAll (given_of c.args.at.now) 0 0 (block_of b) c.enter_into.new.into S c.pass_block.new.zone S') (c.as_slice.ensures ∙ ap (λ (x : Code). x.block) same) c.pass_block.ensures.moves;
      read = subst (λ (x : ZoneOperand). IsRangeOf c.pass_block.new.zone x c.range_normed.result) (c.zone_operand.ensures ∙ ap (λ (x : Code). zone_operand x.result) same) c.range_normed.ensures;
      fits = c.requires.fits item code proc;
      begun = refl;
    } in
    (run_grown program item code (given_of c.args.at.now) c.args.at.now.input.now c.enter_into.new.into c.pass_block.new.zone c.range_normed.result S S' run).inputs

pub returns-clause-falls : goal.returns-clause-falls
returns-clause-falls g c raised =
    let program = c.args.at.now.snapshot.now in
    let n = c.args.at.now.proc.0 in
    let it = item_at (procs_of program) n c.requires.proc in
    let item = it.0 in
    let code = c.code-code.result.now in
    let proc : IsProc program n item code = record { place = it.1; code_is = c.code-code.ensures.kept } in
    let S = (lists c.args.keeps.now c.args.inputs.now c.args.unproved.now false false c.args.steps.now) in
    let S' = (lists c.pass_block.new.keeps c.pass_block.new.inputs c.pass_block.new.unproved c.pass_block.new.mark.raised c.pass_block.new.mark.looped c.pass_block.new.steps) in
    let same : c.code-code.result.now ≡ code = some_same (sym c.code-code.ensures.kept ∙ proc.code_is) in
    let run : Run program item code (given_of c.args.at.now) c.args.at.now.input.now c.enter_into.new.into c.pass_block.new.zone c.range_normed.result S S' = record {
      facts = facts_of program n item code c.program-program.ensures.resolution proc;
      entered = c.enter_into.ensures item code proc.place proc.code_is;
      moves = subst (λ (b : List CodeStmt). MovesAll (given_of c.args.at.now) 0 0 (block_of b) c.enter_into.new.into S c.pass_block.new.zone S') (c.as_slice.ensures ∙ ap (λ (x : Code). x.block) same) c.pass_block.ensures.moves;
      read = subst (λ (x : ZoneOperand). IsRangeOf c.pass_block.new.zone x c.range_normed.result) (c.zone_operand.ensures ∙ ap (λ (x : Code). zone_operand x.result) same) c.range_normed.ensures;
      fits = c.requires.fits item code proc;
      begun = refl;
    } in
    run_falls program item code (given_of c.args.at.now) c.args.at.now.input.now c.enter_into.new.into c.pass_block.new.zone c.range_normed.result S S' run raised

pub returns-clause-under : goal.returns-clause-under
returns-clause-under g c source item code e calls upper under =
    let program = c.args.at.now.snapshot.now in
    let n = c.args.at.now.proc.0 in
    let proc = upper.proc in
    let S = (lists c.args.keeps.now c.args.inputs.now c.args.unproved.now false false c.args.steps.now) in
    let S' = (lists c.pass_block.new.keeps c.pass_block.new.inputs c.pass_block.new.unproved c.pass_block.new.mark.raised c.pass_block.new.mark.looped c.pass_block.new.steps) in
    let same : c.code-code.result.now ≡ code = some_same (sym c.code-code.ensures.kept ∙ proc.code_is) in
    let run : Run program item code (given_of c.args.at.now) c.args.at.now.input.now c.enter_into.new.into c.pass_block.new.zone c.range_normed.result S S' = record {
      facts = facts_of program n item code c.program-program.ensures.resolution proc;
      entered = c.enter_into.ensures item code proc.place proc.code_is;
      moves = subst (λ (b : List CodeStmt). MovesAll (given_of c.args.at.now) 0 0 (block_of b) c.enter_into.new.into S c.pass_block.new.zone S') (c.as_slice.ensures ∙ ap (λ (x : Code). x.block) same) c.pass_block.ensures.moves;
      read = subst (λ (x : ZoneOperand). IsRangeOf c.pass_block.new.zone x c.range_normed.result) (c.zone_operand.ensures ∙ ap (λ (x : Code). zone_operand x.result) same) c.range_normed.ensures;
      fits = c.requires.fits item code proc;
      begun = refl;
    } in
    run_under program n item code (given_of c.args.at.now) c.args.at.now.input.now c.enter_into.new.into c.pass_block.new.zone c.range_normed.result S S' source e calls run (c.requires.input item code proc) upper under

pub returns-clause-cost : goal.returns-clause-cost
returns-clause-cost g c =
    let program = c.args.at.now.snapshot.now in
    let n = c.args.at.now.proc.0 in
    let it = item_at (procs_of program) n c.requires.proc in
    let item = it.0 in
    let code = c.code-code.result.now in
    let proc : IsProc program n item code = record { place = it.1; code_is = c.code-code.ensures.kept } in
    let S = (lists c.args.keeps.now c.args.inputs.now c.args.unproved.now false false c.args.steps.now) in
    let S' = (lists c.pass_block.new.keeps c.pass_block.new.inputs c.pass_block.new.unproved c.pass_block.new.mark.raised c.pass_block.new.mark.looped c.pass_block.new.steps) in
    let same : c.code-code.result.now ≡ code = some_same (sym c.code-code.ensures.kept ∙ proc.code_is) in
    let run : Run program item code (given_of c.args.at.now) c.args.at.now.input.now c.enter_into.new.into c.pass_block.new.zone c.range_normed.result S S' = record {
      facts = facts_of program n item code c.program-program.ensures.resolution proc;
      entered = c.enter_into.ensures item code proc.place proc.code_is;
      moves = subst (λ (b : List CodeStmt). MovesAll (given_of c.args.at.now) 0 0 (block_of b) c.enter_into.new.into S c.pass_block.new.zone S') (c.as_slice.ensures ∙ ap (λ (x : Code). x.block) same) c.pass_block.ensures.moves;
      read = subst (λ (x : ZoneOperand). IsRangeOf c.pass_block.new.zone x c.range_normed.result) (c.zone_operand.ensures ∙ ap (λ (x : Code). zone_operand x.result) same) c.range_normed.ensures;
      fits = c.requires.fits item code proc;
      begun = refl;
    } in
    run_paid program item code (given_of c.args.at.now) c.args.at.now.input.now c.enter_into.new.into c.pass_block.new.zone c.range_normed.result S S' run

pub returns-clause-steps_rise : goal.returns-clause-steps_rise
returns-clause-steps_rise g c =
    let program = c.args.at.now.snapshot.now in
    let n = c.args.at.now.proc.0 in
    let it = item_at (procs_of program) n c.requires.proc in
    let item = it.0 in
    let code = c.code-code.result.now in
    let proc : IsProc program n item code = record { place = it.1; code_is = c.code-code.ensures.kept } in
    let S = (lists c.args.keeps.now c.args.inputs.now c.args.unproved.now false false c.args.steps.now) in
    let S' = (lists c.pass_block.new.keeps c.pass_block.new.inputs c.pass_block.new.unproved c.pass_block.new.mark.raised c.pass_block.new.mark.looped c.pass_block.new.steps) in
    let same : c.code-code.result.now ≡ code = some_same (sym c.code-code.ensures.kept ∙ proc.code_is) in
    let run : Run program item code (given_of c.args.at.now) c.args.at.now.input.now c.enter_into.new.into c.pass_block.new.zone c.range_normed.result S S' = record {
      facts = facts_of program n item code c.program-program.ensures.resolution proc;
      entered = c.enter_into.ensures item code proc.place proc.code_is;
      moves = subst (λ (b : List CodeStmt). MovesAll (given_of c.args.at.now) 0 0 (block_of b) c.enter_into.new.into S c.pass_block.new.zone S') (c.as_slice.ensures ∙ ap (λ (x : Code). x.block) same) c.pass_block.ensures.moves;
      read = subst (λ (x : ZoneOperand). IsRangeOf c.pass_block.new.zone x c.range_normed.result) (c.zone_operand.ensures ∙ ap (λ (x : Code). zone_operand x.result) same) c.range_normed.ensures;
      fits = c.requires.fits item code proc;
      begun = refl;
    } in
    (run_counted program item code (given_of c.args.at.now) c.args.at.now.input.now c.enter_into.new.into c.pass_block.new.zone c.range_normed.result S S' run).more

pub returns-clause-counted : goal.returns-clause-counted
returns-clause-counted g c still =
    let program = c.args.at.now.snapshot.now in
    let n = c.args.at.now.proc.0 in
    let it = item_at (procs_of program) n c.requires.proc in
    let item = it.0 in
    let code = c.code-code.result.now in
    let proc : IsProc program n item code = record { place = it.1; code_is = c.code-code.ensures.kept } in
    let S = (lists c.args.keeps.now c.args.inputs.now c.args.unproved.now false false c.args.steps.now) in
    let S' = (lists c.pass_block.new.keeps c.pass_block.new.inputs c.pass_block.new.unproved c.pass_block.new.mark.raised c.pass_block.new.mark.looped c.pass_block.new.steps) in
    let same : c.code-code.result.now ≡ code = some_same (sym c.code-code.ensures.kept ∙ proc.code_is) in
    let run : Run program item code (given_of c.args.at.now) c.args.at.now.input.now c.enter_into.new.into c.pass_block.new.zone c.range_normed.result S S' = record {
      facts = facts_of program n item code c.program-program.ensures.resolution proc;
      entered = c.enter_into.ensures item code proc.place proc.code_is;
      moves = subst (λ (b : List CodeStmt). MovesAll (given_of c.args.at.now) 0 0 (block_of b) c.enter_into.new.into S c.pass_block.new.zone S') (c.as_slice.ensures ∙ ap (λ (x : Code). x.block) same) c.pass_block.ensures.moves;
      read = subst (λ (x : ZoneOperand). IsRangeOf c.pass_block.new.zone x c.range_normed.result) (c.zone_operand.ensures ∙ ap (λ (x : Code). zone_operand x.result) same) c.range_normed.ensures;
      fits = c.requires.fits item code proc;
      begun = refl;
    } in
    (run_counted program item code (given_of c.args.at.now) c.args.at.now.input.now c.enter_into.new.into c.pass_block.new.zone c.range_normed.result S S' run).still still
