-- One pass over a procedure, from entering it to its return.
use Rattle.std.proofs.Common.{◌≡◌, ℕ, zero, suc, ◌+◌, ◌<◌, ◌≤◌, IsTrue, IsFalse, Option, Some, List, [], ◌∷◌, length, map, slice_get, refl, sym, subst, arith, ◌∙◌, ℤ}
use Rattle.std.specs.List.{All, AllZip}
use Rattle.std.proofs.lemmas.Slice.Zip.{AllZip-long}
use Rattle.vmv_tree.specs.Tree.{Item}
use Rattle.vmv_cond.specs.declared.cond.Cond.{Cond}
use Rattle.vmv_cond.specs.Cond.{IsSubset, Holds as HoldsWord}
use Rattle.vmv_snapshot.specs.declared.code.ProcId.{ProcId}
use Rattle.vmv_snapshot.specs.declared.code.Code.{Code}
use Rattle.vmv_snapshot.specs.declared.code.CodeStmt.{CodeStmt}
use Rattle.vmv_snapshot.specs.View.{block_of, code_of}
use Rattle.vmv_snapshot.specs.Procs.{params_of}
use Rattle.vmv_snapshot.specs.Tables.{body_sites}
use Rattle.vmv_snapshot.specs.Resolution.{Resolution, tree_of, IsResolution}
use Rattle.vmv_zone.specs.declared.zone.Zone.{Zone}
use Rattle.vmv_zone.specs.Zone.{vars_of, IsNormal}
use Rattle.vmv_zone.specs.Operand.{IsOperand}
use Rattle.vmv_zone.specs.Read.{IsRangeOf}
use Rattle.vmv_zone.proofs.MoreLaws.{range_mono}
use Rattle.vmv_step.specs.Zones.{zone_operand, IsInside}
use Rattle.vmv_step.specs.Enter.{declared_count, IsEntered}
use Rattle.vmv_step.proofs.Procedures.{stands, has_room}
use Rattle.vmv_step.proofs.EnterPoints.{enter_mono}
use Rattle.vmv_cert.specs.declared.row.Reach.{Reach}
use Rattle.vmv_cert.specs.declared.row.Reach.TheVariants.{Bottom, Value}
use Rattle.vmv_cert.specs.Sizes.{block_loops}
use Rattle.vmv_cert.specs.Tables.{IsAbove}
use Rattle.vmv_check.specs.Walker.{HasParams, AreReady}
use Rattle.vmv_check.proofs.Codes.{code_ready}
use Rattle.vmv_check.proofs.Lists.{some_same}
use Rattle.vmv_pass.specs.Callees.{block_callees}
use Rattle.vmv_pass.specs.Source.{Stored, Source, by_row, by_stored, input_in, result_in, TellsRange}
use Rattle.vmv_pass.specs.Holds.{Settles}
use Rattle.vmv_pass.specs.Upper.{IsProc, Fits, AreBelow, IsUnder, IsUpper}
use Rattle.vmv_pass.specs.Moves.{Given, Lists, MovesAll, AreCalled, HasKeeps, HaveSites}
use Rattle.vmv_pass.proofs.Zips.{get_map, zip_same}
use Rattle.vmv_pass.proofs.Codes.{AreKnown, block_sites, item_known, block_inside}
use Rattle.vmv_pass.proofs.Moving.{Rule, Moved, moved_all}
use Rattle.vmv_pass.proofs.Growing.{Counted, counts, Unchanged, stays, IsRise, rise_same, Sound, Grown, Grows, grows}
use Rattle.vmv_pass.proofs.Under.{Setting, under_block}
use Rattle.vmv_pass.proofs.Falling.{all_room, IsPaid, Falls, falls}
use Rattle.vmv_pass.proofs.Settling.{Begins, block_settles}
use Rattle.vmv_pass.proofs.Calls.{AreAt}

-- what is known of a procedure and its code
pub record Facts (program : Resolution) (item : Item) (code : Code) : Type 0 where
  pub few : code.vars ≤ 16
  pub ready : AreReady program code.vars (block_of code.block)
  pub known : AreKnown 0 (block_of code.block)
  pub count : block_sites (block_of code.block) ≡ body_sites item
  pub output : IsInside code.vars code.result
  pub params : length (params_of item) ≤ code.vars

pub facts_of : (program : Resolution) (n : ℕ) (item : Item) (code : Code) → IsResolution program → IsProc program n item code → Facts program item code
facts_of program n item code is proc =
    let coded = is.resolves n code proc.code_is in
    let ready = code_ready program n code item is coded proc.place in
    let s = stands (tree_of program) n (code_of code) coded item proc.place in
    let known = item_known s.before item (code_of code) s.resolves in
    let room = has_room (tree_of program) n (code_of code) item is.valid coded proc.place in
    let r = room.room in
    record { few = ready.few; ready = ready.block; known = known.block; count = known.count; output = ready.output; params = omega arith }

-- the lists as what is stored
abbrev pub stored_in : Given → Lists → Stored
stored_in given S = record { assumed = given.assumed; keeps = S.keeps; inputs = S.inputs; results = given.results; unproved = S.unproved }

zip_left : {X Y : Type 0} (R : X → Y → Type 0) (xs : List X) (ys : List Y) (k : ℕ) (x : X) → AllZip R xs ys → slice_get xs k ≡ Some x → (y : Y) × (slice_get ys k ≡ Some y) × R x y
zip_left R [] ys k x all e = absurd (cc)
zip_left R (a ∷ xs) [] k x all e = absurd all
zip_left R (a ∷ xs) (b ∷ ys) zero x all e = (b, refl, subst (λ v. R v b) (some_same e) all.0)
zip_left R (a ∷ xs) (b ∷ ys) (suc k) x all e = zip_left R xs ys k x all.1 e

-- an input of a call of this helper
abbrev IsInput : Resolution → ProcId → Zone → Type 0
IsInput program callee z = HasParams program callee.0 (vars_of z) × IsNormal z

zip_normal : (program : Resolution) (cs : List ProcId) (xs : List Zone) → AllZip (IsInput program) cs xs → All IsNormal xs
zip_normal program [] [] all k d h = absurd (omega arith)
zip_normal program [] (x ∷ xs) all k d h = absurd all
zip_normal program (p ∷ cs) [] all k d h = absurd all
zip_normal program (p ∷ cs) (x ∷ xs) all zero d h = all.0.1
zip_normal program (p ∷ cs) (x ∷ xs) all (suc k) d h = zip_normal program cs xs all.1 k d (omega (arith, h))

zip_risen : (program : Resolution) (cs : List ProcId) (xs ys : List Zone) → AllZip (IsInput program) cs xs → AreBelow xs ys → All IsNormal ys → AllZip (IsInput program) cs ys
zip_risen program [] [] [] all up normal = tt
zip_risen program [] [] (y ∷ ys) all up normal = absurd up
zip_risen program [] (x ∷ xs) ys all up normal = absurd all
zip_risen program (p ∷ cs) [] ys all up normal = absurd all
zip_risen program (p ∷ cs) (x ∷ xs) [] all up normal = absurd up
zip_risen program (p ∷ cs) (x ∷ xs) (y ∷ ys) all up normal =
    ((subst (HasParams program p.0) (sym up.0.0) all.0.0, normal 0 y (omega arith)), zip_risen program cs xs ys all.1 up.1 (λ k d h. normal (suc k) d (omega (arith, h))))

-- what a pass over the statements takes
pub record Passable (program : Resolution) (stored : Stored) (block : List CodeStmt) (start : Zone) : Type 0 where
  pub few : start.vars ≤ 16
  pub ready : AreReady program start.vars (block_of block)
  pub sites : HaveSites (length stored.unproved) (block_of block)
  pub kept : HasKeeps start.vars (0 + block_loops (block_of block)) stored.keeps
  pub called : AreCalled program (map vars_of stored.inputs) 0 (block_callees (block_of block))
  pub calls : 0 + length (block_callees (block_of block)) ≤ length stored.inputs
  pub results : length stored.results ≡ length stored.inputs

fits_called : (program : Resolution) (cs : List ProcId) (inputs : List Zone) → AllZip (IsInput program) cs inputs → AreCalled program (map vars_of inputs) 0 cs
fits_called program cs inputs all i callee at =
    let z = zip_left (IsInput program) cs inputs i callee all at in
    let s : i ≡ 0 + i = omega arith in
    (vars_of z.0, subst (λ j. slice_get (map vars_of inputs) j ≡ Some (vars_of z.0)) s (get_map vars_of inputs i z.0 z.1), z.2.0)

passable_here : (program : Resolution) (n : ℕ) (ts : List ℤ) (item : Item) (code : Code) (stored : Stored) (start : Zone) → IsResolution program → IsProc program n item code → Fits program ts item code stored → start.vars ≡ code.vars →
    Passable program stored code.block start
passable_here program n ts item code stored start is proc fits size =
    let f = facts_of program n item code is proc in
    let few = f.few in
    let count = f.count in
    let room = fits.unproved in
    let enough = fits.keeps in
    let long = AllZip-long (IsInput program) (block_callees (block_of code.block)) stored.inputs fits.inputs in
    record {
      few = omega (arith, few, size);
      ready = subst (λ v. AreReady program v (block_of code.block)) (sym size) f.ready;
      sites = block_inside (length stored.unproved) 0 (block_of code.block) (omega (arith, count, room)) f.known;
      kept = record { enough = omega (arith, enough); over = subst (λ v. All (λ (z : Zone). z.vars ≡ v) stored.keeps) (sym size) fits.over };
      called = fits_called program (block_callees (block_of code.block)) stored.inputs fits.inputs;
      calls = omega (arith, long);
      results = fits.results ∙ sym long;
    }

pub passable : (program : Resolution) (n : ℕ) (ts : List ℤ) (item : Item) (code : Code) (stored : Stored) (start : Zone) (block : List CodeStmt) → IsResolution program → IsProc program n item code → Fits program ts item code stored →
    start.vars ≡ code.vars → block ≡ code.block → Passable program stored block start
passable program n ts item code stored start block is proc fits size same =
    subst (λ (b : List CodeStmt). Passable program stored b start) (sym same) (passable_here program n ts item code stored start is proc fits size)

-- one pass, from entering the procedure with the input to the range of what it returns
pub record Run (program : Resolution) (item : Item) (code : Code) (given : Given) (input start end : Zone) (range : Cond) (S S' : Lists) : Type 0 where
  pub facts : Facts program item code
  pub entered : IsEntered input (length (params_of item)) (declared_count item) code.vars start
  pub moves : MovesAll given 0 0 (block_of code.block) start S end S'
  pub read : IsRangeOf end (zone_operand code.result) range
  pub fits : Fits program given.thresholds item code (stored_in given S)
  pub begun : IsFalse S.raised

run_moved : (program : Resolution) (item : Item) (code : Code) (given : Given) (input start end : Zone) (range : Cond) (S S' : Lists) (R : Lists → Lists → Type 0) → Run program item code given input start end range S S' →
    Rule code.vars (map vars_of S.inputs) given R → Moved code.vars (map vars_of S.inputs) R S end S'
run_moved program item code given input start end range S S' R run rule =
    moved_all program code.vars (map vars_of S.inputs) given R rule 0 0 (block_of code.block) start end S S' run.facts.ready (fits_called program (block_callees (block_of code.block)) S.inputs run.fits.inputs)
    (record { over = run.fits.over; inputs = refl }) run.entered.vars run.moves

run_sound : (program : Resolution) (item : Item) (code : Code) (given : Given) (input start end : Zone) (range : Cond) (S S' : Lists) → Run program item code given input start end range S S' → Sound given.thresholds S
run_sound program item code given input start end range S S' run =
    record { thresholds = run.fits.thresholds; normal = zip_normal program (block_callees (block_of code.block)) S.inputs run.fits.inputs }

pub run_stays : (program : Resolution) (item : Item) (code : Code) (given : Given) (input start end : Zone) (range : Cond) (S S' : Lists) → Run program item code given input start end range S S' → IsFalse S'.raised → Unchanged S S'
run_stays program item code given input start end range S S' run =
    (run_moved program item code given input start end range S S' _ run (stays code.vars (map vars_of S.inputs) given)).rule

pub run_grown : (program : Resolution) (item : Item) (code : Code) (given : Given) (input start end : Zone) (range : Cond) (S S' : Lists) → Run program item code given input start end range S S' → Grown given.thresholds S S'
run_grown program item code given input start end range S S' run =
    (run_moved program item code given input start end range S S' (Grows given.thresholds) run (grows code.vars (map vars_of S.inputs) given)).rule (run_sound program item code given input start end range S S' run)

pub run_fits : (program : Resolution) (item : Item) (code : Code) (given : Given) (input start end : Zone) (range : Cond) (S S' : Lists) → Run program item code given input start end range S S' →
    Fits program given.thresholds item code (stored_in given S')
run_fits program item code given input start end range S S' run =
    let m = run_moved program item code given input start end range S S' (Grows given.thresholds) run (grows code.vars (map vars_of S.inputs) given) in
    let g = run_grown program item code given input start end range S S' run in
    record {
      keeps = AllZip-long IsRise S.keeps S'.keeps g.keeps ∙ run.fits.keeps;
      over = m.base.over;
      thresholds = g.sound.thresholds;
      inputs = zip_risen program (block_callees (block_of code.block)) S.inputs S'.inputs run.fits.inputs g.inputs g.sound.normal;
      results = run.fits.results;
      unproved = g.unproved ∙ run.fits.unproved;
    }

pub run_settles : (program : Resolution) (item : Item) (code : Code) (given : Given) (input start end : Zone) (range : Cond) (S S' : Lists) → Run program item code given input start end range S S' → IsFalse S'.looped →
    Settles (stored_in given S') item code input range
run_settles program item code given input start end range S S' run still =
    let f = run_fits program item code given input start end range S S' run in
    let long = f.unproved in
    let count = run.facts.count in
    let begins : Begins code.vars (map vars_of S.inputs) given start S = record {
      base = record { over = run.fits.over; inputs = refl };
      sound = run_sound program item code given input start end range S S' run;
      size = run.entered.vars;
    } in
    let s = block_settles program code.vars (map vars_of S.inputs) input range (stored_in given S') given 0 0 0 (block_of code.block) start end S S' run.facts.ready
    (fits_called program (block_callees (block_of code.block)) S.inputs run.fits.inputs) begins refl refl run.facts.known (omega (arith, long, count))
    (record { keeps = refl; inputs = zip_same IsRise S'.inputs rise_same; looped = still }) (λ i from to. refl) run.moves in
    let whole : AreAt s.calls 0 s.calls = λ i x at. subst (λ j. slice_get s.calls j ≡ Some x) (let z : i ≡ 0 + i = omega arith in z) at in
    (end, s.calls, record { count = s.count; start = start; entered = run.entered; holds = s.walks s.calls whole; range = range; read = run.read; told = refl })

pub run_falls : (program : Resolution) (item : Item) (code : Code) (given : Given) (input start end : Zone) (range : Cond) (S S' : Lists) → Run program item code given input start end range S S' → IsTrue S'.raised → all_room S' < all_room S
run_falls program item code given input start end range S S' run raised =
    let m = run_moved program item code given input start end range S S' (Falls given) run (falls code.vars (map vars_of S.inputs) given) in
    (m.rule.falls (run_sound program item code given input start end range S S' run)).less run.begun raised

pub run_paid : (program : Resolution) (item : Item) (code : Code) (given : Given) (input start end : Zone) (range : Cond) (S S' : Lists) → Run program item code given input start end range S S' → IsPaid given.thresholds S S'
run_paid program item code given input start end range S S' run =
    let m = run_moved program item code given input start end range S S' (Falls given) run (falls code.vars (map vars_of S.inputs) given) in
    m.rule.paid (run_sound program item code given input start end range S S' run)

pub run_counted : (program : Resolution) (item : Item) (code : Code) (given : Given) (input start end : Zone) (range : Cond) (S S' : Lists) → Run program item code given input start end range S S' → Counted S S'
run_counted program item code given input start end range S S' run = (run_moved program item code given input start end range S S' Counted run (counts code.vars (map vars_of S.inputs) given)).rule

above_less : (r : Reach) (c d : Cond) → IsSubset c d → IsAbove r d → IsAbove r c
above_less Bottom c d sub above = λ word holds. above word (sub word holds)
above_less (Value x) c d sub above = λ word holds. above word (sub word holds)

-- the range that is told is below the result
told_above : (source : Source) (range : Cond) → TellsRange source range → IsAbove (result_in source) range
told_above (by_row w) range told = told
told_above (by_stored input stored_range stored) range told = λ word held. subst (λ (c : Cond). HoldsWord c word) told held

pub run_under : (program : Resolution) (n : ℕ) (item : Item) (code : Code) (given : Given) (input start end : Zone) (range : Cond) (S S' : Lists) (source : Source) (e : Zone) (calls : List (Option Zone)) →
    Run program item code given input start end range S S' → input.vars ≡ length (params_of item) → IsUpper program n given.thresholds input (stored_in given S) source item code e calls → IsUnder source calls (stored_in given S) →
    IsUnder source calls (stored_in given S') × IsAbove (result_in source) range
run_under program n item code given input start end range S S' source e calls run size upper under =
    let row = upper.holds in
    let starts = enter_mono (length (params_of item)) (declared_count item) code.vars input (input_in source) start row.start size upper.params run.facts.params run.entered row.entered upper.above in
    let set : Setting code.vars given source calls (block_callees (block_of code.block)) =
    record { assumed = upper.assumed; over = upper.over; thresholds = upper.thresholds; results = upper.results } in
    let b = under_block program code.vars (map vars_of S.inputs) given source calls (block_callees (block_of code.block)) set 0 0 0 (block_of code.block) start end row.start e S S' run.facts.ready run.facts.known
    (fits_called program (block_callees (block_of code.block)) S.inputs run.fits.inputs)
    (λ i callee at. subst (λ j. slice_get (block_callees (block_of code.block)) j ≡ Some callee) (let z : i ≡ 0 + i = omega arith in z) at)
    (record { over = run.fits.over; inputs = refl }) (record { keeps = under.keeps; inputs = under.inputs; unproved = under.unproved }) run.entered.vars row.entered.vars starts run.moves row.holds in
    let u = b.under in (
      record { keeps = u.keeps; inputs = u.inputs; unproved = u.unproved },
      above_less (result_in source) range row.range
          (range_mono end e (zone_operand code.result) range row.range (b.size ∙ sym b.size') (subst (λ v. IsOperand v (zone_operand code.result)) (sym b.size') run.facts.output) run.read row.read b.below) (told_above source row.range row.told),
    )
