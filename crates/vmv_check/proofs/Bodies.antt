-- The walk of a row, from entering its procedure to its return.
use Rattle.std.proofs.Common.{◌≡◌, inl, inr, rules, Result, Ok, Err, IsOk, ℕ, zero, suc, ◌+◌, ◌≤◌, Some, List, [], ◌∷◌, ◌++◌, length, map, take, drop, get_or, slice_get, refl, sym, ap, subst, arith, ◌∙◌, ◌<◌, length-take}
use Rattle.std.specs.List.{Contains}
use Rattle.vmv_tree.specs.Tree.{Item}
use Rattle.vmv_tree.specs.Run.{name_of}
use Rattle.vmv_snapshot.specs.declared.code.Code.{Code}
use Rattle.vmv_snapshot.specs.declared.code.CodeStmt.{CodeStmt}
use Rattle.vmv_snapshot.specs.View.{block_of, code_of}
use Rattle.vmv_snapshot.specs.Procs.{params_of}
use Rattle.vmv_snapshot.specs.Resolves.{IsCode}
use Rattle.vmv_snapshot.specs.Resolution.{Resolution, tree_of, procs_of, IsResolution}
use Rattle.vmv_zone.specs.declared.zone.Zone.{Zone}
use Rattle.vmv_zone.specs.declared.operand.ZoneOperand.{ZoneOperand}
use Rattle.vmv_zone.specs.Zone.{IsNormal}
use Rattle.vmv_zone.specs.Operand.{IsOperand}
use Rattle.vmv_zone.specs.Read.{IsRangeOf}
use Rattle.vmv_cond.specs.declared.cond.Cond.{Cond}
use Rattle.vmv_assumption.specs.Assumed.{Assumed}
use Rattle.vmv_step.specs.Zones.{zone_operand}
use Rattle.vmv_step.specs.Enter.{declared_count, IsEntered}
use Rattle.vmv_cert.specs.declared.row.Row.{Row}
use Rattle.vmv_cert.specs.Sizes.{block_statements}
use Rattle.vmv_cert.specs.Walk.{Way, goes, fails, Walk, WalksAll}
use Rattle.vmv_cert.specs.Tables.{IsFormed, IsAbove, WalksBody, WalksRow, Passes, IsRefused}
use Rattle.vmv_step.proofs.EnterPoints.{enter_normal}
use Rattle.vmv_check.specs.Walker.{way_at, AreReady}
use Rattle.vmv_check.proofs.Lists.{Upto, some_same, got_in}
use Rattle.vmv_check.proofs.Codes.{code_ready}
use Rattle.vmv_check.proofs.Orders.{name_at}
use Rattle.vmv_check.proofs.Forms.{SomeFormed, formed_here}

-- the state at the start is that of entering the procedure
abbrev pub Enters : Resolution → Row → ℕ → Zone → Type 0
Enters program row n start = (item : Item) (code : Code) → slice_get (procs_of program) n ≡ Some item → slice_get program.codes n ≡ Some code → IsEntered row.input (length (params_of item)) (declared_count item) code.vars start

-- what is known where the walk of the statements starts
pub record Started (program : Resolution) (code : Code) (block : List CodeStmt) (start : Zone) : Type 0 where
  pub vars : start.vars ≡ code.vars
  pub few : start.vars ≤ 16
  pub normal : IsNormal start
  pub ready : AreReady program start.vars (block_of block)
  pub steps : 1 + block_statements (block_of block) ≤ 2001
  pub output : IsOperand start.vars (zone_operand code.result)

pub started : (program : Resolution) (row : Row) (n : ℕ) (code : Code) (block : List CodeStmt) (start : Zone) → IsResolution program → IsCode (tree_of program) n (code_of code) → slice_get program.codes n ≡ Some code →
    SomeFormed program row n → Enters program row n start → block ≡ code.block → Started program code block start
started program row n code block start is coded kept (item, other, f) enters same =
    let r = code_ready program n code item is coded f.place in
    let v : start.vars ≡ code.vars = (enters item code f.place kept).vars in
    let few = r.few in
    let steps = r.steps in
    let e : block_statements (block_of block) ≡ block_statements (block_of code.block) = ap (λ (b : List CodeStmt). block_statements (block_of b)) same in
    record {
      vars = v;
      few = omega arith;
      normal = (enter_normal (length (params_of item)) (declared_count item) code.vars row.input start (enters item code f.place kept)).0;
      ready = subst (λ (b : List CodeStmt). AreReady program start.vars (block_of b)) (sym same) (subst (λ k. AreReady program k (block_of code.block)) (sym v) r.block);
      steps = omega arith;
      output = subst (λ k. IsOperand k (zone_operand code.result)) (sym v) r.output;
    }

pub body_fails_at : (w : Walk) (n m : ℕ) (code : Code) (block : List CodeStmt) (start : Zone) → block ≡ code.block → slice_get w.program.codes n ≡ Some code → Enters w.program w.row n start →
    WalksAll w 1 0 (block_of block) start (fails m) → (item : Item) (other : Code) → IsFormed w.program w.row n item other → WalksBody w item other (fails m)
body_fails_at w n m code block start same kept enters walk item other f =
    let one : code ≡ other = some_same (sym kept ∙ f.code_is) in
    let walk' = subst (λ (b : List CodeStmt). WalksAll w 1 0 (block_of b) start (fails m)) (same ∙ ap (λ (x : Code). x.block) one) walk in
    (start, fails m, enters item other f.place f.code_is, walk', refl)

pub return_fails : (w : Walk) (n step : ℕ) (code : Code) (block : List CodeStmt) (start end : Zone) (x : ZoneOperand) (range : Cond) → block ≡ code.block → slice_get w.program.codes n ≡ Some code → Enters w.program w.row n start →
    WalksAll w 1 0 (block_of block) start (goes end) → x ≡ zone_operand code.result → IsRangeOf end x range → (IsAbove w.row.result range → ⊥) → step ≡ 1 + block_statements (block_of block) →
    (item : Item) (other : Code) → IsFormed w.program w.row n item other → WalksBody w item other (fails step)
return_fails w n step code block start end x range same kept enters walk ex at above e item other f =
    let one : code ≡ other = some_same (sym kept ∙ f.code_is) in
    let all = same ∙ ap (λ (x : Code). x.block) one in
    let walk' = subst (λ (b : List CodeStmt). WalksAll w 1 0 (block_of b) start (goes end)) all walk in
    let at' = subst (λ (o : ZoneOperand). IsRangeOf end o range) (ex ∙ ap (λ (x : Code). zone_operand x.result) one) at in
    let s : block_statements (block_of block) ≡ block_statements (block_of other.block) = ap (λ (b : List CodeStmt). block_statements (block_of b)) all in
    let e' : step ≡ block_statements (block_of other.block) + 1 = omega arith in
    (start, goes end, enters item other f.place f.code_is, walk', (range, at', inr (above, ap fails e')))

pub body_goes : (w : Walk) (n : ℕ) (code : Code) (block : List CodeStmt) (start end : Zone) (x : ZoneOperand) (range : Cond) → block ≡ code.block → slice_get w.program.codes n ≡ Some code → Enters w.program w.row n start →
    WalksAll w 1 0 (block_of block) start (goes end) → x ≡ zone_operand code.result → IsRangeOf end x range → IsAbove w.row.result range →
    (item : Item) (other : Code) → IsFormed w.program w.row n item other → WalksBody w item other (goes end)
body_goes w n code block start end x range same kept enters walk ex at above item other f =
    let one : code ≡ other = some_same (sym kept ∙ f.code_is) in
    let walk' = subst (λ (b : List CodeStmt). WalksAll w 1 0 (block_of b) start (goes end)) (same ∙ ap (λ (x : Code). x.block) one) walk in
    let at' = subst (λ (o : ZoneOperand). IsRangeOf end o range) (ex ∙ ap (λ (x : Code). zone_operand x.result) one) at in
    (start, goes end, enters item other f.place f.code_is, walk', (range, at', inl (above, refl)))

pub no_proc : (w : Walk) → (Contains (map name_of (procs_of w.program)) w.row.proc → ⊥) → WalksRow w (fails 0)
no_proc w none = inl ((λ n item code f. none (got_in (map name_of (procs_of w.program)) n w.row.proc (name_at w.program n item w.row.proc f.place f.named))), refl)

pub not_formed : (w : Walk) (n : ℕ) → IsResolution w.program → slice_get (map name_of (procs_of w.program)) n ≡ Some w.row.proc → (SomeFormed w.program w.row n → ⊥) → WalksRow w (fails 0)
not_formed w n is at none =
    inl ((λ m item code f. none (item, code, subst (λ k. IsFormed w.program w.row k item code) (formed_here w.program w.row n m item code is at f) f)), refl)

pub row_walks : (w : Walk) (n : ℕ) (way : Way) → SomeFormed w.program w.row n → ((item : Item) (code : Code) → IsFormed w.program w.row n item code → WalksBody w item code way) → WalksRow w way
row_walks w n way (item, code, f) walks = inr (n, item, code, f, walks item code f)

row_parts : {X : Type 0} (xs : List X) (i : ℕ) (x : X) → i < length xs → x ≡ get_or xs i x → xs ≡ take i xs ++ x ∷ drop (suc i) xs
row_parts [] i x h e = absurd (omega arith)
row_parts (y ∷ xs) zero x h e = ap (λ z. z ∷ xs) (sym e)
row_parts (y ∷ xs) (suc i) x h e = ap (λ zs. y ∷ zs) (row_parts xs i x (omega (arith, h)) e)

pub refused_of : (program : Resolution) (assumed : Assumed) (rows : List Row) (i step : ℕ) (row : Row) → i < length rows → row ≡ get_or rows i row → Upto (Passes program assumed rows) rows i →
    WalksRow (record { program = program; assumed = assumed; rows = rows; row = row }) (fails step) → IsRefused program assumed rows (i + 1) step
refused_of program assumed rows i step row h is passed failed = record {
  before = take i rows;
  row = row;
  after = drop (suc i) rows;
  parts = row_parts rows i row h is;
  place = let e = length-take i rows in omega arith;
  passed = passed;
  failed = failed;
}

pub ok_walks : (w : Walk) (n : ℕ) (r : Result (Unit {0}) ℕ) (z : Zone) → SomeFormed w.program w.row n → ((item : Item) (code : Code) → IsFormed w.program w.row n item code → WalksBody w item code (way_at r z)) → IsOk r → (z : Zone) × WalksRow w (goes z)
ok_walks w n (Ok done) z formed walks is = (z, row_walks w n (goes z) formed walks)
ok_walks w n (Err m) z formed walks is = absurd (search rules)
