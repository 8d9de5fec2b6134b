-- The walk of a row under a smaller assumption, and tables that stay accepted.
use Rattle.std.proofs.Common.{◌≡◌, inl, inr, ℕ, ◌+◌, List, ◌∷◌, ◌++◌, length, slice_get, refl, sym, ap, subst, arith, ◌∙◌}
use Rattle.std.specs.List.{Contains}
use Rattle.std.proofs.lemmas.List.Elements.{Contains-append_right}
use Rattle.vmv_tree.specs.Tree.{Item}
use Rattle.vmv_cond.specs.declared.cond.Cond.{Cond}
use Rattle.vmv_cond.specs.Cond.{IsSubset}
use Rattle.vmv_snapshot.specs.declared.code.Code.{Code}
use Rattle.vmv_snapshot.specs.View.{code_of}
use Rattle.vmv_snapshot.specs.Procs.{params_of}
use Rattle.vmv_snapshot.specs.Resolution.{Resolution, IsResolution, tree_of, procs_of}
use Rattle.vmv_zone.specs.declared.zone.Zone.{Zone}
use Rattle.vmv_zone.specs.Zone.{IsBelow}
use Rattle.vmv_zone.proofs.MoreLaws.{range_mono}
use Rattle.vmv_assumption.specs.Assumed.{Assumed}
use Rattle.vmv_assumption.specs.Within.{IsBelow as IsLess}
use Rattle.vmv_step.specs.Zones.{zone_operand, IsInside}
use Rattle.vmv_step.specs.Enter.{declared_count}
use Rattle.vmv_cert.specs.declared.row.Row.{Row}
use Rattle.vmv_cert.specs.declared.row.Reach.{Reach}
use Rattle.vmv_cert.specs.declared.row.Reach.TheVariants.{Bottom, Value}
use Rattle.vmv_cert.specs.Sizes.{block_statements}
use Rattle.vmv_cert.specs.Walk.{Way, goes, fails, Walk, WalksAll}
use Rattle.vmv_cert.specs.Tables.{IsFormed, IsAbove, WalksBody, WalksRow, Accepted, IsRefused}
use Rattle.vmv_check.proofs.Lists.{some_same}
use Rattle.vmv_check.proofs.Above.{procs_once}
use Rattle.vmv_check.proofs.Orders.{name_at}
use Rattle.vmv_check.proofs.Codes.{code_ready}
use Rattle.vmv_step.proofs.EnterPoints.{enter_mono}
use Rattle.vmv_step.proofs.Procedures.{has_room}
use Rattle.vmv_table_order.proofs.Parts.{IsReturn}
use Rattle.vmv_table_order.proofs.Literals.{code_worded}
use Rattle.vmv_table_order.proofs.Walks.{under, IsLower, lower_end, passed, passes, went_on, behind, goes_or_fails, below_same, block_lower}

-- what is above a range is above a narrower one
above_lower : (result : Reach) (c d : Cond) → IsSubset c d → IsAbove result d → IsAbove result c
above_lower Bottom c d sub empty = λ word held. empty word (sub word held)
above_lower (Value x) c d sub above = λ word held. above word (sub word held)

return_lower : (w : Walk) (less : Assumed) (vars : ℕ) (code : Code) (e1 a1 e : Zone) (way : Way) → IsInside vars code.result → e1.vars ≡ vars → a1.vars ≡ vars → IsBelow a1 e1 → IsReturn w code e1 (goes e) → IsReturn (under w less) code a1 way →
    IsLower vars e way
return_lower w less vars code e1 a1 e way inside ev av below (c, x, h) (d, y, g) =
    let last = block_statements (code_of code).block + 1 in
    let up = passed (IsAbove w.row.result c) last e1 e h in
    let fewer : IsSubset d c = range_mono a1 e1 (zone_operand code.result) d c (av ∙ sym ev) (subst (λ k. IsInside k code.result) (sym ev) inside) y x below in
    lower_end vars e e1 a1 way up.1 (passes (IsAbove w.row.result d) last a1 way (above_lower w.row.result d c fewer up.0) g) below av ev

body_lower : (w : Walk) (less : Assumed) (n : ℕ) (item : Item) (code : Code) (e : Zone) (way : Way) → IsResolution w.program → IsLess less w.assumed → IsFormed w.program w.row n item code → WalksBody w item code (goes e) →
    WalksBody (under w less) item code way → IsLower code.vars e way
body_lower w less n item code e way is smaller formed (start, end, x, h, rest) (start', end', x', h', rest') =
    let ready = code_ready w.program n code item is (is.resolves n code formed.code_is) formed.place in
    let words = code_worded w.program n code is formed.code_is in
    let room = has_room (tree_of w.program) n (code_of code) item is.valid (is.resolves n code formed.code_is) formed.place in
    let fits = room.room in
    let lower : IsBelow start' start = enter_mono (length (params_of item)) (declared_count item) code.vars w.row.input w.row.input start' start formed.input formed.input (omega (arith, fits)) x' x (below_same w.row.input) in
    let a = went_on end (IsReturn w code) e rest in
    let l = block_lower w less code.vars 1 0 (code_of code).block start start' a.at end' smaller formed.over x.vars x'.vars lower ready.block words
    (subst (λ (v : Way). WalksAll w 1 0 (code_of code).block start v) a.is h) h' in
    return_lower w less code.vars code a.at l.end e way ready.output l.vars_are l.lower_vars l.below a.next (behind end' (IsReturn (under w less) code) l.end way l.is rest')

-- a lower state from which a walk goes on
abbrev pub GoesLower : Zone → Way → Type 0
GoesLower z way = (y : Zone) × (way ≡ goes y) × IsBelow y z

pub row_lower : (w : Walk) (less : Assumed) (z : Zone) (way : Way) → IsResolution w.program → IsLess less w.assumed → WalksRow w (goes z) → WalksRow (under w less) way → GoesLower z way
row_lower w less z way is smaller (inl x) g = goes_or_fails z 0 x.1
row_lower w less z way is smaller (inr (n, item, code, f, body)) (inl y) = absurd (y.0 n item code f)
row_lower w less z way is smaller (inr (n, item, code, f, body)) (inr (n', item', code', f', body')) =
    let place : n ≡ n' =
    procs_once (tree_of w.program) is.valid n n' w.row.proc (name_at w.program n item w.row.proc f.place f.named) (name_at w.program n' item' w.row.proc f'.place f'.named) in
    let same : item ≡ item' = some_same (sym f.place ∙ (ap (slice_get (procs_of w.program)) place ∙ f'.place)) in
    let one : code ≡ code' = some_same (sym f.code_is ∙ (ap (slice_get w.program.codes) place ∙ f'.code_is)) in
    let up = subst (λ (c : Code). WalksBody w item' c (goes z)) one (subst (λ (i : Item). WalksBody w i code (goes z)) same body) in
    let l = body_lower w less n' item' code' z way is smaller f' up body' in
    (l.end, l.is, l.below)

abbrev pub walk_at : Resolution → Assumed → List Row → Row → Walk
walk_at program assumed rows row = record { program = program; assumed = assumed; rows = rows; row = row }

pub walk_lower : (program : Resolution) (assumed less : Assumed) (rows : List Row) (row : Row) (z : Zone) (way : Way) → IsResolution program → IsLess less assumed → WalksRow (walk_at program assumed rows row) (goes z) →
    WalksRow (walk_at program less rows row) way → GoesLower z way
walk_lower program assumed less rows row z way is smaller h g = row_lower (walk_at program assumed rows row) less z way is smaller h g

pub still_accepted : (program : Resolution) (assumed less : Assumed) (rows : List Row) (row : Row) (way : Way) → IsResolution program → IsLess less assumed → Accepted program assumed rows → Contains rows row → WalksRow (walk_at program less rows row) way →
    (y : Zone) × (way ≡ goes y)
still_accepted program assumed less rows row way is smaller accepted among h =
    let p = accepted row among in
    let l = walk_lower program assumed less rows row p.0 way is smaller p.1 h in
    (l.0, l.1)

pub never_refused : (program : Resolution) (assumed less : Assumed) (rows : List Row) (number step : ℕ) → IsResolution program → IsLess less assumed → Accepted program assumed rows → IsRefused program less rows number step → ⊥
never_refused program assumed less rows number step is smaller accepted r =
    let among : Contains (r.before ++ r.row ∷ r.after) r.row = Contains-append_right r.before (r.row ∷ r.after) r.row (0, omega arith, refl) in
    let one : Contains rows r.row = subst (λ (xs : List Row). Contains xs r.row) (sym r.parts) among in
    let l = still_accepted program assumed less rows r.row (fails step) is smaller accepted one r.failed in
    goes_or_fails l.0 step (sym l.1)
