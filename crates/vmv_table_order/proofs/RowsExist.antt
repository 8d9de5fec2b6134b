-- The walk of each row ends in some way, and what is accepted under an assumption is accepted under a smaller one.
use Rattle.std.proofs.Common.{◌≡◌, inl, inr, ⊎_elim, ℕ, ◌+◌, List, length, refl, subst, arith}
use Rattle.std.specs.List.{Contains}
use Rattle.vmv_tree.specs.declared.ends.NameEnds.{NameEnds}
use Rattle.vmv_tree.specs.declared.site.NamedSite.{NamedSite}
use Rattle.vmv_tree.specs.Tree.{Item}
use Rattle.vmv_snapshot.specs.declared.code.Code.{Code}
use Rattle.vmv_snapshot.specs.View.{code_of}
use Rattle.vmv_snapshot.specs.Procs.{params_of}
use Rattle.vmv_snapshot.specs.Resolution.{Resolution, IsResolution}
use Rattle.vmv_zone.specs.declared.zone.Zone.{Zone}
use Rattle.vmv_states_exist.proofs.Operands.{range_exists}
use Rattle.vmv_states_exist.proofs.Starts.{entered_exists}
use Rattle.vmv_assumption.specs.Assumed.{Assumed}
use Rattle.vmv_assumption.specs.Within.{IsBelow as IsLess}
use Rattle.vmv_step.specs.Zones.{zone_operand}
use Rattle.vmv_step.specs.Enter.{declared_count}
use Rattle.vmv_cert.specs.declared.row.Row.{Row}
use Rattle.vmv_cert.specs.Sizes.{block_statements}
use Rattle.vmv_cert.specs.Walk.{Way, fails, Walk}
use Rattle.vmv_cert.specs.Tables.{IsFormed, IsAbove, WalksBody, WalksRow, Passes, Accepted, Box, Shows, Provable, Dead}
use Rattle.vmv_check.proofs.Codes.{code_ready}
use Rattle.vmv_table_order.proofs.Parts.{IsReturn}
use Rattle.vmv_table_order.proofs.Lists.{each_of}
use Rattle.vmv_table_order.proofs.Literals.{code_worded}
use Rattle.vmv_table_order.proofs.Results.{decided}
use Rattle.vmv_table_order.proofs.Rows.{walk_at, still_accepted}
use Rattle.vmv_table_order.proofs.WalksExist.{SomeWay, some_test, some_behind, some_block}

some_return : (w : Walk) (vars : ℕ) (code : Code) (e : Zone) → e.vars ≡ vars → SomeWay vars (IsReturn w code e)
some_return w vars code e over k =
    range_exists e (zone_operand code.result)
    (λ c. some_test vars (IsAbove w.row.result c.0) (block_statements (code_of code).block + 1) e over (λ way. k (way.0, (c.0, c.1, way.1), way.2)))

some_body : (w : Walk) (n : ℕ) (item : Item) (code : Code) → IsResolution w.program → IsFormed w.program w.row n item code → ¬ (¬ ((way : Way) × WalksBody w item code way))
some_body w n item code is formed k =
    let ready = code_ready w.program n code item is (is.resolves n code formed.code_is) formed.place in
    let words = code_worded w.program n code is formed.code_is in
    let few = ready.few in
    entered_exists w.row.input (length (params_of item)) (declared_count item) code.vars formed.input few
    (λ start. some_block w code.vars 1 0 (code_of code).block start.0 few formed.over (omega (arith, formed.keeps)) start.1.vars ready.block words
    (λ end. some_behind code.vars end.0 (IsReturn w code) end.2 (λ e ev. some_return w code.vars code e ev)
    (λ way. k (way.0, (start.0, end.0, start.1, end.1, way.1)))))

-- a row that is formed
record Formed (w : Walk) : Type 0 where
  number : ℕ
  item : Item
  code : Code
  formed : IsFormed w.program w.row number item code

pub some_row : (w : Walk) → IsResolution w.program → ¬ (¬ ((way : Way) × WalksRow w way))
some_row w is k =
    decided (Formed w)
    (⊎_elim
    (λ (f : Formed w). some_body w f.number f.item f.code is f.formed (λ way. k (way.0, inr (f.number, f.item, f.code, f.formed, way.1))))
    (λ (none : Formed w → ⊥). k (fails 0, inl ((λ n item code f. none (record { number = n; item = item; code = code; formed = f })), refl))))

some_pass : (program : Resolution) (assumed less : Assumed) (rows : List Row) (row : Row) → IsResolution program → IsLess less assumed → Accepted program assumed rows → Contains rows row → ¬ (¬ Passes program less rows row)
some_pass program assumed less rows row is smaller accepted among k =
    some_row (walk_at program less rows row) is
    (λ way.
    let l = still_accepted program assumed less rows row way.0 is smaller accepted among way.1 in
    k (l.0, subst (λ (v : Way). WalksRow (walk_at program less rows row) v) l.1 way.1))

pub some_accepted : (program : Resolution) (assumed less : Assumed) (rows : List Row) → IsResolution program → IsLess less assumed → Accepted program assumed rows → ¬ (¬ Accepted program less rows)
some_accepted program assumed less rows is smaller accepted =
    each_of (λ row. Passes program less rows row) rows (λ row among. some_pass program assumed less rows row is smaller accepted among)

some_shown : (program : Resolution) (n : ℕ) (box : Box) (ends : List NameEnds) (assumed less : Assumed) (P : Row → Type 0) → IsResolution program → IsLess less assumed → Shows program n box ends assumed P → ¬ (¬ Shows program n box ends less P)
some_shown program n box ends assumed less P is smaller (rows, row, accepted, thresholds, among, above, p) k =
    some_accepted program assumed less rows is smaller accepted (λ a. k (rows, row, a, thresholds, among, above, p))

pub some_dead : (program : Resolution) (n : ℕ) (box : Box) (ends : List NameEnds) (assumed less : Assumed) → IsResolution program → IsLess less assumed → Dead program n box ends assumed → ¬ (¬ Dead program n box ends less)
some_dead program n box ends assumed less is smaller (params, entry, inside, shown) k =
    some_shown program n box ends assumed less _ is smaller shown (λ s. k (params, entry, inside, s))

pub some_provable : (program : Resolution) (n : ℕ) (ends : List NameEnds) (assumed less : Assumed) (site : NamedSite) → IsResolution program → IsLess less assumed → Provable program n ends assumed site → ¬ (¬ Provable program n ends less site)
some_provable program n ends assumed less site is smaller (params, entry, shown) k =
    some_shown program n _ ends assumed less _ is smaller shown (λ s. k (params, entry, s))
