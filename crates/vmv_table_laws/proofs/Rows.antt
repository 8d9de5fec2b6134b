-- The walk of a row ends in one way, and a table is accepted, or refused at one row and step.
use Rattle.std.proofs.Common.{◌≡◌, inl, inr, ℕ, suc, ◌+◌, List, [], ◌∷◌, ◌++◌, length, slice_get, refl, sym, ap, subst, arith, ◌∙◌}
use Rattle.std.specs.List.{Contains}
use Rattle.std.proofs.lemmas.List.Elements.{Contains-append_right}
use Rattle.vmv_tree.specs.Tree.{Item}
use Rattle.vmv_tree.specs.Valid.{Valid}
use Rattle.vmv_cond.specs.declared.cond.Cond.{Cond}
use Rattle.vmv_snapshot.specs.declared.code.Code.{Code}
use Rattle.vmv_snapshot.specs.View.{code_of}
use Rattle.vmv_snapshot.specs.Procs.{params_of}
use Rattle.vmv_snapshot.specs.Resolution.{Resolution, tree_of, procs_of}
use Rattle.vmv_zone.specs.declared.zone.Zone.{Zone}
use Rattle.vmv_zone.specs.Read.{IsRangeOf}
use Rattle.vmv_assumption.specs.Assumed.{Assumed}
use Rattle.vmv_step.specs.Zones.{zone_operand}
use Rattle.vmv_step.specs.Enter.{declared_count}
use Rattle.vmv_cert.specs.declared.row.Row.{Row}
use Rattle.vmv_cert.specs.Sizes.{block_statements}
use Rattle.vmv_cert.specs.Walk.{Way, goes, fails, Walk, GoesIf, WalksAll}
use Rattle.vmv_cert.specs.Tables.{IsAbove, WalksBody, WalksRow, Passes, Accepted, IsRefused}
use Rattle.vmv_check.proofs.Lists.{some_same}
use Rattle.vmv_check.proofs.Above.{procs_once}
use Rattle.vmv_check.proofs.Orders.{name_at}
use Rattle.vmv_table_laws.proofs.Steps.{entered_once, range_once}
use Rattle.vmv_table_laws.proofs.Walks.{goes_once, then_once, all_once}

-- the return
abbrev IsReturn : Walk → Code → Zone → Way → Type 0
IsReturn w code e way = (c : Cond) × IsRangeOf e (zone_operand code.result) c × GoesIf (IsAbove w.row.result c) (block_statements (code_of code).block + 1) e way

return_once : (w : Walk) (code : Code) (e : Zone) (a b : Way) → IsReturn w code e a → IsReturn w code e b → a ≡ b
return_once w code e a b (c, x, h) (d, y, g) =
    let same : c ≡ d = range_once e (zone_operand code.result) c d x y in
    let last = block_statements (code_of code).block + 1 in
    goes_once (IsAbove w.row.result d) last e a b (subst (λ (u : Cond). GoesIf (IsAbove w.row.result u) last e a) same h) g

body_once : (w : Walk) (item : Item) (code : Code) (a b : Way) → WalksBody w item code a → WalksBody w item code b → a ≡ b
body_once w item code a b (start, end, x, h, rest) (start', end', x', h', rest') =
    let one : start ≡ start' = entered_once w.row.input (length (params_of item)) (declared_count item) code.vars start start' x x' in
    let same : end ≡ end' = all_once w 1 0 (code_of code).block start' end end' (subst (λ (u : Zone). WalksAll w 1 0 (code_of code).block u end) one h) h' in
    then_once (IsReturn w code) (IsReturn w code) (return_once w code) end end' same a b rest rest'

pub row_once : (w : Walk) (a b : Way) → Valid (tree_of w.program) → WalksRow w a → WalksRow w b → a ≡ b
row_once w a b valid (inl x) (inl y) = x.1 ∙ sym y.1
row_once w a b valid (inl x) (inr (n, item, code, f, body)) = absurd (x.0 n item code f)
row_once w a b valid (inr (n, item, code, f, body)) (inl y) = absurd (y.0 n item code f)
row_once w a b valid (inr (n, item, code, f, body)) (inr (n', item', code', f', body')) =
    let place : n ≡ n' =
    procs_once (tree_of w.program) valid n n' w.row.proc (name_at w.program n item w.row.proc f.place f.named) (name_at w.program n' item' w.row.proc f'.place f'.named) in
    let same : item ≡ item' = some_same (sym f.place ∙ (ap (slice_get (procs_of w.program)) place ∙ f'.place)) in
    let one : code ≡ code' = some_same (sym f.code_is ∙ (ap (slice_get w.program.codes) place ∙ f'.code_is)) in
    body_once w item' code' a b (subst (λ (c : Code). WalksBody w item' c a) one (subst (λ (i : Item). WalksBody w i code a) same body)) body'

goes_or_fails : (z : Zone) (n : ℕ) → goes z ≡ fails n → ⊥
goes_or_fails z n e = absurd (cc)

same_step : (m n : ℕ) → fails m ≡ fails n → m ≡ n
same_step m n e = cc

abbrev walk_at : Resolution → Assumed → List Row → Row → Walk
walk_at program assumed rows row = record { program = program; assumed = assumed; rows = rows; row = row }

-- a row that passes doesn't fail
pass_or_fail : (program : Resolution) (assumed : Assumed) (rows : List Row) (row : Row) (step : ℕ) → Valid (tree_of program) → Passes program assumed rows row → WalksRow (walk_at program assumed rows row) (fails step) → ⊥
pass_or_fail program assumed rows row step valid p f = goes_or_fails p.0 step (row_once (walk_at program assumed rows row) (goes p.0) (fails step) valid p.1 f)

pub accepted_apart : (program : Resolution) (assumed : Assumed) (rows : List Row) (number step : ℕ) → Valid (tree_of program) → Accepted program assumed rows → IsRefused program assumed rows number step → ⊥
accepted_apart program assumed rows number step valid accepted r =
    let among : Contains (r.before ++ r.row ∷ r.after) r.row = Contains-append_right r.before (r.row ∷ r.after) r.row (0, omega arith, refl) in
    let one : Contains rows r.row = subst (λ (xs : List Row). Contains xs r.row) (sym r.parts) among in
    pass_or_fail program assumed rows r.row step valid (accepted r.row one) r.failed

further : (x y : Row) (xs : List Row) → Contains xs x → Contains (y ∷ xs) x
further x y xs (i, h, e) = (suc i, omega (arith, h), e)

-- the first item that doesn't have the property stands in one place
first_once : (P : Row → Type 0) (xs ys xs' ys' : List Row) (x y : Row) → xs ++ x ∷ xs' ≡ ys ++ y ∷ ys' → ((r : Row) → Contains xs r → P r) → ((r : Row) → Contains ys r → P r) → (P x → ⊥) → (P y → ⊥) →
    (length xs ≡ length ys) × (x ≡ y)
first_once P [] [] xs' ys' x y e p q f g = (refl, cc)
first_once P [] (b ∷ ys) xs' ys' x y e p q f g = let same : b ≡ x = cc in absurd (f (subst P same (q b (0, omega arith, refl))))
first_once P (a ∷ xs) [] xs' ys' x y e p q f g = let same : a ≡ y = cc in absurd (g (subst P same (p a (0, omega arith, refl))))
first_once P (a ∷ xs) (b ∷ ys) xs' ys' x y e p q f g =
    let tail : xs ++ x ∷ xs' ≡ ys ++ y ∷ ys' = cc in
    let h = first_once P xs ys xs' ys' x y tail (λ r c. p r (further r a xs c)) (λ r c. q r (further r b ys c)) f g in
    (ap suc h.0, h.1)

pub refused_once : (program : Resolution) (assumed : Assumed) (rows : List Row) (m n s t : ℕ) → Valid (tree_of program) → IsRefused program assumed rows m s → IsRefused program assumed rows n t → (m ≡ n) × (s ≡ t)
refused_once program assumed rows m n s t valid a b =
    let same = first_once (Passes program assumed rows) a.before b.before a.after b.after a.row b.row (sym a.parts ∙ b.parts) a.passed b.passed
    (λ p. pass_or_fail program assumed rows a.row s valid p a.failed) (λ p. pass_or_fail program assumed rows b.row t valid p b.failed) in
    let failed = subst (λ (r : Row). WalksRow (walk_at program assumed rows r) (fails s)) same.1 a.failed in (
      a.place ∙ (ap (λ k. k + 1) same.0 ∙ sym b.place),
      same_step s t (row_once (walk_at program assumed rows b.row) (fails s) (fails t) valid failed b.failed),
    )
