-- How many rows are regressions of an entry.
use Rattle.std.proofs.Common.{◌≡◌, inl, inr, ℕ, suc, ◌+◌, ◌==◌, Bool, true, false, ◌&&◌, cond, List, [], ◌∷◌, ◌++◌, count_by, refl, ap, arith, ◌∙◌}
use Rattle.std.specs.List.{Contains}
use Rattle.std.proofs.lemmas.Bool.Decides.{Decides-eqb}
use Rattle.std.proofs.lemmas.List.Sums.{sum_by_push, sum_by-cons}
use Rattle.vmv_report.specs.declared.class.Class.TheVariants.{Regression}
use Rattle.vmv_report.specs.declared.row.ReportRow.{ReportRow}
use Rattle.vmv_report.specs.Rows.{IsPlace, place_of, IsBefore, Review, is_class, regression_count}
use Rattle.vmv_report.specs.Work.{at, AreRowsBefore}

abbrev one_where : Bool → ℕ
one_where b = cond b 1 0

-- one more item
count_one : {X : Type 0} (p : X → Bool) (xs : List X) (x : X) → count_by p (xs ++ x ∷ []) ≡ count_by p xs + one_where (p x)
count_one p xs x = sum_by_push (λ y. one_where (p y)) xs x

count_none : {X : Type 0} (p : X → Bool) (xs : List X) → ((x : X) → Contains xs x → p x ≡ false) → count_by p xs ≡ 0
count_none p [] none = refl
count_none {X} p (x ∷ xs) none =
    let first : count_by p (x ∷ xs) ≡ one_where (p x) + count_by p xs = sum_by-cons (λ (y : X). one_where (p y)) x xs in
    let one : one_where (p x) ≡ 0 = ap one_where (none x (0, omega arith, refl)) in
    let rest : count_by p xs ≡ 0 = count_none p xs (λ y (k, within, is). none y (suc k, omega (arith, within), is)) in
    omega (arith, first, one, rest)

abbrev regresses : ℕ → ReportRow → Bool
regresses n row = (row.entry.0 == n) && is_class Regression row.class

-- one more row that is no regression
pub other_counted : (n : ℕ) (row : ReportRow) (rows more : List ReportRow) → more ≡ rows ++ row ∷ [] → is_class Regression row.class ≡ false → regression_count n more ≡ regression_count n rows
other_counted n row rows more grown other =
    let e : regression_count n more ≡ regression_count n rows + one_where (regresses n row) = ap (regression_count n) grown ∙ count_one (regresses n) rows row in
    let none : one_where (regresses n row) ≡ 0 = ap one_where (by (row.entry.0 == n) (is_class Regression row.class) other) in
    omega (arith, e, none)
  where
    by : (a b : Bool) → b ≡ false → (a && b) ≡ false
    by true b f = f
    by false b f = refl

-- one more regression of the entry
pub one_counted : (n : ℕ) (row : ReportRow) (rows more : List ReportRow) → more ≡ rows ++ row ∷ [] → row.entry.0 ≡ n → is_class Regression row.class ≡ true → regression_count n more ≡ regression_count n rows + 1
one_counted n row rows more grown its regression =
    let e : regression_count n more ≡ regression_count n rows + one_where (regresses n row) = ap (regression_count n) grown ∙ count_one (regresses n) rows row in
    let one : one_where (regresses n row) ≡ 1 = ap one_where (by (row.entry.0 == n) (is_class Regression row.class) ((Decides-eqb row.entry.0 n).1 its) regression) in
    omega (arith, e, one)
  where
    by : (a b : Bool) → a ≡ true → b ≡ true → (a && b) ≡ true
    by true b e f = f
    by false b e f = absurd (cc)

-- no row before those of an entry is one of its regressions
pub none_counted : (review : Review) (n : ℕ) (rows : List ReportRow) → AreRowsBefore review (at n 0 1) rows → regression_count n rows ≡ 0
none_counted review n rows before = count_none (regresses n) rows (λ row there. let x = before.each row there in by row (row.entry.0 == n) refl (another row x.0 x.1))
  where
    another : (row : ReportRow) → IsPlace review.revision (place_of row) → IsBefore (place_of row) (at n 0 1) → row.entry.0 ≡ n → ⊥
    another row is (inl h) e = absurd (omega (arith, h, e))
    another row is (inr (same, inl h)) e = absurd (omega (arith, h))
    another row is (inr (same, inr (proc, h))) e = let one = is.from in absurd (omega (arith, one, h))

    by : (row : ReportRow) (b : Bool) → (row.entry.0 == n) ≡ b → (row.entry.0 ≡ n → ⊥) → regresses n row ≡ false
    by row true e apart = absurd (apart ((Decides-eqb row.entry.0 n).0 e))
    by row false e apart = ap (λ a. a && is_class Regression row.class) e
