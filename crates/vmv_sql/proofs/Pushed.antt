-- Rows that are put one behind the other.
use Rattle.std.proofs.Common.{◌≡◌, ℕ, ◌+◌, ◌≤◌, ◌<◌, List, [], ◌∷◌, ◌++◌, length, ◌∙◌, arith, add-zero, refl}
use Rattle.std.specs.List.{AllByRecursion}
use Rattle.vmv_keeper.specs.declared.reply.VersionRow.{VersionRow}
use Rattle.vmv_keeper.specs.Formed.{Rises, AreNumbered, BeginOpened}

pub Rises-push : (low : ℕ) (ns : List ℕ) (y : ℕ) → Rises low ns → AllByRecursion (λ n. n < y) ns → low ≤ y → Rises low (ns ++ y ∷ [])
Rises-push low [] y h below le = (le, tt)
Rises-push low (n ∷ ns) y h below le = (h.0, Rises-push (n + 1) ns y h.1 below.1 (let b = below.0 in omega arith))

-- numbers that are at most the last one are below the next
pub below_next : (ns : List ℕ) (last next : ℕ) → AllByRecursion (λ n. n ≤ last) ns → last < next → AllByRecursion (λ n. n < next) ns
below_next [] last next all lt = tt
below_next (n ∷ ns) last next all lt = (let a = all.0 in omega arith, below_next ns last next all.1 lt)

pub upto_next : (ns : List ℕ) (last next : ℕ) → AllByRecursion (λ n. n ≤ last) ns → last < next → AllByRecursion (λ n. n ≤ next) (ns ++ next ∷ [])
upto_next [] last next all lt = (omega arith, tt)
upto_next (n ∷ ns) last next all lt = (let a = all.0 in omega arith, upto_next ns last next all.1 lt)

pub AreNumbered-push : (n : ℕ) (rows : List VersionRow) (y : VersionRow) → AreNumbered n rows → y.number ≡ n + length rows → AreNumbered n (rows ++ y ∷ [])
AreNumbered-push n [] y h e = (e ∙ add-zero n, tt)
AreNumbered-push n (x ∷ rows) y h e = (h.0, AreNumbered-push (n + 1) rows y h.1 (omega arith))

-- versions so far, the first of which was opened
pub BeginOpened-push : (rows : List VersionRow) (y : VersionRow) → (0 < length rows → BeginOpened rows) → (length rows ≡ 0 → y.kind ≡ 1) → BeginOpened (rows ++ y ∷ [])
BeginOpened-push [] y opened first = first refl
BeginOpened-push (x ∷ rows) y opened first = opened (omega arith)
