-- Sums over the first numbers, and over pairs of them.
use Rattle.std.proofs.Common.{◌≡◌, ◌⊎◌, inl, inr, ⊎_elim, ℕ, zero, suc, ◌*◌, ◌<◌, ◌≤◌, refl, sym, ap, subst, arith}
use Rattle.vmv_pass.specs.Room.{total_to, pairs_to}

before_or_last : (n i : ℕ) → i < suc n → (i < n) ⊎ (i ≡ n)
before_or_last zero zero h = inr refl
before_or_last zero (suc i) h = absurd (omega (arith, h))
before_or_last (suc n) zero h = inl (omega arith)
before_or_last (suc n) (suc i) h = ⊎_elim (λ (l : i < n). inl (omega arith)) (λ (e : i ≡ n). inr (ap suc e)) (before_or_last n i (omega (arith, h)))

-- lower terms have a lower sum
pub total_le : (n : ℕ) (f g : ℕ → ℕ) → ((i : ℕ) → i < n → f i ≤ g i) → total_to n f ≤ total_to n g
total_le zero f g low = omega arith
total_le (suc n) f g low =
    let a = low n (omega arith) in
    let b = total_le n f g (λ i h. low i (omega arith)) in
    omega arith

-- lower terms whose sum isn't lower aren't lower
pub total_tight : (n : ℕ) (f g : ℕ → ℕ) → ((i : ℕ) → i < n → f i ≤ g i) → total_to n g ≤ total_to n f → (i : ℕ) → i < n → g i ≤ f i
total_tight zero f g low tight i h = absurd (omega (arith, h))
total_tight (suc n) f g low tight i h =
    let a = low n (omega arith) in
    let b = total_le n f g (λ i h. low i (omega arith)) in
    ⊎_elim (λ (l : i < n). total_tight n f g (λ i h. low i (omega arith)) (omega (arith, tight)) i l)
    (λ (e : i ≡ n). (let last : g n ≤ f n = omega (arith, tight) in subst (λ j. g j ≤ f j) (sym e) last)) (before_or_last n i h)

-- more terms have a sum that isn't lower
pub total_more : (n m : ℕ) (f : ℕ → ℕ) → n ≤ m → total_to n f ≤ total_to m f
total_more zero zero f h = omega arith
total_more (suc n) zero f h = absurd (omega (arith, h))
total_more n (suc m) f h =
    ⊎_elim (λ (l : n < suc m). (let a = total_more n m f (omega arith) in omega arith)) (λ (e : n ≡ suc m). subst (λ k. total_to n f ≤ total_to k f) e (omega arith)) (before_or_last (suc m) n (omega arith))

pub pairs_le : (n : ℕ) (f g : ℕ → ℕ → ℕ) → ((i j : ℕ) → i ≤ n → j ≤ n → f i j ≤ g i j) → pairs_to n f ≤ pairs_to n g
pairs_le n f g low =
    total_le (suc n) (λ i. total_to (suc n) (λ j. f i j)) (λ i. total_to (suc n) (λ j. g i j)) (λ i hi. total_le (suc n) (λ j. f i j) (λ j. g i j) (λ j hj. low i j (omega arith) (omega arith)))

pub pairs_tight : (n : ℕ) (f g : ℕ → ℕ → ℕ) → ((i j : ℕ) → i ≤ n → j ≤ n → f i j ≤ g i j) → pairs_to n g ≤ pairs_to n f → (i j : ℕ) → i ≤ n → j ≤ n → g i j ≤ f i j
pairs_tight n f g low tight i j hi hj =
    total_tight (suc n) (λ j. f i j) (λ j. g i j) (λ j h. low i j hi (omega arith))
    (total_tight (suc n) (λ i. total_to (suc n) (λ j. f i j)) (λ i. total_to (suc n) (λ j. g i j)) (λ i h. total_le (suc n) (λ j. f i j) (λ j. g i j) (λ j h'. low i j (omega arith) (omega arith))) tight i (omega arith)) j (omega arith)

-- n terms of at most 1 have a sum of at most n
pub ones_le : (n : ℕ) (f : ℕ → ℕ) → ((i : ℕ) → f i ≤ 1) → total_to n f ≤ n
ones_le zero f low = omega arith
ones_le (suc n) f low =
    let a = low n in
    let b = ones_le n f low in
    omega arith

seventeen : (m : ℕ) → total_to 17 (λ i. m) ≡ 17 * m
seventeen m = omega arith

-- at most 289 pairs
pub pairs_few : (n m : ℕ) (f : ℕ → ℕ → ℕ) → n ≤ 16 → ((i j : ℕ) → f i j ≤ m) → pairs_to n f ≤ 289 * m
pairs_few n m f few low =
    let row : (i : ℕ) → total_to (suc n) (λ j. f i j) ≤ 17 * m =
    λ i. (let a = total_le (suc n) (λ j. f i j) (λ j. m) (λ j h. low i j) in let b = total_more (suc n) 17 (λ j. m) (omega arith) in let c = seventeen m in omega arith) in
    let a = total_le (suc n) (λ i. total_to (suc n) (λ j. f i j)) (λ i. 17 * m) (λ i h. row i) in
    let b = total_more (suc n) 17 (λ i. 17 * m) (omega arith) in
    let c = seventeen (17 * m) in
    omega arith
