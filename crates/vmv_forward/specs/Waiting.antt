-- The lists of the instances that have to be visited.
use Rattle.std.specs.Prelude.{◌≡◌, ◌⊎◌, ℕ, ◌+◌, ◌<◌, ◌≤◌, ◌^◌, List, [], ◌∷◌, length, sum_by}
use Rattle.vmv_links.specs.Lists.{Lists, IsListed}

abbrev pub total : List ℕ → ℕ
total [] = 0
total (x ∷ xs) = x + total xs

-- the sum of the numbers that stand in the lists
abbrev pub load : Lists → ℕ
load waiting = sum_by total waiting.lists

-- two lists, of numbers that a word holds
pub record AreRoom (waiting : Lists) : Type 0 where
  pub few : waiting.size < 2 ^ 32
  pub count : length waiting.lists ≡ 2

-- instances were added, from the first on
pub record AreMore (old new : Lists) : Type 0 where
  pub size : new.size ≡ old.size
  pub room : AreRoom new
  pub kept : (k : ℕ) → IsListed old.lists k → IsListed new.lists k
  pub from : (k : ℕ) → IsListed new.lists k → IsListed old.lists k ⊎ (1 ≤ k)

-- instance j was taken out
pub record IsTaken (old : Lists) (j : ℕ) (new : Lists) : Type 0 where
  pub size : new.size ≡ old.size
  pub room : AreRoom new
  pub inside : j < old.size
  pub was : IsListed old.lists j
  pub others : (k : ℕ) → IsListed old.lists k → (k ≡ j) ⊎ IsListed new.lists k
  pub from : (k : ℕ) → IsListed new.lists k → IsListed old.lists k
  pub load : load new + j ≡ load old

-- no instance has to be visited
abbrev pub AreDone : Lists → Type 0
AreDone waiting = (k : ℕ) → IsListed waiting.lists k → ⊥

-- all instances of the numbers from 1 on, below the count
pub record AreAll (waiting : Lists) (count : ℕ) : Type 0 where
  pub room : AreRoom waiting
  pub size : waiting.size ≡ count
  pub from : (k : ℕ) → IsListed waiting.lists k → 1 ≤ k
  pub listed : (k : ℕ) → 1 ≤ k → k < count → IsListed waiting.lists k
