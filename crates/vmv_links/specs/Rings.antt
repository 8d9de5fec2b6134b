-- How nodes that are linked in rings spell lists. Each list has a node of its own, its end, which is
-- linked with its first and its last number.
use Rattle.std.specs.Prelude.{◌≡◌, ◌==◌, nat_eq, ℕ, ◌+◌, ◌<◌, suc, zero, true, cond, List, [], ◌∷◌, Option, Some, length, map}
use Rattle.std.specs.List.{AllByRecursion, IsDistinct, list_any, range_with_len}
use Rattle.vmv_links.specs.Lists.{list_at}

-- the links lead from a over these nodes to b, and back
abbrev pub Path : (ℕ → ℕ) → (ℕ → ℕ) → ℕ → List ℕ → ℕ → Type 0
Path after before a [] b = (after a ≡ b) × (before b ≡ a)
Path after before a (x ∷ xs) b = (after a ≡ x) × (before x ≡ a) × Path after before x xs b

-- the nodes behind a up to the node b, at most `most` of them
abbrev pub walk : (ℕ → ℕ) → ℕ → ℕ → ℕ → List ℕ
walk after b zero a = []
walk after b (suc most) a = cond (after a == b) [] (after a ∷ walk after b most (after a))

-- the lists that the links spell: n numbers, and then the ends of k lists
abbrev pub lists_of : (ℕ → ℕ) → ℕ → ℕ → List (List ℕ)
lists_of after n k = map (λ l. walk after (n + l) n (n + l)) (range_with_len 0 k)

-- the links spell these lists, and each number knows its list
pub record Spells (after before : ℕ → ℕ) (owner : ℕ → Option ℕ) (n : ℕ) (lists : List (List ℕ)) : Type 0 where
  pub ring : (l : ℕ) → l < length lists → Path after before (n + l) (list_at lists l) (n + l)
  pub members : (l : ℕ) → l < length lists → AllByRecursion (λ y. (y < n) × (owner y ≡ Some l)) (list_at lists l)
  pub owners : (l y : ℕ) → owner y ≡ Some l → (l < length lists) × (list_any (nat_eq y) (list_at lists l) ≡ true)
  pub distinct : (l : ℕ) → l < length lists → IsDistinct nat_eq (list_at lists l)
