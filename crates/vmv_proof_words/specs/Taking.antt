-- What a word may tell, and what is taken from the front of words.
use Rattle.std.specs.Prelude.{◌≡◌, ℕ, ◌<◌, ◌^◌, ◌-◌, ℤ, pos, negsuc, ◌≤ℤ◌, Option, Some, None, List, [], ◌∷◌, IsTrue}
use Rattle.std.specs.Fmt.{decimal, signed_decimal}
use Rattle.vmv_tree.specs.Names.{is_name}
use Rattle.vmv_tree.specs.Words.{IsWord}
use Rattle.vmv_tree.specs.declared.name.Name.{Name}
use Rattle.vmv_witness.specs.Numbers.{IsNumber}
use Rattle.vmv_proof_words.specs.Words.{Word}

abbrev pub IsNameWord : Name → Word → Type 0
IsNameWord name word = IsTrue (is_name name) × (word ≡ name)

-- a number of so many bits
abbrev pub IsNaturalWord : ℕ → ℕ → Word → Type 0
IsNaturalWord bits n word = (n < 2 ^ bits) × (word ≡ decimal n)

-- a word of the language, as an end of a range is
abbrev pub IsEndWord : ℤ → Word → Type 0
IsEndWord z word = IsWord z × (word ≡ signed_decimal z)

-- from -2^64 to 2^64 - 1, as bounds on differences are
pub record IsBetween (z : ℤ) : Type 0 where
  pub low : negsuc (2 ^ 64 - 1) ≤ℤ z
  pub high : z ≤ℤ pos (2 ^ 64 - 1)

abbrev pub IsBoundWord : ℤ → Word → Type 0
IsBoundWord z word = IsBetween z × (word ≡ signed_decimal z)

-- the word tells this, or it tells nothing of the kind
abbrev pub Tells : {A : Type 0} → (A → Word → Type 0) → Word → Option A → Type 0
Tells Is word (Some x) = Is x word
Tells {A} Is word None = (x : A) → Is x word → ⊥

-- the first word tells this, and is taken; or it tells nothing of the kind
abbrev pub Takes : {A : Type 0} → (A → Word → Type 0) → List Word → List Word → Option A → Type 0
Takes Is old new (Some x) = (word : Word) × Is x word × (old ≡ word ∷ new)
Takes {A} Is old new None = (x : A) (word : Word) (words : List Word) → Is x word → old ≡ word ∷ words → ⊥

-- the only word tells this; or there is not one word alone that tells something of the kind
abbrev pub TakesLast : {A : Type 0} → (A → Word → Type 0) → List Word → Option A → Type 0
TakesLast Is words (Some x) = (word : Word) × Is x word × (words ≡ word ∷ [])
TakesLast {A} Is words None = (x : A) (word : Word) → Is x word → words ≡ word ∷ [] → ⊥

-- a number of any size, and no other word
abbrev pub IsOneNumber : List Word → Type 0
IsOneNumber words = (word : Word) × IsNumber word × (words ≡ word ∷ [])
