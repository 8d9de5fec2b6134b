-- What the readers of the parts of a witness text say of what they read.
use Rattle.std.specs.Prelude.{◌≡◌, ◌⊎◌, ℕ, ◌+◌, Bool, not, ◌==◌, ℤ, Option, Some, None, Result, Ok, Err, List, [], ◌∷◌, ◌++◌, length, map, codes, IsTrue, ⊤}
use Rattle.std.specs.List.{AllByRecursion, list_all}
use Rattle.std.specs.Fmt.{decimal, signed_decimal}
use Rattle.vmv_tree.specs.Names.{is_name}
use Rattle.vmv_tree.specs.declared.name.Name.{Name}
use Rattle.vmv_tree.specs.declared.site.NamedSite.{NamedSite}
use Rattle.vmv_witness.specs.declared.fault.Ill.{Ill}
use Rattle.vmv_witness.specs.declared.fault.Ill.TheVariants.{Form, Size}
use Rattle.vmv_witness.specs.declared.fault.WitnessFault.{WitnessFault}
use Rattle.vmv_witness.specs.declared.fault.WitnessFault.TheVariants.{Syntax, Range, Limit, Memory}
use Rattle.vmv_witness.specs.Numbers.{IsNumber, IsSiteNumber, IsValue}
use Rattle.vmv_witness.specs.Text.{pair_line, entry_line, site_line, text_of}

-- none of these is the byte
abbrev pub lacks : ℕ → List ℕ → Bool
lacks b xs = list_all (λ x. not (x == b)) xs

-- the bytes are these two parts with the byte between them, which the first part lacks
abbrev pub SplitsAt : ℕ → List ℕ → List ℕ → List ℕ → Type 0
SplitsAt b bytes front back = IsTrue (lacks b front) × (bytes ≡ front ++ b ∷ back)

-- a number that fits is read from its digits; or they are no number; or the number is too large or too small
abbrev pub ReadsNumber : {A : Type 0} → (A → List ℕ) → (List ℕ → Type 0) → List ℕ → Result A Ill → Type 0
ReadsNumber digits Fits bytes (Ok x) = (bytes ≡ digits x) × Fits bytes
ReadsNumber digits Fits bytes (Err Form) = IsNumber bytes → ⊥
ReadsNumber digits Fits bytes (Err Size) = IsNumber bytes × (Fits bytes → ⊥)

-- The word, a name and a number of any size with this byte between them, and LF stand first.
pub record Loosely (word : List ℕ) (b : ℕ) (text name number more : List ℕ) : Type 0 where
  pub named : IsTrue (is_name name)
  pub numbered : IsNumber number
  pub place : text ≡ (word ++ (name ++ b ∷ number)) ++ 10 ∷ more

abbrev pub NoneLoosely : List ℕ → ℕ → List ℕ → Type 0
NoneLoosely word b text = (name number more : List ℕ) → Loosely word b text name number more → ⊥

-- they stand first, and the number doesn't fit
abbrev pub TooLarge : List ℕ → ℕ → (List ℕ → Type 0) → List ℕ → Type 0
TooLarge word b Fits text = (name : List ℕ) × (number : List ℕ) × (more : List ℕ) × Loosely word b text name number more × (Fits number → ⊥)

-- a name and a number that fits, with this byte between them
abbrev pub IsPair : ℕ → (List ℕ → Type 0) → List ℕ → Name → List ℕ → Type 0
IsPair b Fits bytes name number = IsTrue (is_name name) × Fits number × (bytes ≡ name ++ b ∷ number)

-- they are read; or there are none, whatever the size of the number; or the number doesn't fit
abbrev pub ReadsPair : {A : Type 0} → ℕ → (A → Name) → (A → List ℕ) → (List ℕ → Type 0) → List ℕ → Result A Ill → Type 0
ReadsPair b name digits Fits bytes (Ok x) = IsPair b Fits bytes (name x) (digits x)
ReadsPair b name digits Fits bytes (Err Form) = (n number : List ℕ) → IsTrue (is_name n) → IsNumber number → bytes ≡ n ++ b ∷ number → ⊥
ReadsPair b name digits Fits bytes (Err Size) =
    (n : List ℕ) × (number : List ℕ) × IsTrue (is_name n) × IsNumber number × (bytes ≡ n ++ b ∷ number) × (Fits number → ⊥)

-- a line with its LF and this word stands first
abbrev pub HasWord : List ℕ → List ℕ → Type 0
HasWord word text = (bytes : List ℕ) × (more : List ℕ) × (text ≡ (word ++ bytes) ++ 10 ∷ more)

abbrev pub NoWord : List ℕ → List ℕ → Type 0
NoWord word text = (bytes more : List ℕ) → text ≡ (word ++ bytes) ++ 10 ∷ more → ⊥

-- this line with its LF doesn't stand first
abbrev pub NoLine : List ℕ → List ℕ → Type 0
NoLine line text = (more : List ℕ) → text ≡ line ++ 10 ∷ more → ⊥

-- the line of an entry is taken, or is at fault
abbrev pub TakesEntry : List ℕ → List ℕ → Result Name WitnessFault → Type 0
TakesEntry old new (Ok name) = IsTrue (is_name name) × (old ≡ entry_line name ++ 10 ∷ new)
TakesEntry old new (Err fault) = (fault ≡ Syntax 2) × ((name more : List ℕ) → IsTrue (is_name name) → old ≡ entry_line name ++ 10 ∷ more → ⊥)

-- the line of a site is taken, or is at fault
abbrev pub TakesSite : List ℕ → List ℕ → Result NamedSite WitnessFault → Type 0
TakesSite old new (Ok site) =
    IsTrue (is_name site.proc) × IsSiteNumber (decimal site.index) × (old ≡ site_line site.proc (decimal site.index) ++ 10 ∷ new)
TakesSite old new (Err (Syntax line)) = (line ≡ 3) × NoneLoosely (codes "site ") 35 old
TakesSite old new (Err (Range line)) = (line ≡ 3) × TooLarge (codes "site ") 35 IsSiteNumber old
TakesSite old new (Err (Limit found)) = ⊥
TakesSite old new (Err Memory) = ⊥

-- the next line is taken, if it begins with the word; or what is behind the word is at fault
abbrev pub TakesPair : List ℕ → List ℕ → List ℕ → Result (Option (Name × ℤ)) Ill → Type 0
TakesPair word old new (Ok (Some p)) =
    IsTrue (is_name p.0) × IsValue (signed_decimal p.1) × (old ≡ pair_line word (p.0, signed_decimal p.1) ++ 10 ∷ new)
TakesPair word old new (Ok None) = (new ≡ old) × NoWord word old
TakesPair word old new (Err Form) = HasWord word old × NoneLoosely word 32 old
TakesPair word old new (Err Size) = TooLarge word 32 IsValue old

-- a name of the grammar and the digits of a word
abbrev pub IsStrict : Name × List ℕ → Type 0
IsStrict p = IsTrue (is_name p.0) × IsValue p.1

-- lines of pairs stand first, and then the new text
pub record TakesPairs (word old : List ℕ) (pairs : List (Name × List ℕ)) (new : List ℕ) : Type 0 where
  pub strict : AllByRecursion IsStrict pairs
  pub place : old ≡ text_of (map (pair_line word) pairs) ++ new

-- what is behind the word of the next line is at fault, which is told at line n
abbrev pub IsFault : List ℕ → ℕ → List ℕ → WitnessFault → Type 0
IsFault word n text (Syntax line) = (line ≡ n) × HasWord word text × NoneLoosely word 32 text
IsFault word n text (Range line) = (line ≡ n) × TooLarge word 32 IsValue text
IsFault word n text (Limit found) = ⊥
IsFault word n text Memory = ⊤

-- the lines of the word that stand there from line n on are taken; or behind some of them the next one is at fault
abbrev pub ReadsPairs : {A : Type 0} → (A → Name × List ℕ) → List ℕ → ℕ → List ℕ → List ℕ → Result (List A) WitnessFault → Type 0
ReadsPairs pair word n old new (Ok xs) = TakesPairs word old (map pair xs) new × NoWord word new
ReadsPairs pair word n old new (Err fault) =
    (pairs : List (Name × List ℕ)) × (rest : List ℕ) × TakesPairs word old pairs rest × IsFault word (n + length pairs) rest fault

-- the last line and nothing behind it; or the fault is told at its line, n, or at the next
abbrev pub TakesEnd : ℕ → List ℕ → Result (Unit {0}) WitnessFault → Type 0
TakesEnd n old (Ok done) = old ≡ codes "end" ++ 10 ∷ []
TakesEnd n old (Err (Syntax line)) =
    ((line ≡ n) × NoLine (codes "end") old)
    ⊎ ((b : ℕ) × (rest : List ℕ) × (line ≡ n + 1) × (old ≡ codes "end" ++ 10 ∷ b ∷ rest))
TakesEnd n old (Err (Range line)) = ⊥
TakesEnd n old (Err (Limit found)) = ⊥
TakesEnd n old (Err Memory) = ⊥
