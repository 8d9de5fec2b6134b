-- What the words behind the program's name ask for.
use Rattle.std.specs.Prelude.{◌≡◌, ◌≢◌, ℕ, ◌≤◌, ◌<◌, ◌^◌, Bool, true, false, Option, Some, None, List, [], ◌∷◌, ◌++◌, codes}
use Rattle.std.specs.Str.Parse.{IsNumeral, digits_value}

abbrev pub Word : Type 0
Word = List ℕ

-- what stands behind the word of a command: the names of texts in order, and options
pub record Given : Type 0 where
  pub names : List Word
  pub workers : Option ℕ
  pub proof : Bool

-- the word is no option: `-` alone, or a word that doesn't begin with `-`
pub data IsPlain : Word → Type 0 where
  empty : IsPlain []
  hyphen : IsPlain (codes "-")
  other : (first : ℕ) (rest : Word) → first ≢ 45 → IsPlain (first ∷ rest)

-- the word is a number of workers in decimal digits, from 1 to 64
pub record IsCount (word : Word) (n : ℕ) : Type 0 where
  pub numeral : IsNumeral 10 word
  pub value : digits_value 10 word ≡ n
  pub from : 1 ≤ n
  pub to : n ≤ 64

-- the word is this number in decimal digits, which fits 64 bits
pub record IsNumber (word : Word) (n : ℕ) : Type 0 where
  pub numeral : IsNumeral 10 word
  pub value : digits_value 10 word ≡ n
  pub fits : n < 2 ^ 64

-- Options stand anywhere, each at most once; behind `--` there are none.
pub data Gives : List Word → Given → Type 0 where
  nothing : Gives [] (record { names = []; workers = None; proof = false })
  a_name : (word : Word) (rest : List Word) (g : Given) → IsPlain word → Gives rest g → Gives (word ∷ rest) (record g { names = word ∷ g.names })
  a_count : (number : Word) (n : ℕ) (rest : List Word) (g : Given) → IsCount number n → g.workers ≡ None → Gives rest g →
      Gives (codes "--workers" ∷ number ∷ rest) (record g { workers = Some n })
  a_joined_count : (number : Word) (n : ℕ) (rest : List Word) (g : Given) → IsCount number n → g.workers ≡ None → Gives rest g →
      Gives ((codes "--workers=" ++ number) ∷ rest) (record g { workers = Some n })
  a_flag : (rest : List Word) (g : Given) → g.proof ≡ false → Gives rest g → Gives (codes "--proof" ∷ rest) (record g { proof = true })
  an_end : (rest : List Word) → Gives (codes "--" ∷ rest) (record { names = rest; workers = None; proof = false })

-- so many workers, and 1 where no number is given
abbrev pub IsWorkers : Option ℕ → ℕ → Type 0
IsWorkers (Some n) count = count ≡ n
IsWorkers None count = count ≡ 1

-- what the program is asked to do
pub data Request : Type 0 where
  review : (base revision : Word) (workers : ℕ) (proof : Bool) → Request
  baseline : (base : Word) (workers : ℕ) → Request
  recheck : (base revision proof : Word) → Request
  replay : (revision witness : Word) → Request
  sample : (number workers : ℕ) → Request

-- by how many workers it is done
abbrev pub workers_of : Request → ℕ
workers_of (review base revision workers proof) = workers
workers_of (baseline base workers) = workers
workers_of (recheck base revision proof) = 1
workers_of (replay revision witness) = 1
workers_of (sample number workers) = workers

-- the word of a command, with what stands behind it, is this request
abbrev pub IsFor : Word → Given → Request → Type 0
IsFor command g (review base revision count proved) =
    (command ≡ codes "review") × (g.names ≡ base ∷ revision ∷ []) × IsWorkers g.workers count × (g.proof ≡ proved)
IsFor command g (baseline base count) = (command ≡ codes "baseline") × (g.names ≡ base ∷ []) × IsWorkers g.workers count × (g.proof ≡ false)
IsFor command g (recheck base revision proved) =
    (command ≡ codes "recheck") × (g.names ≡ base ∷ revision ∷ proved ∷ []) × (g.workers ≡ None) × (g.proof ≡ false)
IsFor command g (replay revision witness) = (command ≡ codes "replay") × (g.names ≡ revision ∷ witness ∷ []) × (g.workers ≡ None) × (g.proof ≡ false)
IsFor command g (sample number count) =
    (word : Word) × (command ≡ codes "sample") × (g.names ≡ word ∷ []) × IsNumber word number × IsWorkers g.workers count × (g.proof ≡ false)

-- the words ask for this
abbrev pub Asks : List Word → Request → Type 0
Asks words request = (command : Word) × (rest : List Word) × (g : Given) × (words ≡ command ∷ rest) × Gives rest g × IsFor command g request

-- the words ask for nothing that there is
abbrev pub AsksNothing : List Word → Type 0
AsksNothing words = (request : Request) → Asks words request → ⊥
