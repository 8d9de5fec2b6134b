-- What the words behind the program's name ask for where they ask to serve connections.
use Rattle.std.specs.Prelude.{◌≡◌, ℕ, ◌<◌, ◌^◌, false, List, [], ◌∷◌, codes}
use Rattle.std.specs.Str.Parse.{IsNumeral, digits_value}
use Rattle.vmv_words.specs.Words.{Word, Given, Gives, IsWorkers}

-- the word is this number of connections in decimal digits, which fits 32 bits
pub record IsConnections (word : Word) (n : ℕ) : Type 0 where
  pub numeral : IsNumeral 10 word
  pub value : digits_value 10 word ≡ n
  pub fits : n < 2 ^ 32

-- so many connections are served at an address over a store, and reviews are done by so many workers
pub data Service : Type 0 where
  service : (address store : Word) (count workers : ℕ) → Service

-- by how many workers it is done
abbrev pub service_workers : Service → ℕ
service_workers (service address store count workers) = workers

-- the word of a command, with what stands behind it, is this service
abbrev pub IsServiceFor : Word → Given → Service → Type 0
IsServiceFor command g (service address store count workers) =
    (word : Word) × (command ≡ codes "serve") × (g.names ≡ address ∷ store ∷ word ∷ []) × IsConnections word count × IsWorkers g.workers workers × (g.proof ≡ false)

-- the words ask for this service
abbrev pub AsksService : List Word → Service → Type 0
AsksService words asked = (command : Word) × (rest : List Word) × (g : Given) × (words ≡ command ∷ rest) × Gives rest g × IsServiceFor command g asked

-- the words ask for no service
abbrev pub AsksNoService : List Word → Type 0
AsksNoService words = (asked : Service) → AsksService words asked → ⊥
