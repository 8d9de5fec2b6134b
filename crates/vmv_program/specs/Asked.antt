-- What is said of the service that words ask for.
use Rattle.std.specs.Prelude.{ℕ, List}
use Rattle.vmv_words.specs.Words.{Word}
use Rattle.vmv_words.specs.Services.{Service, service, AsksService}

-- this holds of each service that the words ask for
abbrev pub OfService : List Word → (Service → Type 0) → Type 0
OfService words P = (asked : Service) → AsksService words asked → P asked

-- at which address connections are taken
abbrev pub address_of : Service → Word
address_of (service address store count workers) = address

-- under which name the store is kept
abbrev pub store_of : Service → Word
store_of (service address store count workers) = store

-- after how many connections it ends
abbrev pub count_of : Service → ℕ
count_of (service address store count workers) = count
