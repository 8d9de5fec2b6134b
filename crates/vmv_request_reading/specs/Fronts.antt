-- Where a request stands in the bytes of an input.
use Rattle.std.specs.Prelude.{◌≡◌, ℕ, ◌≤◌, ◌<◌, List, ◌++◌, length, take, drop, Option, Some, None}
use Rattle.vmv_head.specs.Heads.{front_length, head_in}
use Rattle.vmv_request_reading.specs.declared.front.Front.{Front}

-- how many bytes the head takes with the empty lines in front of it, where the first 8,192 bytes of the input hold it whole
abbrev pub front_in : List ℕ → Option ℕ
front_in input = front_length (take 8192 input)

-- the input has 8,192 bytes or more, and the first of them hold no whole head
abbrev pub IsOverlong : List ℕ → Type 0
IsOverlong input = (8192 ≤ length input) × (front_in input ≡ None)

-- the input has fewer than 8,192 bytes, and no whole head
abbrev pub IsHeadless : List ℕ → Type 0
IsHeadless input = (length input < 8192) × (front_in input ≡ None)

-- the head of the input, and what was read behind it; the rest is still to be read
abbrev pub IsFront : Front → (input rest : List ℕ) → Type 0
IsFront front input rest = (n : ℕ) × (front_in input ≡ Some n) × (front.head ≡ head_in input n) × (drop n input ≡ front.behind ++ rest)

-- the head that ends after so many bytes that were read, and what was read behind it
abbrev pub IsFoundFront : List ℕ → ℕ → Option Front → Type 0
IsFoundFront read len None = ⊥
IsFoundFront read len (Some front) = (front.head ≡ head_in read len) × (front.behind ≡ drop len read)
