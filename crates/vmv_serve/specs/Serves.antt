-- How links are served one after another over the rows of a store.
use Rattle.std.specs.Prelude.{◌≡◌, ◌≢◌, ◌⊎◌, ℕ, List, [], ◌∷◌, ◌++◌, Option, OnErr}
use Rattle.vmv_edge.specs.Outside.{Rose, Appended, AppendedFront}
use Rattle.vmv_keeper.specs.declared.judge.Inspected.{Inspected}
use Rattle.vmv_keeper.specs.declared.judge.Compared.{Compared}
use Rattle.vmv_keeper.specs.Tables.{Tables}
use Rattle.vmv_keeper.specs.Outside.{OfTold}
use Rattle.vmv_desk_rules.specs.Heard.{WellBy}
use Rattle.vmv_request_reading.specs.Inputs.{OfInput}
use Rattle.vmv_http.specs.Requests.{EndsEarly}
use Rattle.vmv_http.specs.Exchanges.{Answer, status_of, text_of, IsCounted}
use Rattle.vmv_http.specs.Serving.{IsAnswerBy, IsUnansweredBy}

-- what is told of a link: what is still to be read, what was written, and its count of faults
pub record Seen : Type 0 where
  pub input : Option (List ℕ)
  pub written : Option (List ℕ)
  pub faults : ℕ

-- what is told of a store: its rows and its count of faults
pub record Stored : Type 0 where
  pub rows : Option Tables
  pub faults : ℕ

-- rows that are well by a judge stay so
abbrev pub StaysWell : (List ℕ → Inspected → Type 0) → (List ℕ → List ℕ → Compared → Type 0) → Stored → Stored → Type 0
StaysWell Inspects Compares before now =
    OfTold before.rows (λ tables. WellBy Inspects Compares tables → OfTold now.rows (WellBy Inspects Compares))

-- the exchange that a link's input asks for has this answer, by a judge: a refusal leaves the store as it was, and a 503 is told
-- only where the store's count of faults rose, and none over a store that is steady
pub record IsAnswer (Inspects : List ℕ → Inspected → Type 0) (Compares : List ℕ → List ℕ → Compared → Type 0) (Steady : Type 0) (link : Seen) (before now : Stored) (answer : Answer) : Type 0 where
  pub asked : IsAnswerBy Inspects Compares link.input before.rows now.rows answer
  pub refused : OnErr answer (now ≡ before)
  pub counted : IsCounted (status_of answer) before.faults now.faults
  pub steady : Steady → status_of answer ≢ 503

-- a link and a store as one exchange leaves them, by a judge: the answer is written whole or cut, or nothing was handled, or memory ran out
pub data Leaves (Inspects : List ℕ → Inspected → Type 0) (Compares : List ℕ → List ℕ → Compared → Type 0) (Steady : Type 0) (link left : Seen) (before now : Stored) : Type 0 where
  answered : (answer : Answer) → Appended link.written (text_of answer) left.written → IsAnswer Inspects Compares Steady link before now answer
      → Leaves Inspects Compares Steady link left before now
  cut : (answer : Answer) → Rose link.faults left.faults → AppendedFront link.written (text_of answer) left.written → IsAnswer Inspects Compares Steady link before now answer
      → Leaves Inspects Compares Steady link left before now
  unhandled : OfInput link.input EndsEarly ⊎ Rose link.faults left.faults → left.written ≡ link.written → now ≡ before → Leaves Inspects Compares Steady link left before now
  without_memory : left.written ≡ link.written → IsUnansweredBy Inspects Compares link.input before.rows now.rows → Leaves Inspects Compares Steady link left before now

-- links that were served one after another, each over the rows that the one before it left
pub data Serves (Inspects : List ℕ → Inspected → Type 0) (Compares : List ℕ → List ℕ → Compared → Type 0) (Steady : Type 0) (start : Stored) : List Seen → List Seen → Stored → Type 0 where
  none : Serves Inspects Compares Steady start [] [] start
  one_more : (links back : List Seen) (link left : Seen) (before now : Stored) → Serves Inspects Compares Steady start links back before
      → Leaves Inspects Compares Steady link left before now → StaysWell Inspects Compares before now
      → Serves Inspects Compares Steady start (links ++ link ∷ []) (back ++ left ∷ []) now
