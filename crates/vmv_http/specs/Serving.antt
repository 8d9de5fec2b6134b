-- What a served link is answered, where its input and the store's rows are told.
use Rattle.std.specs.Prelude.{ℕ, List, Option, ⊤}
use Rattle.vmv_keeper.specs.declared.judge.Inspected.{Inspected}
use Rattle.vmv_keeper.specs.declared.judge.Compared.{Compared}
use Rattle.vmv_keeper.specs.Tables.{Tables}
use Rattle.vmv_keeper.specs.Outside.{OfTold}
use Rattle.vmv_keeper.specs.Formed.{AreFormed}
use Rattle.vmv_desk_rules.specs.Causes.{Meaning}
use Rattle.vmv_desk_rules.specs.Heard.{BySaid}
use Rattle.vmv_request_reading.specs.Inputs.{OfInput}
use Rattle.vmv_http.specs.declared.served.Served.{Served}
use Rattle.vmv_http.specs.declared.served.Served.TheVariants.{Answered}
use Rattle.vmv_http.specs.Exchanges.{Answer, Exchanged, Unanswered, MayAnswer}

-- the status that was answered has this property, if one was
abbrev pub IfAnswered : Served → (ℕ → Type 0) → Type 0
IfAnswered (Answered status) P = P status
IfAnswered _ P = ⊤

-- a property of rows that are told before and well formed, by a judge
abbrev pub OnRows : (List ℕ → Inspected → Type 0) → (List ℕ → List ℕ → Compared → Type 0) → Option Tables → (Meaning → Tables → Type 0) → Type 0
OnRows Inspects Compares told P = OfTold told (λ tables. AreFormed tables → BySaid Inspects Compares (λ J. P J tables))

-- where the input is told, the request in it may have the answer; where the rows are told too, the answer and the rows then are the
-- exchange's, or a fault is told in its place
abbrev pub IsAnswerBy : (List ℕ → Inspected → Type 0) → (List ℕ → List ℕ → Compared → Type 0) → Option (List ℕ) → Option Tables → Option Tables → Answer → Type 0
IsAnswerBy Inspects Compares told before now answer =
    OfInput told (λ input. MayAnswer input answer × OnRows Inspects Compares before (λ J tables. Exchanged J input tables now answer))

-- where both are told, the rows then are those before or an exchange's
abbrev pub IsUnansweredBy : (List ℕ → Inspected → Type 0) → (List ℕ → List ℕ → Compared → Type 0) → Option (List ℕ) → Option Tables → Option Tables → Type 0
IsUnansweredBy Inspects Compares told before now =
    OfInput told (λ input. OnRows Inspects Compares before (λ J tables. Unanswered J input tables now))
