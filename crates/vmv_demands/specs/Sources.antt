-- What variables hold behind statements, in terms of their start: going back over all of them is one look-up.
use Rattle.std.specs.Prelude.{◌≡◌, ℕ, ◌<◌, ◌≤◌, Option, Some, None, List, length, slice_get}
use Rattle.vmv_tree.specs.declared.name.Name.{Name}
use Rattle.vmv_snapshot.specs.declared.code.Slot.{Slot}
use Rattle.vmv_snapshot.specs.declared.code.Code.{Code}
use Rattle.vmv_demands.specs.declared.want.Want.{Want}
use Rattle.vmv_demands.specs.declared.want.Condition.{Condition}
use Rattle.vmv_demands.specs.declared.lead.Lead.{Lead}
use Rattle.vmv_demands.specs.declared.lead.Lead.TheVariants.{Nowhere, Asked, At}
use Rattle.vmv_demands.specs.declared.source.Source.{Source}
use Rattle.vmv_demands.specs.declared.source.Source.TheVariants.{Unknown, Start, Answer, StartMoved, AnswerMoved}
use Rattle.vmv_demands.specs.declared.summary.Summary.{Summary}
use Rattle.vmv_demands.specs.Shifts.{IsOfWords, shifted}
use Rattle.vmv_demands.specs.Back.{on_slot, on_answer, over_code, results}
use Rattle.vmv_demands.specs.Leads.{proc_leads}

abbrev pub on_moved_answer : Name → Option Want → Lead
on_moved_answer f (Some want) = on_answer f want
on_moved_answer f None = Nowhere

-- where this leads that is wanted of what a variable holds
abbrev pub led_to : Source → Want → Lead
led_to Unknown want = Nowhere
led_to (Start x) want = At x want
led_to (Answer f) want = on_answer f want
led_to (StartMoved x s) want = on_slot x (shifted s want)
led_to (AnswerMoved f s) want = on_moved_answer f (shifted s want)

abbrev pub led_some : Source → Option Want → Lead
led_some source (Some want) = led_to source want
led_some source None = Nowhere

-- what is wanted leads there
abbrev pub LeadsAs : Source → (Want → Lead) → Type 0
LeadsAs source to = (want : Want) → IsOfWords want → led_to source want ≡ to want

-- what isn't listed holds what it held at the start
abbrev pub held_or : Option Source → Slot → Source
held_or (Some source) x = source
held_or None x = Start x

-- what a variable holds: listed by slots
abbrev pub held : List Source → Slot → Source
held sources x = held_or (slice_get sources x.0) x

-- the way back is one look-up
pub record StandFor (before : Lead → Lead) (sources : List Source) : Type 0 where
  pub nowhere : before Nowhere ≡ Nowhere
  pub asked : (f : Name) (cond : Condition) → before (Asked f cond) ≡ Asked f cond
  pub at : (x : Slot) → LeadsAs (held sources x) (λ want. before (At x want))

-- the conditions of the sites in procedure n and in its calls, and what it returns, in terms of its start
pub record IsSummary (codes : List Code) (n : ℕ) (summary : Summary) : Type 0 where
  pub leads : summary.leads ≡ proc_leads codes n
  pub result : LeadsAs summary.result (over_code (results codes n) (slice_get codes n))

-- one by number for each of the first n procedures
pub record AreSummaries (codes : List Code) (n : ℕ) (rows : List Summary) : Type 0 where
  pub count : n ≤ length rows
  pub right : (k : ℕ) (row : Summary) → k < n → slice_get rows k ≡ Some row → IsSummary codes k row
