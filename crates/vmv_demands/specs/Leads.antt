-- Where the conditions of sites lead.
use Rattle.std.specs.Prelude.{ℕ, zero, suc, ◌==◌, Option, Some, None, List, [], ◌∷◌, ◌++◌, slice_get, if◌then◌else◌}
use Rattle.std.specs.List.{filter_map}
use Rattle.vmv_snapshot.specs.declared.code.ProcId.{ProcId}
use Rattle.vmv_snapshot.specs.declared.code.SiteId.{SiteId}
use Rattle.vmv_snapshot.specs.declared.code.Simple.{Simple}
use Rattle.vmv_snapshot.specs.declared.code.Simple.TheVariants.{Set, Arith, Ask, Assert}
use Rattle.vmv_snapshot.specs.declared.code.Code.{Code}
use Rattle.vmv_snapshot.specs.Code.{Stmt, plain, help, branch, loop, Block, [], ◌⨾◌}
use Rattle.vmv_snapshot.specs.View.{code_of}
use Rattle.vmv_demands.specs.declared.lead.Lead.{Lead}
use Rattle.vmv_demands.specs.declared.lead.Lead.TheVariants.{Nowhere, Asked, At}
use Rattle.vmv_demands.specs.declared.lead.SiteLead.{SiteLead}
use Rattle.vmv_demands.specs.declared.lead.Found.{Found}
use Rattle.vmv_demands.specs.Needs.{test_needs, arith_needs, bound_needs}
use Rattle.vmv_demands.specs.Back.{out_of_call, out_of_loop, Results, over, results}

-- a site with where its condition leads; nothing where it leads nowhere
abbrev pub lead_of : SiteId → Lead → List SiteLead
lead_of site Nowhere = []
lead_of site (Asked f cond) = record { site = site; lead = Asked f cond } ∷ []
lead_of site (At x want) = record { site = site; lead = At x want } ∷ []

-- each led on by a move
abbrev pub led_on : (Lead → Lead) → List SiteLead → List SiteLead
led_on move [] = []
led_on move (l ∷ leads) = lead_of l.site (move l.lead) ++ led_on move leads

-- the condition of a simple statement, which stands in this procedure
abbrev pub simple_leads : ProcId → Simple → List SiteLead
simple_leads proc (Set to from) = []
simple_leads proc (Arith to op left right site) = lead_of (record { proc = proc; index = site }) (arith_needs op left right)
simple_leads proc (Ask to f args) = []
simple_leads proc (Assert test site) = lead_of (record { proc = proc; index = site }) (test_needs test)

-- the conditions of the sites in a helper and in its calls, by its number, led to its start
abbrev pub Inside : Type 0
Inside = ℕ → List SiteLead

-- The conditions of the sites in a statement, in text order: those of a helper in place of its call, those of a loop's body
-- once. Each is led back to before the statement; the start of a part of an `if` is before the `if`.
unfoldable mutual
  pub leads_in : Results → Inside → ProcId → Stmt → List SiteLead
  leads_in results inside proc (plain simple) = simple_leads proc simple
  leads_in results inside proc (help to callee args) = led_on (out_of_call args) (inside callee.0)
  leads_in results inside proc (branch test first second) = leads_in_all results inside proc first ++ leads_in_all results inside proc second
  leads_in results inside proc (loop index slot bound most site body) =
      lead_of (record { proc = proc; index = site }) (bound_needs bound most) ++ led_on (out_of_loop index body) (leads_in_all results inside proc body)

  -- in statements in a row: what comes behind a statement is led back over it
  pub leads_in_all : Results → Inside → ProcId → Block → List SiteLead
  leads_in_all results inside proc [] = []
  leads_in_all results inside proc (s ⨾ rest) = leads_in results inside proc s ++ led_on (over results s) (leads_in_all results inside proc rest)

abbrev pub leads_in_code : Results → Inside → ℕ → Option Code → List SiteLead
leads_in_code results inside n (Some code) = leads_in_all results inside (record { 0 = n }) (code_of code).block
leads_in_code results inside n None = []

-- of the procedures of numbers less than n, which are those that procedure n calls
unfoldable pub insides : List Code → ℕ → Inside
insides codes zero callee = []
insides codes (suc n) callee = if callee == n then leads_in_code (results codes n) (insides codes n) n (slice_get codes n) else insides codes n callee

-- the conditions of the sites in procedure n and in its calls, led to its start
abbrev pub proc_leads : List Code → ℕ → List SiteLead
proc_leads codes n = leads_in_code (results codes n) (insides codes n) n (slice_get codes n)

-- what has come to the answer of an outside function; what is still wanted of a variable at the start comes to nothing
abbrev pub asked_by : SiteId → Lead → Option Found
asked_by site Nowhere = None
asked_by site (Asked f cond) = Some (record { name = f; cond = cond; site = site })
asked_by site (At x want) = None

abbrev pub asked : SiteLead → Option Found
asked l = asked_by l.site l.lead

-- what the sites of procedure n and of its calls want of answers
abbrev pub wanted_by : List Code → ℕ → List Found
wanted_by codes n = filter_map asked (proc_leads codes n)
