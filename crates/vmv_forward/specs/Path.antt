-- What contracts see of an instance: a procedure on one path of calls from an entry.
use Rattle.std.specs.Prelude.{ℕ, Bool, List}
use Rattle.vmv_cond.specs.declared.cond.Cond.{Cond}
use Rattle.vmv_snapshot.specs.declared.code.ProcId.{ProcId}
use Rattle.vmv_zone.specs.declared.zone.Zone.{Zone}

pub record Path : Type 0 where
  pub proc : ProcId
  -- the number of the instance that calls it, and the place of that call among its calls
  pub caller : ℕ
  pub place : ℕ
  -- the numbers of the instances that it calls, in text order
  pub callees : List ℕ
  -- the state at each loop, the input and the result of each call, and whether each site is unproved
  pub keeps : List Zone
  pub inputs : List Zone
  pub results : List Cond
  pub unproved : List Bool
