-- What threads may share.
use Prim.Native.Nat.{ℕ}
use denote.RattleType.{RattleType}
use denote.Param.Send.{Common}

-- what a reference to a value of the type holds says the same to every thread
abbrev pub IsForThreads : RattleType → Type 0
IsForThreads R = (x : R.Denot) (b o : ℕ) → Common (R.shr_at x b o)
