-- What a command may change.
use Rattle.std.specs.Prelude.{◌≡◌, ℕ, List}
use Rattle.vmv_keeper.specs.declared.act.Command.{Command}
use Rattle.vmv_keeper.specs.declared.act.Command.TheVariants.{Change, Ask}
use Rattle.vmv_keeper.specs.Changes.{owner_of, name_of}

-- a change may change the project that its act is about; a question may change none
abbrev pub MayChange : Command → List ℕ → List ℕ → Type 0
MayChange (Change caller id act) owner name = (owner_of caller act ≡ owner) × (name_of act ≡ name)
MayChange (Ask caller query) owner name = ⊥
