-- The fault that is told of a line.
use Rattle.std.specs.Prelude.{ℕ}
use Rattle.vmv_witness.specs.declared.fault.Ill.{Ill}
use Rattle.vmv_witness.specs.declared.fault.Ill.TheVariants.{Form, Size}
use Rattle.vmv_witness.specs.declared.fault.WitnessFault.{WitnessFault}
use Rattle.vmv_witness.specs.declared.fault.WitnessFault.TheVariants.{Syntax, Range}

abbrev pub fault_at : Ill → ℕ → WitnessFault
fault_at Form line = Syntax line
fault_at Size line = Range line
