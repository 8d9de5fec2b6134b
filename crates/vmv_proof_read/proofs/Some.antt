-- Values of each kind.
use Rattle.std.proofs.Common.{[], pos, false, true, replicate, arith}
use Rattle.std.proofs.lemmas.List.{length-replicate}
use Rattle.vmv_cond.specs.declared.cond.Piece.TheVariants.{Zero}
use Rattle.vmv_zone.specs.declared.zone.Zone.{Zone}
use Rattle.vmv_cert.specs.declared.row.Reach.TheVariants.{Bottom}
use Rattle.vmv_cert.specs.declared.row.Row.{Row}
use Rattle.vmv_cert.specs.declared.table.Table.{Table}
use Rattle.vmv_proof.specs.declared.proof.Exclusion.{Exclusion}
use Rattle.vmv_proof.specs.declared.proof.Shown.{Shown}
use Rattle.vmv_zone.proofs.Zeros.{zeros_reach, zeros_under_top, zeros_outside, falses_on_variables, zeros_blank}

-- the state of no variable that has no point
pub no_point : Zone
no_point = record {
  vars = 0;
  bottom = true;
  bounds = replicate 324 (pos 0);
  marks = replicate 18 false;
  few = omega arith;
  full = length-replicate 324 (pos 0);
  reach = zeros_reach 324;
  topped = zeros_under_top 324 0;
  outside = zeros_outside 324 0;
  sized = length-replicate 18 false;
  variables = falses_on_variables 18 0;
  emptied = λ t. zeros_blank 324 18;
}

pub some_row : Row
some_row = record { proc = []; input = no_point; keeps = []; result = Bottom; unproved = [] }

pub some_table : Table
some_table = record { rows = [] }

pub some_exclusion : Exclusion
some_exclusion = record { entry = []; within = []; name = []; piece = Zero; under = 0; table = some_table }

pub some_shown : Shown
some_shown = record { entry = []; plain = some_table; given = some_table }
