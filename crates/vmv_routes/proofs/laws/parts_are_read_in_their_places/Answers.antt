use Rattle.vmv_routes.proofs.Parts.{owner_read, project_read, number_read}
use Rattle.vmv_routes.proofs.laws.parts_are_read_in_their_places.Goals as goal

pub returns : goal.returns
returns c = record { owner = owner_read; project = project_read; number = number_read }
