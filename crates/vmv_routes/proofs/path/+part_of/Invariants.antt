use Rattle.vmv_routes.proofs.path.+part_of.Given as goal

abbrev pub decreases-part_of : goal.decreases-part_of
decreases-part_of l = l.number
