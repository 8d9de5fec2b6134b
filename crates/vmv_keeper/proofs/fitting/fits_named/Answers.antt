-- The project that is found is well formed, as all are.
use Rattle.std.proofs.Common.{rules, ◌≡◌, Some}
use Rattle.vmv_keeper.specs.Tables.{project_in}
use Rattle.vmv_keeper.proofs.FormedReads.{IsProject-found}
use Rattle.vmv_keeper.proofs.fitting.fits_named.Goals as goal

pub fits_project-requires : goal.fits_project-requires
fits_project-requires c =
    let at : project_in c.args.projects.now c.args.owner.now c.args.name.now ≡ Some c.in-Some.project.now = search rules in
    IsProject-found c.args.owner.now c.args.name.now c.args.projects.now c.in-Some.project.now c.requires at
