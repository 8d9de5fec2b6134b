use Rattle.vmv_table_sound.proofs.Sites.{failing_site}
use Rattle.vmv_table_sound.proofs.laws.failing_sites_are_reached.Goals as goal

pub returns : goal.returns
returns c = λ program name params body words answers site is there run.
    let f = failing_site program name params body words answers site is there run in
    (f.number, f.home, f.at, f.is)
