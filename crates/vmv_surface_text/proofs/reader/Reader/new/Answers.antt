use Rattle.vmv_surface_text.proofs.Readers.{asked_start}
use Rattle.vmv_surface_text.proofs.reader.Reader.new.Goals as goal

pub returns : goal.returns
returns c = λ start. asked_start start _ c.«new».ensures c.none.ensures c.new-2.ensures
