use Rattle.vmv_edge.proofs.Giving.{front_given}
use Rattle.vmv_edge.proofs.stock.copy_from.Goals as goal

pub returns : goal.returns
returns c = front_given c.args.bytes.now c.copy_front.new.into c.args.from c.args.n c.requires.within c.copy_front.ensures
