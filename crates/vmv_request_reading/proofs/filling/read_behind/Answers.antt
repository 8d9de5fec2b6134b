-- What was read stands behind what was there.
use Rattle.std.proofs.Common.{ℕ, ◌-◌, List, ◌++◌, length, take, sym, ap, subst, ◌∙◌, arith}
use Rattle.vmv_edge.specs.Outside.{WasRead}
use Rattle.vmv_request_reading.proofs.Adding.{take_put_on, put_on}
use Rattle.vmv_request_reading.proofs.filling.read_behind.Goals as goal

pub returns-clause-read : goal.returns-clause-read
returns-clause-read g c =
    let P : List ℕ → Type 0 = λ l. WasRead (g.L.Link.input c.args.link.now) l (g.L.Link.input c.read.new.self) in
    subst P (sym (put_on c.args.have c.in_ok-n.n (length c.args.room.now - c.args.have) c.args.room.now c.read.new.into (omega arith) c.in_ok-n.ensures.within))
    c.in_ok-n.ensures.read

pub returns-clause-behind : goal.returns-clause-behind
returns-clause-behind g c =
    let rest = length c.args.room.now - c.args.have in
    take_put_on c.args.have c.in_ok-n.n rest c.args.room.now c.read.new.into (omega arith) c.in_ok-n.ensures.within
    ∙ ap (λ l. take c.args.have c.args.room.now ++ l)
    (sym (put_on c.args.have c.in_ok-n.n rest c.args.room.now c.read.new.into (omega arith) c.in_ok-n.ensures.within))
