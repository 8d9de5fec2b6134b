-- No more than the body is read.
use Rattle.std.proofs.Common.{◌-◌, length, arith}
use Rattle.vmv_http.proofs.Asking.{more_read}
use Rattle.vmv_http.proofs.reading.read_behind.Goals as goal

pub returns-in_ok-command_of-in-Ok-clause-bounded :
    goal.returns-in_ok-command_of-in-Ok-clause-bounded
returns-in_ok-command_of-in-Ok-clause-bounded g c h =
    let len = c.args.head.now.body_len in
    more_read (len - length c.args.begun.now) len (g.L.Link.input c.args.link.now) (g.L.Link.input c.read_body.new.link) (omega arith)
    (c.in-Ok.ensures.bounded (λ e. cc e))
