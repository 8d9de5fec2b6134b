-- A body is as long as a head tells that isn't refused.
use Rattle.vmv_http.proofs.Asking.{body_read, refused_behind}
use Rattle.vmv_http.proofs.reading.read_with.Goals as goal

pub returns-in-Ok-clause-bounded : goal.returns-in-Ok-clause-bounded
returns-in-Ok-clause-bounded g c h =
    body_read (g.L.Link.input c.args.link.now) (g.L.Link.input c.read_behind.new.link) c.args.head.now c.in-Ok.read c.in-Ok.ensures.ok
    (c.read_behind.ensures.bounded h)

pub returns-in-Err-clause-asked : goal.returns-in-Err-clause-asked
returns-in-Err-clause-asked g c =
    refused_behind (g.L.Link.input c.args.link.now) c.args.head.now c.args.begun.now c.in-Err.refusal c.in-Err.ensures.err
