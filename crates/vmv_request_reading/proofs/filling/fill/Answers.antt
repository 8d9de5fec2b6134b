-- Each piece stands behind those before it.
use Rattle.std.proofs.Common.{length, take, length-take, Err, refl, ap, ◌∙◌, arith}
use Rattle.std.specs.Prelude.{slice_range}
use Rattle.vmv_request_reading.specs.declared.stop.Stop.TheVariants.{Ended}
use Rattle.vmv_request_reading.proofs.Adding.{none_read, stop_is, ended_only, none_filled, filled_on, filled_all, filled_short, filled_within}
use Rattle.vmv_request_reading.proofs.filling.fill.Goals as goal

pub loop-at-init : goal.loop-at-init
loop-at-init g c = record {
  same = refl;
  within = c.requires;
  read = none_filled (g.L.Link.input c.args.link.now) c.args.room.now c.args.have;
  stands = refl;
  kept = refl;
}

pub returns-in-Err-clause-ended : goal.returns-in-Err-clause-ended
returns-in-Err-clause-ended g c e =
    let end = c.in-Err.ensures.ended (ap Err (stop_is c.in-Err.stop Ended e)) in
    filled_short (g.L.Link.input c.args.link.now) (g.L.Link.input c.loop-at.link) (take c.args.have c.args.room.now) c.loop-at.room c.args.have c.loop-at.at
    (length c.read_behind.new.room) c.loop-at.invariant.read end.0 (omega (arith, c.requires, length-take c.args.have c.args.room.now)) c.loop-at.invariant.within
    (omega (arith, c.read_behind.auto.room, c.loop-at-test.true))

pub returns-in-Err-clause-bounded : goal.returns-in-Err-clause-bounded
returns-in-Err-clause-bounded g c h =
    let stop = ended_only c.in-Err.stop (λ e. h (ap Err e)) (λ e. c.in-Err.ensures.no_memory (ap Err e)) in
    let end = c.in-Err.ensures.ended (ap Err stop) in
    filled_within (g.L.Link.input c.args.link.now) (g.L.Link.input c.loop-at.link) (g.L.Link.input c.read_behind.new.link) (take c.args.have c.args.room.now)
    c.loop-at.room c.args.have c.loop-at.at (length c.read_behind.new.room) c.loop-at.invariant.read end.1
    (omega (arith, c.requires, length-take c.args.have c.args.room.now)) (omega (arith, c.read_behind.auto.room, c.loop-at.invariant.within))

pub loop-at-preserved : goal.loop-at-preserved
loop-at-preserved g c = record {
  same = c.read_behind.auto.room ∙ c.loop-at.invariant.same;
  within = c.in-Ok.ensures.within.1;
  read = filled_on (g.L.Link.input c.args.link.now) (g.L.Link.input c.loop-at.link) (g.L.Link.input c.read_behind.new.link) (take c.args.have c.args.room.now)
      (slice_range c.read_behind.new.room c.loop-at.at c.in-Ok.now) c.loop-at.room c.read_behind.new.room c.loop-at.at c.in-Ok.now
      c.loop-at.invariant.read c.in-Ok.ensures.behind c.in-Ok.ensures.read;
  stands = c.in-Ok.ensures.stands (λ e. cc e) ∙ c.loop-at.invariant.stands;
  kept = c.in-Ok.ensures.kept ∙ c.loop-at.invariant.kept;
}

pub returns-clause-filled : goal.returns-clause-filled
returns-clause-filled g c =
    filled_all (g.L.Link.input c.args.link.now) (g.L.Link.input c.loop-at.link) (take c.args.have c.args.room.now) c.loop-at.room c.loop-at.at
    c.loop-at.invariant.read c.loop-at-test.false

pub returns-clause-bounded : goal.returns-clause-bounded
returns-clause-bounded g c h =
    filled_within (g.L.Link.input c.args.link.now) (g.L.Link.input c.loop-at.link) (g.L.Link.input c.loop-at.link) (take c.args.have c.args.room.now)
    c.loop-at.room c.args.have c.loop-at.at (length c.loop-at.room) c.loop-at.invariant.read (none_read (g.L.Link.input c.loop-at.link))
    (omega (arith, c.requires, length-take c.args.have c.args.room.now)) c.loop-at.invariant.within
