-- Each piece stands behind those before it, and leads on from them.
use Rattle.std.proofs.Common.{◌≡◌, ℕ, List, ◌<◌, length, take, length-take, take_all, Err, None, refl, sym, ap, subst, ◌∙◌, arith}
use Rattle.vmv_edge.specs.Outside.{WasRead}
use Rattle.vmv_head.specs.Heads.{front_length}
use Rattle.vmv_request_reading.specs.Places.{HasLed}
use Rattle.vmv_request_reading.specs.declared.stop.Stop.TheVariants.{Ended}
use Rattle.vmv_request_reading.proofs.Adding.{stop_is, none_read, none_led, read_on, read_no_more, ended_only, read_within, whole_at, led_nowhere, read_all, of_all}
use Rattle.vmv_request_reading.proofs.scanning.scan.Goals as goal

pub loop-have-init : goal.loop-have-init
loop-have-init g c = record {
  same = refl;
  within = omega arith;
  read = none_read (g.L.Link.input c.args.link.now);
  led = none_led c.args.room.now;
  stands = refl;
  kept = refl;
}

pub returns-in-Err-clause-ended : goal.returns-in-Err-clause-ended
returns-in-Err-clause-ended g c e =
    let end = c.in-Err.ensures.ended (ap Err (stop_is c.in-Err.stop Ended e)) in
    let have = c.loop-have.have in
    let read = take have c.loop-have.room in
    let few : length read < length c.read_behind.new.room = omega (arith, length-take have c.loop-have.room, c.read_behind.auto.room, c.loop-have-test.true) in
    of_all (g.L.Link.input c.args.link.now) read (λ input. (length input < length c.read_behind.new.room) × (front_length input ≡ None))
    (read_all (g.L.Link.input c.args.link.now) (g.L.Link.input c.loop-have.link) read c.loop-have.invariant.read end.0)
    (few, led_nowhere read have c.loop-have.place c.loop-have.invariant.led)

pub returns-in-Err-clause-bounded : goal.returns-in-Err-clause-bounded
returns-in-Err-clause-bounded g c h =
    let stop = ended_only c.in-Err.stop (λ e. h (ap Err e)) (λ e. c.in-Err.ensures.no_memory (ap Err e)) in
    let end = c.in-Err.ensures.ended (ap Err stop) in
    let start = g.L.Link.input c.args.link.now in
    let now = g.L.Link.input c.read_behind.new.link in
    read_within start now c.loop-have.have (length c.read_behind.new.room) c.loop-have.room
    (read_no_more start (g.L.Link.input c.loop-have.link) now (take c.loop-have.have c.loop-have.room) c.loop-have.invariant.read end.1)
    (omega (arith, c.read_behind.auto.room, c.loop-have.invariant.within))

pub returns-in-Some-clause-within : goal.returns-in-Some-clause-within
returns-in-Some-clause-within g c =
    let w = c.in-Some.ensures.within in
    let n = c.in-Ok.ensures.within in
    (omega (arith, w.0, w.1), omega (arith, w.1, n.1))

pub returns-in-Some-clause-read : goal.returns-in-Some-clause-read
returns-in-Some-clause-read g c =
    let start = g.L.Link.input c.args.link.now in
    let now = g.L.Link.input c.read_behind.new.link in
    let P : List ℕ → Type 0 = λ l. WasRead start l now in
    let Q : ℕ → Type 0 = λ k. WasRead start (take k c.read_behind.new.room) now in
    subst Q (sym c.in-Some.ensures.within.1) (subst P (sym c.in-Ok.ensures.behind)
    (read_on start (g.L.Link.input c.loop-have.link) now (take c.loop-have.have c.loop-have.room) _ c.loop-have.invariant.read c.in-Ok.ensures.read))

pub returns-in-Some-clause-whole : goal.returns-in-Some-clause-whole
returns-in-Some-clause-whole g c =
    whole_at c.in-Some.found.have c.in-Ok.now c.in-Some.found.len c.read_behind.new.room _ c.in-Some.ensures.within.1 c.in-Ok.ensures.behind
    (c.in-Some.ensures.whole (take c.loop-have.have c.loop-have.room) c.loop-have.invariant.led)

pub returns-in-Some-clause-bounded : goal.returns-in-Some-clause-bounded
returns-in-Some-clause-bounded g c h =
    read_within (g.L.Link.input c.args.link.now) (g.L.Link.input c.read_behind.new.link) c.in-Some.found.have (length c.read_behind.new.room) c.read_behind.new.room
    (returns-in-Some-clause-read g c) (returns-in-Some-clause-within g c).1

pub loop-have-preserved : goal.loop-have-preserved
loop-have-preserved g c =
    let start = g.L.Link.input c.args.link.now in
    let now = g.L.Link.input c.read_behind.new.link in
    let P : List ℕ → Type 0 = λ l. WasRead start l now in
    let Q : List ℕ → Type 0 = λ l. HasLed l c.in-Ok.now c.found_in.new.place in
    record {
      same = c.read_behind.auto.room ∙ c.loop-have.invariant.same;
      within = c.in-Ok.ensures.within.1;
      read = subst P (sym c.in-Ok.ensures.behind)
          (read_on start (g.L.Link.input c.loop-have.link) now (take c.loop-have.have c.loop-have.room) _ c.loop-have.invariant.read c.in-Ok.ensures.read);
      led = subst Q (sym c.in-Ok.ensures.behind) (c.in-None.ensures.led refl (take c.loop-have.have c.loop-have.room) c.loop-have.invariant.led);
      stands = c.in-Ok.ensures.stands (λ e. cc e) ∙ c.loop-have.invariant.stands;
      kept = c.in-Ok.ensures.kept ∙ c.loop-have.invariant.kept;
    }

pub returns-clause-overlong : goal.returns-clause-overlong
returns-clause-overlong g c h =
    let have = c.loop-have.have in
    let room = c.loop-have.room in
    let e : take have room ≡ room = take_all have room (omega (arith, c.loop-have-test.false)) in
    let P : List ℕ → Type 0 = λ l. (front_length l ≡ None) × WasRead (g.L.Link.input c.args.link.now) l (g.L.Link.input c.loop-have.link) in
    subst P e (led_nowhere (take have room) have c.loop-have.place c.loop-have.invariant.led, c.loop-have.invariant.read)

pub returns-clause-bounded : goal.returns-clause-bounded
returns-clause-bounded g c h =
    read_within (g.L.Link.input c.args.link.now) (g.L.Link.input c.loop-have.link) c.loop-have.have (length c.loop-have.room) c.loop-have.room
    c.loop-have.invariant.read c.loop-have.invariant.within
