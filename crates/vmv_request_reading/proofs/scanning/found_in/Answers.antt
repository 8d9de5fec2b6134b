-- A head ends in a piece, or the piece leads on.
use Rattle.std.proofs.Common.{refl}
use Rattle.std.specs.Prelude.{slice_range}
use Rattle.vmv_request_reading.proofs.Adding.{led_on, led_whole, piece_end}
use Rattle.vmv_request_reading.proofs.scanning.found_in.Goals as goal

pub returns-in-Some-clause-whole : goal.returns-in-Some-clause-whole
returns-in-Some-clause-whole c read led more =
    led_whole read (slice_range c.args.room.now c.args.from c.args.have) c.args.from c.in-Some.end c.args.place.now c.in-Some.ensures.whole led more

pub returns-in-None-clause-led : goal.returns-in-None-clause-led
returns-in-None-clause-led c e read led =
    led_on read (slice_range c.args.room.now c.args.from c.args.have) c.args.from c.args.have c.args.place.now c.feed.new.self
    (piece_end c.args.from c.args.have c.args.room.now c.requires.from c.requires.have) (c.in-None.ensures.goes_on refl) led
