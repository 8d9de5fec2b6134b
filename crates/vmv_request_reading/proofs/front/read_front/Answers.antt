-- The head of an input is the one that was found in its first 8,192 bytes.
use Rattle.std.proofs.Common.{◌≡◌, ℕ, List, length, Option, Ok, Err, None, sym, ap, subst, ◌∙◌, arith}
use Rattle.std.specs.Prelude.{IfSome, take}
use Rattle.std.proofs.lemmas.List.{with_items_is}
use Rattle.vmv_request_reading.specs.Fronts.{IsFoundFront}
use Rattle.vmv_request_reading.specs.declared.front.Front.{Front}
use Rattle.vmv_request_reading.specs.declared.stop.Stop.TheVariants.{Ended, ReadFailed}
use Rattle.vmv_request_reading.proofs.Adding.{stop_is, AreWithin, front_by, overlong_by, headless_by, most_is}
use Rattle.vmv_request_reading.proofs.front.read_front.Goals as goal

pub front_found-requires : goal.front_found-requires
front_found-requires g c =
    let e = c.deref.ensures.value ∙ with_items_is c.in_ok-room.room c.scan.new.room (c.scan.auto.room ∙ c.deref_mut.ensures.len) in
    let P : List ℕ → Type 0 = λ l. AreWithin l c.in-Ok.found in
    subst P (sym e) c.in-Ok.ensures.within

pub returns-in_err-front_found-in-Ok-clause-bounded : goal.returns-in_err-front_found-in-Ok-clause-bounded
returns-in_err-front_found-in-Ok-clause-bounded g c h =
    let size = c.scan.auto.room ∙ ap length c.deref_mut.ensures.value ∙ c.in_ok-room.ensures in
    most_is (length c.scan.new.room) 8192 (g.L.Link.input c.args.link.now) (g.L.Link.input c.scan.new.link) size (c.in-Ok.ensures.bounded (λ e. cc e))

pub returns-in-Ok-clause-front : goal.returns-in-Ok-clause-front
returns-in-Ok-clause-front g c =
    let room = c.scan.new.room in
    let size : length room ≡ 8192 = c.scan.auto.room ∙ ap length c.deref_mut.ensures.value ∙ c.in_ok-room.ensures in
    let e = c.deref.ensures.value ∙ with_items_is c.in_ok-room.room room (c.scan.auto.room ∙ c.deref_mut.ensures.len) in
    let front = c.in_ok-front_found-in-Ok.field-0 in
    let P : List ℕ → Type 0 = λ l. IfSome c.in-Ok.found (λ f. IsFoundFront (take f.have l) f.len front) in
    front_by (g.L.Link.input c.args.link.now) (g.L.Link.input c.scan.new.link) room c.in-Ok.found front (omega (arith, size))
    c.in-Ok.ensures.within c.in-Ok.ensures.read c.in-Ok.ensures.whole c.in_ok-front_found-in-Ok.ensures.none (subst P e c.in_ok-front_found-in-Ok.ensures.some)

pub returns-in-Ok-clause-overlong : goal.returns-in-Ok-clause-overlong
returns-in-Ok-clause-overlong g c h =
    let room = c.scan.new.room in
    let size : length room ≡ 8192 = c.scan.auto.room ∙ ap length c.deref_mut.ensures.value ∙ c.in_ok-room.ensures in
    let e = c.deref.ensures.value ∙ with_items_is c.in_ok-room.room room (c.scan.auto.room ∙ c.deref_mut.ensures.len) in
    let front = c.in_ok-front_found-in-Ok.field-0 in
    let none : front ≡ None = cc h in
    let P : List ℕ → Type 0 = λ l. IfSome c.in-Ok.found (λ f. IsFoundFront (take f.have l) f.len front) in
    let Q : Option Front → Type 0 = λ x. IfSome c.in-Ok.found (λ f. IsFoundFront (take f.have room) f.len x) in
    overlong_by (g.L.Link.input c.args.link.now) (g.L.Link.input c.scan.new.link) room c.in-Ok.found size (λ n. c.in-Ok.ensures.overlong (ap Ok n))
    (subst Q none (subst P e c.in_ok-front_found-in-Ok.ensures.some))

pub returns-in-Ok-clause-bounded : goal.returns-in-Ok-clause-bounded
returns-in-Ok-clause-bounded g c h =
    let size = c.scan.auto.room ∙ ap length c.deref_mut.ensures.value ∙ c.in_ok-room.ensures in
    most_is (length c.scan.new.room) 8192 (g.L.Link.input c.args.link.now) (g.L.Link.input c.scan.new.link) size (c.in-Ok.ensures.bounded (λ e. cc e))

pub returns-clause-ended : goal.returns-clause-ended
returns-clause-ended g c e =
    let size = c.scan.auto.room ∙ ap length c.deref_mut.ensures.value ∙ c.in_ok-room.ensures in
    headless_by (g.L.Link.input c.args.link.now) (length c.scan.new.room) size (c.in-Err.ensures.ended (ap Err (stop_is c.in-Err.stop Ended e)))

pub returns-clause-bounded : goal.returns-clause-bounded
returns-clause-bounded g c h =
    let size = c.scan.auto.room ∙ ap length c.deref_mut.ensures.value ∙ c.in_ok-room.ensures in
    most_is (length c.scan.new.room) 8192 (g.L.Link.input c.args.link.now) (g.L.Link.input c.scan.new.link) size
    (c.in-Err.ensures.bounded (λ e. h (ap Err (stop_is c.in-Err.stop ReadFailed e))))
