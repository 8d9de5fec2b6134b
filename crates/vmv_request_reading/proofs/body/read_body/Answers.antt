-- A body is the bytes behind the head, as many as were asked for.
use Rattle.std.proofs.Common.{◌≡◌, ◌≤◌, ◌-◌, ℕ, List, ◌++◌, length, take, Err, sym, ap, subst, ◌∙◌}
use Rattle.std.proofs.lemmas.List.{with_items_is}
use Rattle.vmv_request_reading.specs.Inputs.{OfInputs}
use Rattle.vmv_request_reading.specs.declared.stop.Stop.TheVariants.{Ended, ReadFailed}
use Rattle.vmv_request_reading.proofs.Adding.{stop_is, body_begun, body_filled, short_body, most_is}
use Rattle.vmv_request_reading.proofs.body.read_body.Goals as goal

pub returns-then-len-begun-clause-body : goal.returns-then-len-begun-clause-body
returns-then-len-begun-clause-body g c =
    let told = g.L.Link.input c.args.link.now in
    let begun = c.args.begun.now in
    let len = c.args.len in
    let P : List ℕ → Type 0 = λ l. OfInputs told told (λ rest _. (len ≤ length (begun ++ rest)) × (l ≡ take len (begun ++ rest))) in
    subst P (sym c.in_ok-from_slice.ensures.items) (body_begun told begun len c.if-len-begun.true)

pub returns-in-Ok-clause-body : goal.returns-in-Ok-clause-body
returns-in-Ok-clause-body g c =
    let start = g.L.Link.input c.args.link.now in
    let now = g.L.Link.input c.read_into.new.link in
    let begun = c.args.begun.now in
    let len = c.args.len in
    let room = c.read_into.new.room in
    let size : length room ≡ len = c.read_into.auto.room ∙ ap length c.deref_mut.ensures.value ∙ c.in_ok-body.ensures in
    let e = with_items_is c.in_ok-body.body room (c.read_into.auto.room ∙ c.deref_mut.ensures.len) in
    let P : List ℕ → Type 0 = λ l. OfInputs start now (λ rest _. (len ≤ length (begun ++ rest)) × (l ≡ take len (begun ++ rest))) in
    subst P (sym e) (body_filled start now begun room len c.in-Ok.ensures.filled size)

pub returns-in-Ok-clause-bounded : goal.returns-in-Ok-clause-bounded
returns-in-Ok-clause-bounded g c h =
    let room = c.read_into.new.room in
    let size : length room ≡ c.args.len = c.read_into.auto.room ∙ ap length c.deref_mut.ensures.value ∙ c.in_ok-body.ensures in
    most_is (length room - length c.args.begun.now) (c.args.len - length c.args.begun.now) (g.L.Link.input c.args.link.now) (g.L.Link.input c.read_into.new.link)
    (ap (λ k. k - length c.args.begun.now) size) (c.in-Ok.ensures.bounded (λ e. cc e))

pub returns-in-Err-clause-ended : goal.returns-in-Err-clause-ended
returns-in-Err-clause-ended g c e =
    let room = c.read_into.new.room in
    let size : length room ≡ c.args.len = c.read_into.auto.room ∙ ap length c.deref_mut.ensures.value ∙ c.in_ok-body.ensures in
    short_body (g.L.Link.input c.args.link.now) c.args.begun.now c.args.len (length room) size (c.in-Err.ensures.ended (ap Err (stop_is c.in-Err.stop Ended e)))

pub returns-in-Err-clause-bounded : goal.returns-in-Err-clause-bounded
returns-in-Err-clause-bounded g c h =
    let room = c.read_into.new.room in
    let size : length room ≡ c.args.len = c.read_into.auto.room ∙ ap length c.deref_mut.ensures.value ∙ c.in_ok-body.ensures in
    most_is (length room - length c.args.begun.now) (c.args.len - length c.args.begun.now) (g.L.Link.input c.args.link.now) (g.L.Link.input c.read_into.new.link)
    (ap (λ k. k - length c.args.begun.now) size) (c.in-Err.ensures.bounded (λ e. h (ap Err (stop_is c.in-Err.stop ReadFailed e))))
