-- What is asked for behind the head that was read is what the input asks for.
use Rattle.std.proofs.Common.{ℕ, List, ◌++◌, subst}
use Rattle.std.specs.Prelude.{IfOk}
use Rattle.vmv_request_reading.specs.Inputs.{OfInput}
use Rattle.vmv_http.specs.Requests.{AsksBehind, LacksBody}
use Rattle.vmv_http.proofs.Asking.{asks_front, ends_behind, both_read}
use Rattle.vmv_http.proofs.reading.read_request.Goals as goal

pub returns-in-Ok-Some-clause-asked : goal.returns-in-Ok-Some-clause-asked
returns-in-Ok-Some-clause-asked g c =
    let mid = g.L.Link.input c.read_front.new.link in
    let front = c.in-Ok-Some.front in
    let is = rw c.in-Ok-Some.field-0-is at c.in-Ok-Some.ensures.front in
    let H : List ℕ → Type 0 = λ l. IfOk c.read_with.result (λ asked. OfInput mid (λ rest. AsksBehind l (c.bytes-in-Ok-Some.result.now ++ rest) asked)) in
    let B : List ℕ → Type 0 = λ l. IfOk c.read_with.result (λ asked. OfInput mid (λ rest. AsksBehind front.head (l ++ rest) asked)) in
    asks_front (g.L.Link.input c.args.link.now) mid front c.read_with.result is
    (subst B c.bytes-in-Ok-Some.ensures (subst H c.bytes.ensures c.read_with.ensures.asked))

pub returns-in-Ok-Some-clause-ended : goal.returns-in-Ok-Some-clause-ended
returns-in-Ok-Some-clause-ended g c e =
    let mid = g.L.Link.input c.read_front.new.link in
    let front = c.in-Ok-Some.front in
    let is = rw c.in-Ok-Some.field-0-is at c.in-Ok-Some.ensures.front in
    let H : List ℕ → Type 0 = λ l. OfInput mid (λ rest. LacksBody l (c.bytes-in-Ok-Some.result.now ++ rest)) in
    let B : List ℕ → Type 0 = λ l. OfInput mid (λ rest. LacksBody front.head (l ++ rest)) in
    ends_behind (g.L.Link.input c.args.link.now) mid front is (subst B c.bytes-in-Ok-Some.ensures (subst H c.bytes.ensures (c.read_with.ensures.ended e)))

pub returns-in-Ok-Some-clause-bounded : goal.returns-in-Ok-Some-clause-bounded
returns-in-Ok-Some-clause-bounded g c h =
    both_read 8192 131072 (g.L.Link.input c.args.link.now) (g.L.Link.input c.read_front.new.link) (g.L.Link.input c.read_with.new.link)
    (c.in-Ok-Some.ensures.bounded (λ e. cc e)) (c.read_with.ensures.bounded h)
