-- A command over texts hands on what it promises, and a service what its own does, by the one service that the words ask for.
use Rattle.std.proofs.Common.{◌≡◌, ℕ, List, map, refl, arith, Global}
use Rattle.std.specs.String.{string_bytes}
use Rattle.vmv_command.proofs.Verdict.{nothing_said}
use Rattle.vmv_words.specs.Services.{AsksNoService, AsksService}
use Rattle.vmv_words.specs.Requests.{service_of}
use Rattle.vmv_serve.specs.Serves.{Seen, Stored}
use Rattle.vmv_serve.proofs.Serving.{none_of, given_self}
use Rattle.vmv_gate.specs.Judged.{Inspects, Compares}
use Rattle.vmv_program.specs.Asked.{store_of}
use Rattle.vmv_program.proofs.Asking.{no_verdict, no_proof, no_regression}
use Rattle.vmv_program.proofs.program.run.Goals as goal

pub returns-in-Ok-None-clause-service_statuses : goal.returns-in-Ok-None-clause-service_statuses
returns-in-Ok-None-clause-service_statuses g c =
    let none : AsksNoService (map (string_bytes {Z = Global}) c.args.words.now) = rw c.in-Ok-None.field-0-is at c.in-Ok-None.ensures in
    λ asked asks. absurd (none asked asks)

pub returns-in-Ok-None-clause-unread : goal.returns-in-Ok-None-clause-unread
returns-in-Ok-None-clause-unread g c =
    let none : AsksNoService (map (string_bytes {Z = Global}) c.args.words.now) = rw c.in-Ok-None.field-0-is at c.in-Ok-None.ensures in
    λ asked asks. absurd (none asked asks)

pub returns-in-Ok-None-clause-outside_failed : goal.returns-in-Ok-None-clause-outside_failed
returns-in-Ok-None-clause-outside_failed g c =
    let none : AsksNoService (map (string_bytes {Z = Global}) c.args.words.now) = rw c.in-Ok-None.field-0-is at c.in-Ok-None.ensures in
    λ asked asks. absurd (none asked asks)

pub returns-in-Ok-None-clause-not_begun : goal.returns-in-Ok-None-clause-not_begun
returns-in-Ok-None-clause-not_begun g c =
    let none : AsksNoService (map (string_bytes {Z = Global}) c.args.words.now) = rw c.in-Ok-None.field-0-is at c.in-Ok-None.ensures in
    λ asked asks. absurd (none asked asks)

pub returns-in-Ok-None-clause-door_failed : goal.returns-in-Ok-None-clause-door_failed
returns-in-Ok-None-clause-door_failed g c =
    let none : AsksNoService (map (string_bytes {Z = Global}) c.args.words.now) = rw c.in-Ok-None.field-0-is at c.in-Ok-None.ensures in
    λ asked asks. absurd (none asked asks)

pub returns-in-Ok-None-clause-door_stands : goal.returns-in-Ok-None-clause-door_stands
returns-in-Ok-None-clause-door_stands g c =
    let none : AsksNoService (map (string_bytes {Z = Global}) c.args.words.now) = rw c.in-Ok-None.field-0-is at c.in-Ok-None.ensures in
    λ asked asks. absurd (none asked asks)

pub returns-in-Ok-None-clause-vault_stands : goal.returns-in-Ok-None-clause-vault_stands
returns-in-Ok-None-clause-vault_stands g c =
    let none : AsksNoService (map (string_bytes {Z = Global}) c.args.words.now) = rw c.in-Ok-None.field-0-is at c.in-Ok-None.ensures in
    λ asked asks. absurd (none asked asks)

pub returns-in-Ok-None-clause-steady_stands : goal.returns-in-Ok-None-clause-steady_stands
returns-in-Ok-None-clause-steady_stands g c =
    let none : AsksNoService (map (string_bytes {Z = Global}) c.args.words.now) = rw c.in-Ok-None.field-0-is at c.in-Ok-None.ensures in
    λ asked asks. absurd (none asked asks)

pub returns-in-Ok-None-clause-complete : goal.returns-in-Ok-None-clause-complete
returns-in-Ok-None-clause-complete g c =
    let none : AsksNoService (map (string_bytes {Z = Global}) c.args.words.now) = rw c.in-Ok-None.field-0-is at c.in-Ok-None.ensures in
    λ asked asks. absurd (none asked asks)

pub returns-in-Ok-None-clause-unserved : goal.returns-in-Ok-None-clause-unserved
returns-in-Ok-None-clause-unserved g c =
    let none : AsksNoService (map (string_bytes {Z = Global}) c.args.words.now) = rw c.in-Ok-None.field-0-is at c.in-Ok-None.ensures in
    λ asked asks. absurd (none asked asks)

pub returns-in-Ok-None-clause-listens : goal.returns-in-Ok-None-clause-listens
returns-in-Ok-None-clause-listens g c =
    let none : AsksNoService (map (string_bytes {Z = Global}) c.args.words.now) = rw c.in-Ok-None.field-0-is at c.in-Ok-None.ensures in
    λ asked asks. absurd (none asked asks)

pub returns-in-Ok-None-clause-whole : goal.returns-in-Ok-None-clause-whole
returns-in-Ok-None-clause-whole g c =
    let none : AsksNoService (map (string_bytes {Z = Global}) c.args.words.now) = rw c.in-Ok-None.field-0-is at c.in-Ok-None.ensures in
    λ asked asks. absurd (none asked asks)

pub returns-in-Ok-None-clause-front : goal.returns-in-Ok-None-clause-front
returns-in-Ok-None-clause-front g c =
    let none : AsksNoService (map (string_bytes {Z = Global}) c.args.words.now) = rw c.in-Ok-None.field-0-is at c.in-Ok-None.ensures in
    λ asked asks. absurd (none asked asks)

pub returns-in-Ok-None-clause-all_back : goal.returns-in-Ok-None-clause-all_back
returns-in-Ok-None-clause-all_back g c =
    let none : AsksNoService (map (string_bytes {Z = Global}) c.args.words.now) = rw c.in-Ok-None.field-0-is at c.in-Ok-None.ensures in
    λ asked asks. absurd (none asked asks)

pub returns-in-Ok-None-clause-served : goal.returns-in-Ok-None-clause-served
returns-in-Ok-None-clause-served g c =
    let none : AsksNoService (map (string_bytes {Z = Global}) c.args.words.now) = rw c.in-Ok-None.field-0-is at c.in-Ok-None.ensures in
    λ asked asks. absurd (none asked asks)

pub returns-in-Err-clause-relatively_correct : goal.returns-in-Err-clause-relatively_correct
returns-in-Err-clause-relatively_correct g c b r base revision old printed B R review_is told_b told_r text_b text_r was is said =
    absurd (nothing_said (g.O.Sink.taken c.args.out.now) old printed was is said)

pub returns-in-Err-clause-served : goal.returns-in-Err-clause-served
returns-in-Err-clause-served g c asked asks =
    let seen : g.row.D-Link.Denot → Seen = λ link. record { input = g.D.Link.Link.input link; written = g.D.Link.Link.written link; faults = g.D.Link.Link.fault_count link } in
    let told = g.V.Vault.told c.args.vault.now (store_of asked) in
    let start : Stored = record { rows = told; faults = 0 } in (
      0,
      start,
      start,
      omega (arith),
      given_self told,
      refl,
      none_of Inspects Compares (g.V.Vault.IsSteady c.args.vault.now) seen start (g.D.Door.told c.args.door.now),
      λ some. absurd (some refl),
    )

pub new-requires-clause-some : goal.new-requires-clause-some
new-requires-clause-some g c =
    let asks : AsksService (map (string_bytes {Z = Global}) c.args.words.now) (service_of c.in-Ok-Some.service) = rw c.in-Ok-Some.field-0-is at c.in-Ok-Some.ensures in
    (c.services_are_done_by_few_workers.ensures (map (string_bytes {Z = Global}) c.args.words.now) (service_of c.in-Ok-Some.service) asks).0

pub new-requires-clause-few : goal.new-requires-clause-few
new-requires-clause-few g c =
    let asks : AsksService (map (string_bytes {Z = Global}) c.args.words.now) (service_of c.in-Ok-Some.service) = rw c.in-Ok-Some.field-0-is at c.in-Ok-Some.ensures in
    (c.services_are_done_by_few_workers.ensures (map (string_bytes {Z = Global}) c.args.words.now) (service_of c.in-Ok-Some.service) asks).1

pub returns-clause-output : goal.returns-clause-output
returns-clause-output g c none =
    let asks : AsksService (map (string_bytes {Z = Global}) c.args.words.now) (service_of c.in-Ok-Some.service) = rw c.in-Ok-Some.field-0-is at c.in-Ok-Some.ensures in
    absurd (none (service_of c.in-Ok-Some.service) asks)

pub returns-clause-usage : goal.returns-clause-usage
returns-clause-usage g c none =
    let asks : AsksService (map (string_bytes {Z = Global}) c.args.words.now) (service_of c.in-Ok-Some.service) = rw c.in-Ok-Some.field-0-is at c.in-Ok-Some.ensures in
    absurd (none (service_of c.in-Ok-Some.service) asks)

pub returns-clause-shelf_failed : goal.returns-clause-shelf_failed
returns-clause-shelf_failed g c none =
    let asks : AsksService (map (string_bytes {Z = Global}) c.args.words.now) (service_of c.in-Ok-Some.service) = rw c.in-Ok-Some.field-0-is at c.in-Ok-Some.ensures in
    absurd (none (service_of c.in-Ok-Some.service) asks)

pub returns-clause-nothing : goal.returns-clause-nothing
returns-clause-nothing g c none =
    let asks : AsksService (map (string_bytes {Z = Global}) c.args.words.now) (service_of c.in-Ok-Some.service) = rw c.in-Ok-Some.field-0-is at c.in-Ok-Some.ensures in
    absurd (none (service_of c.in-Ok-Some.service) asks)

pub returns-clause-others_stand : goal.returns-clause-others_stand
returns-clause-others_stand g c none =
    let asks : AsksService (map (string_bytes {Z = Global}) c.args.words.now) (service_of c.in-Ok-Some.service) = rw c.in-Ok-Some.field-0-is at c.in-Ok-Some.ensures in
    absurd (none (service_of c.in-Ok-Some.service) asks)

pub returns-clause-prefix : goal.returns-clause-prefix
returns-clause-prefix g c none =
    let asks : AsksService (map (string_bytes {Z = Global}) c.args.words.now) (service_of c.in-Ok-Some.service) = rw c.in-Ok-Some.field-0-is at c.in-Ok-Some.ensures in
    absurd (none (service_of c.in-Ok-Some.service) asks)

pub returns-clause-relatively_correct : goal.returns-clause-relatively_correct
returns-clause-relatively_correct g c =
    let asks : AsksService (map (string_bytes {Z = Global}) c.args.words.now) (service_of c.in-Ok-Some.service) = rw c.in-Ok-Some.field-0-is at c.in-Ok-Some.ensures in
    no_verdict c.words_ask_for_no_service_beside.ensures (map (string_bytes {Z = Global}) c.args.words.now) (service_of c.in-Ok-Some.service) asks (g.F.Shelf.told c.args.shelf.now) (g.O.Sink.taken c.args.out.now) (g.O.Sink.taken c.serve.new.out)

pub returns-clause-accepted : goal.returns-clause-accepted
returns-clause-accepted g c =
    let asks : AsksService (map (string_bytes {Z = Global}) c.args.words.now) (service_of c.in-Ok-Some.service) = rw c.in-Ok-Some.field-0-is at c.in-Ok-Some.ensures in
    no_proof c.words_ask_for_no_service_beside.ensures (map (string_bytes {Z = Global}) c.args.words.now) (service_of c.in-Ok-Some.service) asks (g.F.Shelf.told c.args.shelf.now) c.serve.result

pub returns-clause-regression : goal.returns-clause-regression
returns-clause-regression g c =
    let asks : AsksService (map (string_bytes {Z = Global}) c.args.words.now) (service_of c.in-Ok-Some.service) = rw c.in-Ok-Some.field-0-is at c.in-Ok-Some.ensures in
    no_regression c.words_ask_for_no_service_beside.ensures (map (string_bytes {Z = Global}) c.args.words.now) (service_of c.in-Ok-Some.service) asks (g.F.Shelf.told c.args.shelf.now) (g.O.Sink.taken c.args.out.now) (g.O.Sink.taken c.serve.new.out) c.serve.result

pub returns-clause-service_statuses : goal.returns-clause-service_statuses
returns-clause-service_statuses g c asked asks = c.serve.ensures.statuses

pub returns-clause-outside_failed : goal.returns-clause-outside_failed
returns-clause-outside_failed g c asked asks = c.serve.ensures.outside_failed

pub returns-clause-door_failed : goal.returns-clause-door_failed
returns-clause-door_failed g c asked asks = c.serve.ensures.door_failed

pub returns-clause-door_stands : goal.returns-clause-door_stands
returns-clause-door_stands g c asked asks = c.serve.ensures.door_stands

pub returns-clause-vault_stands : goal.returns-clause-vault_stands
returns-clause-vault_stands g c asked asks = c.serve.ensures.vault_stands

pub returns-clause-steady_stands : goal.returns-clause-steady_stands
returns-clause-steady_stands g c asked asks = c.serve.ensures.steady_stands

pub returns-clause-complete : goal.returns-clause-complete
returns-clause-complete g c asked asks = c.serve.ensures.complete

pub returns-clause-listens : goal.returns-clause-listens
returns-clause-listens g c asked asks = c.serve.ensures.listens

pub returns-clause-all_back : goal.returns-clause-all_back
returns-clause-all_back g c asked asks = c.serve.ensures.all_back

pub returns-clause-unread : goal.returns-clause-unread
returns-clause-unread g c asked asks = refl

pub returns-clause-unserved : goal.returns-clause-unserved
returns-clause-unserved g c asked asks memory = (c.serve.ensures.memory memory).1

pub returns-clause-not_begun : goal.returns-clause-not_begun
returns-clause-not_begun g c asked asks_too =
    let asks : AsksService (map (string_bytes {Z = Global}) c.args.words.now) (service_of c.in-Ok-Some.service) = rw c.in-Ok-Some.field-0-is at c.in-Ok-Some.ensures in
    rw (c.words_ask_for_one_service.ensures (map (string_bytes {Z = Global}) c.args.words.now) asked (service_of c.in-Ok-Some.service) asks_too asks) c.serve.ensures.not_begun

pub returns-clause-whole : goal.returns-clause-whole
returns-clause-whole g c asked asks_too =
    let asks : AsksService (map (string_bytes {Z = Global}) c.args.words.now) (service_of c.in-Ok-Some.service) = rw c.in-Ok-Some.field-0-is at c.in-Ok-Some.ensures in
    rw (c.words_ask_for_one_service.ensures (map (string_bytes {Z = Global}) c.args.words.now) asked (service_of c.in-Ok-Some.service) asks_too asks) c.serve.ensures.whole

pub returns-clause-front : goal.returns-clause-front
returns-clause-front g c asked asks_too =
    let asks : AsksService (map (string_bytes {Z = Global}) c.args.words.now) (service_of c.in-Ok-Some.service) = rw c.in-Ok-Some.field-0-is at c.in-Ok-Some.ensures in
    rw (c.words_ask_for_one_service.ensures (map (string_bytes {Z = Global}) c.args.words.now) asked (service_of c.in-Ok-Some.service) asks_too asks) c.serve.ensures.prefix

pub returns-clause-served : goal.returns-clause-served
returns-clause-served g c asked asks_too =
    let asks : AsksService (map (string_bytes {Z = Global}) c.args.words.now) (service_of c.in-Ok-Some.service) = rw c.in-Ok-Some.field-0-is at c.in-Ok-Some.ensures in
    rw (c.words_ask_for_one_service.ensures (map (string_bytes {Z = Global}) c.args.words.now) asked (service_of c.in-Ok-Some.service) asks_too asks) c.serve.ensures.served
