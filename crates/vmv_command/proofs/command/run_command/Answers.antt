use Rattle.std.proofs.Common.{inl, inr, map, refl, Global}
use Rattle.std.specs.String.{string_bytes}
use Rattle.vmv_report.specs.Texts.{line}
use Rattle.vmv_words.specs.Words.{review, recheck, AsksNothing}
use Rattle.vmv_words.specs.Requests.{request_of}
use Rattle.vmv_command.specs.Command.{usage}
use Rattle.vmv_command.proofs.Verdict.{verdict_holds, nothing_said, some_front}
use Rattle.vmv_command.proofs.Regression.{regression_printed}
use Rattle.vmv_command.proofs.Rechecking.{accepted_holds}
use Rattle.vmv_command.proofs.command.run_command.Goals as goal

pub returns-in-Ok-None-clause-output : goal.returns-in-Ok-None-clause-output
returns-in-Ok-None-clause-output g c whole =
    let nothing : AsksNothing (map (string_bytes {Z = Global}) c.args.words.now) = rw c.in-Ok-None.field-0-is at c.in-Ok-None.ensures in
    (line usage, inl (nothing, (refl, c.print.ensures.status whole.1)), c.print.ensures.written whole.1)

pub returns-in-Ok-None-clause-prefix : goal.returns-in-Ok-None-clause-prefix
returns-in-Ok-None-clause-prefix g c failed =
    let nothing : AsksNothing (map (string_bytes {Z = Global}) c.args.words.now) = rw c.in-Ok-None.field-0-is at c.in-Ok-None.ensures in
    (line usage, 9, inl (nothing, (refl, refl)), c.print.ensures.prefix failed)

pub returns-in-Ok-None-clause-relatively_correct : goal.returns-in-Ok-None-clause-relatively_correct
returns-in-Ok-None-clause-relatively_correct g c b r base revision old printed B R (count, proved, asks) =
    let nothing : AsksNothing (map (string_bytes {Z = Global}) c.args.words.now) = rw c.in-Ok-None.field-0-is at c.in-Ok-None.ensures in
    absurd (nothing (review b r count proved) asks)

pub returns-in-Err-clause-relatively_correct : goal.returns-in-Err-clause-relatively_correct
returns-in-Err-clause-relatively_correct g c b r base revision old printed B R review_is told_b told_r text_b text_r was is said =
    absurd (nothing_said (g.O.Sink.taken c.args.out.now) old printed was is said)

pub returns-in-Ok-clause-usage : goal.returns-in-Ok-clause-usage
returns-in-Ok-clause-usage g c nothing = absurd (nothing (request_of c.in-Ok-Some.request) (rw c.in-Ok-Some.field-0-is at c.in-Ok-Some.ensures))

pub returns-in-Ok-clause-prefix : goal.returns-in-Ok-clause-prefix
returns-in-Ok-clause-prefix g c failed = (
  c.in-Ok.output.text,
  c.in-Ok.output.status,
  inr (request_of c.in-Ok-Some.request, rw c.in-Ok-Some.field-0-is at c.in-Ok-Some.ensures, c.in-Ok.ensures.output),
  rw c.bytes.ensures at (c.print-in-Ok.ensures.prefix failed),
)

pub returns-in-Ok-clause-relatively_correct : goal.returns-in-Ok-clause-relatively_correct
returns-in-Ok-clause-relatively_correct g c =
    let front = rw c.bytes.ensures at (some_front c.print-in-Ok.result (g.O.Sink.taken c.args.out.now) (g.O.Sink.taken c.print-in-Ok.new.out) c.bytes.result.now
    c.print-in-Ok.ensures.prefix c.print-in-Ok.ensures.written) in
    verdict_holds (record { holds = c.correct_verdicts_hold.ensures; said = c.only_correct_reports_say_so.ensures }) c.words_ask_for_one_thing.ensures (request_of c.in-Ok-Some.request)
    (map (string_bytes {Z = Global}) c.args.words.now) (g.F.Shelf.told c.args.shelf.now) (g.O.Sink.taken c.args.out.now) (g.O.Sink.taken c.print-in-Ok.new.out) c.in-Ok.output.text c.in-Ok.output.status
    (rw c.in-Ok-Some.field-0-is at c.in-Ok-Some.ensures) c.in-Ok.ensures.output front

pub returns-in-Ok-clause-regression : goal.returns-in-Ok-clause-regression
returns-in-Ok-clause-regression g c =
    regression_printed c.regressing_reports_show_it.ensures c.words_ask_for_one_thing.ensures (request_of c.in-Ok-Some.request) (map (string_bytes {Z = Global}) c.args.words.now)
    (g.F.Shelf.told c.args.shelf.now) (g.O.Sink.taken c.args.out.now) (g.O.Sink.taken c.print-in-Ok.new.out) c.in-Ok.output.text c.in-Ok.output.status c.print-in-Ok.result
    (rw c.in-Ok-Some.field-0-is at c.in-Ok-Some.ensures) c.in-Ok.ensures.output c.print-in-Ok.ensures.status (λ whole. rw c.bytes.ensures at (c.print-in-Ok.ensures.written whole))

pub returns-in-Err-Failed-clause-usage : goal.returns-in-Err-Failed-clause-usage
returns-in-Err-Failed-clause-usage g c nothing = absurd (nothing (request_of c.in-Ok-Some.request) (rw c.in-Ok-Some.field-0-is at c.in-Ok-Some.ensures))

pub returns-in-Err-Failed-clause-relatively_correct : goal.returns-in-Err-Failed-clause-relatively_correct
returns-in-Err-Failed-clause-relatively_correct g c b r base revision old printed B R review_is told_b told_r text_b text_r was is said =
    absurd (nothing_said (g.O.Sink.taken c.args.out.now) old printed was is said)

pub returns-in-Err-Memory-clause-relatively_correct : goal.returns-in-Err-Memory-clause-relatively_correct
returns-in-Err-Memory-clause-relatively_correct g c b r base revision old printed B R review_is told_b told_r text_b text_r was is said =
    absurd (nothing_said (g.O.Sink.taken c.args.out.now) old printed was is said)

pub returns-in-Ok-clause-accepted : goal.returns-in-Ok-clause-accepted
returns-in-Ok-clause-accepted g c =
    accepted_holds c.accepted_proofs_are_sound.ensures c.words_ask_for_one_thing.ensures (request_of c.in-Ok-Some.request) (map (string_bytes {Z = Global}) c.args.words.now) (g.F.Shelf.told c.args.shelf.now)
    c.in-Ok.output.text c.in-Ok.output.status c.print-in-Ok.result (rw c.in-Ok-Some.field-0-is at c.in-Ok-Some.ensures) c.in-Ok.ensures.output c.print-in-Ok.ensures.status

pub returns-in-Ok-None-clause-accepted : goal.returns-in-Ok-None-clause-accepted
returns-in-Ok-None-clause-accepted g c b r base revision B R (proof_name, asks) =
    let nothing : AsksNothing (map (string_bytes {Z = Global}) c.args.words.now) = rw c.in-Ok-None.field-0-is at c.in-Ok-None.ensures in
    absurd (nothing (recheck b r proof_name) asks)

pub output_of-requires-after_bounds : goal.output_of-requires-after_bounds
output_of-requires-after_bounds g c κs within =
    c.words_ask_for_few_workers.ensures (map (string_bytes {Z = Global}) c.args.words.now) (request_of c.in-Ok-Some.request) (rw c.in-Ok-Some.field-0-is at c.in-Ok-Some.ensures)
