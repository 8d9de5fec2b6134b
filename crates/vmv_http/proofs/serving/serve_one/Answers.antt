-- What was written tells what was handled, which is what the input asks for.
use Rattle.std.proofs.Common.{◌≡◌, ℕ, List, Option, OnErr, subst}
use Rattle.vmv_edge.specs.Outside.{Appended, AppendedFront}
use Rattle.vmv_http.specs.Exchanges.{Answer, status_of, text_of}
use Rattle.vmv_http.specs.Serving.{IsAnswerBy}
use Rattle.vmv_http.proofs.Exchanging.{served_as, answer_by, unanswered_by, unread_by}
use Rattle.vmv_http.proofs.serving.serve_one.Goals as goal

pub returns-in-Ok-clause-answered : goal.returns-in-Ok-clause-answered
returns-in-Ok-clause-answered g c =
    let judge = c.args.judge.now in
    let I = g.J.Judge.inspected judge in
    let C = g.J.Judge.compared judge in
    let input = g.L.Link.input c.args.link.now in
    let start = g.L.Link.written c.args.link.now in
    let mid = g.L.Link.written c.read_request.new.link in
    let end = g.L.Link.written c.send.new.link in
    let old = g.K.Keeper.told c.args.desk.now in
    let now = g.K.Keeper.told c.answer-answer.new.desk in
    let answer = c.answer-answer.result in
    let P : Option (List ℕ) → Type 0 = λ w. Appended w (text_of answer) end in
    let by = answer_by I C input old now c.in-Ok.asked answer c.in-Ok.ensures.asked c.answer-answer.ensures.may c.answer-answer.ensures.exchanged in
    served_as c.send.result (λ status. (status ≡ status_of answer) × Appended mid (text_of answer) end)
    (λ status. (x : Answer) × (status ≡ status_of x) × Appended start (text_of x) end × IsAnswerBy I C input old now x × OnErr x (c.answer-answer.new.desk ≡ c.args.desk.now))
    c.send.ensures.answered (λ status h. (answer, h.0, subst P c.in-Ok.ensures.kept h.1, by, c.answer-answer.ensures.refused))

pub returns-in-Ok-clause-cut_answer : goal.returns-in-Ok-clause-cut_answer
returns-in-Ok-clause-cut_answer g c cut =
    let judge = c.args.judge.now in
    let answer = c.answer-answer.result in
    let P : Option (List ℕ) → Type 0 = λ w. AppendedFront w (text_of answer) (g.L.Link.written c.send.new.link) in
    let by = answer_by (g.J.Judge.inspected judge) (g.J.Judge.compared judge) (g.L.Link.input c.args.link.now) (g.K.Keeper.told c.args.desk.now)
    (g.K.Keeper.told c.answer-answer.new.desk) c.in-Ok.asked answer c.in-Ok.ensures.asked c.answer-answer.ensures.may c.answer-answer.ensures.exchanged in
    (answer, subst P c.in-Ok.ensures.kept (c.send.ensures.prefix cut), by, c.answer-answer.ensures.refused, c.answer-answer.ensures.counted)

pub returns-in-Ok-clause-unanswered : goal.returns-in-Ok-clause-unanswered
returns-in-Ok-clause-unanswered g c none =
    let judge = c.args.judge.now in
    let I = g.J.Judge.inspected judge in
    let C = g.J.Judge.compared judge in
    let input = g.L.Link.input c.args.link.now in
    let old = g.K.Keeper.told c.args.desk.now in
    let now = g.K.Keeper.told c.answer-answer.new.desk in
    unanswered_by I C input old now c.answer-answer.result
    (answer_by I C input old now c.in-Ok.asked c.answer-answer.result c.in-Ok.ensures.asked c.answer-answer.ensures.may c.answer-answer.ensures.exchanged)

pub returns-in-Err-Memory-clause-unanswered : goal.returns-in-Err-Memory-clause-unanswered
returns-in-Err-Memory-clause-unanswered g c none =
    let judge = c.args.judge.now in
    unread_by (g.J.Judge.inspected judge) (g.J.Judge.compared judge) (g.L.Link.input c.args.link.now) (g.K.Keeper.told c.args.desk.now)
