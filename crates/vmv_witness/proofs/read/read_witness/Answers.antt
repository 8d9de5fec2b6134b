use Rattle.std.proofs.Common.{◌≡◌, ◌+◌, length, map, sym, subst, ◌∙◌, arith}
use Rattle.std.specs.Prelude.{codes}
use Rattle.std.specs.Fmt.{decimal}
use Rattle.std.proofs.lemmas.List.{length-map}
use Rattle.std.proofs.lemmas.Result.{err_from_is_err_and}
use Rattle.vmv_witness.specs.Text.{param_pair, answer_pair, entry_line, site_line}
use Rattle.vmv_witness.specs.Reading.{NoLine}
use Rattle.vmv_witness.proofs.Exits.{head_line}
use Rattle.vmv_witness.proofs.PairLists.{pairs_within, line_shorter}
use Rattle.vmv_witness.proofs.Whole.{head_read, params_read, why_head, why_entry, why_site, why_params, why_answers, why_end, whole_read}
use Rattle.vmv_witness.proofs.read.read_witness.Goals as goal

pub returns-then-not-take_line-clause-fault : goal.returns-then-not-take_line-clause-fault
returns-then-not-take_line-clause-fault c = why_head c.args.text.now c.if-text-gt-MOST.false (subst (NoLine head_line) c.new-lines.ensures c.if-not-take_line.ensures.none)

pub returns-in_err-entry-clause-fault : goal.returns-in_err-entry-clause-fault
returns-in_err-entry-clause-fault c =
    let p = err_from_is_err_and c.from_residual.result c.from_residual.ensures.1 in
    let small = c.if-text-gt-MOST.false in
    let e = sym c.new-lines.ensures ∙ c.if-not-take_line.ensures.some in
    rw (p.1, p.2) (why_entry c.args.text.now c.take_line.new.self c.take_entry.new.self c.in_err-entry.field-0.0 small e c.in_err-entry.ensures)

pub returns-in_err-site-clause-fault : goal.returns-in_err-site-clause-fault
returns-in_err-site-clause-fault c =
    let p = err_from_is_err_and c.from_residual-in_err-site.result c.from_residual-in_err-site.ensures.1 in
    let small = c.if-text-gt-MOST.false in
    let e = sym c.new-lines.ensures ∙ c.if-not-take_line.ensures.some in
    rw (p.1, p.2) (why_site c.args.text.now c.take_line.new.self c.take_entry.new.self c.take_site.new.self c.in_ok-entry.entry c.in_err-site.field-0.0 small e c.in_ok-entry.ensures.0 c.in_ok-entry.ensures.1 c.in_err-site.ensures)

pub returns-in_err-params-clause-fault : goal.returns-in_err-params-clause-fault
returns-in_err-params-clause-fault c =
    let p = err_from_is_err_and c.from_residual-in_err-params.result c.from_residual-in_err-params.ensures.1 in
    let small = c.if-text-gt-MOST.false in
    let e = sym c.new-lines.ensures ∙ c.if-not-take_line.ensures.some in
    let h = head_read c.args.text.now c.take_line.new.self c.take_entry.new.self c.take_site.new.self c.in_ok-entry.entry c.in_ok-site.site.proc (decimal c.in_ok-site.site.index) e c.in_ok-entry.ensures.0 c.in_ok-entry.ensures.1 c.in_ok-site.ensures.0 c.in_ok-site.ensures.1 c.in_ok-site.ensures.2 in
    rw (p.1, p.2) (why_params c.args.text.now c.in_ok-entry.entry c.in_ok-site.site.proc (decimal c.in_ok-site.site.index) c.in_err-params.ensures.0 c.take_site.new.self c.in_err-params.ensures.1 c.in_err-params.field-0.0 small h c.in_err-params.ensures.2 c.in_err-params.ensures.3)

pub read_answers-requires : goal.read_answers-requires
read_answers-requires c =
    let small = c.if-text-gt-MOST.false in
    let e = sym c.new-lines.ensures ∙ c.if-not-take_line.ensures.some in
    let one = line_shorter head_line c.args.text.now c.take_line.new.self e in
    let two = line_shorter (entry_line c.in_ok-entry.entry) c.take_line.new.self c.take_entry.new.self c.in_ok-entry.ensures.1 in
    let three = line_shorter (site_line c.in_ok-site.site.proc (decimal c.in_ok-site.site.index)) c.take_entry.new.self c.take_site.new.self c.in_ok-site.ensures.2 in
    let within = pairs_within (codes "param ") c.take_site.new.self (map param_pair c.in_ok-params.params) c.read_params.new.lines c.in_ok-params.ensures.0 in
    let few : length (map param_pair c.in_ok-params.params) ≡ length c.in_ok-params.params = length-map c.in_ok-params.params param_pair in
    omega arith

pub returns-in_err-answers-clause-fault : goal.returns-in_err-answers-clause-fault
returns-in_err-answers-clause-fault c =
    let p = err_from_is_err_and c.from_residual-in_err-answers.result c.from_residual-in_err-answers.ensures.1 in
    let small = c.if-text-gt-MOST.false in
    let e = sym c.new-lines.ensures ∙ c.if-not-take_line.ensures.some in
    let h = head_read c.args.text.now c.take_line.new.self c.take_entry.new.self c.take_site.new.self c.in_ok-entry.entry c.in_ok-site.site.proc (decimal c.in_ok-site.site.index) e c.in_ok-entry.ensures.0 c.in_ok-entry.ensures.1 c.in_ok-site.ensures.0 c.in_ok-site.ensures.1 c.in_ok-site.ensures.2 in
    let r = params_read c.args.text.now c.in_ok-entry.entry c.in_ok-site.site.proc (decimal c.in_ok-site.site.index) (map param_pair c.in_ok-params.params) c.take_site.new.self c.read_params.new.lines h c.in_ok-params.ensures.0 in
    let few : length (map param_pair c.in_ok-params.params) ≡ length c.in_ok-params.params = length-map c.in_ok-params.params param_pair in
    rw (p.1, p.2) (why_answers c.args.text.now c.in_ok-entry.entry c.in_ok-site.site.proc (decimal c.in_ok-site.site.index) (map param_pair c.in_ok-params.params) c.in_err-answers.ensures.0 c.read_params.new.lines c.in_err-answers.ensures.1 (4 + c.len-first.result) c.in_err-answers.field-0.0 small (omega arith) r c.in_err-answers.ensures.2 c.in_err-answers.ensures.3)

pub take_end-requires : goal.take_end-requires
take_end-requires c =
    let small = c.if-text-gt-MOST.false in
    let e = sym c.new-lines.ensures ∙ c.if-not-take_line.ensures.some in
    let one = line_shorter head_line c.args.text.now c.take_line.new.self e in
    let two = line_shorter (entry_line c.in_ok-entry.entry) c.take_line.new.self c.take_entry.new.self c.in_ok-entry.ensures.1 in
    let three = line_shorter (site_line c.in_ok-site.site.proc (decimal c.in_ok-site.site.index)) c.take_entry.new.self c.take_site.new.self c.in_ok-site.ensures.2 in
    let within = pairs_within (codes "param ") c.take_site.new.self (map param_pair c.in_ok-params.params) c.read_params.new.lines c.in_ok-params.ensures.0 in
    let behind = pairs_within (codes "answer ") c.read_params.new.lines (map answer_pair c.in_ok-answers.answers) c.read_answers.new.lines c.in_ok-answers.ensures.0 in
    let few : length (map param_pair c.in_ok-params.params) ≡ length c.in_ok-params.params = length-map c.in_ok-params.params param_pair in
    let some : length (map answer_pair c.in_ok-answers.answers) ≡ length c.in_ok-answers.answers = length-map c.in_ok-answers.answers answer_pair in
    omega arith

pub returns-in_err-take_end-clause-fault : goal.returns-in_err-take_end-clause-fault
returns-in_err-take_end-clause-fault c =
    let p = err_from_is_err_and c.from_residual-in_err-take_end.result c.from_residual-in_err-take_end.ensures.1 in
    let small = c.if-text-gt-MOST.false in
    let e = sym c.new-lines.ensures ∙ c.if-not-take_line.ensures.some in
    let h = head_read c.args.text.now c.take_line.new.self c.take_entry.new.self c.take_site.new.self c.in_ok-entry.entry c.in_ok-site.site.proc (decimal c.in_ok-site.site.index) e c.in_ok-entry.ensures.0 c.in_ok-entry.ensures.1 c.in_ok-site.ensures.0 c.in_ok-site.ensures.1 c.in_ok-site.ensures.2 in
    let r = params_read c.args.text.now c.in_ok-entry.entry c.in_ok-site.site.proc (decimal c.in_ok-site.site.index) (map param_pair c.in_ok-params.params) c.take_site.new.self c.read_params.new.lines h c.in_ok-params.ensures.0 in
    let few : length (map param_pair c.in_ok-params.params) ≡ length c.in_ok-params.params = length-map c.in_ok-params.params param_pair in
    let some : length (map answer_pair c.in_ok-answers.answers) ≡ length c.in_ok-answers.answers = length-map c.in_ok-answers.answers answer_pair in
    rw (p.1, p.2) (why_end c.args.text.now c.in_ok-entry.entry c.in_ok-site.site.proc (decimal c.in_ok-site.site.index) (map param_pair c.in_ok-params.params) (map answer_pair c.in_ok-answers.answers) c.read_params.new.lines c.read_answers.new.lines (4 + c.len-first.result + c.len.result) c.in_err-take_end.field-0.0 small (omega arith) r c.in_ok-params.ensures.1 c.in_ok-answers.ensures.0 c.in_ok-answers.ensures.1 c.in_err-take_end.ensures)

pub returns-clause-ok : goal.returns-clause-ok
returns-clause-ok c =
    let e = sym c.new-lines.ensures ∙ c.if-not-take_line.ensures.some in
    let site = c.in_ok-site.site in
    let h = head_read c.args.text.now c.take_line.new.self c.take_entry.new.self c.take_site.new.self c.in_ok-entry.entry site.proc (decimal site.index) e c.in_ok-entry.ensures.0 c.in_ok-entry.ensures.1 c.in_ok-site.ensures.0 c.in_ok-site.ensures.1 c.in_ok-site.ensures.2 in
    let r = params_read c.args.text.now c.in_ok-entry.entry site.proc (decimal site.index) (map param_pair c.in_ok-params.params) c.take_site.new.self c.read_params.new.lines h c.in_ok-params.ensures.0 in (
      c.if-text-gt-MOST.false,
      whole_read c.args.text.now (record { entry = c.in_ok-entry.entry; params = c.in_ok-params.params; answers = c.in_ok-answers.answers; site = site })
          c.read_params.new.lines c.read_answers.new.lines r c.in_ok-answers.ensures.0 c.in_ok-take_end.ensures,
    )
