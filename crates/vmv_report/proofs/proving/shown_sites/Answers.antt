use Rattle.std.proofs.Common.{true, map, refl, ◌∙◌, arith}
use Rattle.std.proofs.lemmas.List.{length-map}
use Rattle.std.proofs.lemmas.Option.{slice_get_within}
use Rattle.vmv_snapshot.specs.Procs.{is_entry}
use Rattle.vmv_snapshot.specs.Resolution.{procs_of}
use Rattle.vmv_assumption.specs.Whole.{whole}
use Rattle.vmv_assumption.specs.Assumed.{cond_of}
use Rattle.vmv_report.specs.Work.{review_of}
use Rattle.vmv_report.proofs.Listing.{sites_of_none}
use Rattle.vmv_report.proofs.Reading.{some_shown, own_shown, unproved_by, of_found, of_none}
use Rattle.vmv_report.proofs.proving.shown_sites.Goals as goal

pub proc_name-name-requires : goal.proc_name-name-requires
proc_name-name-requires c =
    let procs = procs_of c.args.judging.now.revision.now in
    omega (arith, slice_get_within (map is_entry procs) c.args.entry.0 true c.requires.entry, length-map procs is_entry)

pub unreachable-requires : goal.unreachable-requires
unreachable-requires c =
    let j = c.args.judging.now in
    let some = some_shown j.revision.now j.ends.now (cond_of j.needed.now) c.args.shown.now c.requires.shown c.args.entry.0 c.proc_name-name.result c.proc_name-name.ensures c.requires.entry in
    of_none c.shown_for.result c.shown_for.ensures.none c.in_default.is some.0 some.1 some.2

pub returns-then-is_empty : goal.returns-then-is_empty
returns-then-is_empty c =
    let j = c.args.judging.now in
    let is = c.requires.ready.is_resolution in
    let found = of_found c.args.shown.now c.proc_name-name.result c.shown_for.result c.in-Some.own c.shown_for.ensures.some c.in-Some.is in
    let own = own_shown j.revision.now j.ends.now (cond_of j.needed.now) c.args.shown.now c.requires.shown c.args.entry.0 c.proc_name-name.result c.proc_name-name.ensures is c.in-Some.own.now found.0 found.1 in
    sites_of_none (review_of j) c.args.entry.0 (λ name. whole) _ _ _ refl (c.is_empty.ensures.0 c.if-is_empty.true) c.new.ensures c.new-then-is_empty.ensures
    (unproved_by c.least_tables_have_rows.ensures c.least_tables_decide_proof.ensures j.revision.now c.args.entry.0 own.params j.ends.now (λ name. whole) c.in-Some.own.now.plain.rows c.in_ok-always.always is own.entry own.plain
    (λ first rest e. c.in_ok-always.ensures first rest (c.as_slice.ensures ∙ e)))

pub with_runs-requires-clause-some : goal.with_runs-requires-clause-some
with_runs-requires-clause-some c = λ e. let t = c.is_empty.ensures.1 e in let f = c.if-is_empty.false in absurd (cc)

pub with_runs-requires-clause-always : goal.with_runs-requires-clause-always
with_runs-requires-clause-always c =
    let j = c.args.judging.now in
    let is = c.requires.ready.is_resolution in
    let found = of_found c.args.shown.now c.proc_name-name.result c.shown_for.result c.in-Some.own c.shown_for.ensures.some c.in-Some.is in
    let own = own_shown j.revision.now j.ends.now (cond_of j.needed.now) c.args.shown.now c.requires.shown c.args.entry.0 c.proc_name-name.result c.proc_name-name.ensures is c.in-Some.own.now found.0 found.1 in
    unproved_by c.least_tables_have_rows.ensures c.least_tables_decide_proof.ensures j.revision.now c.args.entry.0 own.params j.ends.now (λ name. whole) c.in-Some.own.now.plain.rows c.in_ok-always.always is own.entry own.plain
    (λ first rest e. c.in_ok-always.ensures first rest (c.as_slice.ensures ∙ e))

pub with_runs-requires-clause-relative : goal.with_runs-requires-clause-relative
with_runs-requires-clause-relative c =
    let j = c.args.judging.now in
    let is = c.requires.ready.is_resolution in
    let found = of_found c.args.shown.now c.proc_name-name.result c.shown_for.result c.in-Some.own c.shown_for.ensures.some c.in-Some.is in
    let own = own_shown j.revision.now j.ends.now (cond_of j.needed.now) c.args.shown.now c.requires.shown c.args.entry.0 c.proc_name-name.result c.proc_name-name.ensures is c.in-Some.own.now found.0 found.1 in
    unproved_by c.least_tables_have_rows.ensures c.least_tables_decide_proof.ensures j.revision.now c.args.entry.0 own.params j.ends.now (cond_of j.needed.now) c.in-Some.own.now.given.rows c.in_ok-relative.relative is own.entry own.given
    (λ first rest e. c.in_ok-relative.ensures first rest (c.as_slice-2.ensures ∙ e))
