use Rattle.std.proofs.Common.{refl}
use Rattle.std.proofs.lemmas.Result.{err_from_is_err_and}
use Rattle.vmv_surface_text.specs.declared.reader.Reader.{Reader}
use Rattle.vmv_surface_text.proofs.Readers.{ended_done, ended_in}
use Rattle.vmv_surface_text.proofs.reader.Reader.close.Goals as goal

pub returns-in_default-clause-reads : goal.returns-in_default-clause-reads
returns-in_default-clause-reads c = λ start d. ended_done start c.args.self.now c.args.self.now c.args.cursor.now d c.in_default.ensures.0 refl

pub returns-in_err-place-clause-reads : goal.returns-in_err-place-clause-reads
returns-in_err-place-clause-reads c = λ start d.
    let p = err_from_is_err_and c.from_residual.result c.from_residual.ensures.1 in
    let q : Reader = record { steps = c.args.self.now.steps; waiting = c.in-Some.open.waiting; opened = c.pop.new.self } in
    rw (p.1, p.2) (c.in_err-place.ensures.reads start (ended_in start c.args.self.now q c.in-Some.open c.args.cursor.now d c.in-Some.ensures refl refl))

pub returns-clause-reads : goal.returns-clause-reads
returns-clause-reads c = λ start d.
    let q : Reader = record { steps = c.args.self.now.steps; waiting = c.in-Some.open.waiting; opened = c.pop.new.self } in
    c.in_ok-place.ensures.reads start (ended_in start c.args.self.now q c.in-Some.open c.args.cursor.now d c.in-Some.ensures refl refl)
