-- Each piece is printed behind the one before it.
use Rattle.std.proofs.Common.{[], ◌∷◌, ◌++◌}
use Rattle.vmv_edge.specs.Outside.{AppendedFront}
use Rattle.vmv_serve.specs.Lines.{line_of}
use Rattle.vmv_serve.proofs.Printing.{front_behind, front_of, on_refusal, refusal_as}
use Rattle.vmv_serve.proofs.lines.print_line.Goals as goal

pub returns-in_err-write_all-clause-prefix : goal.returns-in_err-write_all-clause-prefix
returns-in_err-write_all-clause-prefix g c =
    let O = g.O.Sink in
    on_refusal c.from_residual.result _ (front_of (O.taken c.args.out.now) (O.taken c.write_all.new.out) c.args.word.now (c.args.said.now ++ 10 ∷ []) c.in_err-write_all.ensures.prefix)

pub returns-in_err-write_all-2-clause-prefix : goal.returns-in_err-write_all-2-clause-prefix
returns-in_err-write_all-2-clause-prefix g c =
    let O = g.O.Sink in
    let said = front_of (O.taken c.write_all.new.out) (O.taken c.write_all-2.new.out) c.args.said.now (10 ∷ []) (rw c.as_bytes.ensures.value at c.in_err-write_all-2.ensures.prefix) in
    on_refusal c.from_residual-in_err-write_all-2.result _
    (front_behind (O.taken c.args.out.now) (O.taken c.write_all.new.out) (O.taken c.write_all-2.new.out) c.args.word.now (c.args.said.now ++ 10 ∷ []) c.in_ok-write_all.ensures.written said)

pub returns-clause-prefix : goal.returns-clause-prefix
returns-clause-prefix g c =
    let O = g.O.Sink in
    let end = O.taken c.write_all-3.new.out in
    refusal_as c.write_all-3.result (AppendedFront (O.taken c.write_all-2.new.out) (10 ∷ []) end) (AppendedFront (O.taken c.args.out.now) (line_of c.args.word.now c.args.said.now) end)
    (λ last. front_behind (O.taken c.args.out.now) (O.taken c.write_all.new.out) end c.args.word.now (c.args.said.now ++ 10 ∷ []) c.in_ok-write_all.ensures.written
    (front_behind (O.taken c.write_all.new.out) (O.taken c.write_all-2.new.out) end c.args.said.now (10 ∷ []) (rw c.as_bytes.ensures.value at c.in_ok-write_all-2.ensures.written) last))
    c.write_all-3.ensures.prefix
