use Rattle.std.proofs.Common.{◌∷◌, [], refl, ◌++◌, sym, ◌∙◌}
use Rattle.std.specs.Prelude.{codes}
use Rattle.std.specs.Fmt.{decimal}
use Rattle.vmv_proof_line.specs.Shapes.{piece_words}
use Rattle.vmv_proof_line.proofs.Fields.{behind, tails}
use Rattle.vmv_proof_line.proofs.Heads.{fields, head_words, behind_entry, behind_names, under_words, head_told}
use Rattle.vmv_proof_line.proofs.exclude.told_exclude.Goals as goal

pub returns-in_default : goal.returns-in_default
returns-in_default c = λ x h. c.in_default.ensures.none (fields x.entry x.name (piece_words x.piece) (decimal x.under)) (head_words c.args.line.now x.entry x.name x.piece x.under h)

pub returns-in_default-next_name : goal.returns-in_default-next_name
returns-in_default-next_name c =
    λ x h. c.in_default-next_name.ensures x.entry x.entry (x.name ∷ (piece_words x.piece ++ codes "under" ∷ decimal x.under ∷ [])) (h.0, refl)
    (behind c.args.line.now (codes "exclude") c.in-Some.words _ c.in-Some.ensures.some (head_words c.args.line.now x.entry x.name x.piece x.under h))

pub returns-in_default-next_name-2 : goal.returns-in_default-next_name-2
returns-in_default-next_name-2 c =
    λ x h. c.in_default-next_name-2.ensures x.name x.name (piece_words x.piece ++ codes "under" ∷ decimal x.under ∷ []) (h.1, refl)
    (let one = c.in-Some-next_name.ensures in behind_entry c.args.line.now c.in-Some.words c.next_name.new.self one.0 x.entry x.name _ c.in-Some.ensures.some one.2 (head_words c.args.line.now x.entry x.name x.piece x.under h))

pub returns-in_default-next_piece : goal.returns-in_default-next_piece
returns-in_default-next_piece c =
    let one = c.in-Some-next_name.ensures in
    let two = c.in-Some-next_name-2.ensures in
    λ x h. c.in_default-next_piece.ensures x.piece (codes "under" ∷ decimal x.under ∷ []) h.2
    (behind_names c.args.line.now c.in-Some.words c.next_name.new.self c.next_name-2.new.self one.0 two.0 x.entry x.name _ c.in-Some.ensures.some one.2 two.2 (head_words c.args.line.now x.entry x.name x.piece x.under h))

pub returns-then-not-takes : goal.returns-then-not-takes
returns-then-not-takes c =
    let one = c.in-Some-next_name.ensures in
    let two = c.in-Some-next_name-2.ensures in
    let three = c.in-Some-next_piece.ensures in
    λ x h. c.if-not-takes.ensures.no (decimal x.under ∷ [])
    (under_words c.args.line.now c.in-Some.words c.next_name.new.self c.next_name-2.new.self c.next_piece.new.words one.0 two.0 c.in-Some-next_piece.piece c.in-Some.ensures.some one.2 two.2 three.0 three.1 x.entry x.name x.piece x.under h)

pub returns-in_default-last_count : goal.returns-in_default-last_count
returns-in_default-last_count c =
    let one = c.in-Some-next_name.ensures in
    let two = c.in-Some-next_name-2.ensures in
    let three = c.in-Some-next_piece.ensures in
    λ x h. c.in_default-last_count.ensures x.under (decimal x.under) (h.3, refl)
    (tails (codes "under") (codes "under") c.takes.new.self (decimal x.under ∷ []) (sym c.if-not-takes.ensures.yes
    ∙ under_words c.args.line.now c.in-Some.words c.next_name.new.self c.next_name-2.new.self c.next_piece.new.words one.0 two.0 c.in-Some-next_piece.piece c.in-Some.ensures.some one.2 two.2 three.0 three.1 x.entry x.name x.piece x.under h))

pub returns : goal.returns
returns c =
    let one = c.in-Some-next_name.ensures in
    let two = c.in-Some-next_name-2.ensures in
    let three = c.in-Some-next_piece.ensures in
    let last = c.in-Some-last_count.ensures in
    head_told c.args.line.now c.in-Some.words c.next_name.new.self c.next_name-2.new.self c.next_piece.new.words c.takes.new.self one.0 two.0 last.0
    c.in-Some-next_name.entry c.in-Some-next_name-2.name c.in-Some-next_piece.piece c.in-Some-last_count.under
    c.in-Some.ensures.some one.1 one.2 two.1 two.2 three.0 three.1 c.if-not-takes.ensures.yes last.1 last.2
