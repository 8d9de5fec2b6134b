use Rattle.std.proofs.Common.{◌∷◌, []}
use Rattle.std.proofs.lemmas.Bool.{iff_false}
use Rattle.vmv_proof_line.proofs.Fields.{name_words, name_none, name_more, name_told}
use Rattle.vmv_proof_line.proofs.names.told_name.Goals as goal

pub returns-in_default : goal.returns-in_default
returns-in_default c = λ name h. c.in_default.ensures.none (name ∷ []) (name_words c.args.word.now c.args.line.now name c.requires h)

pub returns-in_default-next_name : goal.returns-in_default-next_name
returns-in_default-next_name c =
    name_none c.args.word.now c.args.line.now c.in-Some.words c.requires c.in-Some.ensures.some c.in_default-next_name.ensures

pub returns-then-not-is_done : goal.returns-then-not-is_done
returns-then-not-is_done c =
    let taken = c.in-Some-next_name.ensures in
    name_more c.args.word.now c.args.line.now c.in-Some.words c.next_name.new.self taken.0 c.requires c.in-Some.ensures.some taken.2 (iff_false c.is_done.ensures c.if-not-is_done.true)

pub returns : goal.returns
returns c =
    let taken = c.in-Some-next_name.ensures in
    name_told c.args.word.now c.args.line.now c.in-Some.words c.next_name.new.self taken.0 c.in-Some-next_name.name c.in-Some.ensures.some taken.1 taken.2 (c.is_done.ensures.0 c.if-not-is_done.false)
