use Rattle.std.proofs.Common.{◌∷◌, [], refl, ◌++◌}
use Rattle.std.specs.Prelude.{codes}
use Rattle.std.proofs.lemmas.Bool.{false≢true}
use Rattle.vmv_proof_line.proofs.Fields.{behind}
use Rattle.vmv_proof_line.proofs.Heads.{fields, loose_head, behind_entry, behind_names, under_loosely, head_loosely}
use Rattle.vmv_proof_line.proofs.exclude.is_exclude_loosely.Goals as goal

pub returns-in_default : goal.returns-in_default
returns-in_default c = (λ t. absurd (false≢true t), λ h. let r = loose_head c.args.line.now h in absurd (c.in_default.ensures.none (fields r.entry r.name r.piece r.under) r.words))

pub returns-in_default-next_name : goal.returns-in_default-next_name
returns-in_default-next_name c = (
  λ t. absurd (false≢true t),
  λ h. let r = loose_head c.args.line.now h in
      absurd (c.in_default-next_name.ensures r.entry r.entry (r.name ∷ (r.piece ++ codes "under" ∷ r.under ∷ [])) (r.entry_name, refl)
      (behind c.args.line.now (codes "exclude") c.in-Some.words _ c.in-Some.ensures.some r.words)),
)

pub returns-in_default-next_name-2 : goal.returns-in_default-next_name-2
returns-in_default-next_name-2 c = (
  λ t. absurd (false≢true t),
  λ h. let r = loose_head c.args.line.now h in
      let one = c.in-Some-next_name.ensures in
      absurd (c.in_default-next_name-2.ensures r.name r.name (r.piece ++ codes "under" ∷ r.under ∷ []) (r.name_name, refl)
      (behind_entry c.args.line.now c.in-Some.words c.next_name.new.self one.0 r.entry r.name _ c.in-Some.ensures.some one.2 r.words)),
)

pub returns-then-not-takes_piece_loosely : goal.returns-then-not-takes_piece_loosely
returns-then-not-takes_piece_loosely c = (
  λ t. absurd (false≢true t),
  λ h. let r = loose_head c.args.line.now h in
      let one = c.in-Some-next_name.ensures in
      let two = c.in-Some-next_name-2.ensures in
      absurd (c.if-not-takes_piece_loosely.ensures r.piece (codes "under" ∷ r.under ∷ []) r.pieced
      (behind_names c.args.line.now c.in-Some.words c.next_name.new.self c.next_name-2.new.self one.0 two.0 r.entry r.name _ c.in-Some.ensures.some one.2 two.2 r.words)),
)

pub returns-then-not-takes : goal.returns-then-not-takes
returns-then-not-takes c = (
  λ t. absurd (false≢true t),
  λ h. let r = loose_head c.args.line.now h in
      let one = c.in-Some-next_name.ensures in
      let two = c.in-Some-next_name-2.ensures in
      let three = c.if-not-takes_piece_loosely.ensures in
      absurd (c.if-not-takes.ensures.no (r.under ∷ [])
      (under_loosely c.args.line.now c.in-Some.words c.next_name.new.self c.next_name-2.new.self c.takes_piece_loosely.new.words one.0 two.0 three.0 c.in-Some.ensures.some one.2 two.2 three.1 three.2 r)),
)

pub returns : goal.returns
returns c =
    let one = c.in-Some-next_name.ensures in
    let two = c.in-Some-next_name-2.ensures in
    let three = c.if-not-takes_piece_loosely.ensures in
    head_loosely c.args.line.now c.in-Some.words c.next_name.new.self c.next_name-2.new.self c.takes_piece_loosely.new.words c.takes.new.self three.0 one.0 two.0
    c.in-Some-next_name.field-0 c.in-Some-next_name-2.field-0 c.is_last_number.result c.in-Some.ensures.some one.1 one.2 two.1 two.2 three.1 three.2 c.if-not-takes.ensures.yes c.is_last_number.ensures
