-- An exclusion that is read part by part.
use Rattle.std.proofs.Common.{ℕ, List, [], ◌∷◌, refl, sym}
use Rattle.std.specs.Prelude.{Ok, Err}
use Rattle.std.proofs.lemmas.List.{append-nil}
use Rattle.vmv_cert.specs.Tables.{Box}
use Rattle.vmv_cert.specs.declared.table.Table.{Table}
use Rattle.vmv_proof.specs.declared.proof.Exclusion.{Exclusion}
use Rattle.vmv_proof_text.specs.Parts.{Part, box_part, parts_of_table, parts_of_exclusion}
use Rattle.vmv_proof_line.specs.declared.fault.LineFault.{LineFault}
use Rattle.vmv_proof_line.specs.declared.exclude.ExcludeHead.{ExcludeHead}
use Rattle.vmv_proof_read.specs.Reading.{Reads, Any, only}
use Rattle.vmv_proof_read.proofs.Along.{Follows, Went, begin, on, off, done}
use Rattle.vmv_proof_read.proofs.Singles.{decides_line}
use Rattle.vmv_proof_read.proofs.Steps.{By, And, follows_by}
use Rattle.vmv_proof_read.proofs.Some.{some_table}
use Rattle.vmv_proof_read.proofs.LineLaws.{exclude, one_exclude, one_box}
use Rattle.vmv_proof_read.proofs.Once.{decides_table}

abbrev pub head_of : Exclusion → ExcludeHead
head_of e = record { entry = e.entry; name = e.name; piece = e.piece; under = e.under }

abbrev pub behind_head : Exclusion → List Part
behind_head e = box_part e.within ∷ parts_of_table e.table

abbrev pub behind_box : Exclusion → List Part
behind_box e = parts_of_table e.table

abbrev pub behind_exclusion : Exclusion → List Part
behind_exclusion e = []

abbrev pub Known1 : ExcludeHead → Exclusion → Type 0
Known1 h = And {A = Exclusion} {B = ExcludeHead} (Any {A = Exclusion}) head_of h

abbrev pub Known2 : ExcludeHead → Box → Exclusion → Type 0
Known2 h b = And {A = Exclusion} {B = Box} (Known1 h) (λ e. e.within) b

abbrev pub Known3 : ExcludeHead → Box → Table → Exclusion → Type 0
Known3 h b t = And {A = Exclusion} {B = Table} (Known2 h b) (λ e. e.table) t

abbrev pub Along : (Exclusion → Type 0) → (Exclusion → List Part) → List ℕ → List ℕ → Type 0
Along Q tail text old = Went {A = Exclusion} Any parts_of_exclusion (By Q tail) text old

next_1 : Follows {A = Exclusion} {B = ExcludeHead} Any (only exclude) (By (Any {A = Exclusion}) parts_of_exclusion) (λ (h : ExcludeHead). By (Known1 h) behind_head)
next_1 = follows_by {A = Exclusion} {B = ExcludeHead} Any (only exclude) (Any {A = Exclusion}) parts_of_exclusion behind_head head_of (λ e q. refl) (λ e q. tt) (λ h own. (record { entry = h.entry; within = []; name = h.name; piece = h.piece; under = h.under; table = some_table }, tt, refl))

pub on_1 : (text old new : List ℕ) (h : ExcludeHead) → Along (Any {A = Exclusion}) parts_of_exclusion text old → Reads {A = ExcludeHead} Any (only exclude) old new (Ok h) → Along (Known1 h) behind_head text new
on_1 text old new h w read = on Any parts_of_exclusion (By (Any {A = Exclusion}) parts_of_exclusion) Any (only exclude) (λ (h : ExcludeHead). By (Known1 h) behind_head) text old new h w next_1 (decides_line exclude one_exclude) read

pub off_1 : (text old new : List ℕ) (fault : LineFault) → Along (Any {A = Exclusion}) parts_of_exclusion text old → Reads {A = ExcludeHead} Any (only exclude) old new (Err fault) → Reads {A = Exclusion} Any parts_of_exclusion text new (Err fault)
off_1 text old new fault w read = off Any parts_of_exclusion (By (Any {A = Exclusion}) parts_of_exclusion) Any (only exclude) (λ (h : ExcludeHead). By (Known1 h) behind_head) text old new fault w next_1 read

next_2 : (h : ExcludeHead) → Follows {A = Exclusion} {B = Box} Any (only box_part) (By (Known1 h) behind_head) (λ (b : Box). By (Known2 h b) behind_box)
next_2 h = follows_by {A = Exclusion} {B = Box} Any (only box_part) (Known1 h) behind_head behind_box (λ e. e.within) (λ e q. refl) (λ e q. tt) (λ b own. (record { entry = h.entry; within = b; name = h.name; piece = h.piece; under = h.under; table = some_table }, (tt, refl), refl))

pub on_2 : (text old new : List ℕ) (h : ExcludeHead) (b : Box) → Along (Known1 h) behind_head text old → Reads {A = Box} Any (only box_part) old new (Ok b) → Along (Known2 h b) behind_box text new
on_2 text old new h b w read = on Any parts_of_exclusion (By (Known1 h) behind_head) Any (only box_part) (λ (b : Box). By (Known2 h b) behind_box) text old new b w (next_2 h) (decides_line box_part one_box) read

pub off_2 : (text old new : List ℕ) (h : ExcludeHead) (fault : LineFault) → Along (Known1 h) behind_head text old → Reads {A = Box} Any (only box_part) old new (Err fault) → Reads {A = Exclusion} Any parts_of_exclusion text new (Err fault)
off_2 text old new h fault w read = off Any parts_of_exclusion (By (Known1 h) behind_head) Any (only box_part) (λ (b : Box). By (Known2 h b) behind_box) text old new fault w (next_2 h) read

next_3 : (h : ExcludeHead) (b : Box) → Follows {A = Exclusion} {B = Table} Any parts_of_table (By (Known2 h b) behind_box) (λ (t : Table). By (Known3 h b t) behind_exclusion)
next_3 h b = follows_by {A = Exclusion} {B = Table} Any parts_of_table (Known2 h b) behind_box behind_exclusion (λ e. e.table) (λ e q. sym (append-nil (parts_of_table e.table))) (λ e q. tt) (λ t own. (record { entry = h.entry; within = b; name = h.name; piece = h.piece; under = h.under; table = t }, ((tt, refl), refl), refl))

pub on_3 : (text old new : List ℕ) (h : ExcludeHead) (b : Box) (t : Table) → Along (Known2 h b) behind_box text old → Reads {A = Table} Any parts_of_table old new (Ok t) → Along (Known3 h b t) behind_exclusion text new
on_3 text old new h b t w read = on Any parts_of_exclusion (By (Known2 h b) behind_box) Any parts_of_table (λ (t : Table). By (Known3 h b t) behind_exclusion) text old new t w (next_3 h b) decides_table read

pub off_3 : (text old new : List ℕ) (h : ExcludeHead) (b : Box) (fault : LineFault) → Along (Known2 h b) behind_box text old → Reads {A = Table} Any parts_of_table old new (Err fault) → Reads {A = Exclusion} Any parts_of_exclusion text new (Err fault)
off_3 text old new h b fault w read = off Any parts_of_exclusion (By (Known2 h b) behind_box) Any parts_of_table (λ (t : Table). By (Known3 h b t) behind_exclusion) text old new fault w (next_3 h b) read

pub start : (text : List ℕ) → Along (Any {A = Exclusion}) parts_of_exclusion text text
start text = begin Any parts_of_exclusion text

pub whole : (text old : List ℕ) (h : ExcludeHead) (b : Box) (t : Table) → Along (Known3 h b t) behind_exclusion text old → Reads {A = Exclusion} Any parts_of_exclusion text old (Ok (record { entry = h.entry; within = b; name = h.name; piece = h.piece; under = h.under; table = t }))
whole text old h b t w = done Any parts_of_exclusion (By (Known3 h b t) behind_exclusion) text old (record { entry = h.entry; within = b; name = h.name; piece = h.piece; under = h.under; table = t }) w ((((tt, refl), refl), refl), refl)
