-- A table that is read row by row.
use Rattle.std.proofs.Common.{ℕ, List, [], length, replicate, refl, sym}
use Rattle.std.specs.Prelude.{Ok, Err}
use Rattle.std.specs.List.{flat_map}
use Rattle.std.proofs.lemmas.List.{append-nil, length-replicate}
use Rattle.vmv_cert.specs.declared.row.Row.{Row}
use Rattle.vmv_cert.specs.declared.table.Table.{Table}
use Rattle.vmv_proof_text.specs.Parts.{Part, table_part, parts_of_row, parts_of_table}
use Rattle.vmv_proof_line.specs.declared.fault.LineFault.{LineFault}
use Rattle.vmv_proof_read.specs.Reading.{Reads, Any, HasCount, only}
use Rattle.vmv_proof_read.proofs.Along.{Follows, Went, begin, on, off, done}
use Rattle.vmv_proof_read.proofs.Singles.{decides_line}
use Rattle.vmv_proof_read.proofs.Steps.{By, And, follows_by}
use Rattle.vmv_proof_read.proofs.Some.{some_row}
use Rattle.vmv_proof_read.proofs.LineLaws.{one_table}
use Rattle.vmv_proof_read.proofs.Once.{decides_rows}

abbrev pub behind_count : Table → List Part
behind_count t = flat_map parts_of_row t.rows

abbrev pub behind_table : Table → List Part
behind_table t = []

abbrev pub Known1 : ℕ → Table → Type 0
Known1 k = And {A = Table} {B = ℕ} (Any {A = Table}) (λ t. length t.rows) k

abbrev pub Known2 : ℕ → (List Row) → Table → Type 0
Known2 k rs = And {A = Table} {B = List Row} (Known1 k) (λ t. t.rows) rs

abbrev pub Along : (Table → Type 0) → (Table → List Part) → List ℕ → List ℕ → Type 0
Along Q tail text old = Went {A = Table} Any parts_of_table (By Q tail) text old

next_1 : Follows {A = Table} {B = ℕ} Any (only table_part) (By (Any {A = Table}) parts_of_table) (λ (k : ℕ). By (Known1 k) behind_count)
next_1 = follows_by {A = Table} {B = ℕ} Any (only table_part) (Any {A = Table}) parts_of_table behind_count (λ t. length t.rows) (λ t q. refl) (λ t q. tt) (λ k own. (record { rows = replicate k some_row }, tt, length-replicate k some_row))

pub on_1 : (text old new : List ℕ) (k : ℕ) → Along (Any {A = Table}) parts_of_table text old → Reads {A = ℕ} Any (only table_part) old new (Ok k) → Along (Known1 k) behind_count text new
on_1 text old new k w read = on Any parts_of_table (By (Any {A = Table}) parts_of_table) Any (only table_part) (λ (k : ℕ). By (Known1 k) behind_count) text old new k w next_1 (decides_line table_part one_table) read

pub off_1 : (text old new : List ℕ) (fault : LineFault) → Along (Any {A = Table}) parts_of_table text old → Reads {A = ℕ} Any (only table_part) old new (Err fault) → Reads {A = Table} Any parts_of_table text new (Err fault)
off_1 text old new fault w read = off Any parts_of_table (By (Any {A = Table}) parts_of_table) Any (only table_part) (λ (k : ℕ). By (Known1 k) behind_count) text old new fault w next_1 read

next_2 : (k : ℕ) → Follows {A = Table} {B = List Row} (HasCount k) (flat_map parts_of_row) (By (Known1 k) behind_count) (λ (rs : List Row). By (Known2 k rs) behind_table)
next_2 k = follows_by {A = Table} {B = List Row} (HasCount k) (flat_map parts_of_row) (Known1 k) behind_count behind_table (λ t. t.rows) (λ t q. sym (append-nil (flat_map parts_of_row t.rows))) (λ t q. q.1) (λ rs n. (record { rows = rs }, (tt, n), refl))

pub on_2 : (text old new : List ℕ) (k : ℕ) (rs : List Row) → Along (Known1 k) behind_count text old → Reads {A = List Row} (HasCount k) (flat_map parts_of_row) old new (Ok rs) → Along (Known2 k rs) behind_table text new
on_2 text old new k rs w read = on Any parts_of_table (By (Known1 k) behind_count) (HasCount k) (flat_map parts_of_row) (λ (rs : List Row). By (Known2 k rs) behind_table) text old new rs w (next_2 k) (decides_rows k) read

pub off_2 : (text old new : List ℕ) (k : ℕ) (fault : LineFault) → Along (Known1 k) behind_count text old → Reads {A = List Row} (HasCount k) (flat_map parts_of_row) old new (Err fault) → Reads {A = Table} Any parts_of_table text new (Err fault)
off_2 text old new k fault w read = off Any parts_of_table (By (Known1 k) behind_count) (HasCount k) (flat_map parts_of_row) (λ (rs : List Row). By (Known2 k rs) behind_table) text old new fault w (next_2 k) read

pub start : (text : List ℕ) → Along (Any {A = Table}) parts_of_table text text
start text = begin Any parts_of_table text

pub whole : (text old : List ℕ) (k : ℕ) (rs : List Row) (n : HasCount {A = Row} k rs) → Along (Known2 k rs) behind_table text old → Reads {A = Table} Any parts_of_table text old (Ok (record { rows = rs }))
whole text old k rs n w = done Any parts_of_table (By (Known2 k rs) behind_table) text old (record { rows = rs }) w (((tt, n), refl), refl)
