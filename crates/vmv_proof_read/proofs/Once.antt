-- Lines tell one row, one table, one exclusion, one entry, one proof.
use Rattle.std.proofs.Common.{◌≡◌, ℕ, List, [], ◌∷◌, ◌++◌, length, map, refl, sym, ap, subst, append_assoc}
use Rattle.std.specs.List.{AllZip, flat_map}
use Rattle.std.proofs.lemmas.List.Concat.{flat_map_single}
use Rattle.vmv_tree.specs.declared.name.Name.{Name}
use Rattle.vmv_zone.specs.declared.zone.Zone.{Zone}
use Rattle.vmv_cert.specs.declared.row.Row.{Row}
use Rattle.vmv_cert.specs.declared.table.Table.{Table}
use Rattle.vmv_proof.specs.declared.proof.Exclusion.{Exclusion}
use Rattle.vmv_proof.specs.declared.proof.Shown.{Shown}
use Rattle.vmv_proof.specs.declared.proof.Proof.{Proof}
use Rattle.vmv_proof_text.specs.Parts.{Part, keep_part, result_part, left_part, given_part, end_part, parts_of_row, parts_of_table, parts_of_exclusion, parts_of_shown, parts_of_proof, back_parts}
use Rattle.vmv_proof_text.specs.Lines.{IsLine}
use Rattle.vmv_proof_text.specs.Faults.{Line, Start}
use Rattle.vmv_proof_line.specs.declared.rows.RowHead.{RowHead}
use Rattle.vmv_proof_read.specs.Reading.{Any, HasCount, only}
use Rattle.vmv_proof_read.proofs.Starts.{told_cut, start_front, start_behind}
use Rattle.vmv_proof_read.proofs.Along.{Decides}
use Rattle.vmv_proof_read.proofs.Times.{decides_lists}
use Rattle.vmv_proof_read.proofs.Singles.{decides_line}
use Rattle.vmv_proof_read.proofs.LineLaws.{one_exclusions, one_exclude, one_box, one_table, one_row, one_input, one_keep, one_result, one_left, one_entries, one_plain}

pub decides_unit : (k : Unit {0} → Part) → Decides {B = Unit {0}} Any (only k)
decides_unit k = record { once = λ x y lines more h l t s. refl }

pub decides_given : (e : Name) → Decides {B = Unit {0}} Any (only (λ (u : Unit {0}). given_part e))
decides_given e = decides_unit (λ u. given_part e)

pub decides_keeps : (n : ℕ) → Decides {B = List Zone} (HasCount n) (flat_map (only keep_part))
decides_keeps n = decides_lists (only keep_part) n (decides_line keep_part one_keep)

-- what stands behind one value is told of the other
record Apart {A : Type 0} (first : A → List Part) (x y : A) (tail rest : List Part) (lines : List Line) : Type 0 where
  same : x ≡ y
  back : List Line
  told : AllZip IsLine tail back
  starts : Start rest back

apart : {A : Type 0} (Has : A → Type 0) (first : A → List Part) → Decides {B = A} Has first → (x y : A) → Has x → Has y → (tail rest : List Part) (lines : List Line) → AllZip IsLine (first x ++ tail) lines → Start (first y ++ rest) lines → Apart first x y tail rest lines
apart Has first d x y h k tail rest lines t s =
    let c = told_cut (first x) tail lines t in
    let cut = subst (λ z. Start (first y ++ rest) z) c.same s in
    let same = d.once x y c.front rest h k c.first (start_front (first y ++ rest) c.front c.back cut) in
    record {
      same = same;
      back = c.back;
      told = c.second;
      starts = start_behind (first x) rest c.front c.back c.first (subst (λ v. Start (first v ++ rest) (c.front ++ c.back)) (sym same) cut);
    }

one_row_told : (x y : Row) (lines : List Line) (more : List Part) → AllZip IsLine (parts_of_row x) lines → Start (parts_of_row y ++ more) lines → x ≡ y
one_row_told x y [] more t s = absurd t
one_row_told x y (a ∷ []) more t s = absurd t.1
one_row_told x y (a ∷ b ∷ lines) more t s =
    let head = one_row (record { proc = x.proc; loops = length x.keeps }) (record { proc = y.proc; loops = length y.keeps }) a t.0 s.0 in
    let input = one_input x.input y.input b t.1.0 s.1.0 in
    let told = subst (λ p. AllZip IsLine (p ++ result_part x.result ∷ left_part x.unproved ∷ []) lines) (sym (flat_map_single keep_part x.keeps)) t.1.1 in
    let begun = subst (λ p. Start p lines) (append_assoc (map keep_part y.keeps) (result_part y.result ∷ left_part y.unproved ∷ []) more) s.1.1 in
    let starts = subst (λ p. Start (p ++ result_part y.result ∷ left_part y.unproved ∷ more) lines) (sym (flat_map_single keep_part y.keeps)) begun in
    let keeps = apart (HasCount (length x.keeps)) (flat_map (only keep_part)) (decides_keeps (length x.keeps)) x.keeps y.keeps refl (sym (ap (λ h. h.loops) head))
    (result_part x.result ∷ left_part x.unproved ∷ []) (result_part y.result ∷ left_part y.unproved ∷ more) lines told starts in
    ends keeps.back head input keeps.same keeps.told keeps.starts
  where
    ends : (back : List Line) → ◌≡◌ {A = RowHead} (record { proc = x.proc; loops = length x.keeps }) (record { proc = y.proc; loops = length y.keeps }) → x.input ≡ y.input → x.keeps ≡ y.keeps
        → AllZip IsLine (result_part x.result ∷ left_part x.unproved ∷ []) back → Start (result_part y.result ∷ left_part y.unproved ∷ more) back → x ≡ y
    ends [] head input keeps u v = absurd u
    ends (c ∷ []) head input keeps u v = absurd u.1
    ends (c ∷ d ∷ back) head input keeps u v =
        let result = one_result x.result y.result c u.0 v.0 in
        let left = one_left x.unproved y.unproved d u.1.0 v.1.0 in
        λ i. record { proc = (head i).proc; input = input i; keeps = keeps i; result = result i; unproved = left i }

pub decides_row : Decides {B = Row} Any parts_of_row
decides_row = record { once = λ x y lines more h k t s. one_row_told x y lines more t s }

pub decides_rows : (n : ℕ) → Decides {B = List Row} (HasCount n) (flat_map parts_of_row)
decides_rows n = decides_lists parts_of_row n decides_row

one_table_told : (x y : Table) (lines : List Line) (more : List Part) → AllZip IsLine (parts_of_table x) lines → Start (parts_of_table y ++ more) lines → x ≡ y
one_table_told x y [] more t s = absurd t
one_table_told x y (a ∷ lines) more t s =
    let count = one_table (length x.rows) (length y.rows) a t.0 s.0 in
    let rows = (decides_rows (length x.rows)).once x.rows y.rows lines more refl (sym count) t.1 s.1 in
    λ i. record { rows = rows i }

pub decides_table : Decides {B = Table} Any parts_of_table
decides_table = record { once = λ x y lines more h k t s. one_table_told x y lines more t s }

one_exclusion_told : (x y : Exclusion) (lines : List Line) (more : List Part) → AllZip IsLine (parts_of_exclusion x) lines → Start (parts_of_exclusion y ++ more) lines → x ≡ y
one_exclusion_told x y [] more t s = absurd t
one_exclusion_told x y (a ∷ []) more t s = absurd t.1
one_exclusion_told x y (a ∷ b ∷ lines) more t s =
    let head = one_exclude (record { entry = x.entry; name = x.name; piece = x.piece; under = x.under }) (record { entry = y.entry; name = y.name; piece = y.piece; under = y.under }) a t.0 s.0 in
    let box = one_box x.within y.within b t.1.0 s.1.0 in
    let table = decides_table.once x.table y.table lines more tt tt t.1.1 s.1.1 in
    λ i. record { entry = (head i).entry; within = box i; name = (head i).name; piece = (head i).piece; under = (head i).under; table = table i }

pub decides_exclusions : (n : ℕ) → Decides {B = List Exclusion} (HasCount n) (flat_map parts_of_exclusion)
decides_exclusions n = decides_lists parts_of_exclusion n (record { once = λ x y lines more h k t s. one_exclusion_told x y lines more t s })

pub decides_exclusion : Decides {B = Exclusion} Any parts_of_exclusion
decides_exclusion = record { once = λ x y lines more h k t s. one_exclusion_told x y lines more t s }

one_shown_told : (x y : Shown) (lines : List Line) (more : List Part) → AllZip IsLine (parts_of_shown x) lines → Start (parts_of_shown y ++ more) lines → x ≡ y
one_shown_told x y [] more t s = absurd t
one_shown_told x y (a ∷ lines) more t s =
    let entry = one_plain x.entry y.entry a t.0 s.0 in
    let begun = subst (λ p. Start p lines) (append_assoc (parts_of_table y.plain) (given_part y.entry ∷ parts_of_table y.given) more) s.1 in
    let plain = apart Any parts_of_table decides_table x.plain y.plain tt tt (given_part x.entry ∷ parts_of_table x.given) (given_part y.entry ∷ (parts_of_table y.given ++ more)) lines t.1 begun in
    ends plain.back entry plain.same plain.told plain.starts
  where
    ends : (back : List Line) → x.entry ≡ y.entry → x.plain ≡ y.plain → AllZip IsLine (given_part x.entry ∷ parts_of_table x.given) back → Start (given_part y.entry ∷ (parts_of_table y.given ++ more)) back → x ≡ y
    ends [] entry plain u v = absurd u
    ends (b ∷ back) entry plain u v =
        let given = decides_table.once x.given y.given back more tt tt u.1 v.1 in
        λ i. record { entry = entry i; plain = plain i; given = given i }

pub decides_shown : Decides {B = Shown} Any parts_of_shown
decides_shown = record { once = λ x y lines more h k t s. one_shown_told x y lines more t s }

pub decides_shown_list : (n : ℕ) → Decides {B = List Shown} (HasCount n) (flat_map parts_of_shown)
decides_shown_list n = decides_lists parts_of_shown n decides_shown

one_proof_told : (x y : Proof) (lines : List Line) (more : List Part) → AllZip IsLine (parts_of_proof x) lines → Start (parts_of_proof y ++ more) lines → x ≡ y
one_proof_told x y [] more t s = absurd t
one_proof_told x y (a ∷ []) more t s = absurd t.1
one_proof_told x y (a ∷ b ∷ lines) more t s =
    let count = one_exclusions (length x.exclusions) (length y.exclusions) b t.1.0 s.1.0 in
    let begun = subst (λ p. Start p lines) (append_assoc (flat_map parts_of_exclusion y.exclusions) (back_parts y.shown) more) s.1.1 in
    let exclusions = apart (HasCount (length x.exclusions)) (flat_map parts_of_exclusion) (decides_exclusions (length x.exclusions)) x.exclusions y.exclusions refl (sym count)
    (back_parts x.shown) (back_parts y.shown ++ more) lines t.1.1 begun in
    ends exclusions.back exclusions.same exclusions.told exclusions.starts
  where
    ends : (back : List Line) → x.exclusions ≡ y.exclusions → AllZip IsLine (back_parts x.shown) back → Start (back_parts y.shown ++ more) back → x ≡ y
    ends [] exclusions u v = absurd u
    ends (c ∷ back) exclusions u v =
        let count = one_entries (length x.shown) (length y.shown) c u.0 v.0 in
        let begun = subst (λ p. Start p back) (append_assoc (flat_map parts_of_shown y.shown) (end_part ∷ []) more) v.1 in
        let shown = apart (HasCount (length x.shown)) (flat_map parts_of_shown) (decides_shown_list (length x.shown)) x.shown y.shown refl (sym count) (end_part ∷ []) (end_part ∷ more) back u.1 begun in
        λ i. record { exclusions = exclusions i; shown = shown.same i }

pub decides_proof : Decides {B = Proof} Any parts_of_proof
decides_proof = record { once = λ x y lines more h k t s. one_proof_told x y lines more t s }
