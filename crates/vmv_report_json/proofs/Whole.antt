-- No number of a report's JSON is a float.
use Rattle.std.proofs.Common.{◌≡◌, ◌||◌, ℤ, pos, negsuc, Bool, true, false, if◌then◌else◌, Option, Some, None, List, [], ◌∷◌, ◌++◌, map, refl}
use Rattle.std.specs.List.{flat_map}
use Rattle.serde_json.specs.Data.{Data}
use Rattle.serde_json.specs.Find.{of_integer, is_float}
use Rattle.serde_json.specs.View.{items_of}
use Rattle.serde_json.specs.Written.{has_float, items_have_float}
use Rattle.vmv_tree.specs.declared.name.Name.{Name}
use Rattle.vmv_cond.specs.declared.cond.Cond.{Cond}
use Rattle.vmv_snapshot.specs.Resolution.{Resolution}
use Rattle.vmv_witness.specs.declared.witness.Witness.{Witness}
use Rattle.vmv_report.specs.declared.class.Class.TheVariants.{Clean}
use Rattle.vmv_report.specs.declared.row.ReportRow.{ReportRow}
use Rattle.vmv_report.specs.declared.report.Report.{Report}
use Rattle.vmv_report.specs.Rows.{is_class}
use Rattle.vmv_report.specs.Texts.{is_told}
use Rattle.vmv_report_json.specs.Json.{condition_data, told_condition, conditions_data, row_data, told_row, witness_data, report_data}

neither : (a b : Bool) → a ≡ false → b ≡ false → (a || b) ≡ false
neither true b p q = p
neither false b p q = q

integer_whole : (z : ℤ) → is_float (of_integer z) ≡ false
integer_whole (pos n) = refl
integer_whole (negsuc n) = refl

condition_whole : (h : Name × Cond) → has_float (condition_data h) ≡ false
condition_whole h = neither (is_float (of_integer h.1.hi)) _ (integer_whole h.1.hi) (neither (is_float (of_integer h.1.lo)) _ (integer_whole h.1.lo) refl)

-- a value that is added where b holds
added_whole : (b : Bool) (d : Data) (ds : List Data) → has_float d ≡ false → items_have_float (items_of ds) ≡ false → items_have_float (items_of ((if b then d ∷ [] else []) ++ ds)) ≡ false
added_whole true d ds p q = neither (has_float d) _ p q
added_whole false d ds p q = q

-- a value that is added where b doesn't hold
left_whole : (b : Bool) (d : Data) (ds : List Data) → has_float d ≡ false → items_have_float (items_of ds) ≡ false → items_have_float (items_of ((if b then [] else d ∷ []) ++ ds)) ≡ false
left_whole true d ds p q = q
left_whole false d ds p q = neither (has_float d) _ p q

held_whole : (held : List (Name × Cond)) → items_have_float (items_of (flat_map told_condition held)) ≡ false
held_whole [] = refl
held_whole (h ∷ held) = added_whole (is_told h) (condition_data h) (flat_map told_condition held) (condition_whole h) (held_whole held)

conditions_whole : (conditions : Option (List (Name × Cond))) → has_float (conditions_data conditions) ≡ false
conditions_whole (Some held) = held_whole held
conditions_whole None = refl

rows_whole : (revision : Resolution) (rows : List ReportRow) → items_have_float (items_of (flat_map (told_row revision) rows)) ≡ false
rows_whole revision [] = refl
rows_whole revision (row ∷ rows) = left_whole (is_class Clean row.class) (row_data revision row) (flat_map (told_row revision) rows) refl (rows_whole revision rows)

witnesses_whole : (witnesses : List Witness) → items_have_float (items_of (map witness_data witnesses)) ≡ false
witnesses_whole [] = refl
witnesses_whole (w ∷ ws) = witnesses_whole ws

pub report_whole : (report : Report) (revision : Resolution) → has_float (report_data report revision) ≡ false
report_whole report revision =
    neither (has_float (conditions_data report.conditions)) _ (conditions_whole report.conditions)
    (neither (items_have_float (items_of (flat_map (told_row revision) report.rows))) _ (rows_whole revision report.rows)
    (neither (has_float (conditions_data report.enough)) _ (conditions_whole report.enough)
    (neither (items_have_float (items_of (map witness_data report.witnesses))) false (witnesses_whole report.witnesses) refl)))
