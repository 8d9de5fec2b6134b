-- The JSON of a report.
use Rattle.std.specs.Prelude.{ℕ, Option, Some, None, List, [], ◌∷◌, map, codes, if◌then◌else◌}
use Rattle.std.specs.List.{flat_map}
use Rattle.std.specs.Str.Lossy.{utf8_lossy}
use Rattle.serde_json.specs.Data.{Data, null, boolean, number, string, array, object, unsigned, member, no_members}
use Rattle.serde_json.specs.Find.{of_integer}
use Rattle.serde_json.specs.View.{items_of}
use Rattle.serde_json.specs.Written.{compact_text}
use Rattle.vmv_tree.specs.declared.name.Name.{Name}
use Rattle.vmv_cond.specs.declared.cond.Cond.{Cond}
use Rattle.vmv_snapshot.specs.Resolution.{Resolution}
use Rattle.vmv_witness.specs.declared.witness.Witness.{Witness}
use Rattle.vmv_witness.specs.Text.{witness_text}
use Rattle.vmv_report.specs.declared.class.Class.{Class}
use Rattle.vmv_report.specs.declared.class.Class.TheVariants.{Clean, Hidden, Regression, Alarm}
use Rattle.vmv_report.specs.declared.row.ReportRow.{ReportRow}
use Rattle.vmv_report.specs.declared.report.Report.{Report}
use Rattle.vmv_report.specs.Rows.{proc_name, is_class, class_count}
use Rattle.vmv_report.specs.Texts.{is_told, is_zero_left_out, class_word, site_text}

-- bytes as a string; in place of what isn't UTF-8 stands U+FFFD
abbrev pub string_of : List ℕ → Data
string_of bytes = string (utf8_lossy bytes)

-- a name, the least and the greatest word that its condition holds, and whether a 0 between them is left out
abbrev pub condition_data : Name × Cond → Data
condition_data h =
    object (member (codes "hi") (number (of_integer h.1.hi))
    (member (codes "lo") (number (of_integer h.1.lo))
    (member (codes "name") (string_of h.0)
    (member (codes "not_zero") (boolean (is_zero_left_out h.1)) no_members))))

-- a condition that every word meets isn't told
abbrev pub told_condition : Name × Cond → List Data
told_condition h = if is_told h then condition_data h ∷ [] else []

-- the conditions that are told, or null where there are none at all
abbrev pub conditions_data : Option (List (Name × Cond)) → Data
conditions_data (Some held) = array (items_of (flat_map told_condition held))
conditions_data None = null

-- the class, the entry and the site of a row
abbrev pub row_data : Resolution → ReportRow → Data
row_data revision row =
    object (member (codes "class") (string_of (class_word row.class))
    (member (codes "entry") (string_of (proc_name revision row.entry.0))
    (member (codes "site") (string_of (site_text (proc_name revision row.site.proc.0) row.site.index)) no_members)))

-- a clean row isn't told
abbrev pub told_row : Resolution → ReportRow → List Data
told_row revision row = if is_class Clean row.class then [] else row_data revision row ∷ []

abbrev pub witness_data : Witness → Data
witness_data w = string_of (witness_text w)

-- how many rows have this class
abbrev pub count_data : Class → List ReportRow → Data
count_data class rows = number (unsigned (class_count class rows))

-- the report of a review of this revision
abbrev pub report_data : Report → Resolution → Data
report_data report revision =
    object (member (codes "alarm") (count_data Alarm report.rows)
    (member (codes "clean") (count_data Clean report.rows)
    (member (codes "hidden") (count_data Hidden report.rows)
    (member (codes "necessary") (conditions_data report.conditions)
    (member (codes "regression") (count_data Regression report.rows)
    (member (codes "rows") (array (items_of (flat_map (told_row revision) report.rows)))
    (member (codes "sufficient") (conditions_data report.enough)
    (member (codes "verdict") (number (unsigned report.verdict))
    (member (codes "witnesses") (array (items_of (map witness_data report.witnesses))) no_members)))))))))

-- its text, with no space and the keys in the order of their bytes
abbrev pub report_json : Report → Resolution → List ℕ
report_json report revision = compact_text (report_data report revision)
