-- The text of a report.
use Rattle.std.specs.Prelude.{ℕ, ◌^◌, ◌-◌, ◌==◌, ℤ, pos, negsuc, int_lt, Bool, not, ◌&&◌, Option, Some, None, List, [], ◌∷◌, ◌++◌, length, map, count_by, slice_get, unwrap_or, zip, codes, if◌then◌else◌}
use Rattle.std.specs.List.{flat_map}
use Rattle.std.specs.Ordering.{int_eq}
use Rattle.std.specs.Fmt.{decimal, signed_decimal}
use Rattle.vmv_tree.specs.declared.name.Name.{Name}
use Rattle.vmv_tree.specs.declared.tree.Param.{Param}
use Rattle.vmv_cond.specs.declared.cond.Cond.{Cond}
use Rattle.vmv_snapshot.specs.Procs.{params_of}
use Rattle.vmv_snapshot.specs.Resolution.{Resolution, procs_of}
use Rattle.vmv_need.specs.declared.shown.ShownBy.{ShownBy}
use Rattle.vmv_need.specs.declared.shown.ShownBy.TheVariants.{EmptyName, Doomed}
use Rattle.vmv_witness.specs.declared.witness.Witness.{Witness}
use Rattle.vmv_witness.specs.Text.{witness_text}
use Rattle.vmv_report.specs.declared.class.Class.{Class}
use Rattle.vmv_report.specs.declared.class.Class.TheVariants.{Clean, Hidden, Regression, Alarm}
use Rattle.vmv_report.specs.declared.row.ReportRow.{ReportRow}
use Rattle.vmv_report.specs.declared.report.Report.{Report}
use Rattle.vmv_need.specs.declared.needed.Needed.{Needed}
use Rattle.vmv_need.specs.declared.needed.Needed.TheVariants.{Conditions, Vacuous}
use Rattle.vmv_report.specs.Baselines.{Based}
use Rattle.vmv_report.specs.Rows.{proc_name, is_class, class_count}

abbrev pub line : List ℕ → List ℕ
line text = text ++ 10 ∷ []

-- the first line
abbrev pub verdict_line : ℕ → List ℕ
verdict_line verdict =
    if verdict == 1 then codes "verdict relatively correct\n" else (if verdict == 2 then codes "verdict alarms\n" else codes "verdict regression\n")

abbrev pub range_text : (lo hi : ℤ) → List ℕ
range_text lo hi = signed_decimal lo ++ (codes ".." ++ signed_decimal hi)

-- 0 stands inside the range, and is left out
abbrev pub is_zero_left_out : Cond → Bool
is_zero_left_out c = c.zero_out && int_lt c.lo (pos 0) && int_lt (pos 0) c.hi

abbrev pub zero_mark : Cond → List ℕ
zero_mark c = if is_zero_left_out c then codes " not 0" else []

-- the least and the greatest word that a condition holds, and that it leaves out a 0 between them
abbrev pub cond_text : Cond → List ℕ
cond_text c = range_text c.lo c.hi ++ zero_mark c

-- every word meets it
abbrev pub is_whole : Cond → Bool
is_whole c = int_eq c.lo (negsuc (2 ^ 63 - 1)) && int_eq c.hi (pos (2 ^ 63 - 1)) && not c.zero_out

abbrev pub condition_line : Name × Cond → List ℕ
condition_line h = codes "  " ++ (h.0 ++ (codes " " ++ line (cond_text h.1)))

-- a condition that every word meets isn't told
abbrev pub is_told : Name × Cond → Bool
is_told h = not (is_whole h.1)

abbrev pub told_line : Name × Cond → List ℕ
told_line h = if is_told h then condition_line h else []

-- a word, how many conditions are told, and a line for each of these
abbrev pub conditions_lines : List ℕ → List (Name × Cond) → List ℕ
conditions_lines word held = word ++ (line (decimal (count_by is_told held)) ++ flat_map told_line held)

abbrev pub necessary_lines : Option (List (Name × Cond)) → List ℕ
necessary_lines (Some held) = conditions_lines (codes "necessary ") held
necessary_lines None = []

abbrev pub sufficient_lines : Option (List (Name × Cond)) → List ℕ
sufficient_lines (Some held) = conditions_lines (codes "sufficient ") held
sufficient_lines None = line (codes "sufficient none")

-- how many rows there are of each class
abbrev pub counts_line : List ReportRow → List ℕ
counts_line rows =
    codes "rows clean " ++ (decimal (class_count Clean rows) ++ (codes " hidden " ++ (decimal (class_count Hidden rows)
    ++ (codes " regression " ++ (decimal (class_count Regression rows) ++ (codes " alarm " ++ line (decimal (class_count Alarm rows))))))))

abbrev pub class_word : Class → List ℕ
class_word Clean = codes "clean"
class_word Hidden = codes "hidden"
class_word Regression = codes "regression"
class_word Alarm = codes "alarm"

-- a procedure's name, and the number of a site in it
abbrev pub site_text : Name → ℕ → List ℕ
site_text proc index = proc ++ (codes "#" ++ decimal index)

-- the class, the entry and the site of a row
abbrev pub row_line : Resolution → ReportRow → List ℕ
row_line revision row =
    codes "  " ++ (class_word row.class ++ (codes " " ++ (proc_name revision row.entry.0 ++ (codes " "
    ++ line (site_text (proc_name revision row.site.proc.0) row.site.index)))))

-- a clean row isn't told
abbrev pub told_row : Resolution → ReportRow → List ℕ
told_row revision row = if is_class Clean row.class then [] else row_line revision row

-- the counts, and a line for each row that isn't clean
abbrev pub rows_lines : Resolution → List ReportRow → List ℕ
rows_lines revision rows = counts_line rows ++ flat_map (told_row revision) rows

-- how many witnesses there are, and their texts
abbrev pub witnesses_lines : List Witness → List ℕ
witnesses_lines witnesses = codes "witnesses " ++ (line (decimal (length witnesses)) ++ flat_map witness_text witnesses)

-- the report of a base that isn't vacuous
abbrev pub reviewed_text : Report → Resolution → List ℕ
reviewed_text report revision =
    verdict_line report.verdict
    ++ (necessary_lines report.conditions
    ++ (sufficient_lines report.enough ++ (rows_lines revision report.rows ++ witnesses_lines report.witnesses)))

-- a parameter with its range
abbrev pub param_range : Param × (ℤ × ℤ) → List ℕ
param_range p = codes " " ++ (p.0.name ++ (codes " " ++ range_text p.1.0 p.1.1))

-- the parameters of the procedure of this number; there are none where there is no such procedure
abbrev pub proc_params : Resolution → ℕ → List Param
proc_params program n = unwrap_or (slice_get (map params_of (procs_of program)) n) []

-- what shows that the base is vacuous: a name that has no answer, or an entry with the ranges from which it doesn't return
abbrev pub shown_text : Resolution → ShownBy → List ℕ
shown_text base (EmptyName name) = codes "empty " ++ name
shown_text base (Doomed entry within table) = codes "doomed " ++ (proc_name base entry.0 ++ flat_map param_range (zip (proc_params base entry.0) within))

abbrev pub vacuous_text : Resolution → ShownBy → List ℕ
vacuous_text base shown = line (codes "verdict vacuous") ++ line (shown_text base shown)

abbrev pub text_by : Report → (base revision : Resolution) → Option ShownBy → List ℕ
text_by report base revision None = reviewed_text report revision
text_by report base revision (Some shown) = vacuous_text base shown

-- the text of the report of a review of this revision against this base
abbrev pub report_text : Report → (base revision : Resolution) → List ℕ
report_text report base revision = text_by report base revision report.shown_by

-- the conditions of a base, or what shows that it is vacuous
abbrev pub found_text : Resolution → Needed → Option (List (Name × Cond)) → List ℕ
found_text base (Conditions held cuts) enough = necessary_lines (Some held) ++ sufficient_lines enough
found_text base (Vacuous shown) enough = vacuous_text base shown

-- the text of a baseline
abbrev pub baseline_text : Based → List ℕ
baseline_text it = found_text it.base it.needed it.enough
