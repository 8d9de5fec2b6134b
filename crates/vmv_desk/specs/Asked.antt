-- The rows of submissions that are asked for one by one.
use Rattle.std.specs.Prelude.{ℕ, List, [], ◌∷◌, ◌++◌, Option, Some, None}
use Rattle.std.specs.Option.{option_map}
use Rattle.vmv_keeper.specs.declared.project.Submitted.{Submitted}
use Rattle.vmv_keeper.specs.declared.reply.PendingRow.{PendingRow}
use Rattle.vmv_keeper.specs.Tables.{Tables, submission_in}

-- the row of a submission that is given
abbrev pub row_of : ℕ → Submitted → PendingRow
row_of number submitted = record { submission = number; by = submitted.by }

abbrev pub row_in : List ℕ → List ℕ → ℕ → Tables → Option PendingRow
row_in owner name number tables = option_map (row_of number) (submission_in owner name number tables)

abbrev pub put_before : Option PendingRow → Option (List PendingRow) → Option (List PendingRow)
put_before None rows = None
put_before (Some row) None = None
put_before (Some row) (Some rows) = Some (row ∷ rows)

-- the rows that some numbers have, where each has one
abbrev pub rows_by : (ℕ → Option PendingRow) → List ℕ → Option (List PendingRow)
rows_by row [] = Some []
rows_by row (number ∷ numbers) = put_before (row number) (rows_by row numbers)

-- the rows of submissions by their numbers, where each is given
abbrev pub rows_in : List ℕ → List ℕ → List ℕ → Tables → Option (List PendingRow)
rows_in owner name numbers tables = rows_by (λ number. row_in owner name number tables) numbers

-- more rows behind some
abbrev pub put_all : List PendingRow → Option (List PendingRow) → Option (List PendingRow)
put_all rows None = None
put_all rows (Some more) = Some (rows ++ more)
