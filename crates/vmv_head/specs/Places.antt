-- Where a byte stands that was read of an input whose head isn't whole yet, and how much of the head is still to come.
use Rattle.std.specs.Prelude.{ℕ, suc, ◌==◌, List, Option, Some, None, nat_lt, drop, if◌then◌else◌}
use Rattle.std.specs.Option.{option_map}
use Rattle.vmv_head.specs.declared.scan.Place.{Place}
use Rattle.vmv_head.specs.declared.scan.Place.TheVariants.{Blank, BlankReturn, Line, LineEnd, LineEndReturn}
use Rattle.vmv_head.specs.Heads.{line_feed, carriage_return, begins_with_feed, empty_line, head_length, front_length}

-- how many of the bytes to come the empty lines in front and the head go on for: behind an empty line, behind a return
-- there, inside a line, behind its end, and behind a return there
abbrev pub rest_length : Place → List ℕ → Option ℕ
rest_length Blank more = front_length more
rest_length BlankReturn more = if begins_with_feed more then option_map suc (front_length (drop 1 more)) else head_length more
rest_length Line more = head_length more
rest_length LineEnd more = if nat_lt 0 (empty_line more) then Some (empty_line more) else head_length more
rest_length LineEndReturn more = if begins_with_feed more then Some 1 else head_length more

-- the place behind one more byte, where the head isn't whole with it
abbrev pub moved : Place → ℕ → Option Place
moved Blank b = Some (if b == line_feed then Blank else (if b == carriage_return then BlankReturn else Line))
moved BlankReturn b = Some (if b == line_feed then Blank else Line)
moved Line b = Some (if b == line_feed then LineEnd else Line)
moved LineEnd b = if b == line_feed then None else Some (if b == carriage_return then LineEndReturn else Line)
moved LineEndReturn b = if b == line_feed then None else Some Line
