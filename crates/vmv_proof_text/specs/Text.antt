-- The canonical text of a proof.
use Rattle.std.specs.Prelude.{ℕ, ℤ, pos, int_lt, Bool, ◌&&◌, List, [], ◌∷◌, ◌++◌, length, map, codes, if◌then◌else◌}
use Rattle.std.specs.List.{flat_map}
use Rattle.std.specs.Fmt.{decimal, signed_decimal}
use Rattle.vmv_tree.specs.declared.site.NamedSite.{NamedSite}
use Rattle.vmv_cond.specs.declared.cond.Cond.{Cond}
use Rattle.vmv_cond.specs.declared.cond.Piece.{Piece}
use Rattle.vmv_cond.specs.declared.cond.Piece.TheVariants.{Below, Above, Zero}
use Rattle.vmv_cert.specs.declared.row.Reach.{Reach}
use Rattle.vmv_cert.specs.declared.row.Reach.TheVariants.{Bottom, Value}
use Rattle.vmv_zone.specs.declared.zone.Zone.{Zone}
use Rattle.vmv_zone.specs.Zone.{vars_of}
use Rattle.vmv_witness.specs.Text.{text_of}
use Rattle.vmv_proof.specs.declared.proof.Proof.{Proof}
use Rattle.vmv_proof_text.specs.Parts.{Part, opening_part, exclusions_part, exclude_part, box_part, table_part, row_part, input_part, keep_part, result_part, left_part, entries_part, plain_part, given_part, end_part, parts_of_proof}
use Rattle.vmv_proof_text.specs.States.{Bound, bounds_below_top, marked_variables}

-- a space and a word
abbrev pub spaced : List ℕ → List ℕ
spaced word = 32 ∷ word

abbrev pub piece_text : Piece → List ℕ
piece_text (Below end) = codes " below " ++ signed_decimal end
piece_text (Above end) = codes " above " ++ signed_decimal end
piece_text Zero = codes " zero"

abbrev pub range_words : ℤ × ℤ → List ℕ
range_words r = spaced (signed_decimal r.0) ++ spaced (signed_decimal r.1)

abbrev pub bound_words : Bound → List ℕ
bound_words b = spaced (decimal b.0) ++ (spaced (decimal b.1) ++ spaced (signed_decimal b.2))

abbrev pub bounds_text : List Bound → List ℕ
bounds_text bounds = codes " bounds " ++ (decimal (length bounds) ++ flat_map bound_words bounds)

abbrev pub variable_word : ℕ → List ℕ
variable_word i = spaced (decimal i)

abbrev pub marks_text : List ℕ → List ℕ
marks_text marks = codes " nonzero " ++ (decimal (length marks) ++ flat_map variable_word marks)

-- a state that isn't Bottom, by its number of variables, some bounds and its marks
abbrev pub told_state : ℕ → List Bound → List ℕ → List ℕ
told_state vars bounds marks = codes " vars " ++ (decimal vars ++ (bounds_text bounds ++ marks_text marks))

-- exactly the bounds that are below top's are named
abbrev pub state_text : Zone → List ℕ
state_text z =
    if z.bottom then codes " bottom " ++ decimal (vars_of z) else told_state (vars_of z) (bounds_below_top z) (marked_variables z)

-- 0 stands inside the range, and is left out
abbrev pub is_zero_left_out : Cond → Bool
is_zero_left_out c = c.zero_out && int_lt c.lo (pos 0) && int_lt (pos 0) c.hi

abbrev pub zero_text : Bool → List ℕ
zero_text out = if out then codes " not 0" else []

abbrev pub range_text : (lo hi : ℤ) → List ℕ
range_text lo hi = spaced (signed_decimal lo) ++ (codes ".." ++ signed_decimal hi)

abbrev pub cond_text : Cond → List ℕ
cond_text c = range_text c.lo c.hi ++ zero_text (is_zero_left_out c)

abbrev pub reach_text : Reach → List ℕ
reach_text Bottom = codes " bottom"
reach_text (Value c) = cond_text c

abbrev pub site_word : NamedSite → List ℕ
site_word s = spaced s.proc ++ 35 ∷ decimal s.index

-- the line of a part, without its line end
abbrev pub line_of : Part → List ℕ
line_of opening_part = codes "vmv-proof 1"
line_of (exclusions_part n) = codes "exclusions " ++ decimal n
line_of (exclude_part entry name piece under) =
    codes "exclude" ++ (spaced entry ++ (spaced name ++ (piece_text piece ++ (codes " under " ++ decimal under))))
line_of (box_part ranges) = codes "box" ++ flat_map range_words ranges
line_of (table_part rows) = codes "table " ++ decimal rows
line_of (row_part proc loops) = codes "row" ++ (spaced proc ++ spaced (decimal loops))
line_of (input_part z) = codes "input" ++ state_text z
line_of (keep_part z) = codes "keep" ++ state_text z
line_of (result_part reach) = codes "result" ++ reach_text reach
line_of (left_part sites) = codes "left " ++ (decimal (length sites) ++ flat_map site_word sites)
line_of (entries_part n) = codes "entries " ++ decimal n
line_of (plain_part entry) = codes "plain" ++ spaced entry
line_of (given_part entry) = codes "given" ++ spaced entry
line_of end_part = codes "end"

-- the text of parts: LF stands behind the line of each
abbrev pub parts_text : List Part → List ℕ
parts_text parts = text_of (map line_of parts)

-- the canonical text of a proof
abbrev pub proof_text : Proof → List ℕ
proof_text p = parts_text (parts_of_proof p)
