-- What a judge in memory says, by its tables.
use Rattle.std.specs.Prelude.{◌≡◌, ◌&&◌, ℕ, nat_eq, Bool, true, false, List, [], ◌∷◌, codes, if◌then◌else◌, IsTrue, IsUtf8, refl}
use Rattle.std.specs.Cmp.Lexicographic.{pointwise, same_text}
use Rattle.std.proofs.Common.{subst, sym, inl, inr}
use Rattle.vmv_keeper.specs.declared.judge.Inspected.{Inspected}
use Rattle.vmv_keeper.specs.declared.judge.Inspected.TheVariants.{Refused}
use Rattle.vmv_keeper.specs.declared.judge.Compared.{Compared}
use Rattle.vmv_keeper.specs.declared.judge.Compared.TheVariants.{Judged, Unreadable}
use Rattle.vmv_keeper.specs.declared.judge_rows.TextRow.{TextRow}
use Rattle.vmv_keeper.specs.declared.judge_rows.VerdictRow.{VerdictRow}
use Rattle.vmv_keeper.specs.declared.memory_judge.MemoryJudge.{MemoryJudge}
use Rattle.vmv_keeper.specs.Judging.{parses, IsReadable, HasVerdict}

-- what is said of a text that isn't in the table
abbrev pub unknown : Inspected
unknown = Refused 3 1 1

abbrev pub said_of : List TextRow → List ℕ → Inspected
said_of [] text = unknown
said_of (row ∷ rest) text = if pointwise nat_eq row.text text then row.said else said_of rest text

-- the verdict on two texts that aren't in the table
abbrev pub no_verdict : Compared
no_verdict = Judged 2 (codes "{}")

abbrev pub judged_in : List VerdictRow → List ℕ → List ℕ → Compared
judged_in [] base revision = no_verdict
judged_in (row ∷ rest) base revision =
    if pointwise nat_eq row.base base && pointwise nat_eq row.revision revision then Judged row.verdict row.json else judged_in rest base revision

abbrev pub inspected_by : MemoryJudge → List ℕ → Inspected
inspected_by judge text = said_of judge.texts.items text

-- the verdict on two texts, should both parse
abbrev pub judged_by : MemoryJudge → List ℕ → List ℕ → Compared
judged_by judge base revision = judged_in judge.verdicts.items base revision

-- the verdict where both parse
abbrev pub judged_if : Bool → Bool → Compared → Compared
judged_if false revision said = Unreadable 1
judged_if true false said = Unreadable 2
judged_if true true said = said

abbrev pub compared_by : MemoryJudge → List ℕ → List ℕ → Compared
compared_by judge base revision = judged_if (parses (inspected_by judge base)) (parses (inspected_by judge revision)) (judged_by judge base revision)

-- texts to which verdicts 1 lead from a first one
pub data Reaches (compared : List ℕ → List ℕ → Compared) : List ℕ → List ℕ → Type 0 where
  same : (text : List ℕ) → Reaches compared text text
  step : (base revision : List ℕ) → HasVerdict 1 (compared base revision) → Reaches compared base revision
  chain : (first second third : List ℕ) → Reaches compared first second → Reaches compared second third → Reaches compared first third

utf8_row : (row : TextRow) (rest : Inspected) (text : List ℕ) (b : Bool) → pointwise nat_eq row.text text ≡ b
    → IsTrue (parses (if b then row.said else rest)) → (IsTrue (parses rest) → IsUtf8 text) → IsUtf8 text
utf8_row row rest text true e h g = subst IsUtf8 (same_text row.text text (sym e)) row.utf8
utf8_row row rest text false e h g = g h

utf8_in : (rows : List TextRow) (text : List ℕ) → IsTrue (parses (said_of rows text)) → IsUtf8 text
utf8_in [] text h = absurd (cc h)
utf8_in (row ∷ rest) text h = utf8_row row (said_of rest text) text (pointwise nat_eq row.text text) refl h (utf8_in rest text)

-- a text that parses is in the table, whose texts are UTF-8
pub utf8_said : (rows : List TextRow) (text : List ℕ) (said : Inspected) → said ≡ said_of rows text → IsTrue (parses said) → IsUtf8 text
utf8_said rows text said is h = utf8_in rows text (subst (λ s. IsTrue (parses s)) is h)

-- what is the same as one thing is one
pub one_said : {X : Type 0} (one other said : X) → one ≡ said → other ≡ said → one ≡ other
one_said one other said h k = subst (λ s. one ≡ s) (sym k) h

pub verdict_said : (said compared : Compared) → said ≡ compared → HasVerdict 1 said → HasVerdict 1 compared
verdict_said said compared is h = subst (HasVerdict 1) is h

-- a verdict on two texts that parse
abbrev IsJudged : Compared → Type 0
IsJudged (Judged verdict json) = Unit {0}
IsJudged (Unreadable which) = ⊥

row_judged : (row : VerdictRow) (rest : Compared) (b : Bool) → IsJudged rest → IsJudged (if b then Judged row.verdict row.json else rest)
row_judged row rest true h = tt
row_judged row rest false h = h

judged_each : (rows : List VerdictRow) (base revision : List ℕ) → IsJudged (judged_in rows base revision)
judged_each [] base revision = tt
judged_each (row ∷ rest) base revision =
    row_judged row (judged_in rest base revision) (pointwise nat_eq row.base base && pointwise nat_eq row.revision revision) (judged_each rest base revision)

readable_said : (said : Compared) → IsJudged said → IsReadable said true true
readable_said (Judged verdict json) h = (refl, refl)
readable_said (Unreadable which) h = absurd h

readable_if : (base revision : Bool) (said : Compared) → IsJudged said → IsReadable (judged_if base revision said) base revision
readable_if false revision said h = inl (refl, refl)
readable_if true false said h = inr (refl, refl, refl)
readable_if true true said h = readable_said said h

readable_by : (judge : MemoryJudge) (base revision : List ℕ)
    → IsReadable (compared_by judge base revision) (parses (inspected_by judge base)) (parses (inspected_by judge revision))
readable_by judge base revision =
    readable_if (parses (inspected_by judge base)) (parses (inspected_by judge revision)) (judged_by judge base revision) (judged_each judge.verdicts.items base revision)

-- a comparison is unreadable where a text doesn't parse, and nowhere else
pub readable_said_by : (judge : MemoryJudge) (base revision : List ℕ) (first second : Inspected) (said : Compared) → first ≡ inspected_by judge base
    → second ≡ inspected_by judge revision → said ≡ compared_by judge base revision → IsReadable said (parses first) (parses second)
readable_said_by judge base revision first second said h k is =
    let P : Compared → Type 0 = λ s. IsReadable s (parses (inspected_by judge base)) (parses (inspected_by judge revision)) in
    let Q : Inspected → Type 0 = λ s. IsReadable said (parses s) (parses (inspected_by judge revision)) in
    let R : Inspected → Type 0 = λ s. IsReadable said (parses first) (parses s) in
    subst R (sym k) (subst Q (sym h) (subst P (sym is) (readable_by judge base revision)))
