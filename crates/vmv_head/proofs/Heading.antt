-- A head and what of it decides.
use Rattle.std.proofs.Common.{◌≡◌, ℕ, ◌≤◌, ◌==◌, ◌&&◌, ◌||◌, Bool, true, false, not, List, [], Some, None, length, take, drop, map, refl, ap, subst, ◌∙◌, arith, inr, length-take}
use Rattle.std.specs.Prelude.{nat_lt, if◌then◌else◌, Result, Ok, Err, IfOk, IfErr, codes}
use Rattle.std.proofs.Math.Seq.{drop-length}
use Rattle.std.proofs.lemmas.List.{length-map}
use Rattle.std.proofs.lemmas.Bool.{ltb-false}
use Rattle.httparse.specs.Grammar.{RequestHead, ReadsRequest}
use Rattle.httparse.specs.Spans.{header_bytes, span_bytes, name_and_value, IsRequestAt, IsRequestOf, IsRequestWithin}
use Rattle.httparse.specs.declared.spans.HeaderSpan.{HeaderSpan}
use Rattle.httparse.specs.declared.spans.RequestSpans.{RequestSpans}
use Rattle.vmv_head.specs.declared.refusal.Refusal.{Refusal}
use Rattle.vmv_head.specs.declared.refusal.Refusal.TheVariants.{HeadUnread, TransferCoded, LengthUnread, LengthMissing, BodyTooLong}
use Rattle.vmv_head.specs.declared.head.Head.{Head}
use Rattle.vmv_head.specs.Heads.{header_lines}
use Rattle.vmv_head.specs.Lines.{Pair, is_digits, number_in, is_post, how_many, first_value, length_refusal, line_refusal, body_length}
use Rattle.vmv_head.specs.Reads.{IsHead, IsHeadRead, IsHeadRefused, IsShown, lines_of}

-- the head of some spans that end with the bytes is all of these
pub whole_of : (buf : List ℕ) (headers : List HeaderSpan) (spans : RequestSpans) → length headers ≡ 64 → spans.len ≡ length buf
    → IsRequestWithin buf headers spans → IsRequestOf buf headers spans → (h : RequestHead) × IsHead buf h × IsRequestAt buf headers spans h
whole_of buf headers spans size len within of =
    let at = of.1 in
    let rest : drop spans.len buf ≡ [] = ap (λ k. drop k buf) len ∙ drop-length buf in
    let P : List ℕ → Type 0 = λ r. ReadsRequest buf of.0 r in
    let few = ap length at.fields in
    let one = length-map (take spans.headers headers) (header_bytes buf) in
    let two = length-map of.0.fields name_and_value in
    let fields : length of.0.fields ≤ 64 = omega (arith, few, one, two, length-take spans.headers headers) in
    (of.0, (subst P rest at.reads, fields), at)

length_fits : (c d e : Bool) (n : ℕ) → nat_lt 131072 n ≡ e → (if c then Some LengthUnread else (if d then Some LengthMissing else (if e then Some BodyTooLong else None))) ≡ None → n ≤ 131072
length_fits true d e n g h = absurd (cc h)
length_fits false true e n g h = absurd (cc h)
length_fits false false true n g h = absurd (cc h)
length_fits false false false n g h = ltb-false 131072 n g

line_fits : (a b : Bool) (post : Bool) (count : ℕ) (value : List ℕ)
    → (if a then Some HeadUnread else (if b then Some TransferCoded else length_refusal post count value)) ≡ None → number_in value ≤ 131072
line_fits true b post count value h = absurd (cc h)
line_fits false true post count value h = absurd (cc h)
line_fits false false post count value h =
    length_fits (nat_lt 1 count || ((count == 1) && not (is_digits value))) ((count == 0) && post) (nat_lt 131072 (number_in value)) (number_in value) refl h

-- a body whose head isn't refused has at most 131,072 bytes
pub body_fits : (minor : ℕ) (method : List ℕ) (lines : List Pair) → line_refusal minor method lines ≡ None → body_length lines ≤ 131072
body_fits minor method lines h =
    line_fits ((minor == 1) && not (how_many (codes "host") lines == 1)) (nat_lt 0 (how_many (codes "transfer-encoding") lines)) (is_post method)
    (how_many (codes "content-length") lines) (first_value (codes "content-length") lines) h

-- the bytes of some spans are those of their head
read_ok : (head : List ℕ) (lines : List HeaderSpan) (spans : RequestSpans) (h : RequestHead) (read : Head) → header_lines head ≤ 64 → IsHead head h
    → IsRequestAt head lines spans h → map (header_bytes head) (take spans.headers lines) ≡ lines_of h
    → line_refusal spans.version (span_bytes head spans.method) (map (header_bytes head) (take spans.headers lines)) ≡ None
    → IsShown (span_bytes head spans.method) (span_bytes head spans.path) (map (header_bytes head) (take spans.headers lines)) read
    → (h : RequestHead) × IsHeadRead head h × IsShown h.method h.target (lines_of h) read
read_ok head lines spans h read few is at same fine shown =
    let P : List Pair → Type 0 = λ ls. (line_refusal spans.version (span_bytes head spans.method) ls ≡ None) × IsShown (span_bytes head spans.method) (span_bytes head spans.path) ls read in
    let moved = subst P same (fine, shown) in
    let Q : List ℕ → Type 0 = λ m. (line_refusal spans.version m (lines_of h) ≡ None) × IsShown m (span_bytes head spans.path) (lines_of h) read in
    let called = subst Q at.method moved in
    let R : List ℕ → Type 0 = λ t. IsShown h.method t (lines_of h) read in
    let V : ℕ → Type 0 = λ v. line_refusal v h.method (lines_of h) ≡ None in
    (h, (few, is, subst V at.version called.0), subst R at.path called.1)

read_err : (head : List ℕ) (lines : List HeaderSpan) (spans : RequestSpans) (h : RequestHead) (refusal : Refusal) → header_lines head ≤ 64 → IsHead head h
    → IsRequestAt head lines spans h → map (header_bytes head) (take spans.headers lines) ≡ lines_of h
    → line_refusal spans.version (span_bytes head spans.method) (map (header_bytes head) (take spans.headers lines)) ≡ Some refusal
    → IsHeadRefused head refusal
read_err head lines spans h refusal few is at same why =
    let P : List Pair → Type 0 = λ ls. line_refusal spans.version (span_bytes head spans.method) ls ≡ Some refusal in
    let Q : List ℕ → Type 0 = λ m. line_refusal spans.version m (lines_of h) ≡ Some refusal in
    let V : ℕ → Type 0 = λ v. line_refusal v h.method (lines_of h) ≡ Some refusal in
    inr (inr (few, (h, is, subst V at.version (subst Q at.method (subst P same why)))))

-- what is read of a head by its spans is what is read of it
pub all_ok : (head : List ℕ) (lines : List HeaderSpan) (spans : RequestSpans) (r : Result Head Refusal) → header_lines head ≤ 64
    → ((h : RequestHead) × IsHead head h × IsRequestAt head lines spans h)
    → IfOk r (λ _. line_refusal spans.version (span_bytes head spans.method) (map (header_bytes head) (take spans.headers lines)) ≡ None)
    → IfOk r (IsShown (span_bytes head spans.method) (span_bytes head spans.path) (map (header_bytes head) (take spans.headers lines)))
    → IfOk r (λ read. (h : RequestHead) × IsHeadRead head h × IsShown h.method h.target (lines_of h) read)
all_ok head lines spans (Ok read) few is fine shown = read_ok head lines spans is.0 read few is.1 is.2 is.2.fields fine shown
all_ok head lines spans (Err e) few is fine shown = tt

pub all_err : (head : List ℕ) (lines : List HeaderSpan) (spans : RequestSpans) (r : Result Head Refusal) → header_lines head ≤ 64
    → ((h : RequestHead) × IsHead head h × IsRequestAt head lines spans h)
    → IfErr r (λ refusal. line_refusal spans.version (span_bytes head spans.method) (map (header_bytes head) (take spans.headers lines)) ≡ Some refusal)
    → IfErr r (IsHeadRefused head)
all_err head lines spans (Ok read) few is why = tt
all_err head lines spans (Err e) few is why = read_err head lines spans is.0 e few is.1 is.2 is.2.fields why
