-- The bytes of labels are ASCII.
use Rattle.std.proofs.Common.{◌≡◌, ℕ, ◌<◌, ◌≤◌, Bool, true, false, List, [], ◌∷◌, length, refl, sym, ap, ◌∙◌, arith}
use Rattle.std.specs.Prelude.{leb, nat_le, IsTrue, All}
use Rattle.std.specs.List.{list_all}
use Rattle.std.specs.Str.{IsUtf8}
use Rattle.std.proofs.lemmas.Bool.{and_parts, ne_eqb, leb-true, leb-false, le-leb, lt-leb, false≢true}
use Rattle.std.proofs.lemmas.List.Elements.{All-cons, All-nil}
use Rattle.std.proofs.lemmas.Str.{IsUtf8-from_ascii, utf8_lossy-IsUtf8}
use Rattle.std.proofs.lemmas.Str.Ascii.{IsAscii-from_all}
use Rattle.serde_json.specs.Data.{string}
use Rattle.vmv_keeper.specs.Label.{is_label, is_label_byte}
use Rattle.vmv_request.specs.Replies.{string_of}

large : (b : ℕ) → 128 ≤ b → is_label_byte b ≡ false
large b h =
    let a = lt-leb b 90 (omega arith) in
    let c = lt-leb b 122 (omega arith) in
    let d = lt-leb b 57 (omega arith) in
    let e = ne_eqb b 95 (λ e. omega arith) in
    let f = ne_eqb b 45 (λ e. omega arith) in
    let g = le-leb 65 b (omega arith) in
    let i = le-leb 97 b (omega arith) in
    let j = le-leb 48 b (omega arith) in
    rw (a, c, d, e, f, g, i, j) refl

below_by : (b : ℕ) (t : Bool) → leb 128 b ≡ t → is_label_byte b ≡ true → b < 128
below_by b true e h = absurd (false≢true (sym (large b (leb-true 128 b e)) ∙ h))
below_by b false e h = leb-false 128 b e

all_ascii : (x : List ℕ) → list_all is_label_byte x ≡ true → All (λ b. b < 128) x
all_ascii [] h = All-nil (λ b. b < 128)
all_ascii (b ∷ bs) h =
    let parts = and_parts (is_label_byte b) (list_all is_label_byte bs) h in
    All-cons (λ b. b < 128) b bs (below_by b (leb 128 b) refl parts.0) (all_ascii bs parts.1)

pub label_utf8 : (x : List ℕ) → IsTrue (is_label x) → IsUtf8 x
label_utf8 x h =
    let first = and_parts (nat_le 1 (length x)) _ h in
    let second = and_parts (nat_le (length x) 64) _ first.1 in
    IsUtf8-from_ascii x (IsAscii-from_all x (all_ascii x second.1))

pub text_string : (x : List ℕ) → IsUtf8 x → string_of x ≡ string x
text_string x h = ap string (utf8_lossy-IsUtf8 x h)

pub label_string : (x : List ℕ) → IsTrue (is_label x) → string_of x ≡ string x
label_string x h = text_string x (label_utf8 x h)
