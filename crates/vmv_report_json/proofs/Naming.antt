-- The bytes of names are ASCII.
use Rattle.std.proofs.Common.{◌≡◌, ℕ, ◌<◌, ◌≤◌, Bool, true, false, List, [], ◌∷◌, length, refl, sym, ap, ◌∙◌, arith}
use Rattle.std.specs.Prelude.{leb, nat_le, IsTrue, All}
use Rattle.std.specs.List.{list_all}
use Rattle.std.specs.Str.{IsUtf8}
use Rattle.std.proofs.lemmas.Bool.{and_parts, ne_eqb, leb-true, leb-false, le-leb, lt-leb, false≢true}
use Rattle.std.proofs.lemmas.List.Elements.{All-cons, All-nil}
use Rattle.std.proofs.lemmas.Str.{IsUtf8-from_ascii, utf8_lossy-IsUtf8}
use Rattle.std.proofs.lemmas.Str.Ascii.{IsAscii-from_all}
use Rattle.serde_json.specs.Data.{string}
use Rattle.vmv_tree.specs.Names.{is_name, is_name_byte, first_is_letter}
use Rattle.vmv_tree.specs.declared.name.Name.{Name}
use Rattle.vmv_report_json.specs.Json.{string_of}

large : (b : ℕ) → 128 ≤ b → is_name_byte b ≡ false
large b h =
    let a = lt-leb b 90 (omega arith) in
    let c = lt-leb b 122 (omega arith) in
    let d = lt-leb b 57 (omega arith) in
    let e = ne_eqb b 95 (λ e. omega arith) in
    let f = le-leb 65 b (omega arith) in
    let g = le-leb 97 b (omega arith) in
    let i = le-leb 48 b (omega arith) in
    rw (a, c, d, e, f, g, i) refl

below_by : (b : ℕ) (t : Bool) → leb 128 b ≡ t → is_name_byte b ≡ true → b < 128
below_by b true e h = absurd (false≢true (sym (large b (leb-true 128 b e)) ∙ h))
below_by b false e h = leb-false 128 b e

all_ascii : (x : List ℕ) → list_all is_name_byte x ≡ true → All (λ b. b < 128) x
all_ascii [] h = All-nil (λ b. b < 128)
all_ascii (b ∷ bs) h =
    let parts = and_parts (is_name_byte b) (list_all is_name_byte bs) h in
    All-cons (λ b. b < 128) b bs (below_by b (leb 128 b) refl parts.0) (all_ascii bs parts.1)

pub name_utf8 : (x : Name) → IsTrue (is_name x) → IsUtf8 x
name_utf8 x h =
    let size = and_parts (nat_le (length x) 64) _ h in
    let first = and_parts (first_is_letter x) _ size.1 in
    let all = and_parts (list_all is_name_byte x) _ first.1 in
    IsUtf8-from_ascii x (IsAscii-from_all x (all_ascii x all.0))

pub name_string : (x : Name) → IsTrue (is_name x) → string_of x ≡ string x
name_string x h = ap string (utf8_lossy-IsUtf8 x (name_utf8 x h))
