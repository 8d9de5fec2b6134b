-- What is read of a line, and what its fault says of the text that it stands in.
use Rattle.std.proofs.Common.{◌≡◌, ℕ, ◌≤◌, true, false, List, [], ◌∷◌, ◌++◌, length, refl, sym, ap, subst, ◌∙◌, IsTrue, arith, append_assoc, length-append}
use Rattle.std.specs.Prelude.{Err, codes}
use Rattle.std.specs.Fmt.{decimal, signed_decimal}
use Rattle.std.proofs.lemmas.List.{append-nil, append_cancel_left}
use Rattle.std.specs.Prelude.{ℤ}
use Rattle.vmv_tree.specs.Names.{is_name, is_name_byte}
use Rattle.vmv_tree.specs.declared.name.Name.{Name}
use Rattle.vmv_tree.specs.declared.site.NamedSite.{NamedSite}
use Rattle.vmv_witness.specs.declared.fault.Ill.{Ill}
use Rattle.vmv_witness.specs.declared.fault.Ill.TheVariants.{Form, Size}
use Rattle.vmv_witness.specs.declared.fault.WitnessFault.{WitnessFault}
use Rattle.vmv_witness.specs.Numbers.{IsNumber, IsSiteNumber, IsValue}
use Rattle.vmv_witness.specs.Text.{entry_line}
use Rattle.vmv_witness.specs.Told.{fault_at}
use Rattle.vmv_witness.specs.Reading.{lacks, SplitsAt, ReadsNumber, ReadsPair, NoneLoosely, TooLarge, NoWord, NoLine, TakesSite, TakesPair}
use Rattle.vmv_witness.proofs.Bytes.{lacks-append, lacks_head, lacks_tail, same_split}
use Rattle.vmv_witness.proofs.Clean.{name_lacks, split_clean}

-- a line begins with a word that its text begins with
pub prefix_of : (word z line left : List ℕ) → lacks 10 word ≡ true → line ++ 10 ∷ left ≡ word ++ z → (rest : List ℕ) × (line ≡ word ++ rest)
prefix_of [] z line left h e = (line, refl)
prefix_of (c ∷ w) z [] left h e = let s : c ≡ 10 = cc in absurd (lacks_head 10 c w h s)
prefix_of (c ∷ w) z (d ∷ line) left h e =
    let heads : d ≡ c = cc in
    let tails : line ++ 10 ∷ left ≡ w ++ z = cc in
    let r = prefix_of w z line left (lacks_tail 10 c w h) tails in
    (r.0, λ i. heads i ∷ r.1 i)

pub no_word : (word text line left : List ℕ) → lacks 10 word ≡ true → text ≡ line ++ 10 ∷ left → ((rest : List ℕ) → line ≡ word ++ rest → ⊥) → NoWord word text
no_word word text line left h e never bytes more f =
    let r = prefix_of word (bytes ++ 10 ∷ more) line left h (sym e ∙ (f ∙ append_assoc word bytes (10 ∷ more))) in
    never r.0 r.1

-- a text without a line end has no line
pub no_word_there : (word text : List ℕ) → ((front back : List ℕ) → text ≡ front ++ 10 ∷ back → ⊥) → NoWord word text
no_word_there word text never bytes more f = never (word ++ bytes) more f

pub with_word : (word bytes text line left : List ℕ) → SplitsAt 10 text line left → line ≡ word ++ bytes → SplitsAt 10 text (word ++ bytes) left
with_word word bytes text line left split e =
    (subst (λ l. IsTrue (lacks 10 l)) e split.0, split.1 ∙ ap (λ l. l ++ 10 ∷ left) e)

pub some_of : (xs : List ℕ) → (xs ≡ [] → ⊥) → (b : ℕ) × (rest : List ℕ) × (xs ≡ b ∷ rest)
some_of [] h = absurd (h refl)
some_of (b ∷ rest) h = (b, rest, refl)

pub not_line : (line bytes text left : List ℕ) → lacks 10 line ≡ true → SplitsAt 10 text (line ++ bytes) left → 1 ≤ length bytes → NoLine line text
not_line line bytes text left h split some more e =
    let s = same_split 10 (line ++ bytes) left line more split.0 h (sym split.1 ∙ e) in
    omega (arith, length-append line bytes, ap length s.0)

pub no_line : (line text : List ℕ) → NoWord line text → NoLine line text
no_line line text never more e = never [] more (e ∙ ap (λ l. l ++ 10 ∷ more) (sym (append-nil line)))

pub not_entry : (bytes text left : List ℕ) → SplitsAt 10 text (codes "entry " ++ bytes) left → (IsTrue (is_name bytes) → ⊥) → (name more : List ℕ) → IsTrue (is_name name) → text ≡ entry_line name ++ 10 ∷ more → ⊥
not_entry bytes text left split never name more h e =
    let clean = lacks-append 10 (codes "entry ") name refl (name_lacks 10 refl name h) in
    let s = same_split 10 (codes "entry " ++ bytes) left (codes "entry " ++ name) more split.0 clean (sym split.1 ∙ e) in
    never (subst (λ n. IsTrue (is_name n)) (sym (append_cancel_left (codes "entry ") bytes name s.0)) h)

pub pair_not_named : (b : ℕ) → is_name_byte b ≡ false → (bytes x y : List ℕ) → SplitsAt b bytes x y → (IsTrue (is_name x) → ⊥) → (n number : List ℕ) → IsTrue (is_name n) → IsNumber number → bytes ≡ n ++ b ∷ number → ⊥
pair_not_named b out bytes x y split never n number h k e =
    let s = same_split b n number x y (name_lacks b out n h) split.0 (sym e ∙ split.1) in
    never (subst (λ t. IsTrue (is_name t)) s.0 h)

pub pair_ill : {A B : Type 0} (b : ℕ) → is_name_byte b ≡ false → (name : A → Name) (digits : A → List ℕ) (own : B → List ℕ) (Fits : List ℕ → Type 0) (bytes x y : List ℕ) (ill : Ill) → SplitsAt b bytes x y → IsTrue (is_name x) → ReadsNumber {A = B} own Fits y (Err ill) → ReadsPair {A = A} b name digits Fits bytes (Err ill)
pair_ill b out name digits own Fits bytes x y Form split named h =
    λ n number k l e.
    let s = same_split b n number x y (name_lacks b out n k) split.0 (sym e ∙ split.1) in
    h (subst IsNumber s.1 l)
pair_ill b out name digits own Fits bytes x y Size split named h = (x, y, named, h.0, split.1, h.1)

none_loosely : (word : List ℕ) (b : ℕ) (bytes text left : List ℕ) → (b ≡ 10 → ⊥) → lacks 10 word ≡ true → SplitsAt 10 text (word ++ bytes) left → ((n number : List ℕ) → IsTrue (is_name n) → IsNumber number → bytes ≡ n ++ b ∷ number → ⊥) → NoneLoosely word b text
none_loosely word b bytes text left other h split never name number more l =
    let clean = split_clean b word name number other h l.named l.numbered in
    let s = same_split 10 (word ++ bytes) left (word ++ (name ++ b ∷ number)) more split.0 clean (sym split.1 ∙ l.place) in
    never name number l.named l.numbered (append_cancel_left word bytes (name ++ b ∷ number) s.0)

too_large : (word : List ℕ) (b : ℕ) (Fits : List ℕ → Type 0) (bytes text left : List ℕ) → SplitsAt 10 text (word ++ bytes) left
    → (n : List ℕ) × (number : List ℕ) × IsTrue (is_name n) × IsNumber number × (bytes ≡ n ++ b ∷ number) × (Fits number → ⊥) → TooLarge word b Fits text
too_large word b Fits bytes text left split (n, number, named, numbered, e, out) =
    (n, number, left, record { named = named; numbered = numbered; place = split.1 ∙ ap (λ t. (word ++ t) ++ 10 ∷ left) e }, out)

site_ill : (bytes old new : List ℕ) (ill : Ill) → SplitsAt 10 old (codes "site " ++ bytes) new → ReadsPair {A = NamedSite} 35 (λ s. s.proc) (λ s. decimal s.index) IsSiteNumber bytes (Err ill) → TakesSite old new (Err (fault_at ill 3))
site_ill bytes old new Form split h = (refl, none_loosely (codes "site ") 35 bytes old new (λ e. omega arith) refl split h)
site_ill bytes old new Size split h = (refl, too_large (codes "site ") 35 IsSiteNumber bytes old new split h)

pub site_fault : (bytes old new : List ℕ) (ill : Ill) (fault : WitnessFault) → fault ≡ fault_at ill 3 → SplitsAt 10 old (codes "site " ++ bytes) new → ReadsPair {A = NamedSite} 35 (λ s. s.proc) (λ s. decimal s.index) IsSiteNumber bytes (Err ill) → TakesSite old new (Err fault)
site_fault bytes old new ill fault e split h = subst (λ f. TakesSite old new (Err f)) (sym e) (site_ill bytes old new ill split h)

pub pair_fault : (word bytes old new : List ℕ) (ill : Ill) → lacks 10 word ≡ true → SplitsAt 10 old (word ++ bytes) new → ReadsPair {A = Name × ℤ} 32 (λ p. p.0) (λ p. signed_decimal p.1) IsValue bytes (Err ill) → TakesPair word old new (Err ill)
pair_fault word bytes old new Form clean split h = ((bytes, new, split.1), none_loosely word 32 bytes old new (λ e. omega arith) clean split h)
pair_fault word bytes old new Size clean split h = too_large word 32 IsValue bytes old new split h
