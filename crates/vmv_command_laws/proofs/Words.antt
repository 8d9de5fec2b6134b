-- Words that name another number of workers ask for the same by that number.
use Rattle.std.proofs.Common.{◌≡◌, ℕ, suc, true, false, Some, None, List, [], ◌∷◌, ◌++◌, length, codes, refl, sym, ap, subst, arith, ◌∙◌, length-append}
use Rattle.std.specs.List.{Contains}
use Rattle.std.specs.Str.{bytes_eq}
use Rattle.std.specs.Str.Parse.{IsNumeral}
use Rattle.std.proofs.lemmas.Slice.Eq.{bytes_eq-Decides}
use Rattle.std.proofs.lemmas.Str.Parse.{digit_from_value}
use Rattle.vmv_words.specs.Words.{Word, Given, IsPlain, empty, hyphen, other, IsCount, Gives, nothing, a_name, a_count, a_joined_count, a_flag, an_end, Request, review, baseline, recheck, replay, sample, IsFor}
use Rattle.vmv_command_laws.specs.Alike.{by_workers, AskForIt, AskAlike, NameAnotherNumber}

-- words that differ
differ : (a b : Word) → bytes_eq a b ≡ false → a ≡ b → ⊥
differ a b off e = let on : bytes_eq a b ≡ true = (bytes_eq-Decides a b).1 e in absurd (cc)

not_plain : (word : Word) → IsPlain word → word ≡ codes "--workers" → ⊥
not_plain word empty e = differ [] (codes "--workers") refl e
not_plain word hyphen e = differ (codes "-") (codes "--workers") refl e
not_plain word (other first rest differs) e = differs (cc e)

not_joined : (number : Word) → codes "--workers=" ++ number ≡ codes "--workers" → ⊥
not_joined number e = let n = ap length e in omega (arith, n, length-append (codes "--workers=") number)

not_count : (word : Word) (n : ℕ) → IsCount word n → word ≡ codes "--workers" → ⊥
not_count word n h e = let digits = subst (IsNumeral 10) e h.numeral in omega (arith, digit_from_value 45 digits.1.0)

first_in : (x : Word) (xs : List Word) → Contains (x ∷ xs) x
first_in x xs = (0, omega arith, refl)

later_in : (y : Word) (xs : List Word) (x : Word) → Contains xs x → Contains (y ∷ xs) x
later_in y xs x c = let less = c.1 in (suc c.0, omega (arith, less), c.2)

-- a number of workers was given, and with another one the words give the same but for that
record Renamed (words : List Word) (g : Given) (m : ℕ) : Type 0 where
  count : ℕ
  named : g.workers ≡ Some count
  gives : Gives words (record g { workers = Some m })

module _ (after : List Word) (n m : Word) (j : ℕ) (count : IsCount m j) where
  abbrev from : List Word → List Word
  from before = before ++ codes "--workers" ∷ n ∷ after

  abbrev to : List Word → List Word
  to before = before ++ codes "--workers" ∷ m ∷ after

  none_named : {P : Type 0} (words : List Word) (g : Given) → g.workers ≡ None → Renamed words g j → P
  none_named words g none r = let there = r.named in absurd (cc)

  renamed : (words : List Word) (g : Given) → Gives words g → (before : List Word) → (Contains before (codes "--") → ⊥) → words ≡ from before → Renamed (to before) g j
  renamed words g nothing [] unended e = absurd (cc)
  renamed words g nothing (b ∷ before) unended e = absurd (cc)
  renamed words g (a_name word rest g' plain more) [] unended e = absurd (not_plain word plain (cc e))
  renamed words g (a_name word rest g' plain more) (b ∷ before) unended e =
      let head : word ≡ b = cc e in
      let tail : rest ≡ from before = cc e in
      let r = renamed rest g' more before (λ there. unended (later_in b before (codes "--") there)) tail in
      record {
        count = r.count;
        named = r.named;
        gives = subst (λ (w : Word). Gives (w ∷ to before) (record { names = word ∷ g'.names; workers = Some j; proof = g'.proof })) head (a_name word (to before) (record g' { workers = Some j }) plain r.gives);
      }
  renamed words g (a_count number k rest g' is none more) [] unended e =
      let tail : rest ≡ after = cc e in
      record { count = k; named = refl; gives = subst (λ (r : List Word). Gives (codes "--workers" ∷ m ∷ r) (record g' { workers = Some j })) tail (a_count m j rest g' count none more) }
  renamed words g (a_count number k rest g' is none more) (b ∷ []) unended e = absurd (not_count number k is (cc e))
  renamed words g (a_count number k rest g' is none more) (b ∷ c ∷ before) unended e =
      let tail : rest ≡ from before = cc e in
      none_named (to before) g' none (renamed rest g' more before (λ there. unended (later_in b (c ∷ before) (codes "--") (later_in c before (codes "--") there))) tail)
  renamed words g (a_joined_count number k rest g' is none more) [] unended e = absurd (not_joined number (cc e))
  renamed words g (a_joined_count number k rest g' is none more) (b ∷ before) unended e =
      let tail : rest ≡ from before = cc e in
      none_named (to before) g' none (renamed rest g' more before (λ there. unended (later_in b before (codes "--") there)) tail)
  renamed words g (a_flag rest g' off more) [] unended e = absurd (differ (codes "--proof") (codes "--workers") refl (cc e))
  renamed words g (a_flag rest g' off more) (b ∷ before) unended e =
      let head : codes "--proof" ≡ b = cc e in
      let tail : rest ≡ from before = cc e in
      let r = renamed rest g' more before (λ there. unended (later_in b before (codes "--") there)) tail in
      record {
        count = r.count;
        named = r.named;
        gives = subst (λ (w : Word). Gives (w ∷ to before) (record { names = g'.names; workers = Some j; proof = true })) head (a_flag (to before) (record g' { workers = Some j }) off r.gives);
      }
  renamed words g (an_end rest) [] unended e = absurd (differ (codes "--") (codes "--workers") refl (cc e))
  renamed words g (an_end rest) (b ∷ before) unended e =
      let head : b ≡ codes "--" = cc e in
      absurd (unended (subst (λ (w : Word). Contains (b ∷ before) w) head (first_in b before)))

  -- what the words are for, by the other number
  for_it : (command : Word) (g : Given) (k : ℕ) (request : Request) → g.workers ≡ Some k → IsFor command g request → IsFor command (record g { workers = Some j }) (by_workers j request)
  for_it command g k (review base revision count proved) named h = (h.0, h.1, refl, h.3)
  for_it command g k (baseline base count) named h = (h.0, h.1, refl, h.3)
  for_it command g k (recheck base revision proof) named h = let none = h.2 in absurd (cc)
  for_it command g k (replay revision witness) named h = let none = h.2 in absurd (cc)
  for_it command g k (sample number count) named (word, is, names, is_number, workers, off) = (word, is, names, is_number, refl, off)

  ask_for_it : (command : Word) (before : List Word) (words others : List Word) → (Contains before (codes "--") → ⊥) → words ≡ command ∷ from before → others ≡ command ∷ to before → AskForIt words others
  ask_for_it command before words others unended e f request (command', rest, g, are, gives, is_for) =
      let same : command' ∷ rest ≡ command ∷ from before = sym are ∙ e in
      let head : command' ≡ command = cc same in
      let tail : rest ≡ from before = cc same in
      let r = renamed rest g gives before unended tail in
      (j, (command, to before, record g { workers = Some j }, f, r.gives, for_it command g r.count request r.named (subst (λ (c : Word). IsFor c g request) head is_for)))

pub ask_alike : (words others : List Word) → NameAnotherNumber words others → AskAlike words others
ask_alike words others h = (
  ask_for_it h.after h.one.number h.other.number h.other.count h.other.is_count h.command h.before words others h.one.unended h.one.are h.other.are,
  ask_for_it h.after h.other.number h.one.number h.one.count h.one.is_count h.command h.before others words h.other.unended h.other.are h.one.are,
)
