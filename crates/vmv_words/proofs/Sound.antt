-- Words that clap takes give names and options.
use Rattle.std.proofs.Common.{refl, codes, true, false, Bool, List, Option, Some, None, [], ◌∷◌, ◌++◌, ◌≡◌, ◌∙◌, ◌⊎◌, inl, inr, sym, ap, subst, ℕ, zero, suc, ◌≤◌, length, arith}
use lib.Utf8.{encode}
use Rattle.std.specs.Prelude.{slice_get, ⊤}
use Rattle.std.specs.Str.{bytes_eq, chars, IsUtf8}
use Rattle.std.proofs.lemmas.Str.{IsUtf8-past_char, encodes-chars}
use Rattle.clap.specs.Walk.{Row, Walk, Waiting, idle, option, positional, used}
use Rattle.clap.specs.Kinds.{Kinds, or_else}
use Rattle.clap.specs.Faults.{turn_fault, use_fault}
use Rattle.clap.specs.declared.error.kind.ErrorKind.{ErrorKind}
use Rattle.vmv_words.specs.Words.{Word, IsPlain}
use Rattle.vmv_words.proofs.App.{shape, rules, workers_built, proof_built}
use Rattle.vmv_words.proofs.Looks.{Class, class, plain, dashes, count, joined, flag, strange, valued, short}
use Rattle.vmv_words.proofs.Steps.{Pending, nothing, a_name, a_count, at, IsCalm, calm_idle, calm_names, pending_fault, settled}
use Rattle.vmv_words.proofs.Steps.{name_walked, name_fault, trailing_fault, end_walked, end_fault, joined_walked, joined_fault, count_walked, count_fault, number_walked, number_fault, flag_walked, flag_fault, valued_fault, strange_fault, short_fault}
use Rattle.vmv_words.proofs.Uses.{Raw, Holds, name_used, workers_used, workers_pass, workers_twice, proof_used, proof_passes, proof_twice}
use Rattle.vmv_words.proofs.Whole.{Gives, none, name, next, attached, proved, ended, Fits, total, total_nil, total_cons, goes_on}

-- something is against the words
pub data IsFaulty : Kinds → Type 0 where
  faulty : (k : ErrorKind) (ks : Kinds) → IsFaulty (k ∷ ks)

clean_of : (ks : Kinds) → ks ≡ [] → IsFaulty ks → ⊥
clean_of [] e f = elim f [ ]
clean_of (k ∷ ks) e f = cc

first_faulty : (a b : Kinds) → IsFaulty a → IsFaulty (or_else a b)
first_faulty [] b f = elim f [ ]
first_faulty (k ∷ ks) b f = faulty k ks

second_faulty : (a b : Kinds) → IsFaulty b → IsFaulty (or_else a b)
second_faulty [] b f = f
second_faulty (k ∷ ks) b f = faulty k ks

turn_faulty : (w : Walk) (word : Word) (rest : List Word) → IsFaulty (turn_fault shape [] w word) → IsFaulty (total w (word ∷ rest))
turn_faulty w word rest f = subst IsFaulty (sym (total_cons w word rest)) (first_faulty _ _ f)

later_faulty : (w after : Walk) (word : Word) (rest : List Word) → turn_fault shape [] w word ≡ [] → Rattle.clap.specs.Walk.walked rules [] w word ≡ after → IsFaulty (total after rest) → IsFaulty (total w (word ∷ rest))
later_faulty w after word rest clean on f = subst IsFaulty (sym (goes_on w after word rest clean on)) f

-- one word of the fault is enough
faulty_by : (ks : Kinds) (k : ErrorKind) (more : Kinds) → ks ≡ k ∷ more → IsFaulty ks
faulty_by ks k more e = subst IsFaulty (sym e) (faulty k more)

-- the texts of the words are UTF-8
abbrev pub AllUtf8 : List Word → Type 0
AllUtf8 [] = ⊤
AllUtf8 (word ∷ rest) = IsUtf8 word × AllUtf8 rest

-- flags begin with a character
flag_char : (first : ℕ) (rest : Word) → IsUtf8 (45 ∷ first ∷ rest) → (c : ℕ) × (slice_get (chars (first ∷ rest)) 0 ≡ Some c)
unfolding encode
flag_char first rest u = go (chars (first ∷ rest)) (encodes-chars (first ∷ rest) (IsUtf8-past_char (45 ∷ first ∷ rest) (first ∷ rest) 45 u refl))
  where
    go : (cs : List ℕ) → Rattle.std.specs.Str.encode_utf8_all cs ≡ first ∷ rest → (c : ℕ) × (slice_get cs 0 ≡ Some c)
    go [] e = cc
    go (c ∷ cs) e = (c, refl)

-- no option waits, or options have ended
pub data IsPast : Waiting → Bool → Type 0 where
  calm : (waiting : Waiting) → IsCalm waiting → IsPast waiting false
  past : (waiting : Waiting) → IsPast waiting true

-- values that are refused are refused in the end, whatever follows
pub refused : (words : List Word) → AllUtf8 words → (rows : List Row) (pending : Pending) (waiting : Waiting) (is_trailing : Bool) → IsPast waiting is_trailing → IsFaulty (pending_fault rows pending)
    → IsFaulty (total (at rows pending waiting is_trailing) words)
refused [] u rows pending waiting is_trailing p f = subst IsFaulty (sym (total_nil (at rows pending waiting is_trailing))) f
refused (word ∷ rest) u rows pending waiting true p f = turn_faulty (at rows pending waiting true) word rest (subst IsFaulty (sym (trailing_fault word rows pending waiting)) f)
refused (word ∷ rest) u rows pending waiting false (calm waiting' is_calm) f = by_class (class word) (refused rest u.1 rows pending waiting true (past waiting) f)
  where
    w : Walk
    w = at rows pending waiting false

    by_class : Class word → IsFaulty (total (at rows pending waiting true) rest) → IsFaulty (total w (word ∷ rest))
    by_class (plain is_plain no_long no_short no_dash) later = turn_faulty w word rest (subst IsFaulty (sym (name_fault word rows pending waiting is_calm no_long no_short no_dash)) f)
    by_class (dashes is) later = later_faulty w (at rows pending waiting true) word rest (ap (turn_fault shape [] w) is ∙ end_fault rows pending waiting) (ap (Rattle.clap.specs.Walk.walked rules [] w) is ∙ end_walked rows pending waiting) later
    by_class (count is) later = turn_faulty w word rest (subst IsFaulty (sym (ap (turn_fault shape [] w) is ∙ count_fault rows pending waiting)) (first_faulty _ _ f))
    by_class (joined number is) later = turn_faulty w word rest (subst IsFaulty (sym (ap (turn_fault shape [] w) is ∙ joined_fault number rows pending waiting)) (first_faulty _ _ (first_faulty _ _ f)))
    by_class (flag is) later = turn_faulty w word rest (subst IsFaulty (sym (ap (turn_fault shape [] w) is ∙ flag_fault rows pending waiting)) (first_faulty _ _ (first_faulty _ _ f)))
    by_class (strange called value is_long no_dash no_workers no_proof) later = turn_faulty w word rest (faulty_by _ _ _ (strange_fault word called value rows pending waiting is_long no_dash no_workers no_proof))
    by_class (valued value is) later = turn_faulty w word rest (faulty_by _ _ _ (ap (turn_fault shape [] w) is ∙ valued_fault value rows pending waiting))
    by_class (short flags first more is some no_long is_short no_dash) later =
        let c = flag_char first more (subst IsUtf8 (is ∙ ap (λ (t : Word). 45 ∷ t) some) u.0) in
        turn_faulty w word rest (faulty_by _ _ _ (short_fault word first more c.0 rows pending waiting c.1 no_long (is_short ∙ ap Some some) no_dash))

-- where something would be against what is taken, it isn't taken
unclean : {P : Type 0} (ks : Kinds) → ks ≡ [] → IsFaulty ks → P
unclean ks e f = absurd (clean_of ks e f)

empty_total : (w after : Walk) (word : Word) (rest : List Word) → turn_fault shape [] w word ≡ [] → Rattle.clap.specs.Walk.walked rules [] w word ≡ after → total w (word ∷ rest) ≡ [] → total after rest ≡ []
empty_total w after word rest clean on takes = sym (goes_on w after word rest clean on) ∙ takes

none_left : (number : Word) (o : Option Word) → (Some number ≡ None) ⊎ (o ≡ None) → o ≡ None
none_left number o (inl e) = absurd (cc)
none_left number o (inr e) = e

none_set : (b : Bool) → (true ≡ false) ⊎ (b ≡ false) → b ≡ false
none_set b (inl e) = absurd (cc)
none_set b (inr e) = e

-- what words that are taken give
abbrev pub Given : List Word → Raw → Type 0
Given words raw = (r : Raw) × Gives words r × Fits raw r

abbrev Sounds : ℕ → Type 0
Sounds k = (words : List Word) → length words ≤ k → AllUtf8 words → (rows : List Row) (pending : Pending) (waiting : Waiting) (raw : Raw) → IsCalm waiting → pending_fault rows pending ≡ []
    → Holds (settled rows pending) raw → total (at rows pending waiting false) words ≡ [] → Given words raw

module _ (k : ℕ) (sound : Sounds k) (rows : List Row) (pending : Pending) (waiting : Waiting) (raw : Raw) (is_calm : IsCalm waiting) (clean : pending_fault rows pending ≡ []) (h : Holds (settled rows pending) raw) where
  abbrev here : Walk
  here = at rows pending waiting false

  a_plain : (word : Word) (rest : List Word) → length rest ≤ k → AllUtf8 rest → IsPlain word → Rattle.clap.specs.Lexer.long_of word ≡ None → Rattle.clap.specs.Lexer.short_of word ≡ None → bytes_eq word (45 ∷ 45 ∷ []) ≡ false
      → total here (word ∷ rest) ≡ [] → Given (word ∷ rest) raw
  a_plain word rest few u is_plain no_long no_short no_dash takes =
      let later = sound rest few u (settled rows pending) (a_name word) positional (record raw { names = raw.names ++ word ∷ [] }) calm_names refl (name_used word (settled rows pending) raw h)
      (empty_total here (at (settled rows pending) (a_name word) positional false) word rest (name_fault word rows pending waiting is_calm no_long no_short no_dash ∙ clean)
      (name_walked word rows pending waiting is_calm no_long no_short no_dash) takes) in
      (record later.0 { names = word ∷ later.0.names }, name word rest later.0 is_plain later.1, record { workers = later.2.workers; proof = later.2.proof })

  an_attached : (number : Word) (rest : List Word) → length rest ≤ k → AllUtf8 rest → (o : Option Word) → raw.workers ≡ o → total here ((codes "--workers=" ++ number) ∷ rest) ≡ [] → Given ((codes "--workers=" ++ number) ∷ rest) raw
  an_attached number rest few u (Some old) is takes =
      let f = faulty_by _ _ _ (workers_twice number old (settled rows pending) raw h is) in
      unclean _ takes (turn_faulty here (codes "--workers=" ++ number) rest (subst IsFaulty (sym (joined_fault number rows pending waiting)) (first_faulty _ _ (second_faulty _ _ f))))
  an_attached number rest few u None is takes =
      let turn = joined_fault number rows pending waiting ∙ ap (λ (ks : Kinds). or_else (or_else ks (use_fault false workers_built (number ∷ []) (settled rows pending))) []) clean
      ∙ ap (λ (ks : Kinds). or_else ks []) (workers_pass number (settled rows pending) raw h is) in
      let later = sound rest few u (used workers_built (number ∷ []) (settled rows pending)) nothing idle (record raw { workers = Some number }) calm_idle refl (workers_used number (settled rows pending) raw h is)
      (empty_total here (at (used workers_built (number ∷ []) (settled rows pending)) nothing idle false) (codes "--workers=" ++ number) rest turn (joined_walked number rows pending waiting) takes) in
      let once = none_left number later.0.workers later.2.workers in
      (record later.0 { workers = Some number }, attached number rest later.0 once later.1, record { workers = inl is; proof = later.2.proof })

  a_flag : (rest : List Word) → length rest ≤ k → AllUtf8 rest → (b : Bool) → raw.proof ≡ b → total here (codes "--proof" ∷ rest) ≡ [] → Given (codes "--proof" ∷ rest) raw
  a_flag rest few u true is takes =
      let f = faulty_by _ _ _ (proof_twice (settled rows pending) raw h is) in
      unclean _ takes (turn_faulty here (codes "--proof") rest (subst IsFaulty (sym (flag_fault rows pending waiting)) (first_faulty _ _ (second_faulty _ _ f))))
  a_flag rest few u false is takes =
      let turn = flag_fault rows pending waiting ∙ ap (λ (ks : Kinds). or_else (or_else ks (use_fault false proof_built [] (settled rows pending))) []) clean
      ∙ ap (λ (ks : Kinds). or_else ks []) (proof_passes (settled rows pending) raw h is) in
      let later = sound rest few u (used proof_built [] (settled rows pending)) nothing idle (record raw { proof = true }) calm_idle refl (proof_used (settled rows pending) raw h is)
      (empty_total here (at (used proof_built [] (settled rows pending)) nothing idle false) (codes "--proof") rest turn (flag_walked rows pending waiting) takes) in
      let once = none_set later.0.proof later.2.proof in
      (record later.0 { proof = true }, proved rest later.0 once later.1, record { workers = later.2.workers; proof = inl is })

  abbrev counting : Walk
  counting = at (settled rows pending) (a_count []) (option (codes "workers")) false

  a_number : (number : Word) (rest : List Word) → length rest ≤ k → AllUtf8 (number ∷ rest) → (o : Option Word) → raw.workers ≡ o → Class number → total counting (number ∷ rest) ≡ [] → Given (codes "--workers" ∷ number ∷ rest) raw
  a_number number rest few u (Some old) is (plain is_plain no_long no_short no_dash) takes =
      let f = faulty_by _ _ _ (workers_twice number old (settled rows pending) raw h is) in
      unclean _ takes (later_faulty counting (at (settled rows pending) (a_count (number ∷ [])) idle false) number rest (number_fault number (settled rows pending) no_long no_short no_dash)
      (number_walked number (settled rows pending) no_long no_short no_dash) (refused rest u.1 (settled rows pending) (a_count (number ∷ [])) idle false (calm idle calm_idle) f))
  a_number number rest few u None is (plain is_plain no_long no_short no_dash) takes =
      let later = sound rest few u.1 (settled rows pending) (a_count (number ∷ [])) idle (record raw { workers = Some number }) calm_idle (workers_pass number (settled rows pending) raw h is)
      (workers_used number (settled rows pending) raw h is)
      (empty_total counting (at (settled rows pending) (a_count (number ∷ [])) idle false) number rest (number_fault number (settled rows pending) no_long no_short no_dash)
      (number_walked number (settled rows pending) no_long no_short no_dash) takes) in
      let once = none_left number later.0.workers later.2.workers in
      (record later.0 { workers = Some number }, next number rest later.0 is_plain once later.1, record { workers = inl is; proof = later.2.proof })
  a_number number rest few u o is (dashes e) takes =
      let f : IsFaulty (pending_fault (settled rows pending) (a_count [])) = faulty _ _ in
      unclean _ takes (later_faulty counting (at (settled rows pending) (a_count []) (option (codes "workers")) true) number rest
      (ap (turn_fault shape [] counting) e ∙ end_fault (settled rows pending) (a_count []) (option (codes "workers")))
      (ap (Rattle.clap.specs.Walk.walked rules [] counting) e ∙ end_walked (settled rows pending) (a_count []) (option (codes "workers")))
      (refused rest u.1 (settled rows pending) (a_count []) (option (codes "workers")) true (past _) f))
  a_number number rest few u o is (count e) takes =
      unclean _ takes (turn_faulty counting number rest (faulty_by _ _ _ (ap (turn_fault shape [] counting) e ∙ count_fault (settled rows pending) (a_count []) (option (codes "workers")))))
  a_number number rest few u o is (joined n e) takes =
      unclean _ takes (turn_faulty counting number rest (faulty_by _ _ _ (ap (turn_fault shape [] counting) e ∙ joined_fault n (settled rows pending) (a_count []) (option (codes "workers")))))
  a_number number rest few u o is (flag e) takes =
      unclean _ takes (turn_faulty counting number rest (faulty_by _ _ _ (ap (turn_fault shape [] counting) e ∙ flag_fault (settled rows pending) (a_count []) (option (codes "workers")))))
  a_number number rest few u o is (strange called value is_long no_dash no_workers no_proof) takes =
      unclean _ takes (turn_faulty counting number rest (faulty_by _ _ _ (strange_fault number called value (settled rows pending) (a_count []) (option (codes "workers")) is_long no_dash no_workers no_proof)))
  a_number number rest few u o is (valued value e) takes =
      unclean _ takes (turn_faulty counting number rest (faulty_by _ _ _ (ap (turn_fault shape [] counting) e ∙ valued_fault value (settled rows pending) (a_count []) (option (codes "workers")))))
  a_number number rest few u o is (short flags first more e some no_long is_short no_dash) takes =
      let c = flag_char first more (subst IsUtf8 (e ∙ ap (λ (t : Word). 45 ∷ t) some) u.0) in
      unclean _ takes (turn_faulty counting number rest (faulty_by _ _ _ (short_fault number first more c.0 (settled rows pending) (a_count []) (option (codes "workers")) c.1 no_long (is_short ∙ ap Some some) no_dash)))

  a_count_word : (rest : List Word) → length rest ≤ k → AllUtf8 rest → total here (codes "--workers" ∷ rest) ≡ [] → Given (codes "--workers" ∷ rest) raw
  a_count_word [] few u takes =
      let turn = count_fault rows pending waiting ∙ ap (λ (ks : Kinds). or_else ks []) clean in
      let f : IsFaulty (pending_fault (settled rows pending) (a_count [])) = faulty _ _ in
      unclean _ takes (later_faulty here counting (codes "--workers") [] turn (count_walked rows pending waiting) (subst IsFaulty (sym (total_nil counting)) f))
  a_count_word (number ∷ rest) few u takes =
      let turn = count_fault rows pending waiting ∙ ap (λ (ks : Kinds). or_else ks []) clean in
      a_number number rest (omega (arith, few)) u raw.workers refl (class number) (empty_total here counting (codes "--workers") (number ∷ rest) turn (count_walked rows pending waiting) takes)

  by_class : (word : Word) (rest : List Word) → length rest ≤ k → AllUtf8 (word ∷ rest) → Class word → total here (word ∷ rest) ≡ [] → Given (word ∷ rest) raw
  by_class word rest few u (plain is_plain no_long no_short no_dash) takes = a_plain word rest few u.1 is_plain no_long no_short no_dash takes
  by_class word rest few u (dashes e) takes =
      subst (λ (w : Word). Given (w ∷ rest) raw) (sym e) (record { names = rest; workers = None; proof = false }, ended rest, record { workers = inr refl; proof = inr refl })
  by_class word rest few u (count e) takes = subst (λ (w : Word). Given (w ∷ rest) raw) (sym e) (a_count_word rest few u.1 (subst (λ (w : Word). total here (w ∷ rest) ≡ []) e takes))
  by_class word rest few u (joined number e) takes =
      subst (λ (w : Word). Given (w ∷ rest) raw) (sym e) (an_attached number rest few u.1 raw.workers refl (subst (λ (w : Word). total here (w ∷ rest) ≡ []) e takes))
  by_class word rest few u (flag e) takes = subst (λ (w : Word). Given (w ∷ rest) raw) (sym e) (a_flag rest few u.1 raw.proof refl (subst (λ (w : Word). total here (w ∷ rest) ≡ []) e takes))
  by_class word rest few u (strange called value is_long no_dash no_workers no_proof) takes =
      unclean _ takes (turn_faulty here word rest (faulty_by _ _ _ (strange_fault word called value rows pending waiting is_long no_dash no_workers no_proof)))
  by_class word rest few u (valued value e) takes = unclean _ takes (turn_faulty here word rest (faulty_by _ _ _ (ap (turn_fault shape [] here) e ∙ valued_fault value rows pending waiting)))
  by_class word rest few u (short flags first more e some no_long is_short no_dash) takes =
      let c = flag_char first more (subst IsUtf8 (e ∙ ap (λ (t : Word). 45 ∷ t) some) u.0) in
      unclean _ takes (turn_faulty here word rest (faulty_by _ _ _ (short_fault word first more c.0 rows pending waiting c.1 no_long (is_short ∙ ap Some some) no_dash)))

pub sound : (k : ℕ) → Sounds k
sound k [] few u rows pending waiting raw is_calm clean h takes = (record { names = []; workers = None; proof = false }, none, record { workers = inr refl; proof = inr refl })
sound zero (word ∷ rest) few u rows pending waiting raw is_calm clean h takes = absurd (omega (arith, few))
sound (suc k) (word ∷ rest) few u rows pending waiting raw is_calm clean h takes = by_class k (sound k) rows pending waiting raw is_calm clean h word rest (omega (arith, few)) u (class word) takes
