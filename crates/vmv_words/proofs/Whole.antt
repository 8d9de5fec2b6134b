-- clap takes just the words that give names and options, and holds what they give.
use Rattle.std.proofs.Common.{refl, codes, true, false, Bool, ◌||◌, List, Option, Some, None, [], ◌∷◌, ◌++◌, ◌≡◌, ◌∙◌, ◌⊎◌, inl, inr, sym, ap, subst, fold, append_assoc, append-nil}
use Rattle.clap.specs.Walk.{Row, Walk, Waiting, idle, option, positional, settled_rows, used, walked}
use Rattle.clap.specs.Kinds.{Kinds, or_else}
use Rattle.clap.specs.Faults.{settle_fault, turn_fault, use_fault, walk_fault}
use Rattle.vmv_words.specs.Words.{Word, IsPlain}
use Rattle.vmv_words.proofs.App.{shape, workers_built, proof_built}
use Rattle.vmv_words.proofs.App.{rules as built_rules}
use Rattle.vmv_words.proofs.Looks.{unmarked}
use Rattle.vmv_words.proofs.Steps.{Pending, nothing, a_name, a_count, at, IsCalm, calm_idle, calm_names, pending_fault, settled}
use Rattle.vmv_words.proofs.Steps.{name_walked, name_fault, trailing_walked, trailing_fault, end_walked, end_fault, joined_walked, joined_fault, count_walked, count_fault, number_walked, number_fault, flag_walked, flag_fault}
use Rattle.vmv_words.proofs.Uses.{Raw, Holds, name_used, workers_used, workers_pass, proof_used, proof_passes}

-- the words give these names and options, where the number of workers is any word
pub data Gives : List Word → Raw → Type 0 where
  none : Gives [] (record { names = []; workers = None; proof = false })
  name : (word : Word) (rest : List Word) (r : Raw) → IsPlain word → Gives rest r → Gives (word ∷ rest) (record r { names = word ∷ r.names })
  next : (number : Word) (rest : List Word) (r : Raw) → IsPlain number → r.workers ≡ None → Gives rest r → Gives (codes "--workers" ∷ number ∷ rest) (record r { workers = Some number })
  attached : (number : Word) (rest : List Word) (r : Raw) → r.workers ≡ None → Gives rest r → Gives ((codes "--workers=" ++ number) ∷ rest) (record r { workers = Some number })
  proved : (rest : List Word) (r : Raw) → r.proof ≡ false → Gives rest r → Gives (codes "--proof" ∷ rest) (record r { proof = true })
  ended : (rest : List Word) → Gives (codes "--" ∷ rest) (record { names = rest; workers = None; proof = false })

-- no option stands in both
pub record Fits (raw r : Raw) : Type 0 where
  pub workers : (raw.workers ≡ None) ⊎ (r.workers ≡ None)
  pub proof : (raw.proof ≡ false) ⊎ (r.proof ≡ false)

abbrev pub first : Option Word → Option Word → Option Word
first None later = later
first (Some word) later = Some word

abbrev pub plus : Raw → Raw → Raw
plus raw r = record { names = raw.names ++ r.names; workers = first raw.workers r.workers; proof = raw.proof || r.proof }

first_none : (o : Option Word) → first o None ≡ o
first_none None = refl
first_none (Some word) = refl

or_false : (b : Bool) → (b || false) ≡ b
or_false true = refl
or_false false = refl

-- what is against the words, from here on
abbrev pub total : Walk → List Word → Kinds
total w words = or_else (walk_fault shape [] w words) (settle_fault built_rules false (fold (walked built_rules []) w words).held)

-- the rows in the end
abbrev pub rows_at_end : Walk → List Word → List Row
rows_at_end w words = settled_rows built_rules (fold (walked built_rules []) w words).held.pending (fold (walked built_rules []) w words).held.rows

or_else_assoc : (a b c : Kinds) → or_else (or_else a b) c ≡ or_else a (or_else b c)
or_else_assoc [] b c = refl
or_else_assoc (k ∷ ks) b c = refl

pub total_nil : (w : Walk) → total w [] ≡ settle_fault built_rules false w.held
unfolding walk_fault
total_nil w = refl

pub total_cons : (w : Walk) (word : Word) (rest : List Word) → total w (word ∷ rest) ≡ or_else (turn_fault shape [] w word) (total (walked built_rules [] w word) rest)
unfolding walk_fault
total_cons w word rest = or_else_assoc (turn_fault shape [] w word) (walk_fault shape [] (walked built_rules [] w word) rest) _

-- a word that takes the walk on without a fault
pub goes_on : (w after : Walk) (word : Word) (rest : List Word) → turn_fault shape [] w word ≡ [] → walked built_rules [] w word ≡ after → total w (word ∷ rest) ≡ total after rest
goes_on w after word rest clean on = total_cons w word rest ∙ ap (λ (ks : Kinds). or_else ks (total (walked built_rules [] w word) rest)) clean ∙ ap (λ (v : Walk). total v rest) on

pub same_end : (w after : Walk) (word : Word) (rest : List Word) → walked built_rules [] w word ≡ after → rows_at_end w (word ∷ rest) ≡ rows_at_end after rest
same_end w after word rest on = ap (λ (v : Walk). rows_at_end v rest) on

-- nothing is against the words, and the rows in the end hold this
pub record Takes (w : Walk) (words : List Word) (raw : Raw) : Type 0 where
  pub clean : total w words ≡ []
  pub holds : Holds (rows_at_end w words) raw
  pub runs : (fold (walked built_rules []) w words).stopped ≡ None

takes_on : (w after : Walk) (word : Word) (rest : List Word) (raw other : Raw) → turn_fault shape [] w word ≡ [] → walked built_rules [] w word ≡ after → other ≡ raw → Takes after rest other → Takes w (word ∷ rest) raw
takes_on w after word rest raw other clean on same t = record {
  clean = goes_on w after word rest clean on ∙ t.clean;
  runs = ap (λ (v : Walk). (fold (walked built_rules []) v rest).stopped) on ∙ t.runs;
  holds = subst (λ (rs : List Row). Holds rs raw) (sym (same_end w after word rest on)) (subst (λ (r : Raw). Holds (rows_at_end after rest) r) same t.holds);
}

takes_none : (w : Walk) (raw : Raw) → w.stopped ≡ None → settle_fault built_rules false w.held ≡ [] → Holds (rows_at_end w []) raw → Takes w [] raw
takes_none w raw runs clean holds = record { clean = total_nil w ∙ clean; holds = holds; runs = runs }

-- words behind `--` are names
pub names_taken : (words : List Word) (rows : List Row) (pending : Pending) (waiting : Waiting) (raw : Raw) → pending_fault rows pending ≡ [] → Holds (settled rows pending) raw
    → Takes (at rows pending waiting true) words (record raw { names = raw.names ++ words })
names_taken [] rows pending waiting raw clean h =
    takes_none (at rows pending waiting true) _ refl clean (subst (λ (l : List Word). Holds (settled rows pending) (record raw { names = l })) (sym (append-nil raw.names)) h)
names_taken (word ∷ rest) rows pending waiting raw clean h =
    takes_on (at rows pending waiting true) (at (settled rows pending) (a_name word) positional true) word rest _ _ (trailing_fault word rows pending waiting ∙ clean) (trailing_walked word rows pending waiting)
    (ap (λ (l : List Word). record raw { names = l }) (append_assoc raw.names (word ∷ []) rest))
    (names_taken rest (settled rows pending) (a_name word) positional (record raw { names = raw.names ++ word ∷ [] }) refl (name_used word (settled rows pending) raw h))

absent : (o : Option Word) (number : Word) → (o ≡ None) ⊎ (Some number ≡ None) → o ≡ None
absent o number (inl e) = e
absent o number (inr e) = absurd (cc)

unset : (b : Bool) → (b ≡ false) ⊎ (true ≡ false) → b ≡ false
unset b (inl e) = e
unset b (inr e) = absurd (cc)

-- what words give is taken
pub taken : (words : List Word) (r : Raw) → Gives words r → (rows : List Row) (pending : Pending) (waiting : Waiting) (raw : Raw) → IsCalm waiting → pending_fault rows pending ≡ []
    → Holds (settled rows pending) raw → Fits raw r → Takes (at rows pending waiting false) words (plus raw r)
taken [] r none rows pending waiting raw calm clean h fits =
    takes_none (at rows pending waiting false) _ refl clean (subst (λ (x : Raw). Holds (settled rows pending) x) same h)
  where
    same : raw ≡ plus raw (record { names = []; workers = None; proof = false })
    same = rw (append-nil raw.names, first_none raw.workers, or_false raw.proof) refl
taken (word ∷ rest) r (name word' rest' r' is_plain g) rows pending waiting raw calm clean h fits =
    let look = unmarked word is_plain in
    takes_on (at rows pending waiting false) (at (settled rows pending) (a_name word) positional false) word rest _ _
    (name_fault word rows pending waiting calm look.no_long look.no_short look.no_dash ∙ clean) (name_walked word rows pending waiting calm look.no_long look.no_short look.no_dash)
    (ap (λ (l : List Word). record (plus raw r') { names = l }) (append_assoc raw.names (word ∷ []) r'.names))
    (taken rest r' g (settled rows pending) (a_name word) positional (record raw { names = raw.names ++ word ∷ [] }) calm_names refl (name_used word (settled rows pending) raw h)
    (record { workers = fits.workers; proof = fits.proof }))
taken (word ∷ number ∷ rest) r (next number' rest' r' is_plain once g) rows pending waiting raw calm clean h fits =
    let look = unmarked number is_plain in
    let free = absent raw.workers number fits.workers in
    takes_on (at rows pending waiting false) (at (settled rows pending) (a_count []) (option (codes "workers")) false) word (number ∷ rest) _ _
    (count_fault rows pending waiting ∙ ap (λ (ks : Kinds). or_else ks []) clean) (count_walked rows pending waiting) refl
    (takes_on (at (settled rows pending) (a_count []) (option (codes "workers")) false) (at (settled rows pending) (a_count (number ∷ [])) idle false) number rest _ _
    (number_fault number (settled rows pending) look.no_long look.no_short look.no_dash) (number_walked number (settled rows pending) look.no_long look.no_short look.no_dash)
    (ap (λ (o : Option Word). record (plus raw r') { workers = first o (Some number) }) (sym free))
    (taken rest r' g (settled rows pending) (a_count (number ∷ [])) idle (record raw { workers = Some number }) calm_idle (workers_pass number (settled rows pending) raw h free)
    (workers_used number (settled rows pending) raw h free) (record { workers = inr once; proof = fits.proof })))
taken (word ∷ rest) r (attached number rest' r' once g) rows pending waiting raw calm clean h fits =
    let free = absent raw.workers number fits.workers in
    takes_on (at rows pending waiting false) (at (used workers_built (number ∷ []) (settled rows pending)) nothing idle false) word rest _ _
    (joined_fault number rows pending waiting ∙ ap (λ (ks : Kinds). or_else (or_else ks (use_fault false workers_built (number ∷ []) (settled rows pending))) []) clean
    ∙ ap (λ (ks : Kinds). or_else ks []) (workers_pass number (settled rows pending) raw h free)) (joined_walked number rows pending waiting)
    (ap (λ (o : Option Word). record (plus raw r') { workers = first o (Some number) }) (sym free))
    (taken rest r' g (used workers_built (number ∷ []) (settled rows pending)) nothing idle (record raw { workers = Some number }) calm_idle refl
    (workers_used number (settled rows pending) raw h free) (record { workers = inr once; proof = fits.proof }))
taken (word ∷ rest) r (proved rest' r' once g) rows pending waiting raw calm clean h fits =
    let free = unset raw.proof fits.proof in
    takes_on (at rows pending waiting false) (at (used proof_built [] (settled rows pending)) nothing idle false) word rest _ _
    (flag_fault rows pending waiting ∙ ap (λ (ks : Kinds). or_else (or_else ks (use_fault false proof_built [] (settled rows pending))) []) clean
    ∙ ap (λ (ks : Kinds). or_else ks []) (proof_passes (settled rows pending) raw h free)) (flag_walked rows pending waiting)
    (ap (λ (b : Bool). record (plus raw r') { proof = b || true }) (sym free))
    (taken rest r' g (used proof_built [] (settled rows pending)) nothing idle (record raw { proof = true }) calm_idle refl
    (proof_used (settled rows pending) raw h free) (record { workers = fits.workers; proof = inr once }))
taken (word ∷ rest) r (ended rest') rows pending waiting raw calm clean h fits =
    takes_on (at rows pending waiting false) (at rows pending waiting true) word rest _ _ (end_fault rows pending waiting) (end_walked rows pending waiting) same (names_taken rest rows pending waiting raw clean h)
  where
    same : record raw { names = raw.names ++ rest } ≡ plus raw (record { names = rest; workers = None; proof = false })
    same = rw (first_none raw.workers, or_false raw.proof) refl
