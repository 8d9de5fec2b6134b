-- What a parse of the words comes to.
use Rattle.std.proofs.Common.{refl, codes, true, false, Bool, cond, ◌||◌, List, Option, Some, None, [], ◌∷◌, ◌≡◌, ◌∙◌, inl, sym, ap, subst, length, arith, fold, is_some}
use Rattle.clap.specs.Walk.{Row, Text, Walk, idle, has_row, with_default, with_values, reading_by, walked, nothing_held}
use Rattle.clap.specs.Simple.{matches_of, built, entered}
use Rattle.clap.specs.Kinds.{Kinds, or_else}
use Rattle.clap.specs.Faults.{fault_of, walk_fault, settle_fault, default_fault, defaults_fault, level_fault, entered_fault}
use Rattle.clap.specs.declared.parser.matches.ValueSource.TheVariants.{DefaultValue}
use Rattle.vmv_words.specs.Words.{Word}
use Rattle.vmv_words.specs.Clap.{app}
use Rattle.vmv_words.proofs.App.{shape, rules, name_built, workers_built, proof_built}
use Rattle.vmv_words.proofs.Rows.{row, made, new_row, kept_row, has_of, has_not}
use Rattle.vmv_words.proofs.Steps.{nothing, at, calm_idle}
use Rattle.vmv_words.proofs.Uses.{Raw, Holds, name_row, workers_row, proof_row, nothing_holds}
use Rattle.vmv_words.proofs.Whole.{Gives, Takes, total, rows_at_end, taken}
use Rattle.vmv_words.proofs.Sound.{AllUtf8, sound}

abbrev pub start : Walk
start = at [] nothing idle false

-- both are empty
both_empty : (a b : Kinds) → or_else a b ≡ [] → (a ≡ []) × (b ≡ [])
both_empty [] b e = (refl, e)
both_empty (k ∷ ks) b e = absurd (cc)

always : (b : Bool) (ks : Kinds) → cond {A = Kinds} (b || true) [] ks ≡ []
always true ks = refl
always false ks = refl

either : (b : Bool) → cond {A = Kinds} (b || false) [] [] ≡ []
either true = refl
either false = refl

name_default : (rows : List Row) → default_fault rows name_built ≡ []
name_default rows = always (has_row (codes "name") rows) _

workers_default : (rows : List Row) → default_fault rows workers_built ≡ []
workers_default rows = always (has_row (codes "workers") rows) _

proof_default : (rows : List Row) → default_fault rows proof_built ≡ []
proof_default rows = either (has_row (codes "proof") rows)

defaults_pass : (rows : List Row) → defaults_fault rows rules ≡ []
unfolding defaults_fault
defaults_pass rows =
    ap (λ (ks : Kinds). or_else ks (defaults_fault (with_default rows name_built) (workers_built ∷ proof_built ∷ []))) (name_default rows)
    ∙ ap (λ (ks : Kinds). or_else ks (defaults_fault (with_default (with_default rows name_built) workers_built) (proof_built ∷ []))) (workers_default (with_default rows name_built))
    ∙ ap (λ (ks : Kinds). or_else ks []) (proof_default (with_default (with_default rows name_built) workers_built))

-- the rows that are answered
abbrev pub flag_text : Bool → Text
flag_text true = codes "true"
flag_text false = codes "false"

-- what was given, and for the flag also where it wasn't
pub record Answers (rows : List Row) (raw : Raw) : Type 0 where
  pub names : row (codes "name") rows ≡ name_row raw.names
  pub workers : row (codes "workers") rows ≡ workers_row raw.workers
  pub proof : (r : Row) × (row (codes "proof") rows ≡ Some r) × (r.values ≡ flag_text raw.proof ∷ []) × (r.reading ≡ reading_by proof_built)

plain_default : (b : Bool) (rows : List Row) → cond b rows rows ≡ rows
plain_default true rows = refl
plain_default false rows = refl

answered : (rows : List Row) (raw : Raw) → Holds rows raw → (b : Bool) → raw.proof ≡ b → Answers (with_default rows proof_built) raw
answered rows raw h true is =
    let there : row (codes "proof") rows ≡ proof_row true = h.proof ∙ ap proof_row is in
    let has : has_row (codes "proof") rows ≡ true = has_of (codes "proof") rows _ there in
    let same : with_default rows proof_built ≡ rows = rw has refl in
    subst (λ (rs : List Row). Answers rs raw) (sym same) (record { names = h.names; workers = h.workers; proof = (_, there, rw is refl, refl) })
answered rows raw h false is =
    let there : row (codes "proof") rows ≡ None = h.proof ∙ ap proof_row is in
    let has : has_row (codes "proof") rows ≡ false = has_not (codes "proof") rows there in
    let same : with_default rows proof_built ≡ with_values (codes "proof") (reading_by proof_built) DefaultValue (codes "false" ∷ []) rows = rw has refl in
    subst (λ (rs : List Row). Answers rs raw) (sym same) (record {
      names = kept_row (codes "name") (codes "proof") (reading_by proof_built) DefaultValue (codes "false" ∷ []) rows refl ∙ h.names;
      workers = kept_row (codes "workers") (codes "proof") (reading_by proof_built) DefaultValue (codes "false" ∷ []) rows refl ∙ h.workers;
      proof = (
        made (codes "proof") (reading_by proof_built) DefaultValue (codes "false" ∷ []),
        new_row (codes "proof") (reading_by proof_built) DefaultValue (codes "false" ∷ []) rows there,
        rw is refl,
        refl,
      );
    })

rows_answered : (rows : List Row) (raw : Raw) → Holds rows raw → Answers (fold with_default rows rules) raw
rows_answered rows raw h =
    let first : with_default rows name_built ≡ rows = plain_default (has_row (codes "name") rows) rows in
    let second : with_default (with_default rows name_built) workers_built ≡ rows = plain_default (has_row (codes "workers") (with_default rows name_built)) (with_default rows name_built) ∙ first in
    subst (λ (rs : List Row). Answers (with_default rs proof_built) raw) (sym second) (answered rows raw h raw.proof refl)

-- a parse that meets no subcommand
abbrev level : List Word → Kinds
level words = level_fault shape [] nothing_held words (is_some (entered (built app) None)) (entered_fault (built app) None)

level_clean : (words : List Word) → total start words ≡ [] → level words ≡ []
level_clean words takes =
    let parts = both_empty (walk_fault shape [] start words) (settle_fault rules false (fold (walked rules []) start words).held) takes in
    ap (λ (ks : Kinds). or_else ks (or_else (settle_fault rules false (fold (walked rules []) start words).held) (or_else (defaults_fault (rows_at_end start words) rules) []))) parts.0
    ∙ ap (λ (ks : Kinds). or_else ks (or_else (defaults_fault (rows_at_end start words) rules) [])) parts.1
    ∙ ap (λ (ks : Kinds). or_else ks []) (defaults_pass (rows_at_end start words))

-- words that give this are taken, and it is found in the matches
pub record Parses (words : List Word) (raw : Raw) : Type 0 where
  pub clean : fault_of app words ≡ []
  pub answers : Answers (matches_of app words) raw

pub parsed : (words : List Word) (r : Raw) → Gives words r → Parses words r
parsed words r g =
    let t : Takes start words r = taken words r g [] nothing idle (record { names = []; workers = None; proof = false }) calm_idle refl nothing_holds (record { workers = inl refl; proof = inl refl }) in
    record {
      clean = ap (λ (s : Option (Text × List Text)). level_fault shape [] nothing_held words (is_some (entered (built app) s)) (entered_fault (built app) s)) t.runs ∙ level_clean words t.clean;
      answers = rows_answered (rows_at_end start words) r t.holds;
    }

total_clean : (words : List Word) → fault_of app words ≡ [] → total start words ≡ []
total_clean words clean =
    let parts = both_empty (walk_fault shape [] start words) _ clean in
    let rest = both_empty (entered_fault (built app) (fold (walked rules []) start words).stopped) _ parts.1 in
    let settles = both_empty (settle_fault rules false (fold (walked rules []) start words).held) _ rest.1 in
    ap (λ (ks : Kinds). or_else ks (settle_fault rules false (fold (walked rules []) start words).held)) parts.0 ∙ settles.0

-- and words that are taken give something
pub parse_sound : (words : List Word) → AllUtf8 words → fault_of app words ≡ [] → (r : Raw) × Gives words r
parse_sound words u clean =
    let some = sound (length words) words (omega arith) u [] nothing idle (record { names = []; workers = None; proof = false }) calm_idle refl nothing_holds (total_clean words clean) in
    (some.0, some.1)
