-- What the getters read is just what the words give.
use Rattle.std.proofs.Common.{refl, codes, true, false, Bool, List, Option, Some, None, [], ◌∷◌, ◌≡◌, ◌≢◌, ◌∙◌, sym, subst, ℕ, map, Global}
use Rattle.std.specs.Prelude.{unwrap_or}
use Rattle.std.specs.String.{string_bytes}
use Rattle.std.specs.declared.string.String.{String}
use Rattle.std.proofs.lemmas.Str.{IsUtf8-string_bytes}
use Rattle.clap.specs.Walk.{all_of, first_of, one_of}
use Rattle.clap.specs.Simple.{matches_of}
use Rattle.clap.specs.Faults.{fault_of}
use Rattle.vmv_words.specs.Words.{Word, Given, Gives, IsCount}
use Rattle.vmv_words.specs.Requests.{GivesJust}
use Rattle.vmv_words.specs.Clap.{app}
use Rattle.vmv_words.proofs.Sound.{AllUtf8}
use Rattle.vmv_words.proofs.Parsed.{parsed, parse_sound, flag_text}
use Rattle.vmv_words.proofs.Counts.{Counts, spelled, read_back, names_of, workers_of, proof_of, given_once}

pub all_utf8 : (words : List (String Global)) → AllUtf8 (map (string_bytes {Z = Global}) words)
all_utf8 [] = tt
all_utf8 (word ∷ rest) = (IsUtf8-string_bytes word, all_utf8 rest)

-- words that are refused give nothing
pub refused_gives : (words : List Word) → fault_of app words ≢ [] → (g : Given) → Gives words g → ⊥
refused_gives words differs g h = let s = spelled words g h in differs (parsed words s.raw_is s.gives).clean

uncounted : (o : Option Word) (n : Option ℕ) (word : Word) → o ≡ Some word → Counts o n → ((n : ℕ) → IsCount word n → ⊥) → ⊥
uncounted None n word e c no_count = cc
uncounted (Some other) None word e c no_count = elim c [ ]
uncounted (Some other) (Some n) word e c no_count = let same : other ≡ word = cc in no_count n (subst (λ (w : Word). IsCount w n) same c)

-- nor do words whose number of workers is none
pub uncounted_gives : (words : List Word) (word : Word) → first_of (codes "workers") (matches_of app words) ≡ Some word → ((n : ℕ) → IsCount word n → ⊥) → (g : Given) → Gives words g → ⊥
uncounted_gives words word there no_count g h =
    let s = spelled words g h in
    let p = parsed words s.raw_is s.gives in
    uncounted s.raw_is.workers g.workers word (sym (workers_of (matches_of app words) s.raw_is p.answers) ∙ there) s.workers no_count

flagged : (b proof : Bool) → (Some (flag_text b) ≡ Some (codes "true") → proof ≡ true) → (Some (flag_text b) ≡ Some (codes "false") → proof ≡ false) → b ≡ proof
flagged true proof set unset = sym (set refl)
flagged false proof set unset = sym (unset refl)

-- words that are taken give just what is read
pub read_just : (words : List Word) → AllUtf8 words → fault_of app words ≡ [] → (names : List Word) → names ≡ unwrap_or (all_of (codes "name") (matches_of app words)) []
    → (workers : Option ℕ) → Counts (first_of (codes "workers") (matches_of app words)) workers → (proof : Bool)
    → (one_of (codes "proof") (matches_of app words) ≡ Some (codes "true") → proof ≡ true) → (one_of (codes "proof") (matches_of app words) ≡ Some (codes "false") → proof ≡ false)
    → GivesJust words (record { names = names; workers = workers; proof = proof })
read_just words u clean names names_are workers counts proof set unset =
    let r = parse_sound words u clean in
    let p = parsed words r.0 r.1 in
    let same_names : r.0.names ≡ names = sym (names_of _ r.0 p.answers) ∙ sym names_are in
    let same_proof : r.0.proof ≡ proof = flagged r.0.proof proof (λ e. set (proof_of _ r.0 p.answers ∙ e)) (λ e. unset (proof_of _ r.0 p.answers ∙ e)) in
    let counted : Counts r.0.workers workers = subst (λ (o : Option Word). Counts o workers) (workers_of _ r.0 p.answers) counts in
    let gives : Gives words (record { names = names; workers = workers; proof = proof }) =
    subst (λ (l : List Word). Gives words (record { names = l; workers = workers; proof = proof })) same_names
    (subst (λ (b : Bool). Gives words (record { names = r.0.names; workers = workers; proof = b })) same_proof (read_back words r.0 r.1 workers counted)) in (
      gives,
      λ other h. let s = spelled words other h in let t = spelled words _ gives in
          given_once (matches_of app words) words other _ s t (parsed words s.raw_is s.gives).answers (parsed words t.raw_is t.gives).answers,
    )
