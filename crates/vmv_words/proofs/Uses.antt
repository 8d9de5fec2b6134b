-- What the rows hold of names and options, and how each use changes it.
use Rattle.std.proofs.Common.{refl, codes, true, false, Bool, List, Option, Some, None, [], ◌∷◌, ◌++◌, ◌≡◌, ◌∙◌, sym, ap, subst}
use Rattle.clap.specs.Walk.{Row, used, without, with_values, reading_by}
use Rattle.clap.specs.Faults.{use_fault}
use Rattle.clap.specs.declared.error.kind.ErrorKind.TheVariants as kind
use Rattle.clap.specs.declared.parser.matches.ValueSource.TheVariants.{CommandLine}
use Rattle.vmv_words.specs.Words.{Word}
use Rattle.vmv_words.proofs.App.{name_built, workers_built, proof_built}
use Rattle.vmv_words.proofs.Rows.{row, none_without, new_row, more_row, kept_row, has_of, has_not}

-- what stands behind a command, with the number of workers as the word that it is
pub record Raw : Type 0 where
  pub names : List Word
  pub workers : Option Word
  pub proof : Bool

abbrev pub name_row : List Word → Option Row
name_row [] = None
name_row (name ∷ more) = Some (record { id = codes "name"; values = name ∷ more; count = None; source = Some CommandLine; reading = reading_by name_built })

abbrev pub workers_row : Option Word → Option Row
workers_row None = None
workers_row (Some number) = Some (record { id = codes "workers"; values = number ∷ []; count = None; source = Some CommandLine; reading = reading_by workers_built })

abbrev pub proof_row : Bool → Option Row
proof_row false = None
proof_row true = Some (record { id = codes "proof"; values = codes "true" ∷ []; count = None; source = Some CommandLine; reading = reading_by proof_built })

-- the rows hold this
pub record Holds (rows : List Row) (raw : Raw) : Type 0 where
  pub names : row (codes "name") rows ≡ name_row raw.names
  pub workers : row (codes "workers") rows ≡ workers_row raw.workers
  pub proof : row (codes "proof") rows ≡ proof_row raw.proof

-- a name more
abbrev named : List Word → Word → List Word
named names word = names ++ word ∷ []

named_row : (names : List Word) (word : Word) (rows : List Row) → row (codes "name") rows ≡ name_row names → row (codes "name") (used name_built (word ∷ []) rows) ≡ name_row (names ++ word ∷ [])
named_row [] word rows h = new_row (codes "name") (reading_by name_built) CommandLine (word ∷ []) rows h
named_row (n ∷ more) word rows h = more_row (codes "name") (reading_by name_built) (word ∷ []) rows _ h

pub name_used : (word : Word) (rows : List Row) (raw : Raw) → Holds rows raw → Holds (used name_built (word ∷ []) rows) (record raw { names = raw.names ++ word ∷ [] })
name_used word rows raw h = record {
  names = named_row raw.names word rows h.names;
  workers = kept_row (codes "workers") (codes "name") (reading_by name_built) CommandLine (word ∷ []) rows refl ∙ h.workers;
  proof = kept_row (codes "proof") (codes "name") (reading_by name_built) CommandLine (word ∷ []) rows refl ∙ h.proof;
}

pub name_passes : (word : Word) (rows : List Row) → use_fault false name_built (word ∷ []) rows ≡ []
name_passes word rows = refl

-- the number of workers, for the first time
pub workers_used : (number : Word) (rows : List Row) (raw : Raw) → Holds rows raw → raw.workers ≡ None → Holds (used workers_built (number ∷ []) rows) (record raw { workers = Some number })
workers_used number rows raw h none =
    let out : row (codes "workers") rows ≡ None = h.workers ∙ ap workers_row none in
    let same : without (codes "workers") rows ≡ rows = none_without (codes "workers") rows out in
    subst (λ (rs : List Row). Holds (with_values (codes "workers") (reading_by workers_built) CommandLine (number ∷ []) rs) (record raw { workers = Some number })) (sym same) (record {
      names = kept_row (codes "name") (codes "workers") (reading_by workers_built) CommandLine (number ∷ []) rows refl ∙ h.names;
      workers = new_row (codes "workers") (reading_by workers_built) CommandLine (number ∷ []) rows out;
      proof = kept_row (codes "proof") (codes "workers") (reading_by workers_built) CommandLine (number ∷ []) rows refl ∙ h.proof;
    })

pub workers_pass : (number : Word) (rows : List Row) (raw : Raw) → Holds rows raw → raw.workers ≡ None → use_fault false workers_built (number ∷ []) rows ≡ []
workers_pass number rows raw h none = let e = has_not (codes "workers") rows (h.workers ∙ ap workers_row none) in rw e refl

pub workers_twice : (number old : Word) (rows : List Row) (raw : Raw) → Holds rows raw → raw.workers ≡ Some old → use_fault false workers_built (number ∷ []) rows ≡ kind.ArgumentConflict ∷ []
workers_twice number old rows raw h some = let e = has_of (codes "workers") rows _ (h.workers ∙ ap workers_row some) in rw e refl

-- the flag, for the first time
pub proof_used : (rows : List Row) (raw : Raw) → Holds rows raw → raw.proof ≡ false → Holds (used proof_built [] rows) (record raw { proof = true })
proof_used rows raw h none =
    let out : row (codes "proof") rows ≡ None = h.proof ∙ ap proof_row none in
    let same : without (codes "proof") rows ≡ rows = none_without (codes "proof") rows out in
    subst (λ (rs : List Row). Holds (with_values (codes "proof") (reading_by proof_built) CommandLine (codes "true" ∷ []) rs) (record raw { proof = true })) (sym same) (record {
      names = kept_row (codes "name") (codes "proof") (reading_by proof_built) CommandLine (codes "true" ∷ []) rows refl ∙ h.names;
      workers = kept_row (codes "workers") (codes "proof") (reading_by proof_built) CommandLine (codes "true" ∷ []) rows refl ∙ h.workers;
      proof = new_row (codes "proof") (reading_by proof_built) CommandLine (codes "true" ∷ []) rows out;
    })

pub proof_passes : (rows : List Row) (raw : Raw) → Holds rows raw → raw.proof ≡ false → use_fault false proof_built [] rows ≡ []
proof_passes rows raw h none = let e = has_not (codes "proof") rows (h.proof ∙ ap proof_row none) in rw e refl

pub proof_twice : (rows : List Row) (raw : Raw) → Holds rows raw → raw.proof ≡ true → use_fault false proof_built [] rows ≡ kind.ArgumentConflict ∷ []
proof_twice rows raw h some = let e = has_of (codes "proof") rows _ (h.proof ∙ ap proof_row some) in rw e refl

-- nothing is held at first
pub nothing_holds : Holds [] (record { names = []; workers = None; proof = false })
nothing_holds = record { names = refl; workers = refl; proof = refl }
