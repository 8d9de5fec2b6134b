-- How a parse stands between two words, and where each word takes it.
use Rattle.std.proofs.Common.{refl, codes, true, false, Bool, List, Option, Some, None, [], ◌∷◌, ◌++◌, ◌≡◌, ℕ}
use Rattle.std.specs.Prelude.{slice_get}
use Rattle.std.specs.Str.{bytes_eq, chars}
use Rattle.clap.specs.Lexer.{long_of, short_of}
use Rattle.clap.specs.Walk.{Row, Text, Held, Walk, Waiting, idle, option, positional, settled_rows, used, bundle_met, walked}
use Rattle.clap.specs.Kinds.{Kinds, or_else}
use Rattle.clap.specs.Faults.{settle_fault, turn_fault, use_fault, flags_fault}
use Rattle.clap.specs.declared.error.kind.ErrorKind.TheVariants as kind
use Rattle.clap.proofs.OnLiterals.{clap_on_literals}
use Rattle.vmv_words.specs.Words.{Word}
use Rattle.vmv_words.proofs.App.{shape, rules, workers_built, proof_built}

-- the argument whose values are being read
pub data Pending : Type 0 where
  nothing : Pending
  a_name : Word → Pending
  a_count : List Word → Pending

abbrev pub pending_of : Pending → Option (Text × List Text)
pending_of nothing = None
pending_of (a_name word) = Some (codes "name", word ∷ [])
pending_of (a_count values) = Some (codes "workers", values)

abbrev pub held : List Row → Pending → Held
held rows pending = record { rows = rows; pending = pending_of pending; skip = 0 }

abbrev pub at : List Row → Pending → Waiting → Bool → Walk
at rows pending waiting is_trailing = record { held = held rows pending; waiting = waiting; position = 1; is_trailing = is_trailing; stopped = None }

-- no option waits for its value
pub data IsCalm : Waiting → Type 0 where
  calm_idle : IsCalm idle
  calm_names : IsCalm positional

-- what is against the values that were read last
abbrev pub pending_fault : List Row → Pending → Kinds
pending_fault rows pending = settle_fault rules false (held rows pending)

-- the rows with them
abbrev pub settled : List Row → Pending → List Row
settled rows pending = settled_rows rules (pending_of pending) rows

-- a name
pub name_walked : (word : Word) (rows : List Row) (pending : Pending) (waiting : Waiting) → IsCalm waiting → long_of word ≡ None → short_of word ≡ None → bytes_eq word (45 ∷ 45 ∷ []) ≡ false
    → walked rules [] (at rows pending waiting false) word ≡ at (settled rows pending) (a_name word) positional false
unfolding clap_on_literals
name_walked word rows nothing idle calm_idle no_long no_short no_dash = rw (no_dash, no_long, no_short) refl
name_walked word rows nothing positional calm_names no_long no_short no_dash = rw (no_dash, no_long, no_short) refl
name_walked word rows (a_name w) idle calm_idle no_long no_short no_dash = rw (no_dash, no_long, no_short) refl
name_walked word rows (a_name w) positional calm_names no_long no_short no_dash = rw (no_dash, no_long, no_short) refl
name_walked word rows (a_count ws) idle calm_idle no_long no_short no_dash = rw (no_dash, no_long, no_short) refl
name_walked word rows (a_count ws) positional calm_names no_long no_short no_dash = rw (no_dash, no_long, no_short) refl
name_walked word rows nothing (option id) calm no_long no_short no_dash = elim calm [ ]
name_walked word rows (a_name w) (option id) calm no_long no_short no_dash = elim calm [ ]
name_walked word rows (a_count ws) (option id) calm no_long no_short no_dash = elim calm [ ]

pub name_fault : (word : Word) (rows : List Row) (pending : Pending) (waiting : Waiting) → IsCalm waiting → long_of word ≡ None → short_of word ≡ None → bytes_eq word (45 ∷ 45 ∷ []) ≡ false
    → turn_fault shape [] (at rows pending waiting false) word ≡ pending_fault rows pending
unfolding clap_on_literals
name_fault word rows nothing idle calm_idle no_long no_short no_dash = rw (no_dash, no_long, no_short) refl
name_fault word rows nothing positional calm_names no_long no_short no_dash = rw (no_dash, no_long, no_short) refl
name_fault word rows (a_name w) idle calm_idle no_long no_short no_dash = rw (no_dash, no_long, no_short) refl
name_fault word rows (a_name w) positional calm_names no_long no_short no_dash = rw (no_dash, no_long, no_short) refl
name_fault word rows (a_count ws) idle calm_idle no_long no_short no_dash = rw (no_dash, no_long, no_short) refl
name_fault word rows (a_count ws) positional calm_names no_long no_short no_dash = rw (no_dash, no_long, no_short) refl
name_fault word rows nothing (option id) calm no_long no_short no_dash = elim calm [ ]
name_fault word rows (a_name w) (option id) calm no_long no_short no_dash = elim calm [ ]
name_fault word rows (a_count ws) (option id) calm no_long no_short no_dash = elim calm [ ]

-- a name behind `--`
pub trailing_walked : (word : Word) (rows : List Row) (pending : Pending) (waiting : Waiting)
    → walked rules [] (at rows pending waiting true) word ≡ at (settled rows pending) (a_name word) positional true
unfolding clap_on_literals
trailing_walked word rows nothing waiting = refl
trailing_walked word rows (a_name w) waiting = refl
trailing_walked word rows (a_count ws) waiting = refl

pub trailing_fault : (word : Word) (rows : List Row) (pending : Pending) (waiting : Waiting)
    → turn_fault shape [] (at rows pending waiting true) word ≡ pending_fault rows pending
unfolding clap_on_literals
trailing_fault word rows nothing waiting = refl
trailing_fault word rows (a_name w) waiting = refl
trailing_fault word rows (a_count ws) waiting = refl

-- the end of options
pub end_walked : (rows : List Row) (pending : Pending) (waiting : Waiting) → walked rules [] (at rows pending waiting false) (codes "--") ≡ at rows pending waiting true
unfolding clap_on_literals
end_walked rows pending idle = refl
end_walked rows pending (option id) = refl
end_walked rows pending positional = refl

pub end_fault : (rows : List Row) (pending : Pending) (waiting : Waiting) → turn_fault shape [] (at rows pending waiting false) (codes "--") ≡ []
unfolding clap_on_literals
end_fault rows pending idle = refl
end_fault rows pending (option id) = refl
end_fault rows pending positional = refl

-- an option with its value
pub joined_walked : (number : Word) (rows : List Row) (pending : Pending) (waiting : Waiting)
    → walked rules [] (at rows pending waiting false) (codes "--workers=" ++ number) ≡ at (used workers_built (number ∷ []) (settled rows pending)) nothing idle false
unfolding clap_on_literals
joined_walked number rows pending idle = refl
joined_walked number rows pending (option id) = refl
joined_walked number rows pending positional = refl

pub joined_fault : (number : Word) (rows : List Row) (pending : Pending) (waiting : Waiting)
    → turn_fault shape [] (at rows pending waiting false) (codes "--workers=" ++ number)
    ≡ or_else (or_else (pending_fault rows pending) (use_fault false workers_built (number ∷ []) (settled rows pending))) []
unfolding clap_on_literals
joined_fault number rows pending idle = refl
joined_fault number rows pending (option id) = refl
joined_fault number rows pending positional = refl

-- an option whose value is the next word
pub count_walked : (rows : List Row) (pending : Pending) (waiting : Waiting)
    → walked rules [] (at rows pending waiting false) (codes "--workers") ≡ at (settled rows pending) (a_count []) (option (codes "workers")) false
unfolding clap_on_literals
count_walked rows pending idle = refl
count_walked rows pending (option id) = refl
count_walked rows pending positional = refl

pub count_fault : (rows : List Row) (pending : Pending) (waiting : Waiting)
    → turn_fault shape [] (at rows pending waiting false) (codes "--workers") ≡ or_else (pending_fault rows pending) []
unfolding clap_on_literals
count_fault rows pending idle = refl
count_fault rows pending (option id) = refl
count_fault rows pending positional = refl

-- and that word
pub number_walked : (number : Word) (rows : List Row) → long_of number ≡ None → short_of number ≡ None → bytes_eq number (45 ∷ 45 ∷ []) ≡ false
    → walked rules [] (at rows (a_count []) (option (codes "workers")) false) number ≡ at rows (a_count (number ∷ [])) idle false
unfolding clap_on_literals
number_walked number rows no_long no_short no_dash = rw (no_dash, no_long, no_short) refl

pub number_fault : (number : Word) (rows : List Row) → long_of number ≡ None → short_of number ≡ None → bytes_eq number (45 ∷ 45 ∷ []) ≡ false
    → turn_fault shape [] (at rows (a_count []) (option (codes "workers")) false) number ≡ []
unfolding clap_on_literals
number_fault number rows no_long no_short no_dash = rw (no_dash, no_long, no_short) refl

-- the flag
pub flag_walked : (rows : List Row) (pending : Pending) (waiting : Waiting)
    → walked rules [] (at rows pending waiting false) (codes "--proof") ≡ at (used proof_built [] (settled rows pending)) nothing idle false
unfolding clap_on_literals
flag_walked rows pending idle = refl
flag_walked rows pending (option id) = refl
flag_walked rows pending positional = refl

pub flag_fault : (rows : List Row) (pending : Pending) (waiting : Waiting)
    → turn_fault shape [] (at rows pending waiting false) (codes "--proof")
    ≡ or_else (or_else (pending_fault rows pending) (use_fault false proof_built [] (settled rows pending))) []
unfolding clap_on_literals
flag_fault rows pending idle = refl
flag_fault rows pending (option id) = refl
flag_fault rows pending positional = refl

-- words that are refused
pub valued_fault : (value : Word) (rows : List Row) (pending : Pending) (waiting : Waiting)
    → turn_fault shape [] (at rows pending waiting false) (codes "--proof=" ++ value) ≡ kind.TooManyValues ∷ []
unfolding clap_on_literals
valued_fault value rows pending idle = refl
valued_fault value rows pending (option id) = refl
valued_fault value rows pending positional = refl

pub strange_fault : (word name : Word) (value : Option Word) (rows : List Row) (pending : Pending) (waiting : Waiting) → long_of word ≡ Some (name, value)
    → bytes_eq word (45 ∷ 45 ∷ []) ≡ false → bytes_eq (codes "workers") name ≡ false → bytes_eq (codes "proof") name ≡ false
    → turn_fault shape [] (at rows pending waiting false) word ≡ kind.UnknownArgument ∷ []
unfolding clap_on_literals
strange_fault word name value rows pending idle is_long no_dash no_workers no_proof = rw (no_dash, is_long, no_workers, no_proof) refl
strange_fault word name value rows pending (option id) is_long no_dash no_workers no_proof = rw (no_dash, is_long, no_workers, no_proof) refl
strange_fault word name value rows pending positional is_long no_dash no_workers no_proof = rw (no_dash, is_long, no_workers, no_proof) refl

pub short_fault : (word : Word) (first : ℕ) (rest : Word) (c : ℕ) (rows : List Row) (pending : Pending) (waiting : Waiting) → slice_get (chars (first ∷ rest)) 0 ≡ Some c
    → long_of word ≡ None → short_of word ≡ Some (first ∷ rest) → bytes_eq word (45 ∷ 45 ∷ []) ≡ false
    → turn_fault shape [] (at rows pending waiting false) word ≡ kind.UnknownArgument ∷ []
unfolding walked bundle_met flags_fault
short_fault word first rest c rows pending idle char no_long is_short no_dash = rw (no_dash, no_long, is_short, char) refl
short_fault word first rest c rows pending (option id) char no_long is_short no_dash = rw (no_dash, no_long, is_short, char) refl
short_fault word first rest c rows pending positional char no_long is_short no_dash = rw (no_dash, no_long, is_short, char) refl
