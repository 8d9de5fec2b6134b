-- What rows hold of an argument, where others are used.
use Rattle.std.proofs.Common.{refl, true, false, Bool, cond, List, Option, Some, None, [], ◌∷◌, ◌++◌, ◌≡◌, ◌∙◌, ◌||◌, sym, ap, find}
use Rattle.std.specs.Str.{bytes_eq}
use Rattle.std.proofs.lemmas.Slice.Eq.{bytes_eq-Decides}
use Rattle.clap.specs.Walk.{Row, Text, at_row, with_values, without, more_values, stronger, has_row}
use Rattle.clap.specs.declared.builder.value_parser.Reading.{Reading}
use Rattle.clap.specs.declared.parser.matches.ValueSource.{ValueSource}
use Rattle.clap.specs.declared.parser.matches.ValueSource.TheVariants.{CommandLine}

-- the row of this name
abbrev pub row : Text → List Row → Option Row
row id = find (λ r. bytes_eq r.id id)

pub same_id : (x y z : Text) → bytes_eq x y ≡ true → bytes_eq x z ≡ bytes_eq y z
same_id x y z h = ap (λ (t : Text). bytes_eq t z) ((bytes_eq-Decides x y).0 h)

-- rows of another argument stay
pub other_row : (id mine : Text) (change : Row → List Row) (missing : List Row) (rows : List Row) → bytes_eq mine id ≡ false
    → ((r : Row) → bytes_eq r.id mine ≡ true → (rest : List Row) → row id (change r ++ rest) ≡ row id rest)
    → row id missing ≡ None → row id (at_row mine change missing rows) ≡ row id rows
other_row id mine change missing [] differ kept none = none
other_row id mine change missing (r ∷ rest) differ kept none = go (bytes_eq r.id mine) refl (other_row id mine change missing rest differ kept none)
  where
    go : (b : Bool) → bytes_eq r.id mine ≡ b → row id (at_row mine change missing rest) ≡ row id rest
        → row id (cond b (change r ++ rest) (r ∷ at_row mine change missing rest)) ≡ row id (r ∷ rest)
    go true e later = let off : bytes_eq r.id id ≡ false = same_id r.id mine id e ∙ differ in kept r e rest ∙ sym (rw off refl)
    go false e later = ap (λ (o : Option Row). cond (bytes_eq r.id id) (Some r) o) later

-- no row goes where there is none
pub none_without : (id : Text) (rows : List Row) → row id rows ≡ None → without id rows ≡ rows
none_without id [] none = refl
none_without id (r ∷ rest) none = go (bytes_eq r.id id) refl none (none_without id rest)
  where
    go : (b : Bool) → bytes_eq r.id id ≡ b → cond b (Some r) (row id rest) ≡ None → (row id rest ≡ None → without id rest ≡ rest)
        → cond b ([] ++ rest) (r ∷ without id rest) ≡ r ∷ rest
    go true e h later = cc
    go false e h later = ap (λ (l : List Row). r ∷ l) (later h)

abbrev pub made : Text → Reading → ValueSource → List Text → Row
made id how source values = record { id = id; values = values; count = None; source = Some source; reading = how }

-- a first use of an argument makes its row
pub new_row : (id : Text) (how : Reading) (source : ValueSource) (values : List Text) (rows : List Row) → row id rows ≡ None
    → row id (with_values id how source values rows) ≡ Some (made id how source values)
new_row id how source values [] none = rw ((bytes_eq-Decides id id).1 refl) refl
new_row id how source values (r ∷ rest) none = go (bytes_eq r.id id) refl none (new_row id how source values rest)
  where
    go : (b : Bool) → bytes_eq r.id id ≡ b → cond b (Some r) (row id rest) ≡ None
        → (row id rest ≡ None → row id (with_values id how source values rest) ≡ Some (made id how source values))
        → row id (cond b (more_values source values r ++ rest) (r ∷ with_values id how source values rest)) ≡ Some (made id how source values)
    go true e h later = cc
    go false e h later = rw e (later h)

abbrev grown : List Text → Row → Row
grown values old = record old { values = old.values ++ values; source = Some (stronger old.source CommandLine) }

-- a later use adds its values
pub more_row : (id : Text) (how : Reading) (values : List Text) (rows : List Row) (old : Row) → row id rows ≡ Some old
    → row id (with_values id how CommandLine values rows) ≡ Some (record old { values = old.values ++ values; source = Some (stronger old.source CommandLine) })
more_row id how values [] old is = cc
more_row id how values (r ∷ rest) old is = go (bytes_eq r.id id) refl is (more_row id how values rest old)
  where
    go : (b : Bool) → bytes_eq r.id id ≡ b → cond b (Some r) (row id rest) ≡ Some old
        → (row id rest ≡ Some old → row id (with_values id how CommandLine values rest) ≡ Some (grown values old))
        → row id (cond b (more_values CommandLine values r ++ rest) (r ∷ with_values id how CommandLine values rest)) ≡ Some (grown values old)
    go true e h later = let same : r ≡ old = cc in rw e (ap (λ (x : Row). Some (grown values x)) same)
    go false e h later = rw e (later h)

pub kept_row : (id mine : Text) (how : Reading) (source : ValueSource) (values : List Text) (rows : List Row) → bytes_eq mine id ≡ false
    → row id (with_values mine how source values rows) ≡ row id rows
kept_row id mine how source values rows differ =
    other_row id mine (more_values source values) _ rows differ (λ r e rest. let off : bytes_eq r.id id ≡ false = same_id r.id mine id e ∙ differ in rw off refl) (rw differ refl)

-- whether there is a row
pub has_of : (id : Text) (rows : List Row) (r : Row) → row id rows ≡ Some r → has_row id rows ≡ true
has_of id [] r e = cc
has_of id (x ∷ rest) r e = go (bytes_eq x.id id) e (has_of id rest r)
  where
    go : (b : Bool) → cond b (Some x) (row id rest) ≡ Some r → (row id rest ≡ Some r → has_row id rest ≡ true) → (b || has_row id rest) ≡ true
    go true h later = refl
    go false h later = later h

pub has_not : (id : Text) (rows : List Row) → row id rows ≡ None → has_row id rows ≡ false
has_not id [] e = refl
has_not id (x ∷ rest) e = go (bytes_eq x.id id) e (has_not id rest)
  where
    go : (b : Bool) → cond b (Some x) (row id rest) ≡ None → (row id rest ≡ None → has_row id rest ≡ false) → (b || has_row id rest) ≡ false
    go true h later = cc
    go false h later = later h
