-- Lines that would tell a part but for the size of their numbers.
use Rattle.std.specs.Prelude.{◌≡◌, ◌≢◌, ◌⊎◌, ℕ, ◌≤◌, Bool, false, nat_lt, ◌==◌, ◌||◌, ◌&&◌, List, [], ◌∷◌, ◌++◌, length, codes, IsTrue}
use Rattle.std.specs.List.{All, flat_map}
use Rattle.std.specs.Fmt.{decimal}
use Rattle.vmv_tree.specs.declared.name.Name.{Name}
use Rattle.vmv_witness.specs.Numbers.{IsNumber}
use Rattle.vmv_proof_text.specs.Parts.{Part, opening_part, exclusions_part, exclude_part, box_part, table_part, row_part, input_part, keep_part, result_part, left_part, entries_part, plain_part, given_part, end_part}
use Rattle.vmv_proof_text.specs.Text.{spaced, line_of}
use Rattle.vmv_proof_text.specs.Lines.{IsName}

-- a number as it is spelled
abbrev pub Digits : Type 0
Digits = List ℕ

-- digits of one length, of which the first that differs is the less
abbrev pub is_less_digit : Digits → Digits → Bool
is_less_digit [] ds = false
is_less_digit (c ∷ cs) [] = false
is_less_digit (c ∷ cs) (d ∷ ds) = nat_lt c d || (c == d && is_less_digit cs ds)

-- the one natural number is less than the other: it has fewer digits, or as many and they are less
abbrev pub is_less_natural : Digits → Digits → Bool
is_less_natural ds es = nat_lt (length ds) (length es) || (length ds == length es && is_less_digit ds es)

-- the digits of a negative number, behind its sign
abbrev pub Negates : Digits → Digits → Type 0
Negates number digits = number ≡ 45 ∷ digits

abbrev pub IsNegative : Digits → Type 0
IsNegative number = (digits : Digits) × Negates number digits

-- the one number is less than the other
abbrev pub IsLess : Digits → Digits → Type 0
IsLess a b =
    (IsNegative a × (IsNegative b → ⊥))
    ⊎ (((IsNegative a → ⊥) × (IsNegative b → ⊥)) × IsTrue (is_less_natural a b))
    ⊎ ((cs : Digits) × (ds : Digits) × Negates a cs × Negates b ds × IsTrue (is_less_natural ds cs))

-- a bound as it is spelled: its two things, and the number
abbrev pub SpelledBound : Type 0
SpelledBound = Digits × Digits × Digits

pub record AreNumbers (b : SpelledBound) : Type 0 where
  pub first : IsNumber b.0
  pub second : IsNumber b.1
  pub bound : IsNumber b.2

abbrev pub Precedes : SpelledBound → SpelledBound → Type 0
Precedes b c = IsLess b.0 c.0 ⊎ ((b.0 ≡ c.0) × IsLess b.1 c.1)

-- each stands before the next
abbrev pub AreSorted : {A : Type 0} → (A → A → Type 0) → List A → Type 0
AreSorted Before [] = Unit {0}
AreSorted Before (x ∷ []) = Unit {0}
AreSorted Before (x ∷ y ∷ rest) = Before x y × AreSorted Before (y ∷ rest)

abbrev pub spelled_bound : SpelledBound → List ℕ
spelled_bound b = spaced b.0 ++ (spaced b.1 ++ spaced b.2)

-- a state that isn't Bottom, with numbers of any size
pub record IsToldLoosely (bytes : List ℕ) : Type 0 where
  pub vars : Digits
  pub bounds : List SpelledBound
  pub marks : List Digits
  pub vars_number : IsNumber vars
  pub bounds_numbers : All AreNumbers bounds
  pub bounds_sorted : AreSorted Precedes bounds
  pub marks_numbers : All IsNumber marks
  pub marks_sorted : AreSorted IsLess marks
  pub marks_variables : All (λ m. m ≢ codes "0") marks
  pub same : bytes ≡ codes " vars " ++ (vars ++ (codes " bounds " ++ (decimal (length bounds) ++ (flat_map spelled_bound bounds
      ++ (codes " nonzero " ++ (decimal (length marks) ++ flat_map spaced marks))))))

abbrev pub IsStateLoosely : List ℕ → Type 0
IsStateLoosely bytes = ((vars : Digits) × IsNumber vars × (bytes ≡ codes " bottom " ++ vars)) ⊎ IsToldLoosely bytes

abbrev pub IsPieceLoosely : List ℕ → Type 0
IsPieceLoosely bytes =
    ((end : Digits) × IsNumber end × (bytes ≡ codes " below " ++ end)) ⊎ ((end : Digits) × IsNumber end × (bytes ≡ codes " above " ++ end)) ⊎ (bytes ≡ codes " zero")

-- a number on each side of 0
pub record AreAround (lo hi : Digits) : Type 0 where
  pub below : IsNegative lo
  pub above : IsNegative hi → ⊥
  pub other : hi ≢ codes "0"

-- `bottom`, or a range, which leaves out 0 only where 0 stands inside it
abbrev pub IsReachLoosely : List ℕ → Type 0
IsReachLoosely bytes =
    (bytes ≡ codes " bottom")
    ⊎ ((lo : Digits) × (hi : Digits) × IsNumber lo × IsNumber hi × (bytes ≡ spaced lo ++ (codes ".." ++ hi)))
    ⊎ ((lo : Digits) × (hi : Digits) × IsNumber lo × IsNumber hi × AreAround lo hi × (bytes ≡ spaced lo ++ (codes ".." ++ (hi ++ codes " not 0"))))

abbrev pub SpelledSite : Type 0
SpelledSite = Name × Digits

abbrev pub spelled_site : SpelledSite → List ℕ
spelled_site s = spaced s.0 ++ 35 ∷ s.1

abbrev pub spelled_range : Digits × Digits → List ℕ
spelled_range r = spaced r.0 ++ spaced r.1

-- the word and a number of any size
abbrev pub IsCountLoosely : List ℕ → List ℕ → Type 0
IsCountLoosely word line = (number : Digits) × IsNumber number × (line ≡ word ++ number)

-- the line would tell a part of this kind but for the size of its numbers
abbrev pub IsLoosely : Part → List ℕ → Type 0
IsLoosely opening_part line = line ≡ line_of opening_part
IsLoosely (exclusions_part n) line = IsCountLoosely (codes "exclusions ") line
IsLoosely (exclude_part e n p u) line =
    (entry : Name) × (name : Name) × (piece : List ℕ) × (under : Digits) × IsName entry × IsName name × IsPieceLoosely piece × IsNumber under
    × (line ≡ codes "exclude" ++ (spaced entry ++ (spaced name ++ (piece ++ (codes " under " ++ under)))))
IsLoosely (box_part rs) line =
    (ranges : List (Digits × Digits)) × (length ranges ≤ 16) × All (λ r. IsNumber r.0 × IsNumber r.1) ranges × (line ≡ codes "box" ++ flat_map spelled_range ranges)
IsLoosely (table_part n) line = IsCountLoosely (codes "table ") line
IsLoosely (row_part p n) line =
    (proc : Name) × (loops : Digits) × IsName proc × IsNumber loops × (line ≡ codes "row" ++ (spaced proc ++ spaced loops))
IsLoosely (input_part z) line = (bytes : List ℕ) × (line ≡ codes "input" ++ bytes) × IsStateLoosely bytes
IsLoosely (keep_part z) line = (bytes : List ℕ) × (line ≡ codes "keep" ++ bytes) × IsStateLoosely bytes
IsLoosely (result_part r) line = (bytes : List ℕ) × (line ≡ codes "result" ++ bytes) × IsReachLoosely bytes
IsLoosely (left_part ss) line =
    (sites : List SpelledSite) × All (λ s. IsName s.0 × IsNumber s.1) sites × (line ≡ codes "left " ++ (decimal (length sites) ++ flat_map spelled_site sites))
IsLoosely (entries_part n) line = IsCountLoosely (codes "entries ") line
IsLoosely (plain_part e) line = (entry : Name) × IsName entry × (line ≡ line_of (plain_part entry))
IsLoosely (given_part entry) line = IsName entry × (line ≡ line_of (given_part entry))
IsLoosely end_part line = line ≡ line_of end_part
