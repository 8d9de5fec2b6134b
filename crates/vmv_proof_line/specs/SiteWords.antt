-- The words of sites.
use Rattle.std.specs.Prelude.{◌≡◌, ℕ, Bool, true, false, List, [], ◌∷◌, ◌++◌}
use Rattle.std.specs.Fmt.{decimal}
use Rattle.vmv_tree.specs.declared.site.NamedSite.{NamedSite}
use Rattle.vmv_witness.specs.Numbers.{IsNumber}
use Rattle.vmv_proof_words.specs.Words.{Word}
use Rattle.vmv_proof_text.specs.Lines.{IsName, IsSite}
use Rattle.vmv_proof_text.specs.Loose.{SpelledSite, IsLoosely}
use Rattle.vmv_proof_text.specs.Parts.{left_part}

-- a site as its word
abbrev pub shown_site : NamedSite → Word
shown_site s = s.proc ++ 35 ∷ decimal s.index

-- a name and a number of any size as such a word
abbrev pub spelled_word : SpelledSite → Word
spelled_word s = s.0 ++ 35 ∷ s.1

abbrev pub IsSpelled : SpelledSite → Type 0
IsSpelled s = IsName s.0 × IsNumber s.1

abbrev pub IsSiteWord : NamedSite → Word → Type 0
IsSiteWord s word = IsSite s × (word ≡ shown_site s)

abbrev pub IsSiteLoosely : Word → Type 0
IsSiteLoosely word = (s : SpelledSite) × IsSpelled s × (word ≡ spelled_word s)

-- a site whose number may be of any size stands first, and is taken; or none does
abbrev pub TakesSiteLoosely : List Word → List Word → Bool → Type 0
TakesSiteLoosely old new true = (s : SpelledSite) × IsSpelled s × (old ≡ spelled_word s ∷ new)
TakesSiteLoosely old new false = (s : SpelledSite) (rest : List Word) → IsSpelled s → old ≡ spelled_word s ∷ rest → ⊥

-- what a line tells of sites, but for the size of its numbers
abbrev pub IsLeftLoosely : List ℕ → Type 0
IsLeftLoosely line = IsLoosely (left_part []) line
