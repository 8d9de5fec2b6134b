-- A witness fits a program in one way.
use Rattle.std.proofs.Common.{◌≡◌, ◌≢◌, ◌⊎◌, inl, inr, ℕ, suc, ℤ, Some, List, [], ◌∷◌, length, slice_get, refl, sym, ap, subst, ◌∙◌}
use Rattle.std.specs.Prelude.{Result, Ok, Err}
use Rattle.std.specs.Option.{option_map}
use Rattle.std.proofs.lemmas.Option.{slice_get-map, same_Some}
use Rattle.vmv_tree.specs.declared.name.Name.{Name}
use Rattle.vmv_tree.specs.declared.tree.Param.{Param}
use Rattle.vmv_tree.specs.Tree.{Item, entry, Body}
use Rattle.vmv_tree.specs.Run.{name_of}
use Rattle.vmv_tree.specs.Safe.{FitParams}
use Rattle.vmv_tree.specs.Valid.{Valid}
use Rattle.vmv_snapshot.specs.declared.code.ProcId.{ProcId}
use Rattle.vmv_snapshot.specs.Procs.{procs, params_of}
use Rattle.vmv_run.specs.Replay.{IsProcName}
use Rattle.vmv_run.proofs.OneReplay.{procs_once}
use Rattle.vmv_witness.specs.declared.witness.Witness.{Witness}
use Rattle.vmv_witness.specs.declared.fitting.Unfit.{Unfit}
use Rattle.vmv_witness.specs.declared.fitting.Unfit.TheVariants.{NoEntry, ParamCount, ParamRange, NoSite}
use Rattle.vmv_witness.specs.Fit.{words_of, IsEntry, HasEntry, HasSite, Fits}

named : (program : List Item) (name : Name) (n : ℕ) (params : List Param) → IsEntry program name n params → IsProcName program n name
named program name n params h = slice_get-map name_of (procs program) n ∙ ap (option_map name_of) h.1

with_params : (params other : List Param) (name : Name) (body body' : Body) → Item.entry name params body ≡ entry name other body' → params ≡ other
with_params params other name body body' e = ap params_of e

-- the entry of a name is one
record IsSame (n m : ℕ) (params other : List Param) : Type 0 where
  number : n ≡ m
  list : params ≡ other

entry_once : (program : List Item) (name : Name) (n m : ℕ) (params other : List Param) → Valid program → IsEntry program name n params → IsEntry program name m other → IsSame n m params other
entry_once program name n m params other valid h g =
    let number = procs_once program n m name valid (named program name n params h) (named program name m other g) in
    let there = subst (λ (k : ℕ). slice_get (procs program) k ≡ Some (entry name params h.0)) number h.1 in
    record {
      number = number;
      list = with_params params other name h.0 g.0 (same_Some (entry name params h.0) (entry name other g.0) (sym there ∙ g.1));
    }

-- there are as many words as parameters
as_many : (params : List Param) (words : List ℤ) → FitParams params words → length words ≡ length params
as_many [] [] h = refl
as_many (p ∷ params) (word ∷ words) h = ap (λ n. suc n) (as_many params words h.3)
as_many [] (word ∷ words) h = absurd h
as_many (p ∷ params) [] h = absurd h

-- what is found of the entry of this number and with these parameters
abbrev FitsAt : List Item → Witness → ℕ → List Param → Result ProcId Unfit → Type 0
FitsAt program w n params (Err NoEntry) = ⊥
FitsAt program w n params (Err ParamCount) = length (words_of w) ≢ length params
FitsAt program w n params (Err ParamRange) = (length (words_of w) ≡ length params) × (FitParams params (words_of w) → ⊥)
FitsAt program w n params (Err NoSite) = FitParams params (words_of w) × (HasSite program n w.site → ⊥)
FitsAt program w n params (Ok proc) = (proc.0 ≡ n) × FitParams params (words_of w) × HasSite program n w.site

-- there is no entry of the name, or this is found of the one that there is
abbrev IsFound : List Item → Witness → Result ProcId Unfit → Type 0
IsFound program w found =
    ((found ≡ Err NoEntry) × ((n : ℕ) → HasEntry program w.entry n → ⊥))
    ⊎ ((n : ℕ) × (params : List Param) × IsEntry program w.entry n params × FitsAt program w n params found)

found_of : (program : List Item) (w : Witness) (found : Result ProcId Unfit) → Fits program w found → IsFound program w found
found_of program w (Err NoEntry) h = inl (refl, h)
found_of program w (Err ParamCount) h = inr h
found_of program w (Err ParamRange) h = inr h
found_of program w (Err NoSite) h = inr h
found_of program w (Ok proc) (params, there, fit, site) = inr (proc.0, params, there, (refl, fit, site))

at_once : (program : List Item) (w : Witness) (n : ℕ) (params : List Param) (one other : Result ProcId Unfit) → FitsAt program w n params one → FitsAt program w n params other → one ≡ other
at_once program w n params (Err NoEntry) other h g = absurd h
at_once program w n params (Err ParamCount) (Err NoEntry) h g = absurd g
at_once program w n params (Err ParamCount) (Err ParamCount) h g = refl
at_once program w n params (Err ParamCount) (Err ParamRange) h g = absurd (h g.0)
at_once program w n params (Err ParamCount) (Err NoSite) h g = absurd (h (as_many params (words_of w) g.0))
at_once program w n params (Err ParamCount) (Ok proc) h g = absurd (h (as_many params (words_of w) g.1))
at_once program w n params (Err ParamRange) (Err NoEntry) h g = absurd g
at_once program w n params (Err ParamRange) (Err ParamCount) h g = absurd (g h.0)
at_once program w n params (Err ParamRange) (Err ParamRange) h g = refl
at_once program w n params (Err ParamRange) (Err NoSite) h g = absurd (h.1 g.0)
at_once program w n params (Err ParamRange) (Ok proc) h g = absurd (h.1 g.1)
at_once program w n params (Err NoSite) (Err NoEntry) h g = absurd g
at_once program w n params (Err NoSite) (Err ParamCount) h g = absurd (g (as_many params (words_of w) h.0))
at_once program w n params (Err NoSite) (Err ParamRange) h g = absurd (g.1 h.0)
at_once program w n params (Err NoSite) (Err NoSite) h g = refl
at_once program w n params (Err NoSite) (Ok proc) h g = absurd (h.1 g.2)
at_once program w n params (Ok proc) (Err NoEntry) h g = absurd g
at_once program w n params (Ok proc) (Err ParamCount) h g = absurd (g (as_many params (words_of w) h.1))
at_once program w n params (Ok proc) (Err ParamRange) h g = absurd (g.1 h.1)
at_once program w n params (Ok proc) (Err NoSite) h g = absurd (g.1 h.2)
at_once program w n params (Ok proc) (Ok proc') h g = let same = h.0 ∙ sym g.0 in λ i. Ok (record { 0 = same i })

found_once : (program : List Item) (w : Witness) (one other : Result ProcId Unfit) → Valid program → IsFound program w one → IsFound program w other → one ≡ other
found_once program w one other valid (inl h) (inl g) = h.0 ∙ sym g.0
found_once program w one other valid (inl h) (inr (n, params, there, fits)) = absurd (h.1 n (params, there))
found_once program w one other valid (inr (n, params, there, fits)) (inl g) = absurd (g.1 n (params, there))
found_once program w one other valid (inr (n, params, there, fits)) (inr (m, params', there', fits')) =
    let same = entry_once program w.entry n m params params' valid there there' in
    at_once program w m params' one other
    (subst (λ (ps : List Param). FitsAt program w m ps one) same.list (subst (λ (k : ℕ). FitsAt program w k params one) same.number fits)) fits'

pub fits_once : (program : List Item) (w : Witness) (one other : Result ProcId Unfit) → Valid program → Fits program w one → Fits program w other → one ≡ other
fits_once program w one other valid h g = found_once program w one other valid (found_of program w one h) (found_of program w other g)
