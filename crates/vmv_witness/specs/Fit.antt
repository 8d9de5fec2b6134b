-- How a witness fits a program.
use Rattle.std.specs.Prelude.{◌≡◌, ◌≢◌, ℕ, ◌≤◌, ℤ, Some, List, length, map, slice_get, Result, Ok, Err}
use Rattle.vmv_tree.specs.declared.name.Name.{Name}
use Rattle.vmv_tree.specs.declared.site.NamedSite.{NamedSite}
use Rattle.vmv_tree.specs.declared.tree.Param.{Param}
use Rattle.vmv_tree.specs.Tree.{Item, entry, Body}
use Rattle.vmv_tree.specs.Run.{name_of}
use Rattle.vmv_tree.specs.Safe.{FitParams}
use Rattle.vmv_snapshot.specs.declared.code.ProcId.{ProcId}
use Rattle.vmv_snapshot.specs.Procs.{procs}
use Rattle.vmv_snapshot.specs.Reaches.{Reaches}
use Rattle.vmv_snapshot.specs.Tables.{body_sites}
use Rattle.vmv_witness.specs.declared.witness.Witness.{Witness}
use Rattle.vmv_witness.specs.declared.fitting.Unfit.{Unfit}
use Rattle.vmv_witness.specs.declared.fitting.Unfit.TheVariants.{NoEntry, ParamCount, ParamRange, NoSite}

-- the procedure of this number is an entry with this name and these parameters
abbrev pub IsEntry : List Item → Name → ℕ → List Param → Type 0
IsEntry program name n params = (body : Body) × (slice_get (procs program) n ≡ Some (entry name params body))

-- it is an entry with this name
abbrev pub HasEntry : List Item → Name → ℕ → Type 0
HasEntry program name n = (params : List Param) × IsEntry program name n params

-- the words of the witness, in order
abbrev pub words_of : Witness → List ℤ
words_of w = map (λ p. p.value) w.params

-- a procedure has the named site: sites are numbered from 1
abbrev pub IsSiteOf : Item → NamedSite → Type 0
IsSiteOf item site = (name_of item ≡ site.proc) × (1 ≤ site.index) × (site.index ≤ body_sites item)

-- the procedure of number n reaches that of number m, which has the named site
abbrev pub IsSiteIn : List Item → ℕ → NamedSite → ℕ → Type 0
IsSiteIn program n site m = Reaches program n m × ((item : Item) × (slice_get (procs program) m ≡ Some item) × IsSiteOf item site)

-- it reaches some procedure, itself maybe, that has the named site
abbrev pub HasSite : List Item → ℕ → NamedSite → Type 0
HasSite program n site = (m : ℕ) × IsSiteIn program n site m

-- the program has the entry of the witness, of whose number and parameters this holds
abbrev pub OfEntry : List Item → Witness → (ℕ → List Param → Type 0) → Type 0
OfEntry program w P = (n : ℕ) × (params : List Param) × IsEntry program w.entry n params × P n params

-- the first of the causes that holds, or the number of the entry where none does
abbrev pub Fits : List Item → Witness → Result ProcId Unfit → Type 0
Fits program w (Err NoEntry) = (n : ℕ) → HasEntry program w.entry n → ⊥
Fits program w (Err ParamCount) = OfEntry program w (λ n params. length (words_of w) ≢ length params)
Fits program w (Err ParamRange) = OfEntry program w (λ n params. (length (words_of w) ≡ length params) × (FitParams params (words_of w) → ⊥))
Fits program w (Err NoSite) = OfEntry program w (λ n params. FitParams params (words_of w) × (HasSite program n w.site → ⊥))
Fits program w (Ok proc) = (params : List Param) × IsEntry program w.entry proc.0 params × FitParams params (words_of w) × HasSite program proc.0 w.site
