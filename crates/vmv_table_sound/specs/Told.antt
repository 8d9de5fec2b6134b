-- What a row tells of how a run ends, the words of a box, and what a proof of every site shows.
use Rattle.std.specs.Prelude.{◌≡◌, ℕ, ℤ, ◌≤ℤ◌, List}
use Rattle.std.specs.List.{AllZip, Contains}
use Rattle.vmv_tree.specs.declared.ends.NameEnds.{NameEnds}
use Rattle.vmv_tree.specs.declared.site.NamedSite.{NamedSite}
use Rattle.vmv_tree.specs.declared.tree.Param.{Param}
use Rattle.vmv_tree.specs.Words.{IsWord}
use Rattle.vmv_tree.specs.Run.{Site, Outcome, done, Outcome.fail}
use Rattle.vmv_snapshot.specs.Resolution.{Resolution}
use Rattle.vmv_assumption.specs.Assumed.{Assumed}
use Rattle.vmv_cert.specs.declared.row.Row.{Row}
use Rattle.vmv_cert.specs.declared.row.Reach.TheVariants.{Bottom}
use Rattle.vmv_cert.specs.Walk.{Returns}
use Rattle.vmv_cert.specs.Tables.{Accepted, IsSiteOf, Box, IsEntry, IsBoxIn, ranges_of, IsRowAbove, Provable}

-- the site of a run, as rows list it
abbrev pub named : Site → NamedSite
named site = record { proc = site.proc; index = site.number }

-- a returned word is one that the row's result may return, and a failing site is one that the row lists
abbrev pub IsTold : Row → Outcome → Type 0
IsTold row (done word) = Returns row.result word
IsTold row (fail site) = Contains row.unproved (named site)

-- one word for each range of the box, in that range
abbrev pub AreInBox : Box → List ℤ → Type 0
AreInBox box words = AllZip (λ range word. IsWord word × (range.0 ≤ℤ word) × (word ≤ℤ range.1)) box words

-- each site of each procedure that an entry reaches is provable for the entry
abbrev pub IsProved : Resolution → List NameEnds → Assumed → Type 0
IsProved program ends assumed =
    (n m : ℕ) (params : List Param) (site : NamedSite) → IsEntry program n params → IsSiteOf program n m site → Provable program n ends assumed site

-- an accepted table, whatever its states at loops are, says that the entry doesn't return from the box
abbrev pub SaysNoReturn : Resolution → ℕ → Box → Assumed → List Row → Type 0
SaysNoReturn program n box assumed rows =
    (params : List Param) × IsEntry program n params × IsBoxIn params box
    × ((row : Row) × Accepted program assumed rows × Contains rows row × IsRowAbove program n box row × (row.result ≡ Bottom))

-- an accepted table, whatever its states at loops are, doesn't list the site for the whole ranges of the entry
abbrev pub LeavesOut : Resolution → ℕ → Assumed → List Row → NamedSite → Type 0
LeavesOut program n assumed rows site =
    (params : List Param) × IsEntry program n params
    × ((row : Row) × Accepted program assumed rows × Contains rows row × IsRowAbove program n (ranges_of params) row × (Contains row.unproved site → ⊥))
