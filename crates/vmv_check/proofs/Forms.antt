-- Rows of a procedure that are formed.
use Rattle.std.proofs.Common.{◌≡◌, ℕ, Some, List, length, map, slice_get, sym, ap, subst, ◌∙◌}
use Rattle.std.specs.List.{All}
use Rattle.vmv_tree.specs.declared.name.Name.{Name}
use Rattle.vmv_tree.specs.declared.tree.Param.{Param}
use Rattle.vmv_tree.specs.Tree.{Item}
use Rattle.vmv_tree.specs.Run.{name_of}
use Rattle.vmv_snapshot.specs.declared.code.Code.{Code}
use Rattle.vmv_snapshot.specs.View.{code_of}
use Rattle.vmv_snapshot.specs.Procs.{params_of}
use Rattle.vmv_snapshot.specs.Resolves.{IsCode}
use Rattle.vmv_snapshot.specs.Resolution.{Resolution, tree_of, procs_of, IsResolution}
use Rattle.vmv_snapshot.proofs.Links.{map_at}
use Rattle.vmv_zone.specs.declared.zone.Zone.{Zone}
use Rattle.vmv_cert.specs.declared.row.Row.{Row}
use Rattle.vmv_cert.specs.Sizes.{block_loops}
use Rattle.vmv_cert.specs.Tables.{AreSitesOf, IsFormed}
use Rattle.vmv_check.proofs.Lists.{some_same}
use Rattle.vmv_check.proofs.Above.{procs_once}
use Rattle.vmv_check.proofs.Codes.{Ready, code_ready}
use Rattle.vmv_check.proofs.Orders.{name_at}

pub named_ready : (program : Resolution) (n : ℕ) (code : Code) (name : Name) → IsResolution program → IsCode (tree_of program) n (code_of code) → slice_get (map name_of (procs_of program)) n ≡ Some name → Ready program (code_of code)
named_ready program n code name is coded at = let a = map_at name_of (procs_of program) n name at in code_ready program n code a.0 is coded a.1

-- the parts of a row, by what a snapshot tells
pub record HasParts (program : Resolution) (row : Row) (n : ℕ) (params : List Param) (code : Code) : Type 0 where
  pub input : row.input.vars ≡ length params
  pub keeps : length row.keeps ≡ block_loops (code_of code).block
  pub over : All (λ (z : Zone). z.vars ≡ code.vars) row.keeps
  pub sites : AreSitesOf program n row.unproved

abbrev pub SomeFormed : Resolution → Row → ℕ → Type 0
SomeFormed program row n = (item : Item) × (code : Code) × IsFormed program row n item code

pub parts_of : (program : Resolution) (row : Row) (n : ℕ) (params : List Param) (code : Code) → slice_get (map params_of (procs_of program)) n ≡ Some params → slice_get program.codes n ≡ Some code →
    SomeFormed program row n → HasParts program row n params code
parts_of program row n params code at kept (item, other, f) =
    let a = map_at params_of (procs_of program) n params at in
    let same : item ≡ a.0 = some_same (sym f.place ∙ a.1) in
    let one : other ≡ code = some_same (sym f.code_is ∙ kept) in
    record {
      input = f.input ∙ (ap (λ x. length (params_of x)) same ∙ ap length a.2);
      keeps = f.keeps ∙ ap (λ (x : Code). block_loops (code_of x).block) one;
      over = subst (λ (x : Code). All (λ (z : Zone). z.vars ≡ x.vars) row.keeps) one f.over;
      sites = f.sites;
    }

pub formed_of : (program : Resolution) (row : Row) (n : ℕ) (params : List Param) (code : Code) → slice_get (map params_of (procs_of program)) n ≡ Some params → slice_get program.codes n ≡ Some code →
    slice_get (map name_of (procs_of program)) n ≡ Some row.proc → HasParts program row n params code → SomeFormed program row n
formed_of program row n params code at kept named p =
    let a = map_at params_of (procs_of program) n params at in
    let b = map_at name_of (procs_of program) n row.proc named in
    let same : b.0 ≡ a.0 = some_same (sym b.1 ∙ a.1) in (
      a.0,
      code,
      record {
        place = a.1;
        code_is = kept;
        named = ap name_of (sym same) ∙ b.2;
        input = p.input ∙ ap length (sym a.2);
        keeps = p.keeps;
        over = p.over;
        sites = p.sites;
      },
    )

-- the row is of no other procedure
pub formed_here : (program : Resolution) (row : Row) (n m : ℕ) (item : Item) (code : Code) → IsResolution program → slice_get (map name_of (procs_of program)) n ≡ Some row.proc → IsFormed program row m item code → m ≡ n
formed_here program row n m item code is at f = procs_once (tree_of program) is.valid m n row.proc (name_at program m item row.proc f.place f.named) at
