-- Which rows match a call, and what they say together.
use Rattle.std.proofs.Common.{◌≡◌, ⊎_elim, ◌↔◌, ℕ, ◌+◌, ◌<◌, ◌≤◌, ℤ, Option, Some, None, IsNone, IfSome, rules, List, [], ◌∷◌, ◌++◌, length, map, take, get_or, slice_get, sym, ap, subst, arith, ◌∙◌}
use Rattle.std.specs.List.{Contains}
use Rattle.std.proofs.lemmas.List.{take_all}
use Rattle.vmv_tree.specs.declared.name.Name.{Name}
use Rattle.vmv_tree.specs.declared.site.NamedSite.{NamedSite}
use Rattle.vmv_tree.specs.Run.{name_of}
use Rattle.vmv_cond.specs.declared.cond.Cond.{Cond}
use Rattle.vmv_cond.specs.Cond.{Holds}
use Rattle.vmv_snapshot.specs.Resolution.{procs_of}
use Rattle.vmv_snapshot.proofs.Zips.{take_one_more}
use Rattle.vmv_zone.specs.declared.zone.Zone.{Zone}
use Rattle.vmv_zone.specs.Zone.{IsBelow}
use Rattle.vmv_cert.specs.declared.row.Row.{Row}
use Rattle.vmv_cert.specs.Walk.{Walk, Returns, IsMatch, IsReturned, AreAllowed}
use Rattle.vmv_check.specs.Walker.{HasParams, SomeMatch, IsNarrowed, IsAllowedSite}
use Rattle.vmv_check.proofs.Lists.{some_same, push_in, old_in, new_in}

pub matches : (w : Walk) (callee : ℕ) (args : Zone) (row : Row) (name : Name) → HasParams w.program callee args.vars → Contains w.rows row →
    slice_get (map name_of (procs_of w.program)) callee ≡ Some name → row.proc ≡ name → row.input.vars ≡ args.vars → IsBelow args row.input → IsMatch w callee args row
matches w callee args row name params one at same vars below = record {
  one = one;
  named = at ∙ ap (λ x. Some x) (sym same);
  over = params ∙ ap (λ n. Some n) (sym vars);
  above = below;
}

pub match_name : (w : Walk) (callee : ℕ) (args : Zone) (row : Row) (name : Name) → slice_get (map name_of (procs_of w.program)) callee ≡ Some name → IsMatch w callee args row → row.proc ≡ name
match_name w callee args row name at m = some_same (sym m.named ∙ at)

pub match_vars : (w : Walk) (callee : ℕ) (args : Zone) (row : Row) → HasParams w.program callee args.vars → IsMatch w callee args row → row.input.vars ≡ args.vars
match_vars w callee args row params m = some_same (sym m.over ∙ params)

-- what was found among these rows
abbrev pub Found : Walk → ℕ → Zone → List Row → Option Cond → Type 0
Found w callee args rows None = (row : Row) → Contains rows row → IsMatch w callee args row → ⊥
Found w callee args rows (Some c) =
    SomeMatch w callee args × ((word : ℤ) → Holds c word ↔ ((row : Row) → Contains rows row → IsMatch w callee args row → Returns row.result word))

pub found_start : (w : Walk) (callee : ℕ) (args : Zone) → Found w callee args (take 0 w.rows) None
found_start w callee args row (k, h, e) m = absurd (omega (arith, h))

push_no : (w : Walk) (callee : ℕ) (args : Zone) (rows : List Row) (row : Row) (found : Option Cond) → Found w callee args rows found → (IsMatch w callee args row → ⊥) → Found w callee args (rows ++ row ∷ []) found
push_no w callee args rows row None f other = λ y h m.
    ⊎_elim (λ (old : Contains rows y). f y old m) (λ (e : row ≡ y). other (subst (IsMatch w callee args) (sym e) m)) (push_in rows row y h)
push_no w callee args rows row (Some c) f other = (
  f.0,
  λ word. (
    λ held y h m. ⊎_elim (λ (old : Contains rows y). (f.1 word).0 held y old m) (λ (e : row ≡ y). absurd (other (subst (IsMatch w callee args) (sym e) m))) (push_in rows row y h),
    λ all. (f.1 word).1 (λ y old m. all y (old_in rows row y old) m),
  ),
)

push_yes : (w : Walk) (callee : ℕ) (args : Zone) (rows : List Row) (row : Row) (found : Option Cond) (c : Cond) → Found w callee args rows found → IsMatch w callee args row → IsNarrowed found row.result c →
    Found w callee args (rows ++ row ∷ []) (Some c)
push_yes w callee args rows row None c f m n = (
  (row, m),
  λ word. (
    λ held y h m'. ⊎_elim (λ (old : Contains rows y). absurd (f y old m')) (λ (e : row ≡ y). subst (λ (r : Row). Returns r.result word) e ((n word).0 held).1) (push_in rows row y h),
    λ all. (n word).1 (tt, all row (new_in rows row) m),
  ),
)
push_yes w callee args rows row (Some b) c f m n = (
  (row, m),
  λ word. (
    λ held y h m'.
        let p = (n word).0 held in
        ⊎_elim (λ (old : Contains rows y). (f.1 word).0 p.0 y old m') (λ (e : row ≡ y). subst (λ (r : Row). Returns r.result word) e p.1) (push_in rows row y h),
    λ all. (n word).1 ((f.1 word).1 (λ y old m'. all y (old_in rows row y old) m'), all row (new_in rows row) m),
  ),
)

pub found_no : (w : Walk) (callee : ℕ) (args : Zone) (i : ℕ) (row : Row) (found : Option Cond) → i < length w.rows → row ≡ get_or w.rows i row → Found w callee args (take i w.rows) found →
    (IsMatch w callee args row → ⊥) → Found w callee args (take (i + 1) w.rows) found
found_no w callee args i row found h is f other = subst (λ rows. Found w callee args rows found) (sym (take_one_more w.rows i row h is)) (push_no w callee args (take i w.rows) row found f other)

pub found_yes : (w : Walk) (callee : ℕ) (args : Zone) (i : ℕ) (row : Row) (found : Option Cond) (c : Cond) → i < length w.rows → row ≡ get_or w.rows i row → Found w callee args (take i w.rows) found →
    IsMatch w callee args row → IsNarrowed found row.result c → Found w callee args (take (i + 1) w.rows) (Some c)
found_yes w callee args i row found c h is f m n =
    subst (λ rows. Found w callee args rows (Some c)) (sym (take_one_more w.rows i row h is)) (push_yes w callee args (take i w.rows) row found c f m n)

pub found_all : (w : Walk) (callee : ℕ) (args : Zone) (i : ℕ) (found : Option Cond) → length w.rows ≤ i → Found w callee args (take i w.rows) found → Found w callee args w.rows found
found_all w callee args i found h f = subst (λ rows. Found w callee args rows found) (take_all i w.rows h) f

pub found_none : (w : Walk) (callee : ℕ) (args : Zone) → Found w callee args w.rows None → SomeMatch w callee args → ⊥
found_none w callee args f (row, m) = f row m.one m

pub found_some : (w : Walk) (callee : ℕ) (args : Zone) (c : Cond) → Found w callee args w.rows (Some c) → IsReturned w callee args c
found_some w callee args c f word = (λ held row m. (f.1 word).0 held row m.one m, λ all. (f.1 word).1 (λ row there m. all row m))

-- sites that all list are those that one lists
pub allowed_of : (w : Walk) (callee : ℕ) (args : Zone) (one : Row) → IsMatch w callee args one → ((site : NamedSite) → Contains one.unproved site → IsAllowedSite w callee args site) → AreAllowed w callee args
allowed_of w callee args one m each site all = each site (all one m) all

pub found_told : (w : Walk) (callee : ℕ) (args : Zone) (found : Option Cond) → Found w callee args w.rows found → (IsNone found → SomeMatch w callee args → ⊥) × IfSome found (IsReturned w callee args)
found_told w callee args None f = (λ n. found_none w callee args f, tt)
found_told w callee args (Some c) f = (λ n m. search rules, found_some w callee args c f)
