-- Where tightening has come to.
use Rattle.std.proofs.Common.{◌≡◌, ℕ, suc, ◌<◌, ◌≤◌, List, drop, refl, sym, subst, arith}
use Rattle.vmv_tree.specs.declared.ends.NameEnds.{NameEnds}
use Rattle.vmv_tree.specs.Safe.{Environment, Safe}
use Rattle.vmv_snapshot.specs.Resolution.{Resolution, IsResolution, tree_of}
use Rattle.vmv_assumption.specs.Assumed.{Assumed}
use Rattle.vmv_assumption.specs.Within.{IsWithin}
use Rattle.vmv_table_sound.specs.Told.{IsProved}
use Rattle.vmv_demands.specs.Ends.{AreEnds}
use Rattle.vmv_enough.specs.Levels.{all_levels}
use Rattle.vmv_enough.specs.Tighten.{Leads}
use Rattle.vmv_enough.specs.Enough.{start, IsEnough, HasNoEnough, NoneEmpty, AreSafe}
use Rattle.vmv_enough.specs.Measure.{stage, room, Steps, Ended}
use Rattle.vmv_enough.proofs.Steps.{leads_more}

-- tightening has led from what was needed to what is assumed, so many levels having been taken
pub record IsTightened (program : Resolution) (ends : List NameEnds) (needed assumed : Assumed) (taken : ℕ) : Type 0 where
  pub times : ℕ
  pub leads : Leads program ends times (start needed) (stage assumed taken)
  pub few : taken ≤ 4
  pub nonempty : NoneEmpty program assumed

pub tightened_start : (program : Resolution) (ends : List NameEnds) (needed assumed : Assumed) → assumed ≡ needed → NoneEmpty program needed → IsTightened program ends needed assumed 0
tightened_start program ends needed assumed e nonempty =
    subst (λ a. IsTightened program ends needed a 0) (sym e) (record { times = 0; leads = refl; few = omega arith; nonempty = nonempty })

pub tightened_more : (program : Resolution) (ends : List NameEnds) (needed old new : Assumed) (taken more : ℕ) → IsTightened program ends needed old taken → ¬ IsProved program ends old → Steps program ends old taken new more →
    IsTightened program ends needed new more
tightened_more program ends needed old new taken more t unproved s = record {
  times = suc t.times;
  leads = leads_more program ends t.times (start needed) (stage old taken) (stage new more) t.leads (record { unproved = unproved; step = s.step });
  few = s.few;
  nonempty = (s.left t.nonempty).nonempty;
}

pub tightened_less : (program : Resolution) (ends : List NameEnds) (needed old new : Assumed) (taken more : ℕ) → IsTightened program ends needed old taken → Steps program ends old taken new more → room program new more < room program old taken
tightened_less program ends needed old new taken more t s = (s.left t.nonempty).less

pub enough_found : (program : Resolution) (ends : List NameEnds) (needed assumed : Assumed) (taken : ℕ) → AreEnds program ends → IsTightened program ends needed assumed taken → IsProved program ends assumed → IsEnough program needed assumed
enough_found program ends needed assumed taken are t proved = record { ends = ends; ends_are = are; times = t.times; levels = drop taken all_levels; leads = t.leads; proved = proved }

pub none_found : (program : Resolution) (ends : List NameEnds) (needed old new : Assumed) (taken : ℕ) → AreEnds program ends → IsTightened program ends needed old taken → ¬ IsProved program ends old → Ended program ends old taken new → HasNoEnough program needed
none_found program ends needed old new taken are t unproved ended = record {
  ends = ends;
  ends_are = are;
  times = t.times;
  last = old;
  leads = subst (λ n. Leads program ends t.times (start needed) (stage old n)) ended.all t.leads;
  unproved = unproved;
  none_open = ended.none_open;
}

-- a law of tables: where every site is provable, environments within what is assumed are safe
abbrev pub ProvedAreSafe : Type 0
ProvedAreSafe = (program : Resolution) (ends : List NameEnds) (assumed : Assumed) (env : Environment) → IsResolution program → IsProved program ends assumed → IsWithin env assumed → Safe env (tree_of program)

pub are_safe : (program : Resolution) (ends : List NameEnds) (assumed : Assumed) → ProvedAreSafe → IsResolution program → IsProved program ends assumed → AreSafe program assumed
are_safe program ends assumed law r proved env covers within = law program ends assumed env r proved within
