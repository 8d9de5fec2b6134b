-- The room that conditions leave falls where they are narrowed.
use Rattle.std.proofs.Common.{unsigned_abs, ◌≡◌, ◌≢◌, ℕ, ◌+◌, ◌<◌, ◌≤◌, ℤ, pos, ◌-ℤ◌, ◌≤ℤ◌, ◌<ℤ◌, Bool, true, false, refl, sym, ◌∙◌, arith}
use Rattle.std.specs.List.{Contains}
use Rattle.std.proofs.lemmas.Int.{ints, by_lt_z}
use Rattle.vmv_tree.specs.declared.name.Name.{Name}
use Rattle.vmv_cond.specs.declared.cond.Cond.{Cond}
use Rattle.vmv_cond.specs.Cond.{IsEmpty, IsSubset}
use Rattle.vmv_cond.proofs.Ranges.{ends_held}
use Rattle.vmv_cond.proofs.Same.{same_fields}
use Rattle.vmv_snapshot.specs.Procs.{outsides}
use Rattle.vmv_snapshot.specs.Resolution.{Resolution, tree_of}
use Rattle.vmv_assumption.specs.Assumed.{Assumed}
use Rattle.vmv_enough.specs.Measure.{zero_room, room_of, room}
use Rattle.vmv_enough.proofs.Lists.{sum_below, sum_less}

-- the ends of a condition that holds a word are in order
pub ordered : (c : Cond) → ¬ IsEmpty c → c.lo ≤ℤ c.hi
ordered c some = by_lt_z c.hi c.lo (λ (h : c.hi <ℤ c.lo). absurd (some (λ w p. let above = p.above in let below = p.below in omega (arith, ints)))) (λ h. h)

-- what a subset that holds a word is to the whole
pub record IsPart (c d : Cond) : Type 0 where
  pub low : c.lo ≤ℤ d.lo
  pub order : d.lo ≤ℤ d.hi
  pub high : d.hi ≤ℤ c.hi
  pub zero : c.zero_out ≡ true → d.zero_out ≡ true

pub part_of : (c d : Cond) → IsSubset d c → ¬ IsEmpty d → IsPart c d
part_of c d inside some =
    let order = ordered d some in
    let held = ends_held d.lo d.hi d.zero_out d.normal order in
    let at_lo = inside d.lo held.0 in
    let at_hi = inside d.hi held.1 in
    record { low = at_lo.above; order = order; high = at_hi.below; zero = λ out. marked out d.zero_out refl }
  where
    marked : c.zero_out ≡ true → (b : Bool) → d.zero_out ≡ b → d.zero_out ≡ true
    marked out true e = e
    marked out false e =
        let zero = inside (pos 0) (record { above = d.normal.unmarked_lo e; below = d.normal.unmarked_hi e; nonzero = λ t. let f : true ≡ false = sym t ∙ e in absurd (cc) }) in
        absurd (zero.nonzero out refl)

zero_le : (b c : Bool) → (b ≡ true → c ≡ true) → zero_room c ≤ zero_room b
zero_le true true h = omega arith
zero_le true false h = let e = h refl in absurd (cc)
zero_le false true h = omega arith
zero_le false false h = omega arith

zero_small : (b : Bool) → zero_room b ≤ 1
zero_small true = omega arith
zero_small false = omega arith

zero_less : (b c : Bool) → (b ≡ true → c ≡ true) → b ≢ c → zero_room c + 1 ≤ zero_room b
zero_less true true h n = absurd (n refl)
zero_less true false h n = let e = h refl in absurd (cc)
zero_less false true h n = omega arith
zero_less false false h n = absurd (n refl)

gap_le : (a b c d : ℤ) → a ≤ℤ c → c ≤ℤ d → d ≤ℤ b → unsigned_abs (d -ℤ c) ≤ unsigned_abs (b -ℤ a)
gap_le a b c d h g k = grind (arith, ints)

gap_lo : (a b c d : ℤ) → a <ℤ c → c ≤ℤ d → d ≤ℤ b → unsigned_abs (d -ℤ c) + 1 ≤ unsigned_abs (b -ℤ a)
gap_lo a b c d h g k = grind (arith, ints)

gap_hi : (a b c d : ℤ) → a ≤ℤ c → c ≤ℤ d → d <ℤ b → unsigned_abs (d -ℤ c) + 1 ≤ unsigned_abs (b -ℤ a)
gap_hi a b c d h g k = grind (arith, ints)

pub room_part : (c d : Cond) → IsPart c d → room_of d ≤ room_of c
room_part c d p =
    let gap = gap_le c.lo c.hi d.lo d.hi p.low p.order p.high in
    let zero = zero_le c.zero_out d.zero_out p.zero in
    omega arith

pub room_less : (c d : Cond) → IsPart c d → d ≢ c → room_of d < room_of c
room_less c d p other =
    let small = zero_small d.zero_out in
    by_lt_z c.lo d.lo
    (λ (h : c.lo <ℤ d.lo). let gap = gap_lo c.lo c.hi d.lo d.hi h p.order p.high in omega arith)
    (λ (h : d.lo ≤ℤ c.lo).
    by_lt_z d.hi c.hi
    (λ (g : d.hi <ℤ c.hi). let gap = gap_hi c.lo c.hi d.lo d.hi p.low p.order g in omega arith)
    (λ (g : c.hi ≤ℤ d.hi).
    let low : d.lo ≡ c.lo = both d.lo c.lo h p.low in
    let high : d.hi ≡ c.hi = both d.hi c.hi p.high g in
    let gap = gap_le c.lo c.hi d.lo d.hi p.low p.order p.high in
    let zero = zero_less c.zero_out d.zero_out p.zero (λ e. other (same_fields d c low high (sym e))) in
    omega arith))
  where
    both : (a b : ℤ) → a ≤ℤ b → b ≤ℤ a → a ≡ b
    both a b h g = omega (arith, ints)

-- each name's condition is a part of what it was
abbrev pub AreParts : Resolution → Assumed → Assumed → Type 0
AreParts program old new = (name : Name) → Contains (outsides (tree_of program)) name → IsPart (old name) (new name)

pub room_kept : (program : Resolution) (old new : Assumed) (taken : ℕ) → taken < 4 → AreParts program old new → room program new (taken + 1) < room program old taken
room_kept program old new taken few parts =
    let sums = sum_below (λ name. room_of (new name)) (λ name. room_of (old name)) (outsides (tree_of program)) (λ name there. room_part (old name) (new name) (parts name there)) in
    omega (arith, sums)

pub room_falls : (program : Resolution) (old new : Assumed) (taken : ℕ) (name : Name) → AreParts program old new → Contains (outsides (tree_of program)) name → new name ≢ old name → room program new taken < room program old taken
room_falls program old new taken name parts there other =
    let sums = sum_less (λ name. room_of (new name)) (λ name. room_of (old name)) (outsides (tree_of program)) name (λ name there. room_part (old name) (new name) (parts name there)) there (room_less (old name) (new name) (parts name there) other) in
    omega (arith, sums)
