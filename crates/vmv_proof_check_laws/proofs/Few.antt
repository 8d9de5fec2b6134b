-- A revision has few rows.
use Rattle.std.proofs.Common.{◌≡◌, inl, inr, ℕ, ◌+◌, ◌-◌, ◌*◌, ◌<◌, ◌≤◌, ◌^◌, Bool, List, [], ◌∷◌, length, count_by, arith}
use Rattle.std.specs.List.{Contains}
use Rattle.std.proofs.lemmas.List.Sums.{count_by-le-length}
use Rattle.vmv_snapshot.specs.Resolution.{Resolution, IsResolution, tree_of}
use Rattle.vmv_cert.specs.Places.{Place, IsPlace, IsBefore}
use Rattle.vmv_proof.specs.declared.proof.Shown.{Shown}
use Rattle.vmv_proof_check.specs.declared.claims.Claims.{Claims}
use Rattle.vmv_proof_check.specs.Counts.{Standing, is_clean, is_hidden, is_left, AreCounted}
use Rattle.vmv_proof_check.proofs.Bounds.{few_sites, few_procs}
use Rattle.vmv_proof_check.proofs.Lists.{first_in, later_in}
use Rattle.vmv_proof_check.proofs.Placing.{entry_within, proc_within}
use Rattle.vmv_proof_check_laws.proofs.Lists.{Ordered, ordered_of}

abbrev Told : Type 0
Told = Place × Standing

-- the places of a valid program by one number, which is below 128 * 128 * 2,000
abbrev key : Place → ℕ
key p = (p.entry * 128 + p.proc) * 2000 + (p.index - 1)

record IsInside (p : Place) : Type 0 where
  entry : p.entry < 128
  proc : p.proc < 128
  from : 1 ≤ p.index
  to : p.index ≤ 2000

inside : (revision : Resolution) (p : Place) → IsResolution revision → IsPlace revision p → IsInside p
inside revision p is there =
    let procs = few_procs (tree_of revision) is.valid in
    let entry = entry_within revision p.entry there.params there.entry in
    let proc = proc_within revision p there in
    let sites = few_sites (tree_of revision) p.proc there.item is.valid there.proc in
    let from = there.from in
    let to = there.to in
    record { entry = omega (arith, procs, entry); proc = omega (arith, procs, proc); from = from; to = omega (arith, sites, to) }

-- they rise in order
rises : (a b : Place) → IsInside a → IsInside b → IsBefore a b → key a < key b
rises a b x y (inl h) = omega (arith, h)
rises a b x y (inr (e, inl h)) = omega (arith, e, h)
rises a b x y (inr (e, inr (f, h))) = omega (arith, e, f, h)

-- so there are no more than numbers from the first on
room : (rows : List Told) (m : ℕ) → Ordered (λ (a b : Told). IsBefore a.0 b.0) rows → ((row : Told) → Contains rows row → IsInside row.0) → ((row : Told) → Contains rows row → m ≤ key row.0) → length rows ≤ 32768000 - m
room [] m order each low = omega arith
room (row ∷ rows) m order each low =
    let first = each row (first_in row rows) in
    let here = low row (first_in row rows) in
    let rest = room rows (key row.0 + 1) order.1 (λ r there. each r (later_in row rows r there))
    (λ r there. let h = rises row.0 r.0 first (each r (later_in row rows r there)) (order.0 r there) in omega (arith, h)) in
    let below = limit row.0 first in
    omega (arith, here, rest, below)
  where
    limit : (p : Place) → IsInside p → key p < 32768000
    limit p x = omega arith

module _ (revision : Resolution) (shown : List Shown) (is : IsResolution revision) (claims : Claims) (h : AreCounted revision shown claims) where
  few : length h.rows ≤ 32768000
  few =
      let n = room h.rows 0 (ordered_of (λ (a b : Told). IsBefore a.0 b.0) h.rows h.standings.in_order) (λ row there. inside revision row.0 is (h.standings.each row there).0) (λ row there. omega arith) in
      omega (arith, n)

  one_few : (p : Standing → Bool) (n : ℕ) → n ≡ count_by (λ (row : Told). p row.1) h.rows → n < 2 ^ 32
  one_few p n e = let most = count_by-le-length (λ (row : Told). p row.1) h.rows in let all = few in omega (arith, e, most, all)

  -- each count is below 2^32
  pub few_counted : (claims.clean < 2 ^ 32) × (claims.hidden < 2 ^ 32) × (claims.left < 2 ^ 32)
  few_counted = (one_few is_clean claims.clean h.clean_is, one_few is_hidden claims.hidden h.hidden_is, one_few is_left claims.left h.left_is)
