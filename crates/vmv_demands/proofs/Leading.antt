-- The conditions of sites, led back step by step.
use Rattle.std.proofs.Common.{◌≡◌, ◌≢◌, ℕ, zero, suc, ◌+◌, ◌<◌, ◌≤◌, ◌==◌, Bool, true, false, Some, List, [], ◌∷◌, ◌++◌, length, get_or, take, drop, slice_get, refl, sym, ap, subst, ◌∙◌, arith, add-one, drop-cons, append_assoc, append-nil, length-append, if◌then◌else◌}
use Rattle.std.proofs.lemmas.Bool.Decides.{nat_tests}
use Rattle.std.proofs.lemmas.List.{drop_all}
use Rattle.std.proofs.lemmas.Option.{slice_get-get_or}
use Rattle.vmv_snapshot.specs.declared.code.Slot.{Slot}
use Rattle.vmv_snapshot.specs.declared.code.ProcId.{ProcId}
use Rattle.vmv_snapshot.specs.declared.code.SiteId.{SiteId}
use Rattle.vmv_snapshot.specs.declared.code.CodeOperand.{CodeOperand}
use Rattle.vmv_snapshot.specs.declared.code.CodeTest.{CodeTest}
use Rattle.vmv_snapshot.specs.declared.code.Simple.{Simple}
use Rattle.vmv_snapshot.specs.declared.code.Simple.TheVariants.{Set, Arith, Ask, Assert}
use Rattle.vmv_snapshot.specs.declared.code.CodeStmt.{CodeStmt, Plain, Help, If, Repeat}
use Rattle.vmv_snapshot.specs.declared.code.CodeRepeat.{CodeRepeat}
use Rattle.vmv_snapshot.specs.declared.code.Code.{Code}
use Rattle.vmv_snapshot.specs.Code.{Stmt, plain, help, branch, loop, Block, [], ◌⨾◌}
use Rattle.vmv_snapshot.specs.View.{stmt_of, block_of}
use Rattle.vmv_demands.specs.declared.lead.Lead.{Lead}
use Rattle.vmv_demands.specs.declared.lead.Lead.TheVariants.{Nowhere, Asked, At}
use Rattle.vmv_demands.specs.declared.lead.SiteLead.{SiteLead}
use Rattle.vmv_demands.specs.Needs.{test_needs, arith_needs, bound_needs}
use Rattle.vmv_demands.specs.Back.{on_operand, out_of_call, out_of_loop, Results, over, over_all, over_code, results}
use Rattle.vmv_demands.specs.Leads.{lead_of, led_on, simple_leads, Inside, leads_in, leads_in_all, leads_in_code, insides, proc_leads}
use Rattle.vmv_demands.specs.declared.source.Source.{Source}
use Rattle.vmv_demands.specs.declared.summary.Summary.{Summary}
use Rattle.vmv_demands.specs.Sources.{LeadsAs, StandFor, IsSummary, AreSummaries}
use Rattle.vmv_demands.proofs.Sizes.{is_plain, is_help, is_if, is_repeat, loop_of}

pick_true : {A : Type 0} (b : Bool) (x y : A) → b ≡ true → (if b then x else y) ≡ x
pick_true true x y e = refl
pick_true false x y e = absurd (cc)

pick_false : {A : Type 0} (b : Bool) (x y : A) → b ≡ false → (if b then x else y) ≡ y
pick_false true x y e = absurd (cc)
pick_false false x y e = refl

other_number : (a b : ℕ) → a ≢ b → (a == b) ≡ false
other_number a b h = grind (arith, nat_tests)

-- a procedure that isn't before n has nothing
pub insides_behind : (codes : List Code) (n callee : ℕ) → n ≤ callee → insides codes n callee ≡ []
unfolding insides
insides_behind codes zero callee h = refl
insides_behind codes (suc n) callee h =
    pick_false (callee == n) (proc_leads codes n) (insides codes n callee) (other_number callee n (λ e. absurd (omega arith)))
    ∙ insides_behind codes n callee (omega arith)

-- one before n has its own
pub insides_before : (codes : List Code) (n callee : ℕ) → callee < n → insides codes n callee ≡ proc_leads codes callee
unfolding insides
insides_before codes zero callee h = absurd (omega arith)
insides_before codes (suc n) callee h = by (callee == n) refl (λ k. insides_before codes n callee k)
  where
    equal : (a b : ℕ) → (a == b) ≡ true → b ≡ a
    equal a b e = grind (arith, nat_tests)

    below : (a b : ℕ) → a < suc b → (a == b) ≡ false → a < b
    below a b h e = grind (arith, nat_tests)

    by : (b : Bool) → (callee == n) ≡ b → (callee < n → insides codes n callee ≡ proc_leads codes callee) →
        (if callee == n then proc_leads codes n else insides codes n callee) ≡ proc_leads codes callee
    by true e rest = pick_true (callee == n) (proc_leads codes n) (insides codes n callee) e ∙ ap (λ (m : ℕ). proc_leads codes m) (equal callee n e)
    by false e rest = pick_false (callee == n) (proc_leads codes n) (insides codes n callee) e ∙ rest (below callee n h e)

led_on-append : (move : Lead → Lead) (xs ys : List SiteLead) → led_on move (xs ++ ys) ≡ led_on move xs ++ led_on move ys
led_on-append move [] ys = refl
led_on-append move (x ∷ xs) ys =
    ap (λ (l : List SiteLead). lead_of x.site (move x.lead) ++ l) (led_on-append move xs ys) ∙ sym (append_assoc (lead_of x.site (move x.lead)) (led_on move xs) (led_on move ys))

-- one lead, led on
led_one : (move : Lead → Lead) (site : SiteId) (lead : Lead) → move Nowhere ≡ Nowhere → led_on move (lead_of site lead) ≡ lead_of site (move lead)
led_one move site Nowhere e = ap (lead_of site) (sym e)
led_one move site (Asked f cond) e = append-nil (lead_of site (move (Asked f cond)))
led_one move site (At x want) e = append-nil (lead_of site (move (At x want)))

-- two moves are one
led_twice : (move more : Lead → Lead) (xs : List SiteLead) → more Nowhere ≡ Nowhere → led_on more (led_on move xs) ≡ led_on (λ l. more (move l)) xs
led_twice move more [] e = refl
led_twice move more (x ∷ xs) e =
    led_on-append more (lead_of x.site (move x.lead)) (led_on move xs)
    ∙ (λ i. led_one more x.site (move x.lead) e i ++ led_twice move more xs e i)

-- what is listed leads somewhere
abbrev stay : Lead → Lead
stay l = l

stays_led : (move : Lead → Lead) (xs : List SiteLead) → led_on stay (led_on move xs) ≡ led_on move xs
stays_led move xs = led_twice move stay xs refl

stays_one : (site : SiteId) (lead : Lead) → led_on stay (lead_of site lead) ≡ lead_of site lead
stays_one site lead = led_one stay site lead refl

stays_both : (xs ys : List SiteLead) → led_on stay xs ≡ xs → led_on stay ys ≡ ys → led_on stay (xs ++ ys) ≡ xs ++ ys
stays_both xs ys e f = led_on-append stay xs ys ∙ (λ i. e i ++ f i)

stays_simple : (proc : ProcId) (simple : Simple) → led_on stay (simple_leads proc simple) ≡ simple_leads proc simple
stays_simple proc (Set to from) = refl
stays_simple proc (Arith to op left right site) = stays_one (record { proc = proc; index = site }) (arith_needs op left right)
stays_simple proc (Ask to f args) = refl
stays_simple proc (Assert test site) = stays_one (record { proc = proc; index = site }) (test_needs test)

module _ (r : Results) (inside : Inside) (p : ProcId) where
  mutual
    unfolding leads_in

    stays_in : (s : Stmt) → led_on stay (leads_in r inside p s) ≡ leads_in r inside p s
    stays_in (plain simple) = stays_simple p simple
    stays_in (help to callee args) = stays_led (out_of_call args) (inside callee.0)
    stays_in (branch test first second) = stays_both (leads_in_all r inside p first) (leads_in_all r inside p second) (stays_in_all first) (stays_in_all second)
    stays_in (loop index slot bound most site body) =
        stays_both (lead_of (record { proc = p; index = site }) (bound_needs bound most)) (led_on (out_of_loop index body) (leads_in_all r inside p body))
        (stays_one (record { proc = p; index = site }) (bound_needs bound most)) (stays_led (out_of_loop index body) (leads_in_all r inside p body))

    stays_in_all : (b : Block) → led_on stay (leads_in_all r inside p b) ≡ leads_in_all r inside p b
    stays_in_all [] = refl
    stays_in_all (s ⨾ rest) = stays_both (leads_in r inside p s) (led_on (over r s) (leads_in_all r inside p rest)) (stays_in s) (stays_led (over r s) (leads_in_all r inside p rest))

  all-none : leads_in_all r inside p [] ≡ []
  unfolding leads_in
  all-none = refl

  all-row : (s : Stmt) (rest : Block) → leads_in_all r inside p (s ⨾ rest) ≡ leads_in r inside p s ++ led_on (over r s) (leads_in_all r inside p rest)
  unfolding leads_in
  all-row s rest = refl

  over_none : (lead : Lead) → over_all r [] lead ≡ lead
  unfolding over_all
  over_none lead = refl

  over_row : (s : Stmt) (rest : Block) (lead : Lead) → over r s (over_all r rest lead) ≡ over_all r (s ⨾ rest) lead
  unfolding over_all
  over_row s rest lead = refl

  take_none : (block : List CodeStmt) → take 0 block ≡ []
  take_none [] = refl
  take_none (b ∷ block) = refl

  -- with one statement more at the end
  last : (block : List CodeStmt) (i : ℕ) (s : CodeStmt) → i < length block → s ≡ get_or block i s →
      leads_in_all r inside p (block_of (take (suc i) block)) ≡ leads_in_all r inside p (block_of (take i block)) ++ led_on (over_all r (block_of (take i block))) (leads_in r inside p (stmt_of s))
  last [] i s h is = absurd (omega arith)
  last (b ∷ block) zero s h is =
      ap (λ (rest : List CodeStmt). leads_in_all r inside p (stmt_of b ⨾ block_of rest)) (take_none block)
      ∙ all-row (stmt_of b) [] ∙ ap (λ (l : List SiteLead). leads_in r inside p (stmt_of b) ++ led_on (over r (stmt_of b)) l) all-none
      ∙ append-nil (leads_in r inside p (stmt_of b)) ∙ ap (λ (x : CodeStmt). leads_in r inside p (stmt_of x)) (sym is)
      ∙ sym (ap (λ (move : Lead → Lead). led_on move (leads_in r inside p (stmt_of s))) (λ i l. over_none l i) ∙ stays_in (stmt_of s))
      ∙ ap (λ (l : List SiteLead). l ++ led_on (over_all r []) (leads_in r inside p (stmt_of s))) (sym all-none)
  last (b ∷ block) (suc i) s h is =
      let front : Block = block_of (take i block) in
      all-row (stmt_of b) (block_of (take (suc i) block))
      ∙ ap (λ (l : List SiteLead). leads_in r inside p (stmt_of b) ++ led_on (over r (stmt_of b)) l) (last block i s (omega (arith, h)) is)
      ∙ ap (λ (l : List SiteLead). leads_in r inside p (stmt_of b) ++ l)
      (led_on-append (over r (stmt_of b)) (leads_in_all r inside p front) (led_on (over_all r front) (leads_in r inside p (stmt_of s)))
      ∙ ap (λ (l : List SiteLead). led_on (over r (stmt_of b)) (leads_in_all r inside p front) ++ l)
      (led_twice (over_all r front) (over r (stmt_of b)) (leads_in r inside p (stmt_of s)) refl
      ∙ ap (λ (move : Lead → Lead). led_on move (leads_in r inside p (stmt_of s))) (λ i l. over_row (stmt_of b) front l i)))
      ∙ sym (append_assoc (leads_in r inside p (stmt_of b)) (led_on (over r (stmt_of b)) (leads_in_all r inside p front)) (led_on (over_all r (stmt_of b ⨾ front)) (leads_in r inside p (stmt_of s))))
      ∙ ap (λ (l : List SiteLead). l ++ led_on (over_all r (stmt_of b ⨾ front)) (leads_in r inside p (stmt_of s))) (sym (all-row (stmt_of b) front))

  pub more_leads : (block : List CodeStmt) (i : ℕ) (s : CodeStmt) → i < length block → s ≡ get_or block i s →
      leads_in_all r inside p (block_of (take (i + 1) block)) ≡ leads_in_all r inside p (block_of (take i block)) ++ led_on (over_all r (block_of (take i block))) (leads_in r inside p (stmt_of s))
  more_leads block i s h is = ap (λ (n : ℕ). leads_in_all r inside p (block_of (take n block))) (add-one i) ∙ last block i s h is

  pub next_leads : (block before : List CodeStmt) (i : ℕ) (s : CodeStmt) (leads behind more : List SiteLead) → i < length block → s ≡ get_or block i s → before ≡ take i block →
      leads ≡ leads_in_all r inside p (block_of (take i block)) → behind ≡ leads_in r inside p (stmt_of s) → more ≡ leads ++ led_on (over_all r (block_of before)) behind →
      more ≡ leads_in_all r inside p (block_of (take (i + 1) block))
  next_leads block before i s leads behind more h is front inv e f =
      f ∙ (λ j. inv j ++ led_on (over_all r (block_of (front j))) (e j)) ∙ sym (more_leads block i s h is)

  pub no_leads : (block : List CodeStmt) (leads : List SiteLead) → leads ≡ [] → leads ≡ leads_in_all r inside p (block_of (take 0 block))
  no_leads block leads e = e ∙ sym (ap (λ (b : List CodeStmt). leads_in_all r inside p (block_of b)) (take_none block) ∙ all-none)

  in-plain : (simple : Simple) → leads_in r inside p (plain simple) ≡ simple_leads p simple
  unfolding leads_in
  in-plain simple = refl

  in-help : (to : Slot) (callee : ProcId) (args : List CodeOperand) → leads_in r inside p (help to callee args) ≡ led_on (out_of_call args) (inside callee.0)
  unfolding leads_in
  in-help to callee args = refl

  in-branch : (test : CodeTest) (first second : Block) → leads_in r inside p (branch test first second) ≡ leads_in_all r inside p first ++ leads_in_all r inside p second
  unfolding leads_in
  in-branch test first second = refl

  in-loop : (repeat : CodeRepeat) → leads_in r inside p (loop_of repeat)
      ≡ lead_of (record { proc = p; index = repeat.site }) (bound_needs repeat.bound repeat.cap) ++ led_on (out_of_loop repeat.index (block_of repeat.body)) (leads_in_all r inside p (block_of repeat.body))
  unfolding leads_in
  in-loop repeat = refl

  module _ (s : CodeStmt) (none : List SiteLead) (empty : none ≡ []) where
    pub leads_plain : (simple : Simple) (all : List SiteLead) → s ≡ Plain simple → all ≡ none ++ simple_leads p simple → all ≡ leads_in r inside p (stmt_of s)
    leads_plain simple all is e =
        e ∙ ap (λ (l : List SiteLead). l ++ simple_leads p simple) empty ∙ sym (ap (leads_in r inside p) (is_plain s simple is) ∙ in-plain simple)

    pub leads_if : (test : CodeTest) (first second one two : List CodeStmt) (a b c all : List SiteLead) → s ≡ If test first second → one ≡ first → two ≡ second →
        a ≡ leads_in_all r inside p (block_of one) → c ≡ none ++ a → b ≡ leads_in_all r inside p (block_of two) → all ≡ c ++ b → all ≡ leads_in r inside p (stmt_of s)
    leads_if test first second one two a b c all is e f g h k l =
        l ∙ (λ i. (h ∙ ap (λ (x : List SiteLead). x ++ a) empty ∙ g ∙ ap (λ (x : List CodeStmt). leads_in_all r inside p (block_of x)) e) i ++ (k ∙ ap (λ (x : List CodeStmt). leads_in_all r inside p (block_of x)) f) i)
        ∙ sym (ap (leads_in r inside p) (is_if s test first second is) ∙ in-branch test (block_of first) (block_of second))

    pub leads_repeat : (repeat : CodeRepeat) (body : List CodeStmt) (need : Lead) (own found all : List SiteLead) → s ≡ Repeat repeat → body ≡ repeat.body → need ≡ bound_needs repeat.bound repeat.cap →
        own ≡ none ++ lead_of (record { proc = p; index = repeat.site }) need → found ≡ leads_in_all r inside p (block_of body) →
        all ≡ own ++ led_on (out_of_loop repeat.index (block_of repeat.body)) found → all ≡ leads_in r inside p (stmt_of s)
    leads_repeat repeat body need own found all is e n f g h =
        h ∙ (λ i. (f ∙ (λ j. empty j ++ lead_of (record { proc = p; index = repeat.site }) (n j))) i
        ++ led_on (out_of_loop repeat.index (block_of repeat.body)) ((g ∙ ap (λ (x : List CodeStmt). leads_in_all r inside p (block_of x)) e) i))
        ∙ sym (ap (leads_in r inside p) (is_repeat s repeat is) ∙ in-loop repeat)

module _ (codes : List Code) (p : ProcId) (s : CodeStmt) (to : Slot) (callee : ProcId) (args : List CodeOperand) (is : s ≡ Help to callee args) (none : List SiteLead) (empty : none ≡ []) where
  pub leads_help : (given : List CodeOperand) (found all : List SiteLead) → given ≡ args → callee.0 < p.0 → found ≡ proc_leads codes callee.0 → all ≡ none ++ led_on (out_of_call given) found →
      all ≡ leads_in (results codes p.0) (insides codes p.0) p (stmt_of s)
  leads_help given found all same below e f =
      f ∙ (λ i. empty i ++ led_on (out_of_call (same i)) (e i)) ∙ ap (led_on (out_of_call args)) (sym (insides_before codes p.0 callee.0 below))
      ∙ sym (ap (leads_in (results codes p.0) (insides codes p.0) p) (is_help s to callee args is) ∙ in-help (results codes p.0) (insides codes p.0) p to callee args)

  pub leads_help_behind : p.0 ≤ callee.0 → none ≡ leads_in (results codes p.0) (insides codes p.0) p (stmt_of s)
  leads_help_behind behind =
      empty ∙ ap (led_on (out_of_call args)) (sym (insides_behind codes p.0 callee.0 behind))
      ∙ sym (ap (leads_in (results codes p.0) (insides codes p.0) p) (is_help s to callee args is) ∙ in-help (results codes p.0) (insides codes p.0) p to callee args)

pub proc_leads_are : (codes : List Code) (p : ProcId) (code : Code) (block : List CodeStmt) (leads : List SiteLead) → slice_get codes p.0 ≡ Some code → block ≡ code.block →
    leads ≡ leads_in_all (results codes p.0) (insides codes p.0) p (block_of block) → leads ≡ proc_leads codes p.0
proc_leads_are codes p code block leads at same e =
    e ∙ ap (λ (b : List CodeStmt). leads_in_all (results codes p.0) (insides codes p.0) p (block_of b)) same
    ∙ ap (leads_in_code (results codes p.0) (insides codes p.0) p.0) (sym at)

-- from one site behind statements to the next
pub led_next : (move : Lead → Lead) (behind : List SiteLead) (i : ℕ) (led : SiteLead) (lead : Lead) (leads more all : List SiteLead) → i < length behind → led ≡ get_or behind i led → leads ++ led_on move (drop i behind) ≡ all →
    lead ≡ move led.lead → more ≡ leads ++ lead_of led.site lead → more ++ led_on move (drop (i + 1) behind) ≡ all
led_next move behind i led lead leads more all h is inv same e =
    let tail : drop i behind ≡ led ∷ drop (i + 1) behind = rw (add-one, drop-cons behind i led, ← is) refl in
    let rest : List SiteLead = led_on move (drop (i + 1) behind) in
    ap (λ (l : List SiteLead). l ++ rest) (e ∙ ap (λ (l : Lead). leads ++ lead_of led.site l) same)
    ∙ append_assoc leads (lead_of led.site (move led.lead)) rest
    ∙ ap (λ (l : List SiteLead). leads ++ led_on move l) (sym tail) ∙ inv

pub led_end : (move : Lead → Lead) (behind : List SiteLead) (i : ℕ) (leads all : List SiteLead) → length behind ≤ i → leads ++ led_on move (drop i behind) ≡ all → leads ≡ all
led_end move behind i leads all h inv = sym (append-nil leads) ∙ ap (λ (l : List SiteLead). leads ++ led_on move l) (sym (drop_all i behind h)) ∙ inv

-- the row of a procedure before the n-th
pub row_leads : (codes : List Code) (n k : ℕ) (rows : List Summary) (d : Summary) → AreSummaries codes n rows → k < n → (get_or rows k d).leads ≡ proc_leads codes k
row_leads codes n k rows d are below = (are.right k (get_or rows k d) below (slice_get-get_or rows k d (omega (arith, are.count)))).leads

at_front : (rows : List Summary) (row : Summary) (k : ℕ) → k < length rows → slice_get (rows ++ row ∷ []) k ≡ slice_get rows k
at_front [] row k h = absurd (omega arith)
at_front (r ∷ rows) row zero h = refl
at_front (r ∷ rows) row (suc k) h = at_front rows row k (omega (arith, h))

at_end : (rows : List Summary) (row : Summary) → slice_get (rows ++ row ∷ []) (length rows) ≡ Some row
at_end [] row = refl
at_end (r ∷ rows) row = at_end rows row

-- with the row of the n-th
pub one_row_more : (codes : List Code) (n : ℕ) (rows more : List Summary) (row : Summary) → length rows ≡ n → AreSummaries codes n rows → IsSummary codes n row → more ≡ rows ++ row ∷ [] →
    (length more ≡ n + 1) × AreSummaries codes (n + 1) more
one_row_more codes n rows more row long are is e =
    let longer : length more ≡ n + 1 = ap length e ∙ length-append rows (row ∷ []) ∙ ap (λ (m : ℕ). m + 1) long in
    (longer, record { count = omega arith; right = λ k found h g. by k found (k == n) h refl g })
  where
    number : (a b : ℕ) → (a == b) ≡ true → a ≡ b
    number a b f = grind (arith, nat_tests)

    less : (a b : ℕ) → a < b + 1 → (a == b) ≡ false → a < b
    less a b h f = grind (arith, nat_tests)

    by : (k : ℕ) (found : Summary) (b : Bool) → k < n + 1 → (k == n) ≡ b → slice_get more k ≡ Some found → IsSummary codes k found
    by k found true h f g =
        let last : slice_get more k ≡ Some row = ap (λ (xs : List Summary). slice_get xs k) e ∙ ap (slice_get (rows ++ row ∷ [])) (number k n f ∙ sym long) ∙ at_end rows row in
        let same : row ≡ found = cc in
        subst (λ (m : ℕ). IsSummary codes m found) (sym (number k n f)) (subst (IsSummary codes n) same is)
    by k found false h f g =
        let below : k < n = less k n h f in
        are.right k found below (sym (ap (λ (xs : List Summary). slice_get xs k) e ∙ at_front rows row k (omega (arith, below, long))) ∙ g)

pub no_rows : (codes : List Code) (rows : List Summary) → rows ≡ [] → (length rows ≡ 0) × AreSummaries codes 0 rows
no_rows codes rows e = (ap length e, record { count = omega arith; right = λ k found h. absurd (omega arith) })

pub summary_is : (codes : List Code) (p : ProcId) (code : Code) (block : List CodeStmt) (sources : List Source) (leads : List SiteLead) (result : Source) → slice_get codes p.0 ≡ Some code → block ≡ code.block →
    (leads ≡ leads_in_all (results codes p.0) (insides codes p.0) p (block_of block)) × StandFor (over_all (results codes p.0) (block_of block)) sources →
    ((before : Lead → Lead) → StandFor before sources → LeadsAs result (λ want. before (on_operand code.result (Some want)))) → IsSummary codes p.0 (record { leads = leads; result = result })
summary_is codes p code block sources leads result at same walk returns =
    record {
      leads = proc_leads_are codes p code block leads at same walk.0;
      result = λ want w. returns (over_all (results codes p.0) (block_of block)) walk.1 want w
          ∙ ap (λ (b : List CodeStmt). over_all (results codes p.0) (block_of b) (on_operand code.result (Some want))) same
          ∙ ap (λ o. over_code (results codes p.0) o want) (sym at);
    }
