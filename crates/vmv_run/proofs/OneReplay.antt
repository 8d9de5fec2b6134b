-- Of given answers one thing is found.
use Rattle.std.proofs.Common.{◌≡◌, ◌⊎◌, inl, inr, ⊎_elim, ℕ, zero, suc, ◌+◌, ◌<◌, ℤ, Some, List, [], ◌∷◌, ◌++◌, length, map, reverse, take, slice_get, refl, sym, ap, subst, arith, ◌∙◌, append-nil}
use Rattle.std.specs.Bool.{⊤}
use Rattle.vmv_tree.specs.declared.name.Name.{Name}
use Rattle.vmv_tree.specs.Tree.{Item, outside, helper, entry}
use Rattle.vmv_tree.specs.Run.{Answers, Site, Outcome, done, fail, Run, name_of}
use Rattle.vmv_tree.specs.Mentions.{item_mentions}
use Rattle.vmv_tree.specs.Valid.{InItem, InItems, Valid}
use Rattle.vmv_snapshot.specs.declared.code.SiteId.{SiteId}
use Rattle.vmv_snapshot.specs.Procs.{procs}
use Rattle.vmv_run.specs.declared.outcome.Outcome.{Outcome as Found}
use Rattle.vmv_run.specs.declared.outcome.Outcome.TheVariants.{Done, Fail, Short, Stranger, Extra}
use Rattle.vmv_run.specs.Replay.{IsProcName, IsReplay}
use Rattle.vmv_run.proofs.RunFixed.{Alike, RunsAbove-fixed}
use Rattle.vmv_run.proofs.Resolved.{IsAmong, Clean, Above, item_resolved, item_alone, none_below}

-- how the answers of a run compare with the given ones
data Told : Type 0 where
  all : Told
  short : Told
  stranger : ℕ → Told
  extra : ℕ → Told

-- the same behind one more equal answer
abbrev behind_one : Told → Told
behind_one all = all
behind_one short = short
behind_one (stranger n) = stranger (suc n)
behind_one (extra n) = extra (suc n)

abbrev Compares : Answers → Answers → Told → Type 0
Compares [] [] t = t ≡ all
Compares [] (q ∷ a) t = t ≡ short
Compares (p ∷ given) [] t = t ≡ extra 0
Compares (p ∷ given) (q ∷ a) t = ((p ≡ q) × (u : Told) × Compares given a u × (t ≡ behind_one u)) ⊎ ((p.0 ≡ q.0 → ⊥) × (t ≡ stranger 0))

abbrev told : Found → Told
told (Done word) = all
told (Fail site) = all
told (Short at) = short
told (Stranger at) = stranger at
told (Extra used) = extra used

-- two runs that compare with the same answers compare alike, or answer alike
alike_or_same : (given a b : Answers) (t u : Told) → Compares given a t → Compares given b u → (t ≡ u) ⊎ Alike a b
alike_or_same [] [] b t u h k = inr tt
alike_or_same [] (q ∷ a) [] t u h k = inr tt
alike_or_same [] (q ∷ a) (r ∷ b) t u h k = inl (h ∙ sym k)
alike_or_same (p ∷ given) [] b t u h k = inr tt
alike_or_same (p ∷ given) (q ∷ a) [] t u h k = inr tt
alike_or_same (p ∷ given) (q ∷ a) (r ∷ b) t u (inl (e, t', h, m)) (inl (f, u', k, n)) =
    ⊎_elim (λ (same : t' ≡ u'). inl (m ∙ (ap behind_one same ∙ sym n))) (λ (alike : Alike a b). inr (λ named. (ap (λ (x : Name × ℤ). x.1) (sym e ∙ f), alike))) (alike_or_same given a b t' u' h k)
alike_or_same (p ∷ given) (q ∷ a) (r ∷ b) t u (inl (e, t', h, m)) (inr (other, n)) = inr (λ named. absurd (other (ap (λ (x : Name × ℤ). x.0) e ∙ named)))
alike_or_same (p ∷ given) (q ∷ a) (r ∷ b) t u (inr (other, m)) (inl (f, u', k, n)) = inr (λ named. absurd (other (ap (λ (x : Name × ℤ). x.0) f ∙ sym named)))
alike_or_same (p ∷ given) (q ∷ a) (r ∷ b) t u (inr (other, m)) (inr (another, n)) = inl (m ∙ sym n)

compares_once : (given a : Answers) (t u : Told) → Compares given a t → Compares given a u → t ≡ u
compares_once [] [] t u h k = h ∙ sym k
compares_once [] (q ∷ a) t u h k = h ∙ sym k
compares_once (p ∷ given) [] t u h k = h ∙ sym k
compares_once (p ∷ given) (q ∷ a) t u (inl (e, t', h, m)) (inl (f, u', k, n)) = m ∙ (ap behind_one (compares_once given a t' u' h k) ∙ sym n)
compares_once (p ∷ given) (q ∷ a) t u (inl (e, t', h, m)) (inr (other, n)) = absurd (other (ap (λ (x : Name × ℤ). x.0) e))
compares_once (p ∷ given) (q ∷ a) t u (inr (other, m)) (inl (f, u', k, n)) = absurd (other (ap (λ (x : Name × ℤ). x.0) f))
compares_once (p ∷ given) (q ∷ a) t u (inr (other, m)) (inr (another, n)) = m ∙ sym n

compares_all : (given : Answers) → Compares given given all
compares_all [] = refl
compares_all (p ∷ given) = inl (refl, all, compares_all given, refl)

compares_short : (given : Answers) (q : Name × ℤ) (more : Answers) → Compares given (given ++ q ∷ more) short
compares_short [] q more = refl
compares_short (p ∷ given) q more = inl (refl, short, compares_short given q more, refl)

compares_stranger : (given : Answers) (at : ℕ) (p q : Name × ℤ) (more : Answers) → slice_get given at ≡ Some p → (p.0 ≡ q.0 → ⊥) → Compares given (take at given ++ q ∷ more) (stranger at)
compares_stranger [] at p q more e other = absurd (cc)
compares_stranger (r ∷ given) zero p q more e other =
    let same : r ≡ p = cc in
    inr (λ named. other (ap (λ (x : Name × ℤ). x.0) (sym same) ∙ named), refl)
compares_stranger (r ∷ given) (suc at) p q more e other = inl (refl, stranger at, compares_stranger given at p q more e other, refl)

compares_extra : (given : Answers) (used : ℕ) → used < length given → Compares given (take used given) (extra used)
compares_extra [] used h = absurd (omega arith)
compares_extra (p ∷ given) zero h = refl
compares_extra (p ∷ given) (suc used) h = inl (refl, extra used, compares_extra given used (omega arith), refl)

all_given : (given a : Answers) (t : Told) → t ≡ all → Compares given a t → a ≡ given
all_given [] [] t e h = refl
all_given [] (q ∷ a) t e h = absurd (cc)
all_given (p ∷ given) [] t e h = absurd (cc)
all_given (p ∷ given) (q ∷ a) t e (inl (f, u, h, m)) = λ i. sym f i ∷ all_given given a u (only_all u (sym m ∙ e)) h i
  where
    only_all : (u : Told) → behind_one u ≡ all → u ≡ all
    only_all all g = refl
    only_all short g = absurd (cc)
    only_all (stranger n) g = absurd (cc)
    only_all (extra n) g = absurd (cc)
all_given (p ∷ given) (q ∷ a) t e (inr (other, m)) = absurd (cc)

-- how a run that used all answers has ended
abbrev EndsAs : List Item → Found → Outcome → Type 0
EndsAs program (Done word) end = end ≡ done word
EndsAs program (Fail site) end = (name : Name) × IsProcName program site.proc.0 name × (end ≡ fail (record { proc = name; number = site.index }))
EndsAs program (Short at) end = ⊤
EndsAs program (Stranger at) end = ⊤
EndsAs program (Extra used) end = ⊤

-- the run that a finding is about
record Basis (program : List Item) (proc : Name) (words : List ℤ) (given : Answers) (x : Found) : Type 0 where
  answers : Answers
  end : Outcome
  run : Run program proc words answers end
  compares : Compares given answers (told x)
  ends : EndsAs program x end

basis : (program : List Item) (proc : Name) (words : List ℤ) (given : Answers) (x : Found) → IsReplay program proc words given x → Basis program proc words given x
basis program proc words given (Done word) run = record { answers = given; end = done word; run = run; compares = compares_all given; ends = refl }
basis program proc words given (Fail site) (name, own, run) =
    record { answers = given; end = fail (record { proc = name; number = site.index }); run = run; compares = compares_all given; ends = (name, own, refl) }
basis program proc words given (Short at) (e, name, (word, more, end, run)) =
    record { answers = given ++ (name, word) ∷ more; end = end; run = run; compares = compares_short given (name, word) more; ends = tt }
basis program proc words given (Stranger at) (name, p, there, other, (word, more, end, run)) =
    record { answers = take at given ++ (name, word) ∷ more; end = end; run = run; compares = compares_stranger given at p (name, word) more there other; ends = tt }
basis program proc words given (Extra used) (h, end, run) = record { answers = take used given; end = end; run = run; compares = compares_extra given used h; ends = tt }

-- a name of a procedure at a place is that of an item
among_procs : (items : List Item) (n : ℕ) (x : Name) → slice_get (map name_of (procs items)) n ≡ Some x → IsAmong items x
among_procs [] n x e = absurd (cc)
among_procs (outside f arity ∷ items) n x e = inr (among_procs items n x e)
among_procs (helper f params body ∷ items) zero x e = inl (cc)
among_procs (helper f params body ∷ items) (suc n) x e = inr (among_procs items n x e)
among_procs (entry f params body ∷ items) zero x e = inl (cc)
among_procs (entry f params body ∷ items) (suc n) x e = inr (among_procs items n x e)

abbrev AreOnce : List Name → Type 0
AreOnce names = (m n : ℕ) (x : Name) → slice_get names m ≡ Some x → slice_get names n ≡ Some x → m ≡ n

once_more : (name : Name) (names : List Name) → ((n : ℕ) (x : Name) → name ≡ x → slice_get names n ≡ Some x → ⊥) → AreOnce names → AreOnce (name ∷ names)
once_more name names new once zero zero x e f = refl
once_more name names new once zero (suc n) x e f = absurd (new n x (cc) f)
once_more name names new once (suc m) zero x e f = absurd (new m x (cc) e)
once_more name names new once (suc m) (suc n) x e f = ap suc (once m n x e f)

with_item : (item : Item) (items : List Item) → ((n : ℕ) (x : Name) → name_of item ≡ x → slice_get (map name_of (procs items)) n ≡ Some x → ⊥) → AreOnce (map name_of (procs items)) →
    AreOnce (map name_of (procs (item ∷ items)))
with_item (outside f arity) items new once = once
with_item (helper f params body) items new once = once_more f (map name_of (procs items)) new once
with_item (entry f params body) items new once = once_more f (map name_of (procs items)) new once

-- no two procedures of a valid program have one name
names_once : (program above : List Item) (k : ℕ) (items : List Item) → Above program above → Clean (InItems program above k items) → AreOnce (map name_of (procs items))
names_once program above k [] up clean = λ m n x e f. absurd (cc)
names_once program above k (item ∷ items) up clean =
    let here : Clean (InItem program above k item) = λ m d h. clean m d (inl h) in
    let rest : Clean (InItems program (item ∷ above) (k + item_mentions item) items) = λ m d h. clean m d (inr h) in
    let up' : Above program (item ∷ above) = record {
      resolved = (item_resolved program above k item up.distinct here, up.resolved);
      distinct = (item_alone program above k item here, up.distinct);
    } in
    let once : AreOnce (map name_of (procs items)) = names_once program (item ∷ above) (k + item_mentions item) items up' rest in
    let new = λ (n : ℕ) (x : Name) (e : name_of item ≡ x) (at : slice_get (map name_of (procs items)) n ≡ Some x).
    none_below program (item ∷ above) (k + item_mentions item) items x up' rest (inl e) (among_procs items n x at) in
    with_item item items new once

pub procs_once : (program : List Item) (m n : ℕ) (name : Name) → Valid program → IsProcName program m name → IsProcName program n name → m ≡ n
procs_once program m n name valid e f = names_once program [] 0 program (record { resolved = tt; distinct = tt }) valid m n name e f

-- a failure is at one site
site_same : (program : List Item) → AreOnce (map name_of (procs program)) → (s t : SiteId) (a b : Name) → IsProcName program s.proc.0 a → IsProcName program t.proc.0 b →
    (p q : Site) → p ≡ record { proc = a; number = s.index } → q ≡ record { proc = b; number = t.index } → Outcome.fail p ≡ Outcome.fail q → s ≡ t
site_same program once s t a b own other p q e f g =
    let same : p ≡ q = cc in
    let named : a ≡ b = ap (λ (x : Site). x.proc) (sym e ∙ (same ∙ f)) in
    let numbered : s.index ≡ t.index = ap (λ (x : Site). x.number) (sym e ∙ (same ∙ f)) in
    let placed : s.proc.0 ≡ t.proc.0 = once s.proc.0 t.proc.0 b (own ∙ ap (λ (x : Name). Some x) named) other in
    λ i. record { proc = record { 0 = placed i }; index = numbered i }

found_same : (program : List Item) → AreOnce (map name_of (procs program)) → (given : Answers) (proc : Name) (words : List ℤ) (x y : Found) → IsReplay program proc words given x → IsReplay program proc words given y →
    (d e : Outcome) → EndsAs program x d → EndsAs program y e → told x ≡ told y → (told x ≡ all → d ≡ e) → x ≡ y
found_same program once given proc words (Done w) (Done u) h k d e p q t same = let z : Outcome.done w ≡ Outcome.done u = sym p ∙ (same refl ∙ q) in ap Done (let v : w ≡ u = cc in v)
found_same program once given proc words (Done w) (Fail site) h k d e p q t same = absurd (let z = same refl in let v = q.2 in cc)
found_same program once given proc words (Fail site) (Done u) h k d e p q t same = absurd (let z = same refl in let v = p.2 in cc)
found_same program once given proc words (Fail s) (Fail r) h k d e p q t same = ap Fail (site_same program once s r p.0 q.0 p.1 q.1 _ _ refl refl (sym p.2 ∙ (same refl ∙ q.2)))
found_same program once given proc words (Short m) (Short n) h k d e p q t same = ap Short (h.0 ∙ sym k.0)
found_same program once given proc words (Stranger m) (Stranger n) h k d e p q t same = ap Stranger (let v : m ≡ n = cc in v)
found_same program once given proc words (Extra m) (Extra n) h k d e p q t same = ap Extra (let v : m ≡ n = cc in v)
found_same program once given proc words x y h k d e p q t same = absurd (cc)

alike_itself : (a : Answers) → Alike a a
alike_itself [] = tt
alike_itself (p ∷ a) = λ e. (refl, alike_itself a)

ends_same : (program : List Item) (proc : Name) (words : List ℤ) (a b : Answers) (d e : Outcome) → a ≡ b → Run program proc words a d → Run program proc words b e → d ≡ e
ends_same program proc words a b d e same run other =
    ((RunsAbove-fixed (reverse program)).same proc words a b d e [] [] (subst (λ (x : Answers). Alike x (b ++ [])) (sym (append-nil a)) (subst (Alike a) (same ∙ sym (append-nil b)) (alike_itself a))) run other).1

pub one_replay : (program : List Item) (proc : Name) (words : List ℤ) (given : Answers) (x y : Found) → Valid program → IsReplay program proc words given x → IsReplay program proc words given y → x ≡ y
one_replay program proc words given x y valid h k =
    let once = names_once program [] 0 program (record { resolved = tt; distinct = tt }) valid in
    let a = basis program proc words given x h in
    let b = basis program proc words given y k in
    ⊎_elim
    (λ (same : told x ≡ told y). found_same program once given proc words x y h k a.end b.end a.ends b.ends same (λ whole.
    let e : a.answers ≡ given = all_given given a.answers (told x) whole a.compares in
    let f : b.answers ≡ given = all_given given b.answers (told y) (sym same ∙ whole) b.compares in
    ends_same program proc words a.answers b.answers a.end b.end (e ∙ sym f) a.run b.run))
    (λ (alike : Alike a.answers b.answers).
    let fixed = (RunsAbove-fixed (reverse program)).same proc words a.answers b.answers a.end b.end [] [] (rw (append-nil, append-nil) alike) a.run b.run in
    let same : told x ≡ told y = compares_once given b.answers (told x) (told y) (subst (λ (z : Answers). Compares given z (told x)) fixed.0 a.compares) b.compares in
    found_same program once given proc words x y h k a.end b.end a.ends b.ends same (λ whole. fixed.1))
    (alike_or_same given a.answers b.answers (told x) (told y) a.compares b.compares)
