-- Cuts by acting candidates keep above each stable assumption, and keep safe environments inside.
use Rattle.std.proofs.Common.{◌≡◌, ℤ, List, [], ◌∷◌, ◌++◌, sym, subst, arith}
use Rattle.std.specs.List.{Contains}
use Rattle.std.proofs.lemmas.Int.{ints}
use Rattle.vmv_tree.specs.Words.{IsWord}
use Rattle.vmv_tree.specs.Safe.{Environment, Covers, Safe}
use Rattle.vmv_cond.specs.Cond.{Holds, IsSubset}
use Rattle.vmv_cond.specs.Piece.{InPiece}
use Rattle.vmv_cond.proofs.Same.{same_words}
use Rattle.vmv_snapshot.specs.Resolution.{Resolution, IsResolution, tree_of}
use Rattle.vmv_assumption.specs.Whole.{whole}
use Rattle.vmv_assumption.specs.Assumed.{Assumed}
use Rattle.vmv_assumption.specs.Change.{IsCut}
use Rattle.vmv_assumption.specs.Within.{IsBelow, IsWithin}
use Rattle.vmv_assumption.proofs.Names.{by_name}
use Rattle.vmv_assumption.proofs.Pieces.{kept_ordered, cut_below, within_cut}
use Rattle.vmv_need.specs.declared.subject.Scope.{Scope}
use Rattle.vmv_need.specs.declared.candidate.Candidate.{Candidate}
use Rattle.vmv_need.specs.Candidates.{candidates_of}
use Rattle.vmv_need.specs.Acts.{Meets, Acts, IsStable, IsNecessary, CutsLead}
use Rattle.vmv_need.proofs.Kept.{kept_exists, moved}
use Rattle.vmv_need.proofs.TableLaws.{dead_kept, pieces_avoided}

-- what a candidate acts on, it acts on below that, where its piece meets it still
pub acts_below : (program : Resolution) (scope : Scope) (c : Candidate) (less larger : Assumed) → IsResolution program → IsBelow less larger → Acts program scope larger c →
    Meets (less c.name) c.piece → ¬ (¬ Acts program scope less c)
acts_below program scope c less larger is smaller acts meets none =
    let made = kept_exists less c.name c.piece in
    dead_kept program c.entry.0 c.within scope.ends acts.kept made.0 is (kept_ordered less larger made.0 acts.kept c.name c.piece smaller made.1 acts.kept_is) acts.dead
    (λ dead. none (record { meets = meets; kept = made.0; kept_is = made.1; dead = dead }))

-- no word of a stable assumption is in the piece of a candidate that acts above it
stable_avoids : (program : Resolution) (scope : Scope) (c : Candidate) (stable larger : Assumed) → IsResolution program → IsStable program scope stable → IsBelow stable larger →
    Contains (candidates_of scope) c → Acts program scope larger c → (w : ℤ) → Holds (stable c.name) w → ¬ InPiece c.piece w
stable_avoids program scope c stable larger is none smaller there acts w holds in' =
    acts_below program scope c stable larger is smaller acts (w, holds, in') (none c there)

-- so the cut keeps above it
pub cut_keeps_above : (program : Resolution) (scope : Scope) (c : Candidate) (stable running larger next : Assumed) → IsResolution program → IsStable program scope stable → IsBelow stable running → IsBelow running larger →
    Contains (candidates_of scope) c → Acts program scope larger c → IsCut running c.name c.piece next → IsBelow stable next
cut_keeps_above program scope c stable running larger next is none below smaller there acts cut =
    by_name {P = λ name. IsSubset (stable name) (next name)} c.name
    (λ w h. (cut.there w).1 (below c.name w h, stable_avoids program scope c stable larger is none (λ name v g. smaller name v (below name v g)) there acts w h))
    (λ name other w h. moved (running name) (next name) (sym (cut.elsewhere name other)) w (below name w h))

-- and safe environments stay within
pub cut_keeps_safe : (program : Resolution) (scope : Scope) (c : Candidate) (running larger next : Assumed) (env : Environment) → IsResolution program → IsBelow running larger → Acts program scope larger c →
    IsCut running c.name c.piece next → Covers env (tree_of program) → Safe env (tree_of program) → IsWithin env running → IsWithin env next
cut_keeps_safe program scope c running larger next env is smaller acts cut covers safe within =
    within_cut env running next c.name c.piece within
    (pieces_avoided program c.entry.0 c.within scope.ends larger acts.kept c.name c.piece env is acts.kept_is acts.dead covers
    (λ name word fits there. smaller name word (within name word fits there)) safe)
    cut

pub lead_keeps_above : (program : Resolution) (scope : Scope) (steps : List Candidate) (stable first last : Assumed) → IsResolution program → IsStable program scope stable → CutsLead program scope steps first last →
    IsBelow stable first → IsBelow stable last
lead_keeps_above program scope [] stable first last is none lead below = subst (IsBelow stable) (sym lead) below
lead_keeps_above program scope (c ∷ steps) stable first last is none (larger, next, there, smaller, acts, cut, rest) below =
    lead_keeps_above program scope steps stable next last is none rest (cut_keeps_above program scope c stable first larger next is none below smaller there acts cut)

pub lead_keeps_safe : (program : Resolution) (scope : Scope) (steps : List Candidate) (first last : Assumed) (env : Environment) → IsResolution program → CutsLead program scope steps first last →
    Covers env (tree_of program) → Safe env (tree_of program) → IsWithin env first → IsWithin env last
lead_keeps_safe program scope [] first last env is lead covers safe within = subst (IsWithin env) (sym lead) within
lead_keeps_safe program scope (c ∷ steps) first last env is (larger, next, there, smaller, acts, cut, rest) covers safe within =
    lead_keeps_safe program scope steps next last env is rest covers safe (cut_keeps_safe program scope c first larger next env is smaller acts cut covers safe within)

pub lead_falls : (program : Resolution) (scope : Scope) (steps : List Candidate) (first last : Assumed) → CutsLead program scope steps first last → IsBelow last first
lead_falls program scope [] first last lead = subst (λ (a : Assumed). IsBelow a first) (sym lead) (λ name w h. h)
lead_falls program scope (c ∷ steps) first last (larger, next, there, smaller, acts, cut, rest) =
    λ name w h. cut_below first next c.name c.piece cut name w (lead_falls program scope steps next last rest name w h)

pub lead_append : (program : Resolution) (scope : Scope) (steps more : List Candidate) (first mid last : Assumed) → CutsLead program scope steps first mid → CutsLead program scope more mid last → CutsLead program scope (steps ++ more) first last
lead_append program scope [] more first mid last lead rest = subst (λ (a : Assumed). CutsLead program scope more a last) lead rest
lead_append program scope (c ∷ steps) more first mid last (larger, next, there, smaller, acts, cut, lead) rest =
    (larger, next, there, smaller, acts, cut, lead_append program scope steps more next mid last lead rest)

whole_words : (w : ℤ) → Holds whole w → IsWord w
whole_words w h = let above = h.above in let below = h.below in grind (arith, ints)

pub words_whole : (w : ℤ) → IsWord w → Holds whole w
words_whole w word = record { above = grind (arith, ints); below = grind (arith, ints); nonzero = λ t. absurd (cc) }

pub lead_ends_necessary : (program : Resolution) (scope : Scope) (steps : List Candidate) (last : Assumed) → IsResolution program → CutsLead program scope steps (λ name. whole) last → IsStable program scope last →
    IsNecessary program scope last
lead_ends_necessary program scope steps last is lead stable = record {
  words = λ name w h. whole_words w (lead_falls program scope steps (λ name. whole) last lead name w h);
  stable = stable;
  greatest = λ other words none. lead_keeps_above program scope steps other (λ name. whole) last is none lead (λ name w h. words_whole w (words name w h));
}

pub necessary_once : (program : Resolution) (scope : Scope) (a b : Assumed) → IsNecessary program scope a → IsNecessary program scope b → a ≡ b
necessary_once program scope a b one two =
    λ i name. same_words (a name) (b name) (two.greatest a one.words one.stable name) (one.greatest b two.words two.stable name) i
