-- The same read a number of times.
use Rattle.std.proofs.Common.{◌≡◌, ℕ, ◌+◌, ◌<◌, ◌-◌, List, [], ◌∷◌, ◌++◌, length, replicate, refl, sym, ap, subst, ◌∙◌, arith, append_assoc, length-append}
use Rattle.std.specs.Prelude.{Ok, Err}
use Rattle.std.specs.List.{AllZip, flat_map}
use Rattle.std.proofs.lemmas.List.{append-nil, length-replicate}
use Rattle.vmv_proof_text.specs.Parts.{Part}
use Rattle.vmv_proof_text.specs.Lines.{IsLine}
use Rattle.vmv_proof_text.specs.Faults.{Line, Start}
use Rattle.vmv_proof_line.specs.declared.fault.LineFault.{LineFault}
use Rattle.vmv_proof_read.specs.Reading.{Reads, Any, HasCount}
use Rattle.vmv_proof_read.proofs.Starts.{told_cut, start_front, start_behind}
use Rattle.vmv_proof_read.proofs.Along.{Follows, Decides, Went, on, off, done}

-- these were read, and others come behind them
pub record Left {A : Type 0} (each : A → List Part) (n : ℕ) (ys : List A) (xs : List A) (rest : List Part) : Type 0 where
  pub behind : List A
  pub same : xs ≡ ys ++ behind
  pub count : length xs ≡ n
  pub parts : rest ≡ flat_map each behind

abbrev pub WentTo : {A : Type 0} → (A → List Part) → ℕ → List A → List ℕ → List ℕ → Type 0
WentTo {A = A} each n ys text old = Went {A = List A} (HasCount n) (flat_map each) (Left each n ys) text old

-- nothing is read yet
pub none_yet : {A : Type 0} (each : A → List Part) (n : ℕ) (text : List ℕ) → WentTo each n [] text text
none_yet each n text =
    record {
      lines = [];
      place = refl;
      along =
          record {
            forth = λ xs rest h. (h.count, ([], ap (flat_map each) h.same ∙ sym h.parts, tt));
            back = λ xs more has s. (flat_map each xs, record { behind = xs; same = refl; count = has; parts = refl });
          };
    }

-- one more may follow
record Next {A : Type 0} (each : A → List Part) (n : ℕ) (ys xs : List A) (rest : List Part) : Type 0 where
  value : A
  more : List Part
  same : rest ≡ each value ++ more
  left : Left each n (ys ++ value ∷ []) xs more

next_of : {A : Type 0} (each : A → List Part) (n : ℕ) (ys xs : List A) (rest : List Part) → length ys < n → Left each n ys xs rest → (behind : List A) → xs ≡ ys ++ behind → rest ≡ flat_map each behind → Next each n ys xs rest
next_of each n ys xs rest few h [] e f = absurd (omega (arith, ap length e, length-append ys [], h.count))
next_of each n ys xs rest few h (x ∷ behind) e f =
    record {
      value = x;
      more = flat_map each behind;
      same = f;
      left = record { behind = behind; same = e ∙ sym (append_assoc ys (x ∷ []) behind); count = h.count; parts = refl };
    }

follows : {A : Type 0} (each : A → List Part) (n : ℕ) (ys : List A) → length ys < n → Follows {A = List A} {B = A} Any each (Left each n ys) (λ x. Left each n (ys ++ x ∷ []))
follows each n ys few =
    record {
      splits =
          λ xs rest h.
          let k = next_of each n ys xs rest few h h.behind h.same h.parts in
          (k.value, tt, (k.more, k.same, k.left));
      joins =
          λ x xs more own h.
          record {
            behind = x ∷ h.behind;
            same = h.same ∙ append_assoc ys (x ∷ []) h.behind;
            count = h.count;
            parts = ap (λ t. each x ++ t) h.parts;
          };
      some =
          λ x own.
          let behind = replicate (n - (length ys + 1)) x in
          let long = length-replicate (n - (length ys + 1)) x in (
            (ys ++ x ∷ []) ++ behind,
            (
              flat_map each behind,
              record {
                behind = behind;
                same = refl;
                count = omega (arith, length-append (ys ++ x ∷ []) behind, length-append ys (x ∷ []), long);
                parts = refl;
              },
            ),
          );
    }

-- one more is read
pub one_more : {A : Type 0} (each : A → List Part) (n : ℕ) (ys : List A) (text old new : List ℕ) (x : A) → length ys < n → WentTo each n ys text old → Decides {B = A} Any each → Reads {A = A} Any each old new (Ok x) → WentTo each n (ys ++ x ∷ []) text new
one_more each n ys text old new x few w d h =
    on (HasCount n) (flat_map each) (Left each n ys) Any each (λ y. Left each n (ys ++ y ∷ [])) text old new x w (follows each n ys few) d h

-- the next one isn't
pub none_more : {A : Type 0} (each : A → List Part) (n : ℕ) (ys : List A) (text old new : List ℕ) (fault : LineFault) → length ys < n → WentTo each n ys text old → Reads {A = A} Any each old new (Err fault) → Reads {A = List A} (HasCount n) (flat_map each) text new (Err fault)
none_more each n ys text old new fault few w h =
    off (HasCount n) (flat_map each) (Left each n ys) Any each (λ y. Left each n (ys ++ y ∷ [])) text old new fault w (follows each n ys few) h

-- all are read
pub all_read : {A : Type 0} (each : A → List Part) (n : ℕ) (ys : List A) (text old : List ℕ) → length ys ≡ n → WentTo each n ys text old → Reads {A = List A} (HasCount n) (flat_map each) text old (Ok ys)
all_read each n ys text old all w =
    done (HasCount n) (flat_map each) (Left each n ys) text old ys w
    (record { behind = []; same = sym (append-nil ys); count = all; parts = refl })

same_lists : {A : Type 0} (each : A → List Part) (xs ys : List A) (lines : List Line) (more : List Part) → Decides {B = A} Any each → length xs ≡ length ys → AllZip IsLine (flat_map each xs) lines → Start (flat_map each ys ++ more) lines → xs ≡ ys
same_lists each [] [] lines more d n t s = refl
same_lists each [] (y ∷ ys) lines more d n t s = absurd (omega arith)
same_lists each (x ∷ xs) [] lines more d n t s = absurd (omega arith)
same_lists each (x ∷ xs) (y ∷ ys) lines more d n t s =
    let c = told_cut (each x) (flat_map each xs) lines t in
    let all = subst (λ p. Start p lines) (append_assoc (each y) (flat_map each ys) more) s in
    let cut = subst (λ z. Start (each y ++ (flat_map each ys ++ more)) z) c.same all in
    let first = d.once x y c.front (flat_map each ys ++ more) tt tt c.first (start_front (each y ++ (flat_map each ys ++ more)) c.front c.back cut) in
    let behind = start_behind (each x) (flat_map each ys ++ more) c.front c.back c.first (subst (λ v. Start (each v ++ (flat_map each ys ++ more)) (c.front ++ c.back)) (sym first) cut) in
    let rest = same_lists each xs ys c.back more d (omega arith) c.second behind in
    λ i. first i ∷ rest i

-- lines tell one list of a length only
pub decides_lists : {A : Type 0} (each : A → List Part) (n : ℕ) → Decides {B = A} Any each → Decides {B = List A} (HasCount n) (flat_map each)
decides_lists each n d = record { once = λ xs ys lines more h k t s. same_lists each xs ys lines more d (h ∙ sym k) t s }
