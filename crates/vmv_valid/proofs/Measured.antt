-- What is measured with numbers of at most 1,000,000,000 is what the limits measure, as far as that goes.
use Rattle.std.proofs.Common.{◌≡◌, ◌⊎◌, inl, inr, ℕ, zero, suc, ◌+◌, ◌*◌, ◌<◌, ◌≤◌, min, max, leb, Bool, true, false, List, [], ◌∷◌, length, refl, ap, ◌∙◌, arith, length-append, if◌then◌else◌}
use Rattle.std.specs.Str.{bytes_eq}
use Rattle.std.proofs.Math.Nat.{mul-le-mul_left}
use Rattle.std.proofs.lemmas.Bool.Decides.{leb_tells}
use Rattle.vmv_tree.specs.declared.name.Name.{Name}
use Rattle.vmv_tree.specs.Tree.{Stmt, copy, compute, call, assert, choose, repeat, Block, [], ◌⨾◌, Body, Item, outside, helper, entry}
use Rattle.vmv_tree.specs.Run.{turns_of}
use Rattle.vmv_tree.specs.Limits.{brought, indexes_of, block_indexes, statements, block_statements, nesting, block_nesting, deepest, block_deepest, depth_of, paths, block_paths, steps, block_steps, body_steps, asks, block_asks}
use Rattle.vmv_valid.specs.declared.callee.Brought.{Brought}
use Rattle.vmv_valid.specs.declared.callee.Callee.{Callee}
use Rattle.vmv_valid.specs.declared.measure.Measures.{Measures}
use Rattle.vmv_valid.specs.Callees.{capped_sum, capped_product, brought_by}
use Rattle.vmv_valid.specs.Measures.{nothing, simple, calling, beside, choosing, repeating, measured, measured_after, measured_all, called_helper, callees_of}

-- a factor may be capped before the product is

times_by_size : (t x y : ℕ) → y ≡ min x 1000000000 → ((leb x 1000000000 ≡ true) × (x ≤ 1000000000)) ⊎ ((leb x 1000000000 ≡ false) × (1000000000 < x))
    → min (suc t * y) 1000000000 ≡ min (suc t * x) 1000000000
times_by_size t x y e (inl h) = let same : y ≡ x = omega (arith, h.1) in ap (λ (z : ℕ). min (suc t * z) 1000000000) same
times_by_size t x y e (inr h) =
    let most : y ≡ 1000000000 = omega (arith, h.1) in
    let below : 1000000000 ≤ x = omega (arith, h.1) in
    let more : suc t * 1000000000 ≤ suc t * x = mul-le-mul_left (suc t) below in
    let full : min (suc t * 1000000000) 1000000000 ≡ min (suc t * x) 1000000000 = omega (arith, more) in
    ap (λ (z : ℕ). min (suc t * z) 1000000000) most ∙ full

capped_times : (t x y : ℕ) → y ≡ min x 1000000000 → min (t * y) 1000000000 ≡ min (t * x) 1000000000
capped_times zero x y e = omega arith
capped_times (suc t) x y e = times_by_size t x y e (leb_tells x 1000000000)

-- these numbers, capped
pub record AreCapped (m : Measures) (loops statements nesting deepest paths steps asks : ℕ) : Type 0 where
  pub c_loops : m.loops ≡ min loops 1000000000
  pub c_statements : m.statements ≡ min statements 1000000000
  pub c_nesting : m.nesting ≡ min nesting 1000000000
  pub c_deepest : m.deepest ≡ min deepest 1000000000
  pub c_paths : m.paths ≡ min paths 1000000000
  pub c_steps : m.steps ≡ min steps 1000000000
  pub c_asks : m.asks ≡ min asks 1000000000

beside_capped : {m n : Measures} {a1 a2 a3 a4 a5 a6 a7 b1 b2 b3 b4 b5 b6 b7 : ℕ} → AreCapped m a1 a2 a3 a4 a5 a6 a7 → AreCapped n b1 b2 b3 b4 b5 b6 b7
    → AreCapped (beside m n) (a1 + b1) (a2 + b2) (max a3 b3) (max a4 b4) (a5 + b5) (a6 + b6) (a7 + b7)
beside_capped p q = record {
  c_loops = omega (arith, p.c_loops, q.c_loops);
  c_statements = omega (arith, p.c_statements, q.c_statements);
  c_nesting = omega (arith, p.c_nesting, q.c_nesting);
  c_deepest = omega (arith, p.c_deepest, q.c_deepest);
  c_paths = omega (arith, p.c_paths, q.c_paths);
  c_steps = omega (arith, p.c_steps, q.c_steps);
  c_asks = omega (arith, p.c_asks, q.c_asks);
}

choosing_capped : {m : Measures} {a1 a2 a3 a4 a5 a6 a7 : ℕ} → AreCapped m a1 a2 a3 a4 a5 a6 a7
    → AreCapped (choosing m) a1 (1 + a2) (1 + a3) a4 a5 (1 + a6) a7
choosing_capped p = record {
  c_loops = p.c_loops;
  c_statements = omega (arith, p.c_statements);
  c_nesting = omega (arith, p.c_nesting);
  c_deepest = p.c_deepest;
  c_paths = p.c_paths;
  c_steps = omega (arith, p.c_steps);
  c_asks = p.c_asks;
}

sum_capped : (x y : ℕ) → x ≡ min y 1000000000 → capped_sum 1 x ≡ min (1 + y) 1000000000
sum_capped x y e = omega arith

repeating_capped : {m : Measures} {a1 a2 a3 a4 a5 a6 a7 : ℕ} (t : ℕ) → AreCapped m a1 a2 a3 a4 a5 a6 a7
    → AreCapped (repeating t m) (1 + a1) (1 + a2) (1 + a3) a4 a5 (1 + t * (1 + a6)) (t * a7)
repeating_capped {m} {a1} {a2} {a3} {a4} {a5} {a6} {a7} t p =
    let one : capped_sum 1 m.steps ≡ min (1 + a6) 1000000000 = omega (arith, p.c_steps) in
    let turn : capped_product t (capped_sum 1 m.steps) ≡ min (t * (1 + a6)) 1000000000 = capped_times t (1 + a6) (capped_sum 1 m.steps) one in
    record {
      c_loops = omega (arith, p.c_loops);
      c_statements = omega (arith, p.c_statements);
      c_nesting = omega (arith, p.c_nesting);
      c_deepest = p.c_deepest;
      c_paths = p.c_paths;
      c_steps = sum_capped (capped_product t (capped_sum 1 m.steps)) (t * (1 + a6)) turn;
      c_asks = capped_times t a7 m.asks p.c_asks;
    }

-- what a call brings, capped
pub record IsBrought (b : Brought) (depth paths steps asks : ℕ) : Type 0 where
  pub b_depth : b.depth ≡ min depth 1000000000
  pub b_paths : b.paths ≡ min paths 1000000000
  pub b_steps : b.steps ≡ min steps 1000000000
  pub b_asks : b.asks ≡ min asks 1000000000

-- these callees bring so much
pub record Bring (callees : List Callee) (depth paths steps asks : Name → ℕ) : Type 0 where
  pub by_name : (name : Name) → IsBrought (brought_by callees name) (depth name) (paths name) (steps name) (asks name)

nothing_right : AreCapped nothing 0 0 0 0 0 0 0
nothing_right = record { c_loops = refl; c_statements = refl; c_nesting = refl; c_deepest = refl; c_paths = refl; c_steps = refl; c_asks = refl }

simple_right : AreCapped simple 0 1 0 0 0 1 0
simple_right = record { c_loops = refl; c_statements = refl; c_nesting = refl; c_deepest = refl; c_paths = refl; c_steps = refl; c_asks = refl }

calling_right : {b : Brought} {depth paths steps asks : ℕ} → IsBrought b depth paths steps asks → AreCapped (calling b) 0 1 0 depth paths (1 + steps) asks
calling_right h = record {
  c_loops = refl;
  c_statements = refl;
  c_nesting = refl;
  c_deepest = h.b_depth;
  c_paths = h.b_paths;
  c_steps = omega (arith, h.b_steps);
  c_asks = h.b_asks;
}

-- numbers that are measured behind nothing
from_nothing : {m : Measures} {a1 a2 a3 a4 a5 a6 a7 : ℕ} → AreCapped m (0 + a1) (0 + a2) (max 0 a3) (max 0 a4) (0 + a5) (0 + a6) (0 + a7) → AreCapped m a1 a2 a3 a4 a5 a6 a7
from_nothing h = record {
  c_loops = omega (arith, h.c_loops);
  c_statements = omega (arith, h.c_statements);
  c_nesting = omega (arith, h.c_nesting);
  c_deepest = omega (arith, h.c_deepest);
  c_paths = omega (arith, h.c_paths);
  c_steps = omega (arith, h.c_steps);
  c_asks = omega (arith, h.c_asks);
}

mutual
  measured_right : (callees : List Callee) (d p t a : Name → ℕ) → Bring callees d p t a → (s : Stmt)
      → AreCapped (measured callees s) (length (indexes_of s)) (statements s) (nesting s) (deepest d s) (paths p s) (steps t s) (asks a s)
  measured_right callees d p t a brings (copy to from) = simple_right
  measured_right callees d p t a brings (compute to op left right) = simple_right
  measured_right callees d p t a brings (call to callee args) = calling_right (brings.by_name callee)
  measured_right callees d p t a brings (assert test) = simple_right
  measured_right callees d p t a brings (choose test first second) =
      let one = after_right callees d p t a brings nothing 0 0 0 0 0 0 0 nothing_right first in
      let two = after_right callees d p t a brings nothing 0 0 0 0 0 0 0 nothing_right second in
      let all = choosing_capped (beside_capped one two) in
      record {
        c_loops = omega (arith, all.c_loops, length-append (block_indexes first) (block_indexes second));
        c_statements = omega (arith, all.c_statements);
        c_nesting = omega (arith, all.c_nesting);
        c_deepest = omega (arith, all.c_deepest);
        c_paths = omega (arith, all.c_paths);
        c_steps = omega (arith, all.c_steps);
        c_asks = omega (arith, all.c_asks);
      }
  measured_right callees d p t a brings (repeat index bound most body) =
      let all = repeating_capped (turns_of most) (from_nothing (after_right callees d p t a brings nothing 0 0 0 0 0 0 0 nothing_right body)) in
      record {
        c_loops = omega (arith, all.c_loops);
        c_statements = all.c_statements;
        c_nesting = all.c_nesting;
        c_deepest = all.c_deepest;
        c_paths = all.c_paths;
        c_steps = all.c_steps;
        c_asks = all.c_asks;
      }

  after_right : (callees : List Callee) (d p t a : Name → ℕ) → Bring callees d p t a
      → (before : Measures) (a1 a2 a3 a4 a5 a6 a7 : ℕ) → AreCapped before a1 a2 a3 a4 a5 a6 a7 → (b : Block)
      → AreCapped (measured_after callees before b) (a1 + length (block_indexes b)) (a2 + block_statements b) (max a3 (block_nesting b)) (max a4 (block_deepest d b)) (a5 + block_paths p b) (a6 + block_steps t b) (a7 + block_asks a b)
  after_right callees d p t a brings before a1 a2 a3 a4 a5 a6 a7 h [] = record {
    c_loops = omega (arith, h.c_loops);
    c_statements = omega (arith, h.c_statements);
    c_nesting = omega (arith, h.c_nesting);
    c_deepest = omega (arith, h.c_deepest);
    c_paths = omega (arith, h.c_paths);
    c_steps = omega (arith, h.c_steps);
    c_asks = omega (arith, h.c_asks);
  }
  after_right callees d p t a brings before a1 a2 a3 a4 a5 a6 a7 h (s ⨾ rest) =
      let all = after_right callees d p t a brings (beside before (measured callees s))
      (a1 + length (indexes_of s)) (a2 + statements s) (max a3 (nesting s)) (max a4 (deepest d s)) (a5 + paths p s) (a6 + steps t s) (a7 + asks a s)
      (beside_capped h (measured_right callees d p t a brings s)) rest in
      record {
        c_loops = omega (arith, all.c_loops, length-append (indexes_of s) (block_indexes rest));
        c_statements = omega (arith, all.c_statements);
        c_nesting = omega (arith, all.c_nesting);
        c_deepest = omega (arith, all.c_deepest);
        c_paths = omega (arith, all.c_paths);
        c_steps = omega (arith, all.c_steps);
        c_asks = omega (arith, all.c_asks);
      }

-- what a block measures
pub block_right : (callees : List Callee) (d p t a : Name → ℕ) → Bring callees d p t a → (b : Block)
    → AreCapped (measured_all callees b) (length (block_indexes b)) (block_statements b) (block_nesting b) (block_deepest d b) (block_paths p b) (block_steps t b) (block_asks a b)
block_right callees d p t a brings b = from_nothing (after_right callees d p t a brings nothing 0 0 0 0 0 0 0 nothing_right b)

brought_either : (test : Bool) {b c : Brought} {d1 p1 s1 a1 d2 p2 s2 a2 : ℕ} → IsBrought b d1 p1 s1 a1 → IsBrought c d2 p2 s2 a2
    → IsBrought (if test then b else c) (if test then d1 else d2) (if test then p1 else p2) (if test then s1 else s2) (if test then a1 else a2)
brought_either true x y = x
brought_either false x y = y

-- what a call of an item above brings
abbrev pub depth_above : List Item → Name → ℕ
depth_above above = brought 0 0 depth_of above

abbrev pub paths_above : List Item → Name → ℕ
paths_above above = brought 0 0 (λ of b. 1 + block_paths of b.block) above

abbrev pub steps_above : List Item → Name → ℕ
steps_above above = brought 0 0 body_steps above

abbrev pub asks_above : List Item → Name → ℕ
asks_above above = brought 0 1 (λ of b. block_asks of b.block) above

helper_right : (above : List Item) (name : Name) (count : ℕ) (body : Body) → Bring (callees_of above) (depth_above above) (paths_above above) (steps_above above) (asks_above above)
    → IsBrought (called_helper name count (measured_all (callees_of above) body.block)).brought (depth_of (depth_above above) body) (1 + block_paths (paths_above above) body.block) (body_steps (steps_above above) body) (block_asks (asks_above above) body.block)
helper_right above name count body brings =
    let m = block_right (callees_of above) (depth_above above) (paths_above above) (steps_above above) (asks_above above) brings body.block in
    record {
      b_depth = omega (arith, m.c_deepest);
      b_paths = omega (arith, m.c_paths);
      b_steps = omega (arith, m.c_steps);
      b_asks = m.c_asks;
    }

pub callees_bring : (above : List Item) → Bring (callees_of above) (depth_above above) (paths_above above) (steps_above above) (asks_above above)
callees_bring [] = record { by_name = λ (callee : Name). record { b_depth = refl; b_paths = refl; b_steps = refl; b_asks = refl } }
callees_bring (outside name arity ∷ above) = record {
  by_name = λ (callee : Name). brought_either (bytes_eq name callee)
      (record { b_depth = refl; b_paths = refl; b_steps = refl; b_asks = refl }) ((callees_bring above).by_name callee);
}
callees_bring (helper name params body ∷ above) = record {
  by_name = λ (callee : Name). brought_either (bytes_eq name callee)
      (helper_right above name (length params) body (callees_bring above)) ((callees_bring above).by_name callee);
}
callees_bring (entry name params body ∷ above) = record { by_name = (callees_bring above).by_name }

pub measured_statements : (callees : List Callee) (above : List Item) (b : Block) (m : Measures) → callees ≡ callees_of above → m ≡ measured_all callees b
    → m.statements ≡ min (block_statements b) 1000000000
measured_statements callees above b m told same =
    let right = block_right (callees_of above) (depth_above above) (paths_above above) (steps_above above) (asks_above above) (callees_bring above) b in
    let all : m ≡ measured_all (callees_of above) b = same ∙ ap (λ (x : List Callee). measured_all x b) told in
    ap (λ (x : Measures). x.statements) all ∙ right.c_statements
