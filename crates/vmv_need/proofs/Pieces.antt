-- The candidates of a demand.
use Rattle.std.proofs.Common.{◌≡◌, ◌^◌, ◌-◌, ℤ, pos, negsuc, int_lt, ◌&&◌, Bool, true, false, List, ◌++◌, map, refl, sym, ap, ◌∙◌, append_assoc}
use Rattle.vmv_cond.specs.declared.cond.Piece.{Piece}
use Rattle.vmv_cond.specs.declared.cond.Piece.TheVariants.{Below, Above, Zero}
use Rattle.vmv_snapshot.specs.declared.code.ProcId.{ProcId}
use Rattle.vmv_cert.specs.Tables.{Box}
use Rattle.vmv_demands.specs.declared.demand.Demand.{Demand}
use Rattle.vmv_need.specs.declared.candidate.Candidate.{Candidate}
use Rattle.vmv_need.specs.Candidates.{only, of_demand}

map_pieces : {A B : Type 0} (f : A → B) (a b c : Bool) (x y z : A) → map f (only a x ++ (only b y ++ only c z)) ≡ only a (f x) ++ (only b (f y) ++ only c (f z))
map_pieces f true true true x y z = refl
map_pieces f true true false x y z = refl
map_pieces f true false true x y z = refl
map_pieces f true false false x y z = refl
map_pieces f false true true x y z = refl
map_pieces f false true false x y z = refl
map_pieces f false false true x y z = refl
map_pieces f false false false x y z = refl

-- three that are added one after the other
pub three_added : {A B : Type 0} (f : A → B) (a b c : Bool) (x y z : A) (old one two three : List B) → one ≡ old ++ only a (f x) → two ≡ one ++ only b (f y) → three ≡ two ++ only c (f z) →
    three ≡ old ++ map f (only a x ++ (only b y ++ only c z))
three_added f a b c x y z old one two three d e g =
    g ∙ ap (λ (xs : List _). xs ++ only c (f z)) (e ∙ ap (λ (xs : List _). xs ++ only b (f y)) d)
    ∙ (append_assoc (old ++ only a (f x)) (only b (f y)) (only c (f z)) ∙ append_assoc old (only a (f x)) (only b (f y) ++ only c (f z)))
    ∙ ap (λ (xs : List _). old ++ xs) (sym (map_pieces f a b c x y z))

-- the pieces of a demand, added one after the other
pub demand_added : (entry : ProcId) (within : Box) (d : Demand) (a b z : Bool) (x y : ℤ) (old one two three : List Candidate) → a ≡ int_lt (negsuc (2 ^ 63 - 1)) d.cond.lo → b ≡ int_lt d.cond.hi (pos (2 ^ 63 - 1)) →
    z ≡ (d.cond.zero_out && (int_lt d.cond.lo (pos 0) && int_lt (pos 0) d.cond.hi)) → x ≡ d.cond.lo → y ≡ d.cond.hi →
    one ≡ old ++ only a (record { entry = entry; within = within; name = d.name; piece = Below x }) → two ≡ one ++ only b (record { entry = entry; within = within; name = d.name; piece = Above y }) →
    three ≡ two ++ only z (record { entry = entry; within = within; name = d.name; piece = Zero }) → three ≡ old ++ of_demand entry within d
demand_added entry within d a b z x y old one two three e f g low high p q r =
    let make : Piece → Candidate = λ piece. record { entry = entry; within = within; name = d.name; piece = piece } in
    three_added make a b z (Below x) (Above y) Zero old one two three p q r
    ∙ (λ i. old ++ map make (only (e i) (Below (low i)) ++ (only (f i) (Above (high i)) ++ only (g i) Zero)))
