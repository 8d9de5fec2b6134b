-- Names are the same or aren't.
use Rattle.std.proofs.Common.{◌≡◌, ◌≢◌, Bool, true, false, refl, sym, subst}
use Rattle.std.specs.Str.{bytes_eq}
use Rattle.std.proofs.lemmas.Slice.Eq.{bytes_eq-Decides}
use Rattle.vmv_tree.specs.declared.name.Name.{Name}

pub same_bytes : (a b : Name) → bytes_eq a b ≡ true → a ≡ b
same_bytes a b h = (bytes_eq-Decides a b).0 h

pub bytes_same : (a b : Name) → a ≡ b → bytes_eq a b ≡ true
bytes_same a b h = (bytes_eq-Decides a b).1 h

pub other_bytes : (a b : Name) → a ≢ b → bytes_eq a b ≡ false
other_bytes a b n = by (bytes_eq a b) refl
  where
    by : (t : Bool) → bytes_eq a b ≡ t → bytes_eq a b ≡ false
    by true e = absurd (n (same_bytes a b e))
    by false e = e

-- what holds of one name, and of every other, holds of each
pub by_name : {P : Name → Type 0} (f : Name) → P f → ((name : Name) → name ≢ f → P name) → (name : Name) → P name
by_name {P} f here there name = by (bytes_eq name f) refl
  where
    by : (t : Bool) → bytes_eq name f ≡ t → P name
    by true e = subst P (sym (same_bytes name f e)) here
    by false e = there name (λ same. absurd (let t = bytes_same name f same in cc))
