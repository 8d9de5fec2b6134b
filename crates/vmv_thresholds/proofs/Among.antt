-- Names among others.
use Rattle.std.proofs.Common.{◌≡◌, true, List, refl}
use Rattle.std.specs.List.{Contains}
use Rattle.std.specs.Str.{bytes_eq}
use Rattle.std.proofs.lemmas.Slice.Eq.{bytes_eq-Decides}
use Rattle.std.proofs.lemmas.Map.Views.{Contains-from_any}
use Rattle.std.proofs.lemmas.List.Folds.{list_any-from_Any}
use Rattle.vmv_tree.specs.declared.name.Name.{Name}
use Rattle.vmv_valid.specs.Names.{is_among}

pub among_in : (names : List Name) (name : Name) → is_among names name ≡ true → Contains names name
among_in names name h = Contains-from_any (λ x y. (bytes_eq-Decides x y).0) name names h

pub in_among : (names : List Name) (name : Name) → Contains names name → is_among names name ≡ true
in_among names name (k, h, e) = list_any-from_Any (bytes_eq name) names (k, name, h, e, (bytes_eq-Decides name name).1 refl)
