-- What a body tells, and which act it makes of what the path asks for.
use Rattle.std.specs.Prelude.{ℕ, List, Option, Some, None, codes, if◌then◌else◌}
use Rattle.std.specs.Option.{option_map, option_and_then}
use Rattle.std.specs.Str.{is_utf8}
use Rattle.serde_json.specs.Data.{Data}
use Rattle.serde_json.specs.Read.{read}
use Rattle.serde_json.specs.Find.{get, as_str}
use Rattle.vmv_keeper.specs.declared.act.Act.{Act}
use Rattle.vmv_keeper.specs.declared.act.Act.TheVariants.{OpenProject, AddMember, Submit}
use Rattle.vmv_routes.specs.declared.aim.Draft.{Draft}
use Rattle.vmv_routes.specs.declared.aim.Draft.TheVariants as draft
use Rattle.vmv_routes.specs.Paths.{label_in}

-- the value of a body, as `serde_json` reads it; of a field that stands more than once it keeps the last
abbrev pub value_of : List ℕ → Option Data
value_of body = if is_utf8 body then read body else None

-- a field that is a string, and one that is a label
abbrev pub text_at : List ℕ → Data → Option (List ℕ)
text_at key value = option_and_then as_str (get key value)

abbrev pub label_at : List ℕ → Data → Option (List ℕ)
label_at key value = option_and_then label_in (text_at key value)

-- the act, with the fields that it needs
abbrev pub act_of : Draft → Data → Option Act
act_of draft.Open value = option_and_then (λ name. option_map (OpenProject name) (text_at (codes "text") value)) (label_at (codes "name") value)
act_of (draft.AddMember owner project) value = option_map (AddMember owner project) (label_at (codes "member") value)
act_of (draft.Submit owner project) value = option_map (Submit owner project) (text_at (codes "text") value)
act_of (draft.Whole act) value = Some act
