-- What the code's own values are, in the words of the definitions.
use Rattle.std.specs.Prelude.{◌≡◌, List, map}
use Rattle.vmv_words.specs.declared.request.Request.{Request}
use Rattle.vmv_words.specs.declared.request.Request.TheVariants.{Review, Baseline, Recheck, Replay, Sample}
use Rattle.vmv_words.specs.declared.given.Given.{Given}
use Rattle.vmv_words.specs.declared.service.Service.{Service}
use Rattle.vmv_words.specs.Words.{Word, Gives}
use Rattle.vmv_words.specs.Services.{IsServiceFor}
use Rattle.vmv_words.specs.Words as words
use Rattle.vmv_words.specs.Services as services

abbrev pub request_of : Request → words.Request
request_of (Review base revision count proved) = words.review base.now revision.now count proved
request_of (Baseline base count) = words.baseline base.now count
request_of (Recheck base revision proved) = words.recheck base.now revision.now proved.now
request_of (Replay revision witness) = words.replay revision.now witness.now
request_of (Sample number count) = words.sample number count

abbrev pub given_of : Given → words.Given
given_of g = record { names = map (λ name. name.now) g.names.items; workers = g.workers; proof = g.proof }

-- the words give no names and options
abbrev pub GivesNothing : List Word → Type 0
GivesNothing rest = (g : words.Given) → Gives rest g → ⊥

-- the words give just these names and options
abbrev pub GivesJust : List Word → words.Given → Type 0
GivesJust rest g = Gives rest g × ((other : words.Given) → Gives rest other → other ≡ g)

-- the word of a command is for none that there is, with what stands behind it
abbrev pub IsForNone : Word → words.Given → Type 0
IsForNone command g = (request : words.Request) → words.IsFor command g request → ⊥

abbrev pub service_of : Service → services.Service
service_of s = services.service s.address.now s.store.now s.count s.workers

-- the word of a command is for no service, with what stands behind it
abbrev pub IsForNoService : Word → words.Given → Type 0
IsForNoService command g = (asked : services.Service) → IsServiceFor command g asked → ⊥
