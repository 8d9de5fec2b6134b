-- Words ask for one service at most, for none beside another thing, and for 1 to 64 workers.
use Rattle.std.proofs.Common.{refl, List, [], ◌∷◌, ◌≡◌, ◌∙◌, sym, subst, ℕ, codes}
use Rattle.vmv_words.specs.Words.{Word, Given, Gives, Request, review, baseline, recheck, replay, sample, IsFor, Asks}
use Rattle.vmv_words.specs.Services.{Service, service, service_workers, IsConnections, IsServiceFor, AsksService}
use Rattle.vmv_words.proofs.Few.{IsFew, given_few, workers_few}
use Rattle.vmv_words.proofs.Once.{gives_once, no_command, workers_once}

connections_once : (word : Word) (n m : ℕ) → IsConnections word n → IsConnections word m → n ≡ m
connections_once word n m a b = sym a.value ∙ b.value

service_for_once : (command : Word) (g : Given) (one other : Service) → IsServiceFor command g one → IsServiceFor command g other → one ≡ other
service_for_once command g (service address store count workers) (service address' store' count' workers') a b =
    let names : address ∷ store ∷ a.0 ∷ [] ≡ address' ∷ store' ∷ b.0 ∷ [] = sym a.2 ∙ b.2 in
    let address_is : address ≡ address' = cc in
    let store_is : store ≡ store' = cc in
    let word_is : b.0 ≡ a.0 = cc in
    rw (address_is, store_is, connections_once a.0 count count' a.3 (subst (λ (w : Word). IsConnections w count') word_is b.3), workers_once g.workers workers workers' a.4 b.4) refl

pub asks_service_once : (words : List Word) (one other : Service) → AsksService words one → AsksService words other → one ≡ other
asks_service_once words one other (command, rest, g, are, gives, is_for) (command', rest', g', are', gives', is_for') =
    let same : command ∷ rest ≡ command' ∷ rest' = sym are ∙ are' in
    let command_is : command' ≡ command = cc in
    let rest_is : rest' ≡ rest = cc in
    let given_is : g' ≡ g = gives_once rest g' g (subst (λ (r : List Word). Gives r g') rest_is gives') gives in
    service_for_once command g one other is_for
    (subst (λ (c : Word). IsServiceFor c g other) command_is (subst (λ (x : Given). IsServiceFor command' x other) given_is is_for'))

-- the word of another command isn't the one of a service
another_word : (command : Word) (g : Given) (request : Request) → IsFor command g request → command ≡ codes "serve" → ⊥
another_word command g (review base revision count proved) is e = no_command command _ _ refl is.0 e
another_word command g (baseline base count) is e = no_command command _ _ refl is.0 e
another_word command g (recheck base revision proof) is e = no_command command _ _ refl is.0 e
another_word command g (replay revision witness) is e = no_command command _ _ refl is.0 e
another_word command g (sample number count) is e = no_command command _ _ refl is.1 e

service_word : (command : Word) (g : Given) (asked : Service) → IsServiceFor command g asked → command ≡ codes "serve"
service_word command g (service address store count workers) is = is.1

pub asks_no_service_beside : (words : List Word) (request : Request) → Asks words request → (asked : Service) → AsksService words asked → ⊥
asks_no_service_beside words request (command, rest, g, are, gives, is_for) asked (command', rest', g', are', gives', is_for') =
    let same : command ∷ rest ≡ command' ∷ rest' = sym are ∙ are' in
    let command_is : command ≡ command' = cc in
    another_word command g request is_for (command_is ∙ service_word command' g' asked is_for')

service_few : (command : Word) (g : Given) (asked : Service) (rest : List Word) → Gives rest g → IsServiceFor command g asked → IsFew (service_workers asked)
service_few command g (service address store count workers) rest gives is = workers_few g.workers workers (given_few rest g gives) is.4

pub asks_service_few : (words : List Word) (asked : Service) → AsksService words asked → IsFew (service_workers asked)
asks_service_few words asked (command, rest, g, are, gives, is_for) = service_few command g asked rest gives is_for
