-- Words ask for 1 to 64 workers.
use Rattle.std.proofs.Common.{List, Option, Some, None, ◌≡◌, ◌≤◌, ap, arith, sym, subst, ℕ}
use Rattle.vmv_words.specs.Words.{Word, Given, Gives, nothing, a_name, a_count, a_joined_count, a_flag, an_end, Request, review, baseline, recheck, replay, sample, IsWorkers, IsFor, Asks, workers_of}

abbrev pub IsFew : ℕ → Type 0
IsFew n = (1 ≤ n) × (n ≤ 64)

abbrev pub AreFew : Option ℕ → Type 0
AreFew o = (n : ℕ) → o ≡ Some n → IsFew n

pub given_few : (words : List Word) (g : Given) → Gives words g → AreFew g.workers
given_few _ _ nothing n e = absurd cc
given_few _ _ (a_name word rest g plain more) n e = given_few rest g more n e
given_few _ _ (a_count number k rest g is free more) n e =
    let same : k ≡ n = cc in
    subst IsFew same (is.from, is.to)
given_few _ _ (a_joined_count number k rest g is free more) n e =
    let same : k ≡ n = cc in
    subst IsFew same (is.from, is.to)
given_few _ _ (a_flag rest g free more) n e = given_few rest g more n e
given_few _ _ (an_end rest) n e = absurd cc

pub workers_few : (o : Option ℕ) (n : ℕ) → AreFew o → IsWorkers o n → IsFew n
workers_few None n few is = subst IsFew (sym is) (omega arith, omega arith)
workers_few (Some k) n few is = few n (ap Some (sym is))

for_few : (command : Word) (g : Given) (request : Request) → AreFew g.workers → IsFor command g request → IsFew (workers_of request)
for_few command g (review base revision count proved) few is = workers_few g.workers count few is.2
for_few command g (baseline base count) few is = workers_few g.workers count few is.2
for_few command g (recheck base revision proof) few is = (omega arith, omega arith)
for_few command g (replay revision witness) few is = (omega arith, omega arith)
for_few command g (sample number count) few is = workers_few g.workers count few is.4

pub asks_few : (words : List Word) (request : Request) → Asks words request → IsFew (workers_of request)
asks_few words request (command, rest, g, are, gives, is_for) = for_few command g request (given_few rest g gives) is_for
