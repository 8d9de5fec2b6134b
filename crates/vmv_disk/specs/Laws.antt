-- What a disk in memory reads is among what a crash may leave of it.
use Rattle.std.proofs.Common.{◌≡◌, ℕ, ◌+◌, ◌-◌, ◌<◌, ◌≤◌, ◌⊎◌, max, List, [], ◌∷◌, ◌++◌, true, false, length, take, drop, get_or, refl, ap, ◌∙◌, arith, inl, inr, length-append, length-drop}
use Rattle.std.proofs.Math.ListN.{get_or-append}
use Rattle.std.proofs.lemmas.List.{length-take, get_or-take, get_or-drop, get_or-append_right}
use Rattle.vmv_disk.specs.State.{Moment, DiskState, MayLeave}
use Rattle.vmv_disk.specs.Effects.{with_piece, begun_at, synced_as, DifferIn}
use Rattle.vmv_disk.specs.Replay.{fresh, after_call, after_calls}
use Rattle.vmv_disk.specs.declared.disk_call.DiskCall.{DiskCall}
use Rattle.vmv_disk.specs.declared.disk_call.DiskCall.TheVariants.{Size, Read, Write, Sync}

length-with_piece : (at : ℕ) (piece bytes : List ℕ) → (length bytes ≤ length (with_piece at piece bytes)) × (length (with_piece at piece bytes) ≤ max (at + length piece) (length bytes))
length-with_piece at piece bytes =
    let front = length-take at bytes in
    let back = length-drop (at + length piece) bytes in
    let middle = length-append (take at bytes) piece in
    let whole = length-append (take at bytes ++ piece) (drop (at + length piece) bytes) in
    (omega (arith, front, back, middle, whole), omega (arith, front, back, middle, whole))

before : (at : ℕ) (piece bytes : List ℕ) (place : ℕ) → place < length bytes → place < at → get_or (with_piece at piece bytes) place 0 ≡ get_or bytes place 0
before at piece bytes place lt early =
    let front = length-take at bytes in
    let middle = length-append (take at bytes) piece in
    let in_front : place < length (take at bytes) = omega (arith, front) in
    let in_two : place < length (take at bytes ++ piece) = omega (arith, front, middle) in
    get_or-append (take at bytes ++ piece) (drop (at + length piece) bytes) 0 place in_two
    ∙ get_or-append (take at bytes) piece 0 place in_front
    ∙ get_or-take at bytes place 0 early

behind : (at : ℕ) (piece bytes : List ℕ) (place : ℕ) → place < length bytes → at + length piece ≤ place → get_or (with_piece at piece bytes) place 0 ≡ get_or bytes place 0
behind at piece bytes place lt late =
    let front = length-take at bytes in
    let middle = length-append (take at bytes) piece in
    let long : length (take at bytes ++ piece) ≡ at + length piece = omega (arith, front, middle) in
    let same : (at + length piece) + (place - (at + length piece)) ≡ place = omega arith in
    get_or-append_right (take at bytes ++ piece) (drop (at + length piece) bytes) (at + length piece) place 0 long late
    ∙ get_or-drop (at + length piece) bytes (place - (at + length piece)) 0
    ∙ ap (λ (k : ℕ). get_or bytes k 0) same

-- a piece changes nothing elsewhere
elsewhere : (at : ℕ) (piece bytes : List ℕ) (place : ℕ) → place < length bytes → (place < at) ⊎ (at + length piece ≤ place) → get_or (with_piece at piece bytes) place 0 ≡ get_or bytes place 0
elsewhere at piece bytes place lt (inl early) = before at piece bytes place lt early
elsewhere at piece bytes place lt (inr late) = behind at piece bytes place lt late

pub at_rest : (bytes : List ℕ) → MayLeave (synced_as bytes) bytes
at_rest bytes = record { no_shorter = omega arith; no_longer = omega arith; stay = λ place lt out. refl }

-- what may be left still may once a write has begun
pub wider : (at size : ℕ) (moment : Moment) (bytes : List ℕ) → MayLeave moment bytes → MayLeave (begun_at at size moment) bytes
wider at size moment bytes may = record {
  no_shorter = may.no_shorter;
  no_longer = omega (arith, may.no_longer);
  stay = λ place lt out. may.stay place lt out.1;
}

pub written : (at : ℕ) (piece : List ℕ) (moment : Moment) (bytes : List ℕ) → MayLeave moment bytes → MayLeave (begun_at at (length piece) moment) (with_piece at piece bytes)
written at piece moment bytes may =
    let long = length-with_piece at piece bytes in
    record {
      no_shorter = omega (arith, may.no_shorter, long.0);
      no_longer = omega (arith, may.no_longer, long.1);
      stay = λ place lt out. elsewhere at piece bytes place (omega (arith, lt, may.no_shorter)) out.0 ∙ may.stay place lt out.1;
    }

kept_by_call : (disk : DiskState) (call : DiskCall) → MayLeave disk.present disk.bytes → MayLeave (after_call disk call).present (after_call disk call).bytes
kept_by_call disk (Size done) may = may
kept_by_call disk (Read at most done) may = may
kept_by_call disk (Write at bytes true) may = written at bytes disk.present disk.bytes may
kept_by_call disk (Write at bytes false) may = wider at (length bytes) disk.present disk.bytes may
kept_by_call disk (Sync true) may = at_rest disk.bytes
kept_by_call disk (Sync false) may = may

kept_by_calls : (calls : List DiskCall) (disk : DiskState) → MayLeave disk.present disk.bytes → MayLeave (after_calls disk calls).present (after_calls disk calls).bytes
kept_by_calls [] disk may = may
kept_by_calls (call ∷ calls) disk may = kept_by_calls calls (after_call disk call) (kept_by_call disk call may)

pub replay_may_be_left : (first : List ℕ) (calls : List DiskCall) → MayLeave (after_calls (fresh first) calls).present (after_calls (fresh first) calls).bytes
replay_may_be_left first calls = kept_by_calls calls (fresh first) (at_rest first)

-- one more call, behind the others
pub after_calls_last : (calls : List DiskCall) (call : DiskCall) (disk : DiskState) → after_calls disk (calls ++ call ∷ []) ≡ after_call (after_calls disk calls) call
after_calls_last [] call disk = refl
after_calls_last (first ∷ calls) call disk = after_calls_last calls call (after_call disk first)

-- a piece differs from what was there in its stretch at most
pub piece_differs : (at : ℕ) (piece bytes : List ℕ) → DifferIn at (length piece) bytes (with_piece at piece bytes)
piece_differs at piece bytes = written at piece (synced_as bytes) bytes (at_rest bytes)

-- so do the same bytes
pub same_differs : (at size : ℕ) (bytes : List ℕ) → DifferIn at size bytes bytes
same_differs at size bytes = wider at size (synced_as bytes) bytes (at_rest bytes)
