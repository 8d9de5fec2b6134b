-- Which names the statements of a block call, one statement after another.
use Rattle.std.proofs.Common.{◌≡◌, ◌⊎◌, inl, inr, ⊎_elim, ◌↔◌, ℕ, ◌+◌, ◌<◌, ◌≤◌, List, length, drop, get_or, subst}
use Rattle.vmv_tree.specs.declared.name.Name.{Name}
use Rattle.vmv_tree.specs.declared.tree.Stmt as declared
use Rattle.vmv_tree.specs.View.{stmt_of, block_of}
use Rattle.vmv_snapshot.specs.Reaches.{Calls, BlockCalls}
use Rattle.vmv_thresholds.proofs.Lists.{drop_at, drop_end}

-- the calls are those from the i-th statement on
abbrev pub CalledFrom : List declared.Stmt → Name → ℕ → Type 0
CalledFrom block name i = BlockCalls (block_of (drop i block)) name ↔ BlockCalls (block_of block) name

pub called_start : (block : List declared.Stmt) (name : Name) → CalledFrom block name 0
called_start block name = (λ h. h, λ h. h)

-- those from a statement on are its own and those behind it
from_one : (block : List declared.Stmt) (name : Name) (i : ℕ) (s : declared.Stmt) → i < length block → s ≡ get_or block i s → CalledFrom block name i →
    (Calls (stmt_of s) name ⊎ BlockCalls (block_of (drop (i + 1) block)) name) ↔ BlockCalls (block_of block) name
from_one block name i s h is old =
    subst (λ (b : List declared.Stmt). BlockCalls (block_of b) name ↔ BlockCalls (block_of block) name) (drop_at block i s h is) old

pub called_more : (block : List declared.Stmt) (name : Name) (i : ℕ) (s : declared.Stmt) → i < length block → s ≡ get_or block i s → CalledFrom block name i →
    (Calls (stmt_of s) name → ⊥) → CalledFrom block name (i + 1)
called_more block name i s h is old none =
    let all = from_one block name i s h is old in (
      λ g. all.0 (inr g),
      λ g. ⊎_elim (λ (k : Calls (stmt_of s) name). absurd (none k)) (λ (k : BlockCalls (block_of (drop (i + 1) block)) name). k) (all.1 g),
    )

pub called_here : (block : List declared.Stmt) (name : Name) (i : ℕ) (s : declared.Stmt) → i < length block → s ≡ get_or block i s → CalledFrom block name i →
    Calls (stmt_of s) name → BlockCalls (block_of block) name
called_here block name i s h is old here = (from_one block name i s h is old).0 (inl here)

pub called_end : (block : List declared.Stmt) (name : Name) (i : ℕ) → length block ≤ i → CalledFrom block name i → BlockCalls (block_of block) name → ⊥
called_end block name i h old g = subst (λ (b : List declared.Stmt). BlockCalls (block_of b) name) (drop_end block i h) (old.1 g)
