-- Spare bits in a history (01: they are ignored; clear and load set them to 0, every other call keeps them). Assumes nothing.
use Rattle.std.specs.Prelude.{true, false, List, ◌≡◌, ℕ}
use Rattle.calls.specs.Score.{score_call}
use Rattle.calls.specs.Snapshot.{write_call}
use Rattle.merge.specs.Alike.{AlikeBrought}
use Rattle.merge.specs.Conflict.{conflict_call}
use Rattle.merge.specs.Pinned.{Brought}
use Rattle.packed.specs.Pairs.{pair_count}
use Rattle.state.specs.Spare.{Alike, SameBits, SpareKept, SpareZero}
use Rattle.state.specs.State.{State, size}
use Rattle.history.specs.Model.{Call, reconcile, reconcile_pinned}
use Rattle.history.specs.History.{Effect, effect, state_after, answer, starts}

-- The calls bring the same, but for spare bits of theirs, of the original and of pins.
pub data AlikeCalls (n : ℕ) : Call → Call → Type 0 where
  same : (call : Call) → AlikeCalls n call call
  reconciling : {theirs theirs' base base' : List ℕ} → SameBits (pair_count n) theirs theirs' → SameBits (pair_count n) base base'
      → AlikeCalls n (reconcile theirs base) (reconcile theirs' base')
  reconciling_pinned : {k l : Brought} → AlikeBrought n k l → AlikeCalls n (reconcile_pinned k) (reconcile_pinned l)

-- Two calls leave the same, but for spare bits.
pub record AlikeEffects (e f : Effect) : Type 0 where
  pub answer : e.answer ≡ f.answer
  pub after : Alike e.after f.after
  pub recomputed : e.recomputed ≡ f.recomputed
  pub entries : e.entries ≡ f.entries
  pub scratch : e.scratch ≡ f.scratch

-- What 01 says of spare bits. A clear and the loads are the calls that may start a history. proofs/Spare has its proof.
pub record SpareBits : Type 0 where
  -- No answer and no other byte depends on a spare bit,
  pub ignored : (s t : State) (c d : Call) → Alike s t → AlikeCalls (size s) c d → AlikeEffects (effect s c) (effect t d)
  -- nor does what write, score and the first conflict answer.
  pub written : (s t : State) (buffer : List ℕ) → Alike s t → write_call s buffer ≡ write_call t buffer
  pub scored : (x y : List ℕ) (n p : ℕ) → SameBits (pair_count n) x y → score_call x n p ≡ score_call y n p
  pub shown : (x y : List ℕ) (n : ℕ) (k l : Brought) → SameBits (pair_count n) x y → AlikeBrought n k l → conflict_call x n k ≡ conflict_call y n l
  -- Clear and load set them to 0;
  pub zeroed : (s : State) (call : Call) → starts call ≡ true → answer s call ≡ 0 → SpareZero (state_after s call)
  -- every other call keeps them.
  pub kept : (s : State) (call : Call) → starts call ≡ false → SpareKept s (state_after s call)
