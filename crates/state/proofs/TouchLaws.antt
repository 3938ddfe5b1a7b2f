-- The nodes that an edit of a pair touches, and marks made stale. Assumes nothing.
use mathlib.Core.Bool.{◌&&◌, Bool, or-true, true}
use mathlib.Core.List.{List}
use mathlib.Core.Logic.{inl, inr}
use mathlib.Core.Path.{◌≡◌}
use Prim.Native.Nat.{suc, zero, ℕ}
use borrow.Author.Tests.{eq-eqb, ne_eqb}
use lib.Dec.{eqb}
use Rattle.arith.proofs.Tests.{test}
use Rattle.ego.specs.Graph.{Graph}
use Rattle.packed.proofs.BitLaws.{bytes_with_bit}
use Rattle.packed.specs.Inside.Bytes.{Bytes}
use Rattle.state.specs.Marks.{stale_to, with_mark}
use Rattle.state.specs.Refusal.{ends, touched}

-- ---- who is touched: an end, or linked to both

module _ (g : Graph) (a b p : ℕ) where
  pub touched_first : p ≡ a → touched g a b p ≡ true
  unfolding touched ends
  touched_first e = rw (eq-eqb p a e)

  pub touched_second : p ≡ b → touched g a b p ≡ true
  unfolding touched ends
  touched_second e = rw (eq-eqb p b e, or-true (eqb p a))

  pub touched_else : (p ≡ a → ⊥) → (p ≡ b → ⊥) → touched g a b p ≡ (g a p && g b p)
  unfolding touched ends
  touched_else d e = rw (ne_eqb p a d, ne_eqb p b e)

-- ---- marks made stale are bytes

pub bytes_stale : (f : ℕ → Bool) (marks : List ℕ) (n : ℕ) → Bytes marks → Bytes (stale_to f marks n)
unfolding stale_to with_mark
bytes_stale f marks zero b = b
bytes_stale f marks (suc p) b = elim (test (f p)) [
  | inl e ↦ rw e (bytes_with_bit (stale_to f marks p) p true (bytes_stale f marks p b))
  | inr e ↦ rw e (bytes_stale f marks p b)
]
