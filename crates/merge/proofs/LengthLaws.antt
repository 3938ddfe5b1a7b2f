-- The lengths of what a reconcile brings, from what `check_two` and `check_brought` answer. Assumes nothing.
use mathlib.Core.List.{[], List, ◌∷◌, ◌++◌}
use mathlib.Core.Path.{sym, ◌∙◌, ◌≡◌}
use Prim.Native.Nat.{ℕ, ◌≤◌}
use native.Mathlib.Omega.{arith}
use borrow.Author.Tests.{eqb-true, not-false}
use lib.ListN.{length}
use Rattle.calls.proofs.AcceptLaws.{passes}
use Rattle.ego.specs.Graph.{Graph}
use Rattle.packed.specs.Pairs.{max_nodes, pair_count}
use Rattle.packed.specs.Inside.Room.{Room}
use Rattle.state.proofs.RefusalLaws.{passed_before, passed_length}
use Rattle.state.specs.Refusal.{buffer_length, Condition, crowded_before, everyone, refusal}
use Rattle.state.specs.Sizes.{edge_bytes}
use Rattle.merge.specs.Pinned.{Brought, brought_lengths}
use Rattle.merge.specs.Inside.Bitwise.{Rooms}

-- a buffer that passes has the edges' length
passed_is : (n x : ℕ) (cs : List Condition) → refusal (buffer_length (edge_bytes n) x ∷ cs) ≡ 0 → (x ≡ edge_bytes n) × (refusal cs ≡ 0)
unfolding buffer_length
passed_is n x cs z = let p = passes (buffer_length (edge_bytes n) x) cs (λ e. omega arith) z in (eqb-true _ _ (not-false _ p.0), p.1)

module _ (n x y : ℕ) {r : ℕ} (e : r ≡ refusal (buffer_length (edge_bytes n) x ∷ buffer_length (edge_bytes n) y ∷ [])) where
  pub two_fit : r ≡ 0 → (x ≡ edge_bytes n) × (y ≡ edge_bytes n)
  two_fit z =
      let p = passed_is n x _ (sym e ∙ z) in
      (p.0, (passed_is n y [] p.1).0)

  pub two_rest : r ≡ 0 → (cs : List Condition) → refusal (buffer_length (edge_bytes n) x ∷ buffer_length (edge_bytes n) y ∷ cs) ≡ refusal cs
  two_rest z cs = let f = two_fit z in passed_length _ _ _ f.0 ∙ passed_length cs _ _ f.1

-- where no node has too many edges before the call, what comes after decides
pub before_rest : (g : Graph) (n : ℕ) (cs : List Condition) → 0 ≡ refusal (crowded_before g n everyone ∷ []) → refusal (crowded_before g n everyone ∷ cs) ≡ refusal cs
unfolding crowded_before
before_rest g n cs e = passed_before cs g n everyone (passes (crowded_before g n everyone) [] (λ z. omega arith) (sym e)).0

-- the bytes of the edges have a bit for each pair
pub long_room : {n : ℕ} (xs : List ℕ) → n ≤ max_nodes → length xs ≡ edge_bytes n → Room n xs
long_room xs h e = record { few = h; bits = omega arith }

-- each of the four has the edges' length
pub record Long (n : ℕ) (k : Brought) : Type 0 where
  pub pins : length k.pins ≡ edge_bytes n
  pub theirs : length k.theirs ≡ edge_bytes n
  pub their_pins : length k.their_pins ≡ edge_bytes n
  pub base : length k.base ≡ edge_bytes n

pub brought_long : (n : ℕ) (k : Brought) (cs : List Condition) → refusal (brought_lengths n k ++ cs) ≡ 0 → Long n k × (refusal cs ≡ 0)
brought_long n k cs z =
    let p = passed_is n (length k.pins) _ z in
    let q = passed_is n (length k.theirs) _ p.1 in
    let r = passed_is n (length k.their_pins) _ q.1 in
    let s = passed_is n (length k.base) cs r.1 in
    (record { pins = p.0; theirs = q.0; their_pins = r.0; base = s.0 }, s.1)

-- from what `check_brought` answers
pub brought_fit : (n : ℕ) (k : Brought) → 0 ≡ refusal (brought_lengths n k) → Long n k
brought_fit n k e = (brought_long n k [] (sym e)).0

pub brought_rest : (n : ℕ) (k : Brought) (cs : List Condition) → Long n k → refusal (brought_lengths n k ++ cs) ≡ refusal cs
brought_rest n k cs l =
    passed_length _ _ _ l.pins ∙ passed_length _ _ _ l.theirs ∙ passed_length _ _ _ l.their_pins ∙ passed_length cs _ _ l.base

pub long_rooms : {n : ℕ} {mine : List ℕ} {k : Brought} → Room n mine → Long n k → Rooms (pair_count n) mine k
long_rooms {k = k} r l = record {
  edges = r.bits;
  pins = (long_room k.pins r.few l.pins).bits;
  theirs = (long_room k.theirs r.few l.theirs).bits;
  their_pins = (long_room k.their_pins r.few l.their_pins).bits;
  base = (long_room k.base r.few l.base).bits;
}
