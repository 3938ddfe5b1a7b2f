-- A walk over the pairs that theirs has changed, in bit order: what lies between them is passed over. Assumes nothing.
use mathlib.Core.Bool.{false}
use mathlib.Core.List.{List}
use mathlib.Core.Path.{ap, refl, sym, ◌∙◌, ◌≡◌}
use Prim.Native.Nat.{◌+◌, ◌<◌, suc, zero, zero-le, ℕ, ◌≤◌}
use native.Mathlib.Decide.{dec_lt, ℕ_discrete}
use native.Mathlib.Numerals.{add-one}
use native.Mathlib.Omega.{arith}
use Rattle.packed.proofs.PairLaws.{pairs_mono, pairs_suc}
use Rattle.packed.proofs.RowLaws.{edge_above}
use Rattle.packed.specs.Bits.{bit_at, differ}
use Rattle.packed.specs.Edges.{edge}
use Rattle.packed.specs.Pairs.{pair_count}
use Rattle.merge.specs.Reconcile.{over_pairs, over_row}
use Rattle.merge.specs.Inside.Walk.{FirstChanged, NextPair, PairAt, Place}
use Rattle.merge.specs.Inside.Pairs.{Gave, WalksOn}
use Rattle.merge.specs.declared.brought.Changes.{Changes}
use Rattle.merge.specs.declared.changed.ChangedPairs.{ChangedPairs}
use Rattle.merge.specs.declared.changed.Pair.{Pair}

-- a change at the rows before b and the first a pairs of b
abbrev pub over_to : {A : Type 0} → (ℕ → ℕ → A → A) → ℕ → ℕ → A → A
over_to change a b x = over_row change b a (over_pairs change b x)

-- ---- the row of a bit

pub row_after : (row : ℕ) {start : ℕ} → start ≡ pair_count row → start + row ≡ pair_count (row + 1)
row_after row e = rw add-one (omega (arith, pairs_suc row))

-- ---- places

pub place_first : (n : ℕ) → Place n 0 0
place_first n = record { few = zero-le; low = zero-le; bits = omega (arith, pairs_mono {m = 0} {n = n} zero-le) }

-- the place after the next pair
pub place_next : {theirs base : List ℕ} {n a b : ℕ} {r : Pair} → NextPair theirs base n a b r → Place n (r.a + 1) r.b
place_next {n = n} {r = r} f =
    let m : suc r.b ≤ n = f.inside in
    record { few = omega (arith, f.inside); low = omega (arith, f.below); bits = omega (arith, f.below, pairs_suc r.b, pairs_mono m) }

-- the bits of the row of b are its pairs with the nodes below it
row_bit : (theirs base : List ℕ) (a b : ℕ) → a < b
    → differ (edge theirs a b) (edge base a b) ≡ differ (bit_at theirs (pair_count b + a)) (bit_at base (pair_count b + a))
row_bit theirs base a b h = rw (edge_above theirs a b h, edge_above base a b h)

-- the next pair, from the next bit
pub next_some : (theirs base : List ℕ) {n a b i : ℕ} {r : Pair} → FirstChanged theirs base n a b i → i < pair_count n → PairAt i b r → NextPair theirs base n a b r
next_some theirs base {n} {r = r} f l p = record {
  onward = p.onward;
  below = p.below;
  inside = elim (dec_lt r.b n) [ yes k ↦ k | no k ↦ absurd (omega (arith, p.bit, pairs_mono {m = n} {n = r.b} (omega arith))) ];
  first = rw p.bit f;
}

-- ---- the iterator, which walks over the changes of n nodes

module _ {changes : Changes} {n : ℕ} {s : ChangedPairs} (w : WalksOn changes n s) where
  pub place_of : Place n s.a s.b
  place_of = rw w.nodes at s.walks.0

  pub ended : FirstChanged s.changes.theirs.now s.changes.base.now s.n s.a s.b (pair_count s.n)
      → FirstChanged changes.theirs.now changes.base.now n s.a s.b (pair_count n)
  ended f = rw (w.same, w.nodes) at f

  module _ {r : Pair} {t : ChangedPairs} (g : Gave s r t) where
    pub next_of : NextPair changes.theirs.now changes.base.now n s.a s.b r
    next_of = rw (w.same, w.nodes) at g.next

    pub walks_next : WalksOn changes n t
    walks_next = record { same = g.same.same ∙ w.same; nodes = g.same.nodes ∙ w.nodes }

-- ---- the walk

-- a change that leaves the pairs alone that theirs has not changed
module _ {A : Type 0} (change : ℕ → ℕ → A → A) (theirs base : List ℕ)
    (idle : (a b : ℕ) → differ (edge theirs a b) (edge base a b) ≡ false → (x : A) → change a b x ≡ x) (x : A) where
  -- theirs has changed no pair of the bits from i up to j
  abbrev Alike : ℕ → ℕ → Type 0
  Alike i j = (k : ℕ) → i ≤ k → k < j → differ (bit_at theirs k) (bit_at base k) ≡ false

  skip_row : (y : A) (b m a : ℕ) → a ≤ m → m ≤ b → Alike (pair_count b + a) (pair_count b + m) → over_row change b a y ≡ over_row change b m y
  unfolding over_row
  skip_row y b zero a h l none = let e : a ≡ 0 = omega arith in ap (λ k. over_row change b k y) e
  skip_row y b (suc m) a h l none = elim (ℕ_discrete a (suc m)) [
    | yes e ↦ ap (λ k. over_row change b k y) e
    | no d ↦ skip_row y b m a (omega arith) (omega arith) (λ k p q. none k p (omega arith))
        ∙ sym (idle m b (row_bit theirs base m b l ∙ none (pair_count b + m) (omega arith) (omega arith)) _)
  ]

  skip : (a b a' b' : ℕ) → a ≤ b → b ≤ b' → a' ≤ b' → pair_count b + a ≤ pair_count b' + a' → Alike (pair_count b + a) (pair_count b' + a')
      → over_to change a b x ≡ over_to change a' b' x
  unfolding over_pairs over_row
  skip a b a' zero h l m o none = let e : b ≡ 0 = omega arith in let d : a ≡ a' = omega arith in rw (d, e) refl
  skip a b a' (suc c) h l m o none = elim (ℕ_discrete b (suc c)) [
    | yes e ↦ rw e (skip_row (over_pairs change (suc c) x) (suc c) a' a (omega (arith, ap pair_count e)) m (λ k p q. none k (omega (arith, ap pair_count e)) q))
    | no d ↦ skip a b c c h (omega arith) (omega arith) (omega (arith, pairs_suc b, pairs_mono {m = suc b} {n = suc c} (omega arith), pairs_suc c))
        (λ k p q. none k p (omega (arith, pairs_suc c)))
        ∙ skip_row (over_pairs change (suc c) x) (suc c) a' 0 zero-le m
        (λ k p q. none k (omega (arith, pairs_suc b, pairs_mono {m = suc b} {n = suc c} (omega arith))) q)
  ]

  pub walk_start : x ≡ over_to change 0 0 x
  unfolding over_row over_pairs
  walk_start = refl

  pub walk_step : (a b : ℕ) {t u : A} → t ≡ over_to change a b x → u ≡ change a b t → u ≡ over_to change (a + 1) b x
  unfolding over_row
  walk_step a b e f = rw add-one (f ∙ ap (change a b) e)

  pub walk_next : {n a b : ℕ} {r : Pair} {t : A} → Place n a b → NextPair theirs base n a b r → t ≡ over_to change a b x → t ≡ over_to change r.a r.b x
  walk_next {n} {a} {b} {r} p f e = e ∙ skip a b r.a r.b p.low f.onward (omega (arith, f.below)) f.first.start f.first.none

  pub walk_end : {n a b : ℕ} {t : A} → Place n a b → FirstChanged theirs base n a b (pair_count n) → t ≡ over_to change a b x → t ≡ over_pairs change n x
  unfolding over_row
  walk_end {n} {a} {b} p f e = e ∙ skip a b 0 n p.low p.few zero-le (omega (arith, f.start)) (λ k l m. f.none k l (omega arith))
