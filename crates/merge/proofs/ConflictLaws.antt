-- The pairs in conflict by their bits, and the first of them. Assumes nothing.
use mathlib.Core.Bool.{◌&&◌, ◌||◌, Bool, false, true, true≢false}
use mathlib.Core.List.{List}
use mathlib.Core.Logic.{inl, inr}
use mathlib.Core.Path.{ap, refl, sym, ◌∙◌, ◌≡◌}
use Prim.Native.Nat.{◌*◌, ◌+◌, ◌-◌, ◌<◌, suc, zero-le, ℕ}
use native.Mathlib.Decide.{dec_lt}
use native.Mathlib.Omega.{arith}
use lib.Bits.{bit_and, bit_or, bit_xor}
use Rattle.std.proofs.Common.{Option, Some, None}
use Rattle.std.specs.Option.{is_some}
use Rattle.arith.proofs.Tests.{and-false, test}
use Rattle.arith.proofs.Words.{bit-and, bit-or}
use Rattle.packed.proofs.FirstLaws.{bit-xor, differ_same, word_has_bits}
use Rattle.packed.proofs.GraphLaws.{pair_here, pair_some}
use Rattle.packed.proofs.PairLaws.{pair_less, pair_onto, pairs_mono, pairs_suc}
use Rattle.packed.proofs.RowLaws.{edge_above}
use Rattle.packed.specs.Bits.{bit_at, differ, run_of}
use Rattle.packed.specs.Edges.{edge}
use Rattle.packed.specs.Pairs.{any_pair, pair_count}
use Rattle.packed.specs.Inside.Search.{FirstFrom, FirstIn, WordHas}
use Rattle.state.specs.Answers.{Nowhere}
use Rattle.merge.proofs.BitOrder.{first_passes, none_passes}
use Rattle.merge.specs.Pinned.{Brought, conflict, in_conflict, spoken}
use Rattle.merge.specs.Conflict.{between, conflicts, first_of}
use Rattle.merge.specs.declared.changed.Pair.{Pair}
use Rattle.merge.specs.Inside.Bitwise.{conflict_bit}
use Rattle.merge.specs.Inside.Walk.{PairAt}

pub no_pair : (f : ℕ → ℕ → Bool) (n : ℕ) → ((a b : ℕ) → a < b → b < n → f a b ≡ false) → any_pair f n ≡ false
no_pair f n none = elim (test (any_pair f n)) [
  | inl e ↦ let p = pair_some f n e in absurd (true≢false (sym p.4 ∙ none p.0 p.1 p.2 p.3))
  | inr e ↦ e
]

-- ---- 64 pairs at a time

pub word_has_conflicts : (mine : List ℕ) (k : Brought) (i : ℕ) {m p t q o : ℕ}
    → m ≡ run_of mine (8 * i) 64 → p ≡ run_of k.pins (8 * i) 64 → t ≡ run_of k.theirs (8 * i) 64 → q ≡ run_of k.their_pins (8 * i) 64
    → o ≡ run_of k.base (8 * i) 64
    → WordHas (conflict_bit mine k) i (bit_and (bit_and (bit_or p (bit_xor m o)) (bit_or q (bit_xor t o))) (bit_xor m t))
unfolding conflict_bit
word_has_conflicts mine k i {m} {p} {t} {q} {o} em ep et eq eo j h =
    rw (
      word_has_bits mine i em j h,
      word_has_bits k.pins i ep j h,
      word_has_bits k.theirs i et j h,
      word_has_bits k.their_pins i eq j h,
      word_has_bits k.base i eo j h,
      bit-and (bit_and (bit_or p (bit_xor m o)) (bit_or q (bit_xor t o))) (bit_xor m t) (63 - j),
      bit-and (bit_or p (bit_xor m o)) (bit_or q (bit_xor t o)) (63 - j),
      bit-or p (bit_xor m o) (63 - j),
      bit-or q (bit_xor t o) (63 - j),
      bit-xor m o (63 - j),
      bit-xor t o (63 - j),
      bit-xor m t (63 - j),
    )

-- where both left the pair alike there is none
pub alike_none : (mine : List ℕ) (k : Brought) (i : ℕ) → bit_at mine i ≡ bit_at k.theirs i → conflict_bit mine k i ≡ false
unfolding conflict_bit
alike_none mine k i e =
    rw (differ_same e)
    (and-false ((bit_at k.pins i || differ (bit_at mine i) (bit_at k.base i)) && (bit_at k.their_pins i || differ (bit_at k.theirs i) (bit_at k.base i))))

-- ---- a pair by its bit

module _ (mine : List ℕ) (k : Brought) where
  -- by my pin, their pin, mine, theirs and the original
  abbrev clash : Bool → Bool → Bool → Bool → Bool → Bool
  clash p q m t o = ((p || differ m o) && (q || differ t o)) && differ m t

  says : (a b : ℕ) → in_conflict (edge mine) k a b ≡ clash (edge k.pins a b) (edge k.their_pins a b) (edge mine a b) (edge k.theirs a b) (edge k.base a b)
  unfolding conflict spoken
  says a b = refl

  conflict_is : (a b : ℕ) → a < b → in_conflict (edge mine) k a b ≡ conflict_bit mine k (pair_count b + a)
  unfolding conflict_bit
  conflict_is a b h =
      says a b
      ∙ rw (edge_above mine a b h, edge_above k.pins a b h, edge_above k.theirs a b h, edge_above k.their_pins a b h, edge_above k.base a b h)

  module _ (n : ℕ) where
    pair_below : (a b : ℕ) → a < b → b < n → pair_count b + a < pair_count n
    pair_below a b h l = omega (arith, pairs_suc b, pairs_mono {m = suc b} {n = n} l)

    -- from where the search ends
    module _ {r : ℕ} (f : FirstFrom (conflict_bit mine k) 0 (pair_count n) r) where
      pub lower_none : (a b : ℕ) → a < b → pair_count b + a < r → in_conflict (edge mine) k a b ≡ false
      lower_none a b h l = conflict_is a b h ∙ f.none (pair_count b + a) zero-le l

      -- the pair of the bit, where it is one of n nodes
      module _ (l : r < pair_count n) {p : Pair} (at : PairAt r 0 p) where
        inside : p.b < n
        inside = elim (dec_lt p.b n) [ yes h ↦ h | no h ↦ absurd (omega (arith, at.bit, pairs_mono {m = n} {n = p.b} (omega arith))) ]

        pub here : in_conflict (edge mine) k p.a p.b ≡ true
        here = conflict_is p.a p.b at.below ∙ ap (conflict_bit mine k) at.bit ∙ f.some l

        pub answers_pair : between p.a p.b ≡ first_of (conflicts mine n k)
        unfolding first_of conflicts
        answers_pair =
            let q = first_passes (in_conflict (edge mine) k) n p.a p.b at.below inside here (λ x y h m. lower_none x y h (omega (arith, at.bit))) in
            sym (ap first_of q.1)

    -- from a search that finds none
    module _ (f : FirstFrom (conflict_bit mine k) 0 (pair_count n) (pair_count n)) where
      pub none_there : (a b : ℕ) → a < b → b < n → in_conflict (edge mine) k a b ≡ false
      none_there a b h l = lower_none f a b h (pair_below a b h l)

      pub answers_none : Nowhere ≡ first_of (conflicts mine n k)
      unfolding first_of conflicts
      answers_none = sym (ap first_of (none_passes (in_conflict (edge mine) k) n none_there))

    -- whether some pair is in conflict
    pub any_by : (o : Option ℕ) → FirstIn (conflict_bit mine k) 0 (pair_count n) o → is_some o ≡ any_pair (in_conflict (edge mine) k) n
    any_by (Some r) f =
        let p = pair_onto n r f.1 in
        let at : PairAt r 0 (record { a = p.0; b = p.1 }) =
        record { onward = zero-le; below = p.2; bit = sym (pair_less p.0 p.1 p.2) ∙ p.4 } in
        sym (pair_here (in_conflict (edge mine) k) n p.0 p.1 p.2 p.3 (here f.0 f.1 at))
    any_by None f = sym (no_pair (in_conflict (edge mine) k) n (none_there f))
