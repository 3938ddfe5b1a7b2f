-- A change made at each pair in bit order is made once at each pair. Assumes nothing.
use mathlib.Core.Bool.{cond, false}
use mathlib.Core.Logic.{inl, inr, ◌≢◌}
use mathlib.Core.Path.{ap, refl, sym, ◌∙◌, ◌≡◌}
use Prim.Native.Nat.{◌+◌, ◌<◌, suc, zero, zero-le, ℕ, ◌≤◌}
use native.Mathlib.Decide.{dec_lt, ℕ_discrete}
use native.Mathlib.Nat.{add-zero, le_refl}
use native.Mathlib.Omega.{arith}
use borrow.Author.Tests.{le-ltb, lt-ltb}
use lib.Dec.{ltb}
use Rattle.arith.proofs.Tests.{test}
use Rattle.ego.proofs.Agreement.{Agree}
use Rattle.ego.proofs.WithPair.{apart_numbers, pair_elsewhere, pair_is}
use Rattle.ego.proofs.Within.{Within}
use Rattle.ego.specs.Change.{with_pair}
use Rattle.ego.specs.Graph.{Graph, Simple}
use Rattle.merge.specs.Reconcile.{over_pairs, over_row}
use Rattle.packed.proofs.PairLaws.{pair_comm, pair_inj, pair_less, pair_lt, pairs_suc}
use Rattle.packed.specs.Pairs.{pair_count, pair_index}

-- the pairs numbered below i as in `new`, the others as in `old`
unfoldable pub halfway : Graph → Graph → ℕ → Graph
halfway new old i x y = cond (ltb (pair_index x y) i) (new x y) (old x y)

module _ (new old : Graph) (i x y : ℕ) where
  is_new : pair_index x y < i → halfway new old i x y ≡ new x y
  unfolding halfway
  is_new h = rw (lt-ltb (pair_index x y) i h)

  is_old : i ≤ pair_index x y → halfway new old i x y ≡ old x y
  unfolding halfway
  is_old h = rw (le-ltb (pair_index x y) i h)

-- it lies within each graph that both lie within
pub halfway_within : {n : ℕ} {new old g : Graph} (i : ℕ) → Within n new g → Within n old g → Within n (halfway new old i) g
unfolding halfway
halfway_within i w v a b ha hb t = elim (test (ltb (pair_index a b) i)) [
  | inl e ↦ w a b ha hb (rw e at t)
  | inr e ↦ v a b ha hb (rw e at t)
]

-- the pair that comes next is still as in `old`
pub halfway_next : (new old : Graph) (a b : ℕ) → a < b → halfway new old (pair_count b + a) a b ≡ old a b
halfway_next new old a b h = is_old new old (pair_count b + a) a b (omega (arith, pair_less a b h))

module _ (new old : Graph) (fresh : Simple new) (past : Simple old) where
  no_loop : (i x y : ℕ) → x ≡ y → halfway new old i x y ≡ false
  no_loop i x y e = elim (dec_lt (pair_index x y) i) [
    | yes h ↦ is_new new old i x y h ∙ rw e (fresh.loopless y)
    | no h ↦ is_old new old i x y (omega arith) ∙ rw e (past.loopless y)
  ]

  -- one pair more
  halfway_more : (a b i x y : ℕ) → a < b → pair_index a b ≡ i → halfway new old (suc i) x y ≡ with_pair (halfway new old i) a b (new a b) x y
  halfway_more a b i x y h e = elim (ℕ_discrete x y) [
    | yes q ↦ no_loop (suc i) x y q ∙ sym (pair_elsewhere (halfway new old i) a b (new a b) x y (λ p r. omega arith) (λ p r. omega arith) ∙ no_loop i x y q)
    | no d ↦ pair_is (halfway new old i) (halfway new old (suc i)) a b (new a b) x y
        (λ p r. rw (p, r) (is_new new old (suc i) a b (omega arith)))
        (λ p r. rw (p, r) (is_new new old (suc i) b a (omega (arith, pair_comm a b)) ∙ fresh.symmetric b a))
        (λ p r. kept d (λ q. let t = pair_inj x y a b d (λ u. omega arith) (q ∙ sym e) in apart_numbers a b x y p r t.0 t.1))
  ]
    where
      kept : x ≢ y → pair_index x y ≢ i → halfway new old (suc i) x y ≡ halfway new old i x y
      kept d q = elim (dec_lt (pair_index x y) i) [
        | yes l ↦ is_new new old (suc i) x y (omega arith) ∙ sym (is_new new old i x y l)
        | no l ↦ is_old new old (suc i) x y (omega arith) ∙ sym (is_old new old i x y (omega arith))
      ]

  module _ {A : Type 0} (n : ℕ) (P : Graph → A → Type 0) (agree : (g g' : Graph) (s : A) → Agree n g g' → P g s → P g' s) (change : ℕ → ℕ → A → A)
      (pair_done : (a b : ℕ) → a < b → b < n → (g : Graph) (s : A) → g a b ≡ old a b → P g s → P (with_pair g a b (new a b)) (change a b s)) where
    row : (a b : ℕ) (s : A) → a ≤ b → b < n → P (halfway new old (pair_count b)) s → P (halfway new old (pair_count b + a)) (over_row change b a s)
    unfolding over_row
    row zero b s h l p = rw add-zero p
    row (suc a) b s h l p =
        let i : ℕ = pair_count b + a in
        let e = pair_less a b h in
        agree _ _ _ (λ x y hx hy. sym (halfway_more a b i x y h e) ∙ ap (λ j. halfway new old j x y) (omega arith))
        (pair_done a b h l (halfway new old i) _ (is_old new old i a b (omega arith)) (row a b s (omega arith) l p))

    rows : (b : ℕ) (s : A) → b ≤ n → P old s → P (halfway new old (pair_count b)) (over_pairs change b s)
    unfolding over_pairs pair_count
    rows zero s h p = agree _ _ _ (λ x y hx hy. sym (is_old new old 0 x y zero-le)) p
    rows (suc b) s h p = rw (pairs_suc b) (row b b (over_pairs change b s) (le_refl b) h (rows b s (omega arith) p))

    pub over_pairs_lem : (s : A) → P old s → P new (over_pairs change n s)
    over_pairs_lem s p = agree _ _ _ (λ x y hx hy. elim (ℕ_discrete x y) [
      | yes e ↦ no_loop (pair_count n) x y e ∙ sym (rw e (fresh.loopless y))
      | no d ↦ is_new new old (pair_count n) x y (pair_lt x y n d hx hy)
    ]) (rows n s (le_refl n) p)

    -- ON THE WAY, after the rows before b and the first a pairs of b
    pub over_some : (a b : ℕ) (s : A) → a ≤ b → b < n → P old s → P (halfway new old (pair_count b + a)) (over_row change b a (over_pairs change b s))
    over_some a b s h l p = row a b (over_pairs change b s) h l (rows b s (omega arith) p)

    -- another change that does the same wherever the pair still is as in `old`
    module _ (other : ℕ → ℕ → A → A)
        (same : (a b : ℕ) → a < b → b < n → (g : Graph) (s : A) → g a b ≡ old a b → P g s → other a b s ≡ change a b s) where
      row_same : (a b : ℕ) (s : A) → a ≤ b → b < n → P (halfway new old (pair_count b)) s → over_row other b a s ≡ over_row change b a s
      unfolding over_row
      row_same zero b s h l p = refl
      row_same (suc a) b s h l p =
          let i : ℕ = pair_count b + a in
          let e = pair_less a b h in
          ap (other a b) (row_same a b s (omega arith) l p)
          ∙ same a b h l (halfway new old i) _ (is_old new old i a b (omega arith)) (row a b s (omega arith) l p)

      rows_same : (b : ℕ) (s : A) → b ≤ n → P old s → over_pairs other b s ≡ over_pairs change b s
      unfolding over_pairs
      rows_same zero s h p = refl
      rows_same (suc b) s h p =
          ap (over_row other b b) (rows_same b s (omega arith) p) ∙ row_same b b (over_pairs change b s) (le_refl b) h (rows b s (omega arith) p)

      pub over_same : (s : A) → P old s → over_pairs other n s ≡ over_pairs change n s
      over_same s p = rows_same n s (le_refl n) p

-- what two changes keep at each pair a < b < n they keep over all these pairs
module _ {A : Type 0} (n : ℕ) (R : A → A → Type 0) (f g : ℕ → ℕ → A → A)
    (keeps : (a b : ℕ) → a < b → b < n → (s t : A) → R s t → R (f a b s) (g a b t)) where
  row_both : (a b : ℕ) (s t : A) → a ≤ b → b < n → R s t → R (over_row f b a s) (over_row g b a t)
  unfolding over_row
  row_both zero b s t h l r = r
  row_both (suc a) b s t h l r = keeps a b h l _ _ (row_both a b s t (omega arith) l r)

  pub rows_both : (b : ℕ) (s t : A) → b ≤ n → R s t → R (over_pairs f b s) (over_pairs g b t)
  unfolding over_pairs
  rows_both zero s t h r = r
  rows_both (suc b) s t h r = row_both b b _ _ (le_refl b) h (rows_both b s t (omega arith) r)
