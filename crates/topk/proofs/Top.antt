-- The first k of all nodes by score, then lower number: by what holds of them, and by sorting. Assumes nothing.
use mathlib.Core.Bool.{true≢false}
use mathlib.Core.List.{[], List, ◌∷◌}
use mathlib.Core.Logic.{inl, inr, ◌⊎◌, ⊎_elim}
use mathlib.Core.Path.{ap, ap₂, refl, subst, sym, ◌∙◌, ◌≡◌}
use Prim.Native.Nat.{◌<◌, min, suc, zero, ℕ}
use native.Mathlib.Decide.{ℕ_discrete}
use native.Mathlib.Omega.{arith}
use lib.ListN.{length, length-take, take}
use Rattle.topk.proofs.Order.{Ahead, ahead_asym, Behind, behind_flip, behind_self}
use Rattle.topk.proofs.Sort.{All_in, All-map, All_of, All-take, In, in_insert, in_old, in_or_out, insert_all, insert_sorted, length_insert, Pairwise-take, Sorted}
use Rattle.topk.specs.Entries.{Entry, entry, insert}
use Rattle.topk.specs.Ranking.{ranking}
use Rattle.topk.specs.Inside.Layout.{All}

-- xs has the first of the entries that P holds of: it is sorted, and each entry outside it ranks after all of it
pub record First (P : Entry → Type 0) (xs : List Entry) : Type 0 where
  pub sorted : Sorted xs
  pub real : All P xs
  pub rest : (y : Entry) → P y → In y xs ⊎ All (λ x. Ahead x y) xs

-- both ways round: there is no such
clash : (x y : Entry) → Ahead x y → Ahead y x → ⊥
clash x y p q = true≢false (sym q ∙ ahead_asym x y p)

head_is : (P : Entry → Type 0) (x : Entry) (xs : List Entry) (y : Entry) → First P (x ∷ xs) → P y → (x ≡ y) ⊎ Ahead x y
head_is P x xs y t p =
    ⊎_elim (λ i. ⊎_elim (λ q. inl q) (λ j. inr (All_in (Ahead x) xs y t.sorted.0 j)) i) (λ a. inr a.0) (t.rest y p)

tail_first : (P : Entry → Type 0) (x : Entry) (xs : List Entry) → First P (x ∷ xs) → First (λ y. P y × Ahead x y) xs
tail_first P x xs t = record {
  sorted = t.sorted.1;
  real = All_of (λ y. P y × Ahead x y) xs (λ y i. (All_in P xs y t.real.1 i, All_in (Ahead x) xs y t.sorted.0 i));
  rest = λ y p. ⊎_elim (λ i. ⊎_elim (λ q. absurd (true≢false (sym (subst (Ahead x) (sym q) p.1) ∙ behind_self x))) (λ j. inl j) i)
      (λ a. inr a.1) (t.rest y p.0);
}

-- two such lists of one length are one list
pub firsts_unique : (P : Entry → Type 0) (xs ys : List Entry) → length xs ≡ length ys → First P xs → First P ys → xs ≡ ys
firsts_unique P [] [] l s t = refl
firsts_unique P [] (y ∷ ys) l s t = absurd (omega arith)
firsts_unique P (x ∷ xs) [] l s t = absurd (omega arith)
firsts_unique P (x ∷ xs) (y ∷ ys) l s t =
    let e : x ≡ y = ⊎_elim (λ q. q) (λ b. ⊎_elim (λ q. sym q) (λ c. absurd (clash x y b c)) (head_is P y ys x t s.real.0))
    (head_is P x xs y s t.real.0) in
    let t' : First (λ z. P z × Ahead x z) ys = subst (λ (w : Entry). First (λ z. P z × Ahead w z) ys) (sym e) (tail_first P y ys t) in
    ap₂ {C = List Entry} (λ a r. a ∷ r) e (firsts_unique (λ z. P z × Ahead x z) xs ys (omega arith) (tail_first P x xs s) t')

-- node q with its score
abbrev pub scored : (ℕ → ℕ) → ℕ → Entry
scored T q = entry q (T q)

-- a node of n with its score
abbrev pub Node : (ℕ → ℕ) → ℕ → Entry → Type 0
Node T n x = (x.node < n) × (x ≡ scored T x.node)

length_ranking : (T : ℕ → ℕ) (n : ℕ) → length (ranking T n) ≡ n
unfolding ranking
length_ranking T zero = refl
length_ranking T (suc n) = length_insert (scored T n) (ranking T n) ∙ ap suc (length_ranking T n)

ranking_real : (T : ℕ → ℕ) (n : ℕ) → All (Node T n) (ranking T n)
unfolding ranking
ranking_real T zero = tt
ranking_real T (suc n) =
    insert_all (Node T (suc n)) (scored T n) (ranking T n) (omega arith, refl)
    (All-map {P = Node T n} {Q = Node T (suc n)} (λ x r. (omega arith, r.1)) (ranking T n) (ranking_real T n))

ranking_sorted : (T : ℕ → ℕ) (n : ℕ) → Sorted (ranking T n)
unfolding ranking
ranking_sorted T zero = tt
ranking_sorted T (suc n) =
    insert_sorted (scored T n) (ranking T n)
    (All-map {P = Node T n} {Q = λ x. Behind (scored T n) x → Ahead x (scored T n)}
    (λ x r. behind_flip (scored T n) x (λ (c : n ≡ x.node). omega arith)) (ranking T n) (ranking_real T n))
    (ranking_sorted T n)

ranking_has : (T : ℕ → ℕ) (n q : ℕ) → q < n → In (scored T q) (ranking T n)
unfolding ranking
ranking_has T zero q l = absurd (omega arith)
ranking_has T (suc n) q l = go (ℕ_discrete q n) (ranking_has T n q)
  where
    go : Dec (q ≡ n) → (q < n → In (scored T q) (ranking T n)) → In (scored T q) (insert (scored T n) (ranking T n))
    go (yes e) ih = subst (λ (m : ℕ). In (scored T m) (insert (scored T n) (ranking T n))) (sym e) (in_insert (scored T n) (ranking T n))
    go (no d) ih = in_old (scored T q) (scored T n) (ranking T n) (ih (omega arith))

pub top_first : (T : ℕ → ℕ) (k n : ℕ) → First (Node T n) (take k (ranking T n))
top_first T k n = record {
  sorted = Pairwise-take Ahead k (ranking T n) (ranking_sorted T n);
  real = All-take (Node T n) k (ranking T n) (ranking_real T n);
  rest = λ y p. subst (λ (z : Entry). In z (take k (ranking T n)) ⊎ All (λ x. Ahead x z) (take k (ranking T n))) (sym p.1)
      (⊎_elim (λ i. inl i) (λ o. inr o.1) (in_or_out k (ranking T n) (scored T y.node) (ranking_sorted T n) (ranking_has T n y.node p.0)));
}

pub length_top : (T : ℕ → ℕ) (k n : ℕ) → length (take k (ranking T n)) ≡ min n k
length_top T k n = length-take k (ranking T n) ∙ rw (length_ranking T n) (omega arith)
