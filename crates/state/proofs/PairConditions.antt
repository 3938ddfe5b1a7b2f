-- The refusals of several pairs: 4 and 5 over all of them are those of the first and of the rest, whichever is tested first. Assumes nothing.
use mathlib.Core.Bool.{Bool, cond, false, true, ◌||◌}
use mathlib.Core.List.{◌++◌, [], append_assoc, append-nil, List, map, ◌∷◌}
use mathlib.Core.Path.{ap, ap₂, refl, subst, sym, ◌∙◌, ◌≡◌}
use Prim.Native.Nat.{◌%◌, ◌<◌, min, suc, zero, ℕ, ◌≤◌}
use native.Mathlib.Decide.{dec_lt, ℕ_discrete}
use native.Mathlib.Omega.{arith}
use borrow.Author.Tests.{eq-eqb, ne_eqb}
use lib.Dec.{eqb, leb}
use Rattle.arith.specs.Sums.{tabulate}
use Rattle.state.proofs.RefusalLaws.{passed_node, refused_node, refused_same}
use Rattle.state.specs.Refusal.{Condition, node_number, pair_conditions, part_record, refusal, same_nodes}
use Rattle.state.specs.Inside.Earlier.{earlier, TwoNodes}

-- ---- the earlier of two refusals

module _ (x y : ℕ) where
  pub earlier_first : (x ≡ 0 → ⊥) → ((y ≡ 0 → ⊥) → x ≤ y) → earlier x y ≡ x
  unfolding earlier
  earlier_first d h = elim (ℕ_discrete y 0) [
    | yes z ↦ rw (ne_eqb x 0 d, eq-eqb y 0 z)
    | no z ↦ rw (ne_eqb x 0 d, ne_eqb y 0 z) (omega (arith, h z))
  ]

  pub earlier_second : ((x ≡ 0 → ⊥) → (0 < y) × (y ≤ x)) → earlier x y ≡ y
  unfolding earlier
  earlier_second h = elim (ℕ_discrete x 0) [
    | yes z ↦ rw (eq-eqb x 0 z)
    | no z ↦ rw (ne_eqb x 0 z, ne_eqb y 0 (λ e. omega (arith, (h z).0))) (omega (arith, (h z).1))
  ]

  -- the lesser where both refuse
  pub earlier_some : (x ≡ 0 → ⊥) → (y ≡ 0 → ⊥) → earlier x y ≡ min x y
  unfolding earlier
  earlier_some d e = rw (ne_eqb x 0 d, ne_eqb y 0 e)

  -- none where neither refuses
  pub earlier_none : earlier x y ≡ 0 → (x ≡ 0) × (y ≡ 0)
  unfolding earlier
  earlier_none e = elim (ℕ_discrete x 0) [
    | yes z ↦ (z, rw (eq-eqb x 0 z) at e)
    | no d ↦ elim (ℕ_discrete y 0) [
      | yes z ↦ absurd (d (rw (ne_eqb x 0 d, eq-eqb y 0 z) at e))
      | no f ↦ let m : min x y ≡ 0 = rw (ne_eqb x 0 d, ne_eqb y 0 f) at e in absurd (omega arith)
    ]
  ]

-- x is no refusal, or k or a later one
abbrev pub From : ℕ → ℕ → Type 0
From k x = (x ≡ 0 → ⊥) → k ≤ x

pub from_none : (k : ℕ) → From k 0
from_none k d = absurd (d refl)

pub from_more : (j : ℕ) (t : Bool) (k x : ℕ) → j ≤ k → From k x → From j (cond t k x)
from_more j true k x h a d = h
from_more j false k x h a d = omega (arith, a d)

-- tests of one number k go before what is from k on
pub earlier_tests : (p q : Bool) (k x y : ℕ) → 0 < k → From k x → From k y → earlier (cond p k x) (cond q k y) ≡ cond (p || q) k (earlier x y)
earlier_tests true true k x y h a b = earlier_first k k (λ z. omega arith) (λ d. omega arith)
earlier_tests true false k x y h a b = earlier_first k y (λ z. omega arith) b
earlier_tests false true k x y h a b = earlier_second x k (λ d. (h, a d))
earlier_tests false false k x y h a b = refl

-- ---- conditions of one number are one test

pub two_tests : (p q : Bool) (k x : ℕ) → cond p k (cond q k x) ≡ cond (p || q) k x
two_tests true q k x = refl
two_tests false q k x = refl

module _ {A : Type 0} where
  abbrev any_in : (A → Bool) → List A → Bool
  any_in f [] = false
  any_in f (x ∷ xs) = f x || any_in f xs

  any_cat : (f : A → Bool) (xs ys : List A) → any_in f (xs ++ ys) ≡ any_in f xs || any_in f ys
  any_cat f [] ys = refl
  any_cat f (x ∷ xs) ys = ap (λ t. f x || t) (any_cat f xs ys) ∙ or_assoc (f x) (any_in f xs) (any_in f ys)
    where
      or_assoc : (a b c : Bool) → a || (b || c) ≡ a || b || c
      or_assoc true b c = refl
      or_assoc false b c = refl

  table : (c : A → Condition) (k : ℕ) (xs : List A) (cs : List Condition) → ((x : A) → (c x).0 ≡ k)
      → refusal (map c xs ++ cs) ≡ cond (any_in (λ x. (c x).1) xs) k (refusal cs)
  unfolding refusal
  table c k [] cs h = refl
  table c k (x ∷ xs) cs h = rw (h x, table c k xs cs h) (two_tests (c x).1 (any_in (λ x. (c x).1) xs) k (refusal cs))

-- ---- 4 and 5 of pairs

-- 4 where p or q applies, 5 where s does, and x where none does
unfoldable tested : Bool → Bool → Bool → ℕ → ℕ
tested p q s x = cond p 4 (cond q 4 (cond s 5 x))

tested_earlier : (p q s p' q' s' : Bool) (x y : ℕ) → From 5 x → From 5 y
    → earlier (tested p q s x) (tested p' q' s' y) ≡ tested (p || p') (q || q') (s || s') (earlier x y)
unfolding tested
tested_earlier p q s p' q' s' x y fx fy =
    let third : (s : Bool) (x : ℕ) → From 5 x → From 4 (cond s 5 x) = λ s x f. from_more 4 s 5 x (omega arith) f in
    let second : (q s : Bool) (x : ℕ) → From 5 x → From 4 (cond q 4 (cond s 5 x)) = λ q s x f. from_more 4 q 4 _ (omega arith) (third s x f) in
    earlier_tests p p' 4 _ _ (omega arith) (second q s x fx) (second q' s' y fy)
    ∙ ap (λ z. cond (p || p') 4 z) (earlier_tests q q' 4 _ _ (omega arith) (third s x fx) (third s' y fy)
    ∙ ap (λ z. cond (q || q') 4 z) (earlier_tests s s' 5 x y (omega arith) fx fy))

tested_passed : (p q s : Bool) (x : ℕ) → tested p q s 0 ≡ 0 → tested p q s x ≡ x
unfolding tested
tested_passed true q s x e = absurd (omega arith)
tested_passed false true s x e = absurd (omega arith)
tested_passed false false true x e = absurd (omega arith)
tested_passed false false false x e = refl

module _ (n : ℕ) where
  abbrev tested_of : List (ℕ × ℕ) → ℕ → ℕ
  tested_of ps x = tested (any_in (λ p. leb n p.0) ps) (any_in (λ p. leb n p.1) ps) (any_in (λ p. eqb p.0 p.1) ps) x

  pairs_tested : (ps : List (ℕ × ℕ)) (cs : List Condition) → refusal (pair_conditions n ps ++ cs) ≡ tested_of ps (refusal cs)
  unfolding pair_conditions node_number same_nodes tested
  pairs_tested ps cs =
      let a : ℕ × ℕ → Condition = λ p. node_number n p.0 in
      let b : ℕ × ℕ → Condition = λ p. node_number n p.1 in
      let same : ℕ × ℕ → Condition = λ p. same_nodes p.0 p.1 in
      let l : List Condition = map same ps ++ cs in
      ap refusal (append_assoc (map a ps ++ map b ps) (map same ps) cs ∙ append_assoc (map a ps) (map b ps) l)
      ∙ table a 4 ps (map b ps ++ l) (λ p. refl)
      ∙ ap (λ x. cond (any_in (λ p. (a p).1) ps) 4 x) (table b 4 ps l (λ p. refl)
      ∙ ap (λ x. cond (any_in (λ p. (b p).1) ps) 4 x) (table same 5 ps cs (λ p. refl)))

  pairs_alone : (ps : List (ℕ × ℕ)) → refusal (pair_conditions n ps) ≡ tested_of ps 0
  unfolding refusal
  pairs_alone ps = ap refusal (sym (append-nil (pair_conditions n ps))) ∙ pairs_tested ps []

  pub pairs_nil : refusal (pair_conditions n []) ≡ 0
  unfolding pair_conditions refusal
  pairs_nil = refl

  pub pair_one : (a b : ℕ) → refusal (pair_conditions n ((a, b) ∷ [])) ≡ refusal (node_number n a ∷ node_number n b ∷ same_nodes a b ∷ [])
  unfolding pair_conditions
  pair_one a b = refl

  -- some pairs and others, each with conditions from 5 on that come after them
  pub pairs_more : (ps qs : List (ℕ × ℕ)) (cs ds es : List Condition) → From 5 (refusal cs) → From 5 (refusal ds)
      → refusal es ≡ earlier (refusal cs) (refusal ds)
      → refusal (pair_conditions n (ps ++ qs) ++ es) ≡ earlier (refusal (pair_conditions n ps ++ cs)) (refusal (pair_conditions n qs ++ ds))
  pairs_more ps qs cs ds es fc fd e =
      let a : ℕ × ℕ → Bool = λ p. leb n p.0 in
      let b : ℕ × ℕ → Bool = λ p. leb n p.1 in
      let same : ℕ × ℕ → Bool = λ p. eqb p.0 p.1 in
      pairs_tested (ps ++ qs) es
      ∙ ap₂ (λ x y. tested x y (any_in same (ps ++ qs)) (refusal es)) (any_cat a ps qs) (any_cat b ps qs)
      ∙ ap₂ (λ x y. tested (any_in a ps || any_in a qs) (any_in b ps || any_in b qs) x y) (any_cat same ps qs) e
      ∙ sym (ap₂ earlier (pairs_tested ps cs) (pairs_tested qs ds) ∙ tested_earlier _ _ _ _ _ _ (refusal cs) (refusal ds) fc fd)

  pub pairs_cat : (ps qs : List (ℕ × ℕ)) → refusal (pair_conditions n (ps ++ qs)) ≡ earlier (refusal (pair_conditions n ps)) (refusal (pair_conditions n qs))
  unfolding refusal
  pairs_cat ps qs =
      let alone : (ps : List (ℕ × ℕ)) → refusal (pair_conditions n ps ++ []) ≡ refusal (pair_conditions n ps) = λ ps. ap refusal (append-nil (pair_conditions n ps)) in
      sym (alone (ps ++ qs)) ∙ pairs_more ps qs [] [] [] (from_none 5) (from_none 5) (sym (earlier_second 0 0 (λ d. absurd (d refl))))
      ∙ ap₂ earlier (alone ps) (alone qs)

  -- pairs that pass leave the rest to decide
  pub pairs_rest : (ps : List (ℕ × ℕ)) (cs : List Condition) → refusal (pair_conditions n ps) ≡ 0 → refusal (pair_conditions n ps ++ cs) ≡ refusal cs
  pairs_rest ps cs e = pairs_tested ps cs ∙ tested_passed _ _ _ (refusal cs) (sym (pairs_alone ps) ∙ e)

  -- and are pairs of nodes
  pair_nodes : (a b : ℕ) → refusal (pair_conditions n ((a, b) ∷ [])) ≡ 0 → TwoNodes n a b
  pair_nodes a b z =
      let e = sym (pair_one a b) ∙ z in
      elim (dec_lt a n) [
        | no h ↦ absurd (omega (arith, refused_node (node_number n b ∷ same_nodes a b ∷ []) n a (omega arith)))
        | yes ha ↦
            let f = sym (passed_node (node_number n b ∷ same_nodes a b ∷ []) n a ha) ∙ e in
            elim (dec_lt b n) [
              | no h ↦ absurd (omega (arith, refused_node (same_nodes a b ∷ []) n b (omega arith)))
              | yes hb ↦
                  let g = sym (passed_node (same_nodes a b ∷ []) n b hb) ∙ f in
                  record { first = ha; second = hb; apart = λ q. absurd (omega (arith, refused_same [] a b q)) }
            ]
      ]

  pub pairs_each : (f : ℕ → ℕ × ℕ) (k : ℕ) → refusal (pair_conditions n (tabulate f k)) ≡ 0 → (i : ℕ) → i < k → TwoNodes n (f i).0 (f i).1
  unfolding tabulate
  pairs_each f zero e i h = absurd (omega arith)
  pairs_each f (suc k) e i h =
      let both = earlier_none _ _ (sym (pairs_cat (tabulate f k) (f k ∷ [])) ∙ e) in
      elim (dec_lt i k) [
        | yes l ↦ pairs_each f k both.0 i l
        | no l ↦ let s : k ≡ i = omega arith in subst (λ m. TwoNodes n (f m).0 (f m).1) s (pair_nodes (f k).0 (f k).1 both.1)
      ]

-- ---- whole records

module _ (cs : List Condition) (required actual : ℕ) where
  pub refused_part : (actual % required ≡ 0 → ⊥) → refusal (part_record required actual ∷ cs) ≡ 14
  unfolding refusal part_record
  refused_part d = rw (ne_eqb (actual % required) 0 d)

  pub passed_part : actual % required ≡ 0 → refusal (part_record required actual ∷ cs) ≡ refusal cs
  unfolding refusal part_record
  passed_part e = rw (eq-eqb (actual % required) 0 e)
