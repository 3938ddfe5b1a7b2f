-- The best of each block of nodes, and of these the best: it is what is next. Assumes nothing.
use mathlib.Core.Bool.{false, true}
use mathlib.Core.List.{List}
use mathlib.Core.Logic.{inl, inr, ◌≢◌}
use mathlib.Core.Path.{ap, ap₂, refl, subst, sym, ◌∙◌, ◌≡◌}
use Prim.Native.Nat.{◌*◌, ◌+◌, ◌-◌, ◌/◌, ◌<◌, min, suc, zero, ℕ, ◌≤◌}
use native.Mathlib.Decide.{ℕ_discrete}
use native.Mathlib.Nat.{add-suc, add-zero, le_refl}
use native.Mathlib.Numerals.{add-one}
use native.Mathlib.Omega.{arith}
use borrow.Author.Tests.{eq-eqb, ne_eqb}
use Rattle.std.specs.Prelude.{Option}
use lib.ListN.{get_or, length, length-set, set}
use lib.Seq.{get_or-set_other, get_or-set_same}
use Rattle.arith.proofs.Tests.{test}
use Rattle.topk.proofs.NextLaws.{figure_of, Free, next_of_node, next_of_none, Taken}
use Rattle.topk.proofs.Order.{ahead_ahead, behind_behind}
use Rattle.topk.specs.Entries.{ranks_before}
use Rattle.topk.specs.Steps.{at, best_below, better, Next, nothing, Progress}
use Rattle.topk.specs.Inside.Next.{best_from, best_head, block_nodes, blocks_for, block_size, first_of, Found, head_of, HeadAt, HeadsAre, HeadsBut, looking, Names, next, next_of, node_of}

-- ---- of two, the one that ranks first

pub first_none : (F : List ℕ) (x : Next) → first_of F x nothing ≡ x
unfolding first_of
first_none F nothing = refl
first_none F (at a) = refl

module _ (F : List ℕ) where
  first_three : (a b c : ℕ) → first_of F (first_of F (at a) (at b)) (at c) ≡ first_of F (at a) (first_of F (at b) (at c))
  unfolding first_of
  first_three a b c =
      let x = figure_of F a in
      let y = figure_of F b in
      let z = figure_of F c in
      elim (test (ranks_before y x)) [
        | inl s ↦ elim (test (ranks_before z y)) [ inl t ↦ rw (s, t, ahead_ahead z y x t s) | inr t ↦ rw (s, t, s) ]
        | inr s ↦ elim (test (ranks_before z y)) [ inl t ↦ rw (s, t) | inr t ↦ rw (s, t, s, behind_behind x y z s t) ]
      ]

  pub first_assoc : (x y z : Next) → first_of F (first_of F x y) z ≡ first_of F x (first_of F y z)
  unfolding first_of
  first_assoc nothing y z = refl
  first_assoc (at a) nothing z = refl
  first_assoc (at a) (at b) nothing = first_none F (first_of F (at a) (at b))
  first_assoc (at a) (at b) (at c) = first_three a b c

-- what the code answers of two numbers
module _ (F : List ℕ) (a b : ℕ) where
  abbrev named : ℕ → Next
  named p = next_of (length F) p

  abbrev best : Next
  best = first_of F (named a) (named b)

  pub second_none : length F ≤ b → named a ≡ best
  second_none h = rw (next_of_none {n = length F} h, first_none)

  pub first_is_none : length F ≤ a → named b ≡ best
  unfolding first_of
  first_is_none h = rw (next_of_none {n = length F} h)

  module _ (h : a < length F) (l : b < length F) where
    pub second_first : ranks_before (figure_of F b) (figure_of F a) ≡ true → named b ≡ best
    unfolding first_of
    second_first t = rw (next_of_node h, next_of_node l, t)

    pub second_after : ranks_before (figure_of F b) (figure_of F a) ≡ false → named a ≡ best
    unfolding first_of
    second_after t = rw (next_of_node h, next_of_node l, t)

module _ (s : Progress) (i : ℕ) where
  pub better_first : (x : Next) → Free s.taken i → better s x i ≡ first_of s.figures x (at i)
  unfolding better first_of
  better_first nothing h = rw (eq-eqb _ _ h)
  better_first (at b) h = rw (eq-eqb _ _ h)

  pub better_skips : (x : Next) → Taken s.taken i → better s x i ≡ x
  unfolding better
  better_skips nothing h = rw (ne_eqb _ _ h)
  better_skips (at b) h = rw (ne_eqb _ _ h)

-- the best below a, and the best of the m nodes after it
pub best_join : (s : Progress) (a m : ℕ) → best_below s (a + m) ≡ first_of s.figures (best_below s a) (best_from s a m)
unfolding best_from best_below
best_join s a zero = ap (best_below s) (add-zero a) ∙ sym (first_none s.figures (best_below s a))
best_join s a (suc m) =
    let F = s.figures in
    let x = best_below s a in
    let y = best_from s a m in
    ap (best_below s) (add-suc a m) ∙ ap (λ (z : Next). better s z (a + m)) (best_join s a m) ∙ elim (ℕ_discrete (get_or s.taken (a + m) 0) 0) [
      | yes z ↦
          better_first s (a + m) (first_of F x y) z ∙ first_assoc F x y (at (a + m)) ∙ ap (first_of F x) (sym (better_first s (a + m) y z))
      | no z ↦ better_skips s (a + m) (first_of F x y) z ∙ ap (first_of F x) (sym (better_skips s (a + m) y z))
    ]

-- ---- the best of some nodes, one more in each turn

pub best_of_none : (s : Progress) (n a i : ℕ) → i ≡ a → next_of n n ≡ best_from s a (i - a)
unfolding best_from
best_of_none s n a i e = let z : i - a ≡ 0 = omega arith in rw z (next_of_none (le_refl n))

pub best_of_more : (s : Progress) (n a i best r : ℕ) → a ≤ i → next_of n best ≡ best_from s a (i - a) → next_of n r ≡ better s (next_of n best) i
    → next_of n r ≡ best_from s a (i + 1 - a)
unfolding best_from
best_of_more s n a i best r l e f =
    let more : i + 1 - a ≡ suc (i - a) = omega arith in
    let here : i ≡ a + (i - a) = omega arith in
    f ∙ ap (λ (x : Next). better s x i) e ∙ ap (better s (best_from s a (i - a))) here ∙ ap (best_from s a) (sym more)

pub head_done : (s : Progress) (b i : ℕ) → i ≡ min (block_size * b + block_size) (length s.figures) → best_from s (block_size * b) (i - block_size * b) ≡ head_of s b
unfolding head_of
head_done s b i e =
    let m : i - block_size * b ≡ block_nodes (length s.figures) b = omega arith in
    ap (best_from s (block_size * b)) m

-- a head put in its place: it stands there, and the others as they did
pub head_put : (s : Progress) (H : List ℕ) (b r : ℕ) → b < length H → Names (length s.figures) (head_of s b) r → (c : ℕ) → (c ≢ b → HeadAt s H c)
    → HeadAt s (set H b r) c
head_put s H b r l h c others = elim (ℕ_discrete c b) [
  | yes e ↦ subst (HeadAt s (set H b r)) (sym e) (subst (Names (length s.figures) (head_of s b)) (sym (get_or-set_same H b r 0 l)) h)
  | no d ↦ subst (Names (length s.figures) (head_of s c)) (sym (get_or-set_other H b c r 0 d)) (others d)
]

-- ---- the best of the heads, one more in each turn

pub best_head_none : (F H : List ℕ) → next_of (length F) (length F) ≡ best_head F H 0
unfolding best_head
best_head_none F H = next_of_none (le_refl (length F))

pub best_head_more : (F H : List ℕ) (b best r : ℕ) → next_of (length F) best ≡ best_head F H b
    → next_of (length F) r ≡ first_of F (next_of (length F) best) (next_of (length F) (get_or H b 0)) → next_of (length F) r ≡ best_head F H (b + 1)
unfolding best_head
best_head_more F H b best r e f = rw add-one (f ∙ ap (λ (x : Next). first_of F x (next_of (length F) (get_or H b 0))) e)

module _ (F T H : List ℕ) (heads : HeadsAre (looking F T) H) where
  abbrev n : ℕ
  n = length F

  abbrev s : Progress
  s = looking F T

  heads_below : (m : ℕ) → m ≤ blocks_for n → best_head F H m ≡ best_below s (min (block_size * m) n)
  unfolding best_head best_below head_of
  heads_below zero l = let e : 0 ≡ min (block_size * 0) n = omega arith in ap (best_below s) e
  heads_below (suc m) l =
      let a : min (block_size * m) n ≡ block_size * m = omega arith in
      let b : block_size * m + block_nodes n m ≡ min (block_size * suc m) n = omega arith in
      ap₂ (first_of F) (heads_below m (omega arith) ∙ ap (best_below s) a) (heads m l).named
      ∙ sym (best_join s (block_size * m) (block_nodes n m))
      ∙ ap (best_below s) b

  pub heads_next : best_head F H (blocks_for n) ≡ next s
  unfolding next
  heads_next = let e : min (block_size * blocks_for n) n ≡ n = omega arith in heads_below (blocks_for n) (le_refl (blocks_for n)) ∙ ap (best_below s) e

  pub next_named : {p : Option ℕ} → Found n (best_head F H (blocks_for n)) p → node_of p ≡ next s
  next_named h = h.named ∙ heads_next

-- ---- what the best of some nodes depends on

-- it is one of the m nodes from a on
abbrev Within : ℕ → ℕ → Next → Type 0
Within a m nothing = Unit {0}
Within a m (at b) = (a ≤ b) × (b < a + m)

module _ (s s' : Progress) (a : ℕ) where
  -- the two agree on node i
  abbrev Agree : ℕ → Type 0
  Agree i = (get_or s.taken i 0 ≡ get_or s'.taken i 0) × (get_or s.figures i 0 ≡ get_or s'.figures i 0)

  better_within : (m : ℕ) (x : Next) → Within a m x → Within a (suc m) (better s x (a + m))
  unfolding first_of
  better_within m x h = elim (ℕ_discrete (get_or s.taken (a + m) 0) 0) [
    | yes z ↦ subst (Within a (suc m)) (sym (better_first s (a + m) x z)) (first x h)
    | no z ↦ subst (Within a (suc m)) (sym (better_skips s (a + m) x z)) (more x h)
  ]
    where
      more : (x : Next) → Within a m x → Within a (suc m) x
      more nothing h = tt
      more (at b) h = (h.0, omega (arith, h.1))

      first : (x : Next) → Within a m x → Within a (suc m) (first_of s.figures x (at (a + m)))
      first nothing h = (omega arith, omega arith)
      first (at b) h = elim (test (ranks_before (figure_of s.figures (a + m)) (figure_of s.figures b))) [
        | inl t ↦ rw t (omega arith, omega arith)
        | inr t ↦ rw t (more (at b) h)
      ]

  best_within : (m : ℕ) → Within a m (best_from s a m)
  unfolding best_from
  best_within zero = tt
  best_within (suc m) = better_within m (best_from s a m) (best_within m)

  better_agree : (m : ℕ) (x : Next) → Within a m x → ((i : ℕ) → a ≤ i → i < a + suc m → Agree i) → better s x (a + m) ≡ better s' x (a + m)
  unfolding better
  better_agree m nothing h agree = let here = agree (a + m) (omega arith) (omega arith) in rw here.0
  better_agree m (at b) h agree =
      let here = agree (a + m) (omega arith) (omega arith) in
      let there = agree b h.0 (omega (arith, h.1)) in
      rw (here.0, here.1, there.1)

  pub best_agree : (m : ℕ) → ((i : ℕ) → a ≤ i → i < a + m → Agree i) → best_from s a m ≡ best_from s' a m
  unfolding best_from
  best_agree zero agree = refl
  best_agree (suc m) agree =
      better_agree m (best_from s a m) (best_within m) agree
      ∙ ap (λ (x : Next). better s' x (a + m)) (best_agree m (λ i k l. agree i k (omega arith)))

-- when node p is taken, the heads of the other blocks are as they were
pub heads_took : (F T H : List ℕ) (p w : ℕ) → HeadsAre (looking F T) H → HeadsBut (looking (set F p w) (set T p 1)) H (p / block_size)
unfolding head_of
heads_took F T H p w heads b l d =
    let n : length (set F p w) ≡ length F = length-set F p w in
    let h = heads b (omega (arith, n)) in
    let same = best_agree (looking F T) (looking (set F p w) (set T p 1)) (block_size * b) (block_nodes (length F) b) (λ i k m.
    let other : i ≢ p = λ e. d (omega arith) in
    (sym (get_or-set_other T p i 1 0 other), sym (get_or-set_other F p i w 0 other))) in
    rw n (record { within = h.within; named = h.named ∙ same })
