-- What comes next: the first by rank among the nodes that are not taken. Assumes nothing.
use mathlib.Core.List.{List}
use mathlib.Core.Logic.{inl, inr}
use mathlib.Core.Path.{ap, refl, subst, sym, ◌∙◌, ◌≡◌}
use Prim.Native.Nat.{◌<◌, suc, zero, ℕ, ◌≤◌}
use native.Mathlib.Decide.{dec_lt, ℕ_discrete}
use native.Mathlib.Omega.{arith}
use borrow.Author.Tests.{eq-eqb, le-ltb, lt-ltb, ne_eqb}
use lib.ListN.{get_or, length}
use Rattle.std.proofs.Common.{None, Option, Some}
use Rattle.arith.proofs.Tests.{test}
use Rattle.topk.proofs.Order.{ahead_asym, ahead_behind, Behind, behind_self}
use Rattle.topk.specs.Entries.{Entry, entry, ranks_before}
use Rattle.topk.specs.Steps.{at, best_below, better, Next, nothing, Progress, stored}
use Rattle.topk.specs.Inside.Next.{looking, next, next_of, node_of}

-- node q with its figure in F
abbrev pub figure_of : List ℕ → ℕ → Entry
figure_of F q = entry q (get_or F q 0)

abbrev pub Free : List ℕ → ℕ → Type 0
Free S q = get_or S q 0 ≡ 0

abbrev pub Taken : List ℕ → ℕ → Type 0
Taken S q = get_or S q 0 ≡ 0 → ⊥

-- no other node below i that is not taken ranks before it
abbrev pub IsBest : Progress → ℕ → Next → Type 0
IsBest s i nothing = (q : ℕ) → q < i → Free s.taken q → ⊥
IsBest s i (at b) = (b < i) × Free s.taken b × ((q : ℕ) → q < i → Free s.taken q → Behind (stored s q) (stored s b))

module _ (s : Progress) (i : ℕ) where
  -- what holds of the nodes below i and of i holds of those below i + 1
  one_more : (P : ℕ → Type 0) → ((q : ℕ) → q < i → P q) → P i → (q : ℕ) → q < suc i → P q
  one_more P f z q l = elim (ℕ_discrete q i) [ yes e ↦ subst P (sym e) z | no d ↦ f q (omega arith) ]

  better_free : (x : Next) → IsBest s i x → Free s.taken i → IsBest s (suc i) (better s x i)
  unfolding better
  better_free nothing h z =
      rw (eq-eqb _ _ z) (
        omega arith,
        z,
        one_more (λ q. Free s.taken q → Behind (stored s q) (stored s i)) (λ q l f. absurd (h q l f)) (λ f. behind_self (stored s i)),
      )
  better_free (at b) h z = elim (test (ranks_before (stored s i) (stored s b))) [
    | inl t ↦ rw (eq-eqb _ _ z, t) (
      omega arith,
      z,
      one_more (λ q. Free s.taken q → Behind (stored s q) (stored s i))
          (λ q l f. ahead_asym (stored s i) (stored s q) (ahead_behind (stored s i) (stored s b) (stored s q) t (h.2 q l f))) (λ f. behind_self (stored s i)),
    )
    | inr t ↦ rw (eq-eqb _ _ z, t) (omega (arith, h.0), h.1, one_more (λ q. Free s.taken q → Behind (stored s q) (stored s b)) h.2 (λ f. t))
  ]

  better_taken : (x : Next) → IsBest s i x → Taken s.taken i → IsBest s (suc i) (better s x i)
  unfolding better
  better_taken nothing h z = rw (ne_eqb _ _ z) (one_more (λ q. Free s.taken q → ⊥) h z)
  better_taken (at b) h z =
      rw (ne_eqb _ _ z) (omega (arith, h.0), h.1, one_more (λ q. Free s.taken q → Behind (stored s q) (stored s b)) h.2 (λ f. absurd (z f)))

pub is_best : (s : Progress) (i : ℕ) → IsBest s i (best_below s i)
unfolding best_below
is_best s zero = λ q l f. absurd (omega arith)
is_best s (suc i) = elim (ℕ_discrete (get_or s.taken i 0) 0) [
  | yes z ↦ better_free s i (best_below s i) (is_best s i) z
  | no z ↦ better_taken s i (best_below s i) (is_best s i) z
]

-- so of all nodes
pub next_best : (s : Progress) → IsBest s (length s.figures) (next s)
unfolding next
next_best s = is_best s (length s.figures)

-- ---- what the code answers: a number below n, or n

pub next_of_node : {n p : ℕ} → p < n → next_of n p ≡ at p
unfolding next_of
next_of_node h = rw (lt-ltb _ _ h)

pub next_of_none : {n p : ℕ} → n ≤ p → next_of n p ≡ nothing
unfolding next_of
next_of_none h = rw (le-ltb _ _ h)

-- the number that the code answers for what is next
abbrev number_of : ℕ → Next → ℕ
number_of n nothing = n
number_of n (at p) = p

number_of_lem : {n p : ℕ} → p ≤ n → number_of n (next_of n p) ≡ p
number_of_lem {n} {p} h = elim (dec_lt p n) [
  | yes l ↦ rw (next_of_node l)
  | no l ↦ rw (next_of_none {n = n} {p = p} (omega arith)) (omega arith)
]

-- so what is next fixes the number
pub next_unique : {n p q : ℕ} → p ≤ n → q ≤ n → next_of n p ≡ next_of n q → p ≡ q
next_unique {n} h l e = sym (number_of_lem h) ∙ ap (number_of n) e ∙ number_of_lem l

-- and the node, if there is one
abbrev as_option : Next → Option ℕ
as_option nothing = None
as_option (at p) = Some p

as_option_lem : (r : Option ℕ) → as_option (node_of r) ≡ r
as_option_lem None = refl
as_option_lem (Some p) = refl

pub node_unique : {r s : Option ℕ} → node_of r ≡ node_of s → r ≡ s
node_unique {r} {s} e = sym (as_option_lem r) ∙ ap as_option e ∙ as_option_lem s

-- what is next goes by the figures and the taken nodes alone
pub best_looking : (s : Progress) (i : ℕ) → best_below (looking s.figures s.taken) i ≡ best_below s i
unfolding best_below better
best_looking s zero = refl
best_looking s (suc i) = ap (λ (x : Next). better (looking s.figures s.taken) x i) (best_looking s i) ∙ same (best_below s i)
  where
    same : (x : Next) → better (looking s.figures s.taken) x i ≡ better s x i
    same nothing = refl
    same (at b) = refl
