-- Scores, bounds and degrees depend on the edges among the nodes below n alone. Assumes nothing.
use mathlib.Core.List.Memᴰ
use mathlib.Core.List.{Memᴰ}
use mathlib.Core.Logic.{inl, inr}
use mathlib.Core.Path.{sym, ◌∙◌, ◌≡◌}
use Prim.Native.Nat.{◌<◌, ℕ}
use native.Mathlib.Nat.{zero-add}
use Rattle.arith.proofs.Filter.{mem_filter}
use Rattle.arith.proofs.Range.{mem_range}
use Rattle.arith.proofs.Sums.{count_to_ext}
use Rattle.arith.specs.Lists.{range}
use Rattle.ego.proofs.FoundLaws.{degree_is}
use Rattle.ego.proofs.Local.{bound_same, score_same}
use Rattle.ego.specs.Bound.{bound}
use Rattle.ego.specs.Graph.{degree, ego, Graph, neighbours}
use Rattle.ego.specs.Score.{score}

-- two graphs have the same edges among the nodes below n
abbrev pub Agree : ℕ → Graph → Graph → Type 0
Agree n g g' = (a b : ℕ) → a < n → b < n → g a b ≡ g' a b

pub agree_sym : {n : ℕ} {g g' : Graph} → Agree n g g' → Agree n g' g
agree_sym h a b ha hb = sym (h a b ha hb)

pub agree_trans : {n : ℕ} {f g h : Graph} → Agree n f g → Agree n g h → Agree n f h
agree_trans p q a b ha hb = p a b ha hb ∙ q a b ha hb

module _ {g g' : Graph} (n p : ℕ) (hp : p < n) (same : Agree n g g') where
  ego_below : (a : ℕ) → Memᴰ a (ego g n p) → a < n
  unfolding ego neighbours
  ego_below a m = elim (Memᴰ.cases_cons m) [
    | inl e ↦ rw e hp
    | inr i ↦ rw zero-add at (mem_range 0 n (mem_filter (g p) (range 0 n) i).0).1
  ]

  pub score_agree : score g n p ≡ score g' n p
  score_agree = score_same g g' n p (λ q. same p q hp) (λ a b i j. same a b (ego_below a i) (ego_below b j))

  pub bound_agree : bound g n p ≡ bound g' n p
  bound_agree = bound_same g g' n p (λ q. same p q hp) (λ a b i j. same a b (ego_below a i) (ego_below b j))

  pub degree_agree : degree g n p ≡ degree g' n p
  degree_agree = degree_is g n p ∙ count_to_ext (g p) (g' p) n (λ q. same p q hp) ∙ sym (degree_is g' n p)
