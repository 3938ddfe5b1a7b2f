-- The laws of a change: its two forms, that it fits 64 bits, its sign, that it is the difference of two scores, and its negation. Assumes nothing.
use mathlib.Core.List.{◌++◌, [], map, map-append, ◌∷◌}
use mathlib.Core.Logic.{◌↔◌}
use mathlib.Core.Path.{◌≡◌, refl, sym, ap, ◌∙◌}
use Prim.Native.Nat.{ℕ, zero, suc, ◌+◌, ◌-◌, ◌≤◌, ◌<◌, ◌^◌}
use native.Mathlib.Decide.{dec_lt}
use native.Mathlib.Omega.{arith}
use Rattle.std.proofs.lemmas.Int.{ints}
use borrow.Author.Tests.{lt-ltb, le-ltb}
use lib.Dec.{ltb→lt, lt→ltb}
use lib.IntN.{pos, negsuc, neg_ℤ, ◌-ℤ◌}
use lib.Signed.{◌<ℤ◌}
use mir.Syntax.{w64}
use mir.Val.{SFits}
use Rattle.arith.proofs.Sums.{tabulate_ext}
use Rattle.arith.specs.Sums.{tabulate}
use Rattle.ego.specs.Graph.{Graph}
use Rattle.ego.specs.Score.{score}
use Rattle.preview.specs.Preview.{score_changes}

-- ---- the two forms

pub minus_less : (a b : ℕ) → a < b → pos a -ℤ pos b ≡ negsuc (b - suc a)
minus_less a zero h = absurd (omega arith)
minus_less a (suc b) h = rw (lt-ltb a (suc b) h)

pub minus_more : (a b : ℕ) → b ≤ a → pos a -ℤ pos b ≡ pos (a - b)
minus_more a zero h = ap pos (omega arith)
minus_more a (suc b) h = rw (le-ltb a (suc b) h)

-- ---- it fits

pub minus_fits : (a b : ℕ) → a < 2 ^ 63 → b < 2 ^ 63 → SFits w64 (pos a -ℤ pos b)
minus_fits a b h k = elim (dec_lt a b) [
  | yes l ↦ rw (minus_less a b l) (record { sfits = omega arith })
  | no l ↦ rw (minus_more a b (omega arith)) (record { sfits = omega arith })
]

-- ---- its sign

pub below_zero : (gain loss : ℕ) → ((pos gain -ℤ pos loss) <ℤ pos 0) ↔ (gain < loss)
below_zero gain loss = elim (dec_lt gain loss) [
  | yes l ↦ (λ h. l, λ h. rw (minus_less gain loss l) (record { lt = tt }))
  | no l ↦ let e = minus_more gain loss (omega arith) in
      (λ h. absurd (never _ (rw e at h)), λ h. absurd (l h))
]
  where
    never : (n : ℕ) → pos n <ℤ pos 0 → ⊥
    never n h = let l = ltb→lt n 0 h.lt in omega arith

pub above_zero : (gain loss : ℕ) → (pos 0 <ℤ (pos gain -ℤ pos loss)) ↔ (loss < gain)
above_zero gain loss = elim (dec_lt gain loss) [
  | yes l ↦ let e = minus_less gain loss l in
      (λ h. absurd (rw e at h).lt, λ h. absurd (omega arith))
  | no l ↦ let e = minus_more gain loss (omega arith) in
      (λ h. let m = ltb→lt 0 (gain - loss) (rw e at h).lt in omega arith, λ h. rw e (record { lt = lt→ltb 0 (gain - loss) (omega arith) }))
]

-- ---- the difference of two scores

pub change_is : (score score' gain loss : ℕ) → score + gain ≡ score' + loss → pos gain -ℤ pos loss ≡ pos score' -ℤ pos score
change_is score score' gain loss e = elim (dec_lt gain loss) [
  | yes l ↦ minus_less gain loss l ∙ ap negsuc (omega arith) ∙ sym (minus_less score' score (omega arith))
  | no l ↦ minus_more gain loss (omega arith) ∙ ap pos (omega arith) ∙ sym (minus_more score' score (omega arith))
]

-- ---- the change back

pub negated : (a b : ℕ) → neg_ℤ (pos a -ℤ pos b) ≡ pos b -ℤ pos a
negated a b = elim (dec_lt a b) [
  | yes l ↦ ap neg_ℤ (minus_less a b l) ∙ ap pos (omega arith) ∙ sym (minus_more b a (omega arith))
  | no l ↦ elim (dec_lt b a) [
    | yes k ↦ let e : a - b ≡ suc (a - suc b) = omega arith in ap neg_ℤ (minus_more a b (omega arith) ∙ ap pos e) ∙ sym (minus_less b a k)
    | no k ↦
        let e : a - b ≡ 0 = omega arith in
        let d : b - a ≡ 0 = omega arith in
        ap neg_ℤ (minus_more a b (omega arith) ∙ ap pos e) ∙ sym (minus_more b a (omega arith) ∙ ap pos d)
  ]
]

pub minus_back : (a b : ℕ) → pos 0 -ℤ (pos a -ℤ pos b) ≡ pos b -ℤ pos a
minus_back a b = omega (arith, ints)

pub map_tabulate : {A B : Type 0} (f : A → B) (at : ℕ → A) (n : ℕ) → map f (tabulate at n) ≡ tabulate (λ i. f (at i)) n
unfolding tabulate
map_tabulate f at zero = refl
map_tabulate f at (suc n) = map-append f (tabulate at n) (at n ∷ []) ∙ ap (λ l. l ++ f (at n) ∷ []) (map_tabulate f at n)

-- every change is negated where the graphs change places
pub changes_back : (g g' : Graph) (n : ℕ) → score_changes g' g n ≡ map neg_ℤ (score_changes g g' n)
unfolding score_changes
changes_back g g' n = sym (map_tabulate neg_ℤ _ n ∙ tabulate_ext _ _ n (λ p h. negated (score g' n p) (score g n p)))
