-- Of mine and of what is brought, a reconcile with pins and its first conflict depend on the pairs below n alone. Assumes nothing.
use mathlib.Core.Bool.{true}
use mathlib.Core.Path.{refl, sym, ◌∙◌, ◌≡◌}
use Prim.Native.Nat.{◌<◌, ℕ}
use native.Mathlib.Omega.{arith}
use Rattle.arith.proofs.Tests.{same_test}
use Rattle.ego.proofs.Agreement.{Agree, agree_sym}
use Rattle.ego.specs.Graph.{Graph}
use Rattle.merge.specs.Alike.{AlikeBrought}
use Rattle.merge.specs.Pinned.{Brought, conflict, in_conflict, me, pinned_conditions, spoken, standing, stands, them}
use Rattle.packed.proofs.GraphLaws.{pair_here, pair_some}
use Rattle.packed.specs.Edges.{edge}
use Rattle.packed.specs.Pairs.{any_pair}
use Rattle.state.proofs.CrowdedLaws.{after_agree, before_agree}
use Rattle.state.proofs.Spare.{same_agree, same_refl}
use Rattle.state.specs.Refusal.{everyone, refusal, some_conflict}

pub brought_refl : (n : ℕ) (k : Brought) → AlikeBrought n k k
brought_refl n k = record { pins = same_refl k.pins; theirs = same_refl k.theirs; their_pins = same_refl k.their_pins; base = same_refl k.base }

module _ (n : ℕ) (f f' : Graph) where
  pair_agree : Agree n f f' → any_pair f n ≡ true → any_pair f' n ≡ true
  pair_agree same e =
      let p = pair_some f n e in
      pair_here f' n p.0 p.1 p.2 p.3 (sym (same p.0 p.1 (omega (arith, p.2, p.3)) p.3) ∙ p.4)

pub any_agree : (n : ℕ) (f f' : Graph) → Agree n f f' → any_pair f n ≡ any_pair f' n
any_agree n f f' same = same_test _ _ (pair_agree n f f' same) (pair_agree n f' f (agree_sym same))

module _ (n : ℕ) (g g' : Graph) (k k' : Brought) (mine : Agree n g g') (same : AlikeBrought n k k') where
  module _ (a b : ℕ) (ha : a < n) (hb : b < n) where
    my_say : spoken (me g k) (edge k.base) a b ≡ spoken (me g' k') (edge k'.base) a b
    unfolding spoken
    my_say = rw (mine a b ha hb, same_agree same.pins a b ha hb, same_agree same.base a b ha hb)

    their_say : spoken (them k) (edge k.base) a b ≡ spoken (them k') (edge k'.base) a b
    unfolding spoken
    their_say = rw (same_agree same.theirs a b ha hb, same_agree same.their_pins a b ha hb, same_agree same.base a b ha hb)

    pub stands_agree : stands g k a b ≡ stands g' k' a b
    unfolding standing
    stands_agree = rw (my_say, their_say, mine a b ha hb, same_agree same.theirs a b ha hb, same_agree same.base a b ha hb)

    pub conflict_agree : in_conflict g k a b ≡ in_conflict g' k' a b
    unfolding conflict
    conflict_agree = rw (my_say, their_say, mine a b ha hb, same_agree same.theirs a b ha hb)

  pub pinned_agree : refusal (pinned_conditions n g k) ≡ refusal (pinned_conditions n g' k')
  unfolding some_conflict
  pinned_agree =
      rw (
        same.pins.long,
        same.theirs.long,
        same.their_pins.long,
        same.base.long,
        before_agree n g g' everyone everyone mine (λ p l. refl),
        any_agree n (in_conflict g k) (in_conflict g' k') conflict_agree,
        after_agree n (stands g k) (stands g' k') everyone everyone stands_agree (λ p l. refl),
      )
