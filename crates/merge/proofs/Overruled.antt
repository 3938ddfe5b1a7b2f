-- A conflict is a pair on which the two differ and the editor who kept the original confirmed it; with nothing confirmed there is none. Assumes nothing.
use mathlib.Core.Bool.{◌&&◌, ◌||◌, Bool, false, true, true≢false, or-true}
use mathlib.Core.Logic.{inl, inr, ◌⊎◌, ◌≢◌}
use mathlib.Core.Path.{refl, sym, ◌≡◌}
use Prim.Native.Nat.{ℕ}
use Rattle.arith.proofs.Tests.{and-true}
use Rattle.ego.specs.Graph.{Graph}
use Rattle.merge.proofs.Way.{or_none}
use Rattle.merge.specs.KeptOnPurpose.{Overruled}
use Rattle.merge.specs.Pinned.{Brought, conflict, in_conflict, me, spoken, them}
use Rattle.packed.specs.Bits.{differ}
use Rattle.packed.specs.Edges.{edge}

-- ---- one pair: my pin, their pin, mine, theirs, the original

abbrev Kept : Bool → Bool → Bool → Bool → Bool → Type 0
Kept p q m t o = (m ≢ t) × (((m ≡ o) × (p ≡ true)) ⊎ ((t ≡ o) × (q ≡ true)))

kept_of : (p q m t o : Bool) → (p || differ m o) ≡ true → (q || differ t o) ≡ true → differ m t ≡ true → Kept p q m t o
kept_of p q true true o e f d = absurd (true≢false (sym d))
kept_of p q true false true e f d = (true≢false, inl (refl, or_none p e))
kept_of p q true false false e f d = (true≢false, inr (refl, or_none q f))
kept_of p q false true true e f d = (λ x. true≢false (sym x), inr (refl, or_none q f))
kept_of p q false true false e f d = (λ x. true≢false (sym x), inl (refl, or_none p e))
kept_of p q false false o e f d = absurd (true≢false (sym d))

of_kept : (p q m t o : Bool) → Kept p q m t o → ((p || differ m o) && (q || differ t o)) && differ m t ≡ true
of_kept p q true true o h = absurd (h.0 refl)
of_kept p q false false o h = absurd (h.0 refl)
of_kept p q true false true h = elim h.1 [ inl k ↦ rw (k.1, or-true q) refl | inr k ↦ absurd (true≢false (sym k.0)) ]
of_kept p q true false false h = elim h.1 [ inl k ↦ absurd (true≢false k.0) | inr k ↦ rw (k.1, or-true p) refl ]
of_kept p q false true true h = elim h.1 [ inl k ↦ absurd (true≢false (sym k.0)) | inr k ↦ rw (k.1, or-true p) refl ]
of_kept p q false true false h = elim h.1 [ inl k ↦ rw (k.1, or-true q) refl | inr k ↦ absurd (true≢false k.0) ]

-- two editors who both changed the pair changed it alike
changed_alike : (m t o : Bool) → (differ m o && differ t o) && differ m t ≡ false
changed_alike true true true = refl
changed_alike true true false = refl
changed_alike true false true = refl
changed_alike true false false = refl
changed_alike false true true = refl
changed_alike false true false = refl
changed_alike false false true = refl
changed_alike false false false = refl

-- ---- the graphs

module _ (g : Graph) (k : Brought) (a b : ℕ) where
  pub overruled : in_conflict g k a b ≡ true → Overruled g k a b
  unfolding conflict spoken
  overruled e =
      let mine = me g k in
      let both = and-true (spoken mine (edge k.base) a b && spoken (them k) (edge k.base) a b) (differ (g a b) (edge k.theirs a b)) e in
      let each = and-true (spoken mine (edge k.base) a b) (spoken (them k) (edge k.base) a b) both.0 in
      let h = kept_of (edge k.pins a b) (edge k.their_pins a b) (g a b) (edge k.theirs a b) (edge k.base a b) each.0 each.1 both.1 in
      record { differs = h.0; confirmed = h.1 }

  pub in_conflict_lem : Overruled g k a b → in_conflict g k a b ≡ true
  unfolding conflict spoken
  in_conflict_lem h =
      of_kept (edge k.pins a b) (edge k.their_pins a b) (g a b) (edge k.theirs a b) (edge k.base a b) (h.differs, h.confirmed)

  pub unconfirmed : edge k.pins a b ≡ false → edge k.their_pins a b ≡ false → in_conflict g k a b ≡ false
  unfolding conflict spoken
  unconfirmed e f = rw (e, f) (changed_alike (g a b) (edge k.theirs a b) (edge k.base a b))
