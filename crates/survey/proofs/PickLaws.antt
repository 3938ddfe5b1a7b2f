-- The walk over the records finds, of the first k that pass a test, the one that no other of them supersedes. Assumes nothing.
use mathlib.Core.Bool.{Bool, false, true, true≢false, ◌&&◌}
use mathlib.Core.List.{List}
use mathlib.Core.Logic.{inl, inr}
use mathlib.Core.Path.{ap, refl, subst, sym, ◌∙◌, ◌≡◌}
use Prim.Native.Nat.{◌<◌, suc, zero, ℕ, ◌≤◌}
use native.Mathlib.Decide.{dec_lt, ℕ_discrete}
use native.Mathlib.Omega.{arith}
use borrow.Author.Tests.{eq-eqb, eqb-true, le-leb, le-ltb, lt-leb, ltb-false, ltb-true, ne_eqb}
use lib.Dec.{eqb, ltb}
use Rattle.arith.proofs.Tests.{and-true, or_false_both, test}
use Rattle.survey.specs.Survey.{measurement_at, supersedes}
use Rattle.survey.specs.Inside.Walk.{last_to, number_at}

module _ (survey : List ℕ) where
  abbrev number : ℕ → ℕ
  number i = (measurement_at survey i).number

  -- ---- a record that does not supersede another: its number is no higher, and at equal numbers it is no later

  module _ (j i : ℕ) where
    pub behind_of : supersedes survey j i ≡ false → (number j ≤ number i) × (number j ≡ number i → j ≤ i)
    unfolding supersedes
    behind_of e =
        let b = or_false_both (ltb (number i) (number j)) (eqb (number j) (number i) && ltb i j) e in
        (ltb-false _ _ b.0, λ q. ltb-false _ _ (rw (eq-eqb (number j) (number i) q) at b.1))

    -- one that does has a higher number, or the same one later
    pub ahead_of : supersedes survey j i ≡ true → (number i ≤ number j) × (number i ≡ number j → i < j)
    unfolding supersedes
    ahead_of e = elim (dec_lt (number i) (number j)) [
      | yes h ↦ (omega arith, λ q. absurd (omega arith))
      | no h ↦
          let b = and-true (eqb (number j) (number i)) (ltb i j) (rw (le-ltb (number i) (number j) (omega arith)) at e) in
          (omega (arith, eqb-true (number j) (number i) b.0), λ q. ltb-true i j b.1)
    ]

    pub behind_by : number j ≤ number i → (number j ≡ number i → j ≤ i) → supersedes survey j i ≡ false
    unfolding supersedes
    behind_by h l = elim (ℕ_discrete (number j) (number i)) [
      | yes e ↦ rw (le-ltb (number i) (number j) h, eq-eqb (number j) (number i) e) (le-ltb i j (l e))
      | no d ↦ rw (le-ltb (number i) (number j) h, ne_eqb (number j) (number i) d)
    ]

  -- ---- of the first k records that pass a test, the one that none supersedes

  pub record Picked (passes : ℕ → Bool) (k i : ℕ) : Type 0 where
    pub inside : i < k
    pub named : passes i ≡ true
    pub latest : (j : ℕ) → j < k → passes j ≡ true → supersedes survey j i ≡ false

  -- x is 1 more than its position, and 0 where none passes
  pub record Picks (passes : ℕ → Bool) (k x : ℕ) : Type 0 where
    pub none : x ≡ 0 → (j : ℕ) → j < k → passes j ≡ false
    pub some : (i : ℕ) → x ≡ suc i → Picked passes k i

  module _ (passes : ℕ → Bool) (k : ℕ) where
    highest : (x : ℕ) → Picks passes k x → (j : ℕ) → j < k → passes j ≡ true → number j ≤ number_at survey x
    unfolding number_at
    highest zero p j h u = absurd (true≢false (sym u ∙ p.none refl j h))
    highest (suc m) p j h u = (behind_of j m ((p.some m refl).latest j h u)).0

    -- one record more: it takes the place,
    picks_taken : (x : ℕ) → Picks passes k x → passes k ≡ true → number_at survey x ≤ number k → Picks passes (suc k) (suc k)
    picks_taken x p t l = record {
      none = λ e. absurd (omega arith);
      some = λ i e. let same : k ≡ i = omega arith in subst (Picked passes (suc k)) same (record {
        inside = omega arith;
        named = t;
        latest = λ j h u. elim (dec_lt j k) [
          | yes b ↦ behind_by j k (omega (arith, highest x p j b u)) (λ q. omega arith)
          | no b ↦ let q : j ≡ k = omega arith in behind_by j k (omega (arith, ap number q)) (λ z. omega arith)
        ];
      });
    }

    -- or leaves it
    picks_left : (x : ℕ) → Picks passes k x → (passes k ≡ true → number k < number_at survey x) → Picks passes (suc k) x
    unfolding number_at
    picks_left x p g = record {
      none = λ e j h. elim (dec_lt j k) [
        | yes b ↦ p.none e j b
        | no b ↦ let q : k ≡ j = omega arith in elim (test (passes j)) [
          | inl u ↦ absurd (omega (arith, g (ap passes q ∙ u), ap (number_at survey) e))
          | inr u ↦ u
        ]
      ];
      some = λ i e. record {
        inside = omega (arith, (p.some i e).inside);
        named = (p.some i e).named;
        latest = λ j h u. elim (dec_lt j k) [
          | yes b ↦ (p.some i e).latest j b u
          | no b ↦
              let q : k ≡ j = omega arith in
              let below : number j < number i = omega (arith, g (ap passes q ∙ u), ap (number_at survey) e, ap number q) in
              behind_by j i (omega arith) (λ z. absurd (omega arith))
        ];
      };
    }

  pub picks : (passes : ℕ → Bool) (k : ℕ) → Picks passes k (last_to survey passes k)
  unfolding last_to
  picks passes zero = record { none = λ e j h. absurd (omega arith); some = λ i e. absurd (omega arith) }
  picks passes (suc k) =
      let x = last_to survey passes k in
      let p = picks passes k in
      elim (test (passes k)) [
        | inr t ↦ rw t (picks_left passes k x p (λ u. absurd (true≢false (sym u ∙ t))))
        | inl t ↦ elim (dec_lt (number k) (number_at survey x)) [
          | yes l ↦ rw (t, lt-leb (number_at survey x) (number k) l) (picks_left passes k x p (λ u. l))
          | no l ↦ let h : number_at survey x ≤ number k = omega arith in rw (t, le-leb (number_at survey x) (number k) h) (picks_taken passes k x p t h)
        ]
      ]

  -- at most one is such
  pub picked_one : {passes : ℕ → Bool} {k i j : ℕ} → Picked passes k i → Picked passes k j → i ≡ j
  picked_one {passes} {k} {i} {j} p q =
      let a = behind_of i j (q.latest i p.inside p.named) in
      let b = behind_of j i (p.latest j q.inside q.named) in
      let same : number i ≡ number j = omega (arith, a.0, b.0) in
      omega (arith, a.1 same, b.1 (sym same))

  pub picked_last : {passes : ℕ → Bool} {k i : ℕ} → Picked passes k i → last_to survey passes k ≡ suc i
  picked_last {passes} {k} {i} p = by (last_to survey passes k) (picks passes k)
    where
      by : (x : ℕ) → Picks passes k x → x ≡ suc i
      by zero q = absurd (true≢false (sym p.named ∙ q.none refl i p.inside))
      by (suc m) q = ap suc (picked_one (q.some m refl) p)

-- ---- tests that agree pick the same record, and a test that none passes picks none

pub last_ext : (survey : List ℕ) (f g : ℕ → Bool) (k : ℕ) → ((i : ℕ) → i < k → f i ≡ g i) → last_to survey f k ≡ last_to survey g k
unfolding last_to
last_ext survey f g zero h = refl
last_ext survey f g (suc k) h = rw (last_ext survey f g k (λ i l. h i (omega arith)), h k (omega arith))

pub last_never : (survey : List ℕ) (f : ℕ → Bool) (k : ℕ) → ((i : ℕ) → i < k → f i ≡ false) → last_to survey f k ≡ 0
unfolding last_to
last_never survey f zero h = refl
last_never survey f (suc k) h = rw (h k (omega arith)) (last_never survey f k (λ i l. h i (omega arith)))
