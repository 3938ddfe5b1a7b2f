-- The first condition that applies: how a call passes a condition or turns back at it, and what an accepted call knows. Assumes nothing.
use mathlib.Core.Bool.{Bool, false, true}
use mathlib.Core.List.{◌++◌, [], List, ◌∷◌}
use mathlib.Core.Logic.{inl, inr}
use mathlib.Core.Path.{refl, sym, ◌∙◌, ◌≡◌}
use Prim.Native.Nat.{◌-◌, ◌<◌, ◌^◌, ℕ, ◌≤◌}
use native.Mathlib.Decide.{dec_lt, ℕ_discrete}
use native.Mathlib.Omega.{arith}
use borrow.Author.Tests.{eq-eqb, le-leb, le-ltb, lt-leb, lt-ltb, ne_eqb}
use lib.ListN.{length}
use Rattle.arith.proofs.Tests.{test}
use Rattle.ego.specs.Graph.{Graph}
use Rattle.packed.specs.Pairs.{any_pair, max_nodes}
use Rattle.packed.specs.Inside.Room.{Room}
use Rattle.state.specs.Marks.{mark_bytes}
use Rattle.state.specs.Outcome.{edge_lengths, state_lengths}
use Rattle.state.specs.Refusal.{buffer_length, Condition, crowded_after, crowded_before, edge_absent, edge_present, list_length, node_count, node_number, one_number, other_count, refusal, same_nodes, scratch_length, snapshot_nodes, some_conflict, too_many}
use Rattle.state.specs.Sizes.{edge_bytes, scratch_bytes}

-- ---- lists of conditions

pub refusal_none : refusal [] ≡ 0
unfolding refusal
refusal_none = refl

-- a refusal of the first conditions is the whole list's
pub append_refused : (cs ds : List Condition) {r : ℕ} → refusal cs ≡ r → (r ≡ 0 → ⊥) → refusal (cs ++ ds) ≡ r
unfolding refusal
append_refused [] ds e d = absurd (d (sym e))
append_refused (c ∷ cs) ds e d =
    elim (test c.1) [ inl t ↦ rw t (rw t at e) | inr t ↦ rw t (append_refused cs ds (rw t at e) d) ]

pub append_none : (cs ds : List Condition) → refusal (cs ++ ds) ≡ 0 → refusal cs ≡ 0
append_none cs ds e = elim (ℕ_discrete (refusal cs) 0) [ yes z ↦ z | no d ↦ absurd (d (sym (append_refused cs ds refl d) ∙ e)) ]

-- ---- the conditions, one by one: each turns a call back, or lets it pass

module _ (cs : List Condition) where
  pub refused_zero : (n : ℕ) → n ≡ 0 → refusal (node_count n ∷ cs) ≡ 1
  unfolding refusal node_count
  refused_zero n e = rw (eq-eqb n 0 e)

  pub refused_above : (n : ℕ) → max_nodes < n → refusal (node_count n ∷ cs) ≡ 1
  unfolding refusal node_count
  refused_above n h = rw (ne_eqb n 0 (λ e. omega arith), lt-ltb max_nodes n h)

  pub passed_count : (n : ℕ) → (n ≡ 0 → ⊥) → n ≤ max_nodes → refusal (node_count n ∷ cs) ≡ refusal cs
  unfolding refusal node_count
  passed_count n d h = rw (ne_eqb n 0 d, le-ltb max_nodes n h)

  pub refused_length : (required actual : ℕ) → (actual ≡ required → ⊥) → refusal (buffer_length required actual ∷ cs) ≡ 2
  unfolding refusal buffer_length
  refused_length required actual d = rw (ne_eqb actual required d)

  pub passed_length : (required actual : ℕ) → actual ≡ required → refusal (buffer_length required actual ∷ cs) ≡ refusal cs
  unfolding refusal buffer_length
  passed_length required actual e = rw (eq-eqb actual required e)

  pub refused_scratch : (n actual : ℕ) → actual < scratch_bytes n → refusal (scratch_length n actual ∷ cs) ≡ 3
  unfolding refusal scratch_length
  refused_scratch n actual h = rw (lt-ltb actual (scratch_bytes n) h)

  pub passed_scratch : (n actual : ℕ) → scratch_bytes n ≤ actual → refusal (scratch_length n actual ∷ cs) ≡ refusal cs
  unfolding refusal scratch_length
  passed_scratch n actual h = rw (le-ltb actual (scratch_bytes n) h)

  pub refused_node : (n p : ℕ) → n ≤ p → refusal (node_number n p ∷ cs) ≡ 4
  unfolding refusal node_number
  refused_node n p h = rw (le-leb n p h)

  pub passed_node : (n p : ℕ) → p < n → refusal (node_number n p ∷ cs) ≡ refusal cs
  unfolding refusal node_number
  passed_node n p h = rw (lt-leb n p h)

  pub refused_same : (a b : ℕ) → a ≡ b → refusal (same_nodes a b ∷ cs) ≡ 5
  unfolding refusal same_nodes
  refused_same a b e = rw (eq-eqb a b e)

  pub passed_same : (a b : ℕ) → (a ≡ b → ⊥) → refusal (same_nodes a b ∷ cs) ≡ refusal cs
  unfolding refusal same_nodes
  passed_same a b d = rw (ne_eqb a b d)

  pub refused_present : (g : Graph) (a b : ℕ) → g a b ≡ true → refusal (edge_present g a b ∷ cs) ≡ 6
  unfolding refusal edge_present
  refused_present g a b e = rw e

  pub passed_present : (g : Graph) (a b : ℕ) → g a b ≡ false → refusal (edge_present g a b ∷ cs) ≡ refusal cs
  unfolding refusal edge_present
  passed_present g a b e = rw e

  pub refused_absent : (g : Graph) (a b : ℕ) → g a b ≡ false → refusal (edge_absent g a b ∷ cs) ≡ 7
  unfolding refusal edge_absent
  refused_absent g a b e = rw e

  pub passed_absent : (g : Graph) (a b : ℕ) → g a b ≡ true → refusal (edge_absent g a b ∷ cs) ≡ refusal cs
  unfolding refusal edge_absent
  passed_absent g a b e = rw e

  pub refused_none_listed : (n k : ℕ) → k ≡ 0 → refusal (list_length n k ∷ cs) ≡ 8
  unfolding refusal list_length
  refused_none_listed n k e = rw (eq-eqb k 0 e)

  pub refused_all_listed : (n k : ℕ) → n < k → refusal (list_length n k ∷ cs) ≡ 8
  unfolding refusal list_length
  refused_all_listed n k h = rw (ne_eqb k 0 (λ e. omega arith), lt-ltb n k h)

  pub passed_listed : (n k : ℕ) → (k ≡ 0 → ⊥) → k ≤ n → refusal (list_length n k ∷ cs) ≡ refusal cs
  unfolding refusal list_length
  passed_listed n k d h = rw (ne_eqb k 0 d, le-ltb n k h)

  pub refused_other : (n : ℕ) (snapshot : List ℕ) → (snapshot_nodes snapshot ≡ n → ⊥) → refusal (other_count n snapshot ∷ cs) ≡ 10
  unfolding refusal other_count
  refused_other n snapshot d = rw (ne_eqb (snapshot_nodes snapshot) n d)

  pub passed_other : (n : ℕ) (snapshot : List ℕ) → snapshot_nodes snapshot ≡ n → refusal (other_count n snapshot ∷ cs) ≡ refusal cs
  unfolding refusal other_count
  passed_other n snapshot e = rw (eq-eqb (snapshot_nodes snapshot) n e)

  pub refused_before : (g : Graph) (n : ℕ) (which : ℕ → Bool) → too_many g n which ≡ true → refusal (crowded_before g n which ∷ cs) ≡ 11
  unfolding refusal crowded_before
  refused_before g n which e = rw e

  pub passed_before : (g : Graph) (n : ℕ) (which : ℕ → Bool) → too_many g n which ≡ false → refusal (crowded_before g n which ∷ cs) ≡ refusal cs
  unfolding refusal crowded_before
  passed_before g n which e = rw e

  pub refused_after : (g : Graph) (n : ℕ) (which : ℕ → Bool) → too_many g n which ≡ true → refusal (crowded_after g n which ∷ cs) ≡ 12
  unfolding refusal crowded_after
  refused_after g n which e = rw e

  pub passed_after : (g : Graph) (n : ℕ) (which : ℕ → Bool) → too_many g n which ≡ false → refusal (crowded_after g n which ∷ cs) ≡ refusal cs
  unfolding refusal crowded_after
  passed_after g n which e = rw e

  pub refused_conflict : (conflict : Graph) (n : ℕ) → any_pair conflict n ≡ true → refusal (some_conflict conflict n ∷ cs) ≡ 15
  unfolding refusal some_conflict
  refused_conflict conflict n e = rw e

  pub passed_conflict : (conflict : Graph) (n : ℕ) → any_pair conflict n ≡ false → refusal (some_conflict conflict n ∷ cs) ≡ refusal cs
  unfolding refusal some_conflict
  passed_conflict conflict n e = rw e

-- ---- lengths that are accepted

-- from what `check_count` answers
module _ (n : ℕ) {r : ℕ} (e : r ≡ refusal (node_count n ∷ [])) where
  pub counted_by : r ≡ 0 → (0 < n) × (n ≤ max_nodes)
  counted_by z = elim (ℕ_discrete n 0) [
    | yes q ↦ absurd (omega (arith, refused_zero [] n q))
    | no d ↦ elim (dec_lt max_nodes n) [
      | yes h ↦ absurd (omega (arith, refused_above [] n h))
      | no h ↦ (omega arith, omega arith)
    ]
  ]

  pub count_rest : r ≡ 0 → (cs : List Condition) → refusal (node_count n ∷ cs) ≡ refusal cs
  count_rest z cs = passed_count cs n (λ q. omega (arith, (counted_by z).0)) (counted_by z).1

  pub count_refused : (r ≡ 0 → ⊥) → (cs : List Condition) → r ≡ refusal (node_count n ∷ cs)
  count_refused d cs = sym (append_refused (node_count n ∷ []) cs (sym e) d)

pub record Sized (n edges : ℕ) : Type 0 where
  pub some : 0 < n
  pub few : n ≤ max_nodes
  pub edges_fit : edges ≡ edge_bytes n

sized : (n edges : ℕ) → refusal (edge_lengths n edges) ≡ 0 → Sized n edges
sized n edges e = elim (ℕ_discrete n 0) [
  | yes z ↦ absurd (omega (arith, refused_zero (buffer_length (edge_bytes n) edges ∷ []) n z))
  | no d ↦ elim (dec_lt max_nodes n) [
    | yes h ↦ absurd (omega (arith, refused_above (buffer_length (edge_bytes n) edges ∷ []) n h))
    | no h ↦ elim (ℕ_discrete edges (edge_bytes n)) [
      | yes l ↦ record { some = omega arith; few = omega arith; edges_fit = l }
      | no l ↦ absurd (omega (arith, passed_count (buffer_length (edge_bytes n) edges ∷ []) n d (omega arith), refused_length [] (edge_bytes n) edges l))
    ]
  ]
]

-- from what `check_edges` answers
pub sized_by : {n edges r : ℕ} → r ≡ refusal (edge_lengths n edges) → r ≡ 0 → Sized n edges
sized_by {n} {edges} e z = sized n edges (sym e ∙ z)

-- the conditions after these decide
pub sized-append : (n edges : ℕ) (cs : List Condition) → Sized n edges → refusal (edge_lengths n edges ++ cs) ≡ refusal cs
sized-append n edges cs s =
    passed_count (buffer_length (edge_bytes n) edges ∷ cs) n (λ e. omega (arith, s.some)) s.few ∙ passed_length cs (edge_bytes n) edges s.edges_fit

pub sized_room : {n : ℕ} {edges : List ℕ} → Sized n (length edges) → Room n edges
sized_room s = record { few = s.few; bits = omega (arith, s.edges_fit) }

-- with the marks
pub record Fitted (n edges marks : ℕ) : Type 0 where
  pub sizes : Sized n edges
  pub marks_fit : marks ≡ mark_bytes n

-- from what `check_state` answers
pub fitted_by : {n edges marks r : ℕ} → r ≡ refusal (state_lengths n edges marks) → r ≡ 0 → Fitted n edges marks
fitted_by {n} {edges} {marks} e z =
    let cs = buffer_length (mark_bytes n) marks ∷ [] in
    elim (ℕ_discrete (refusal (edge_lengths n edges)) 0) [
      | no d ↦ absurd (d (sym (append_refused (edge_lengths n edges) cs refl d) ∙ sym e ∙ z))
      | yes q ↦
          let s = sized n edges q in
          elim (ℕ_discrete marks (mark_bytes n)) [
            | yes l ↦ record { sizes = s; marks_fit = l }
            | no l ↦ absurd (omega (arith, sized-append n edges cs s, refused_length [] (mark_bytes n) marks l))
          ]
    ]

pub fitted_append : (n edges marks : ℕ) (cs : List Condition) → Fitted n edges marks → refusal (state_lengths n edges marks ++ cs) ≡ refusal cs
fitted_append n edges marks cs f =
    sized-append n edges (buffer_length (mark_bytes n) marks ∷ cs) f.sizes ∙ passed_length cs (mark_bytes n) marks f.marks_fit

-- ---- as one number

pub number_refused : (refusal value : ℕ) → (refusal ≡ 0 → ⊥) → 2 ^ 64 - refusal ≡ one_number refusal value
unfolding one_number
number_refused refusal value d = rw (ne_eqb refusal 0 d)

pub number_accepted : (refusal value : ℕ) → refusal ≡ 0 → value ≡ one_number refusal value
unfolding one_number
number_accepted refusal value z = rw z
