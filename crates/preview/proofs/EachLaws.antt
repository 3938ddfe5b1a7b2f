-- The changes as a loop over the touched nodes writes them, and what that loop needs. Assumes nothing.
use mathlib.Core.Bool.{Bool, cond, false, not, or-false, or-true, true}
use mathlib.Core.List.{List}
use mathlib.Core.Logic.{◌≢◌}
use mathlib.Core.Path.{ap, ap₂, refl, sym, ◌∙◌, ◌≡◌}
use Prim.Native.Nat.{◌+◌, ◌<◌, suc, zero, ℕ, ◌≤◌}
use native.Mathlib.Decide.{ℕ_discrete}
use native.Mathlib.Numerals.{add-one}
use native.Mathlib.Omega.{arith}
use borrow.Author.Tests.{eq-eqb, ne_eqb}
use lib.IntN.{ℤ, pos}
use lib.ListN.{get_or, get_or-replicate, length, length-replicate, length-set, replicate, set}
use lib.Seq.{get_or-set_other, get_or-set_same}
use Rattle.arith.proofs.Sums.{tabulate_is}
use Rattle.arith.specs.Sums.{tabulate}
use Rattle.edits.proofs.ListedLaws.{count_two, first_is, listed, listed_more, listed_none, listed_touched, node_below, node_common, second_is}
use Rattle.edits.specs.Inside.Change.{Editable}
use Rattle.ego.specs.Graph.{degree, Graph}
use Rattle.ego.specs.Limits.{limit}
use Rattle.ego.specs.Change.{with_pair}
use Rattle.packed.proofs.EdgeLaws.{edge_comm, with_comm}
use Rattle.packed.specs.Edges.{edge, with_edge}
use Rattle.edits.specs.declared.touched.Touched.{Touched}
use Rattle.preview.proofs.ScoreChange.{as_is, change_at, score_change}
use Rattle.preview.specs.Inside.Effect.{change_by, change_each, effect_of, Reached, Shared}
use Rattle.preview.specs.Inside.Ends.{Affected, BothEnds}
use Rattle.preview.specs.declared.ends.Ends.{Ends}
use Rattle.preview.specs.Preview.{score_changes}

module _ (g : Graph) (n a b : ℕ) (on : Bool) (nodes : List ℕ) (changes : List ℤ) where
  pub each_none : change_each g n a b on nodes changes 0 ≡ changes
  unfolding change_each
  each_none = refl

  pub each_more : (i : ℕ) {l : List ℤ} {x : ℤ} → l ≡ change_each g n a b on nodes changes i → x ≡ change_by on (effect_of g n a b (get_or nodes i 0))
      → set l (get_or nodes i 0) x ≡ change_each g n a b on nodes changes (i + 1)
  unfolding change_each
  each_more i e q = rw (add-one, e, q)

  pub each-length : (count : ℕ) → length (change_each g n a b on nodes changes count) ≡ length changes
  unfolding change_each
  each-length zero = refl
  each-length (suc i) = length-set (change_each g n a b on nodes changes i) (get_or nodes i 0) _ ∙ each-length i

  each_at : (count : ℕ) → ((i : ℕ) → i < count → get_or nodes i 0 < length changes) → (p : ℕ)
      → get_or (change_each g n a b on nodes changes count) p (pos 0) ≡ cond (listed nodes count p) (change_by on (effect_of g n a b p)) (get_or changes p (pos 0))
  unfolding change_each
  each_at zero below p = rw (listed_none nodes p)
  each_at (suc i) below p = rw (listed_more nodes i p) (elim (ℕ_discrete p (get_or nodes i 0)) [
    | yes e ↦ rw (eq-eqb p (get_or nodes i 0) e, or-true (listed nodes i p), e)
        (get_or-set_same (change_each g n a b on nodes changes i) (get_or nodes i 0) _ (pos 0) (omega (arith, below i (omega arith), each-length i)))
    | no d ↦ rw (ne_eqb p (get_or nodes i 0) d, or-false (listed nodes i p))
        (get_or-set_other (change_each g n a b on nodes changes i) (get_or nodes i 0) p _ (pos 0) d ∙ each_at i (λ j h. below j (omega arith)) p)
  ])

-- ---- an edit that can be made

module _ {es : List ℕ} {n a b : ℕ} {on : Bool} {t : Touched} (e : Editable es n a b on t) where
  below : (i : ℕ) → i < t.count → get_or t.nodes i 0 < n
  below = node_below e.listed e.pair.first_below e.pair.second_below

  -- with the edge present no node that it touches is over the limit
  few_present : (i : ℕ) → i < t.count → degree (edge (with_edge es a b true)) n (get_or t.nodes i 0) ≤ limit
  few_present i h = each on refl
    where
      each : (v : Bool) → on ≡ v → degree (edge (with_edge es a b true)) n (get_or t.nodes i 0) ≤ limit
      each true z = rw z at (e.few_after i h)
      each false z = rw (as_is e.pair (e.pair.was ∙ ap not z)) (e.few_before i h)

  affected : (i : ℕ) → i < t.count → Affected es n a b (get_or t.nodes i 0)
  affected i h = record {
    first_below = e.pair.first_below;
    second_below = e.pair.second_below;
    apart = e.pair.apart;
    below = below i h;
    room = e.pair.room;
    few = few_present i h;
  }

  pub ends_affected : Affected es n a b a × Affected es n b a b
  ends_affected =
      let two = count_two e.listed in
      let first = affected 0 (omega (arith, two)) in
      let second = affected 1 (omega (arith, two)) in (
        rw (first_is e.listed) at first,
        record {
          first_below = e.pair.second_below;
          second_below = e.pair.first_below;
          apart = λ z. e.pair.apart (sym z);
          below = e.pair.second_below;
          room = e.pair.room;
          few = rw (with_comm es b a true) (rw (second_is e.listed) at second.few);
        },
      )

  -- and one that is not an end is linked to both
  shared : (i : ℕ) → i < t.count → get_or t.nodes i 0 ≢ a → get_or t.nodes i 0 ≢ b → Shared (edge es) a b (get_or t.nodes i 0)
  shared i h d k = elim (ℕ_discrete i 0) [
    | yes z ↦ absurd (d (ap (λ j. get_or t.nodes j 0) z ∙ first_is e.listed))
    | no m ↦ elim (ℕ_discrete i 1) [
      | yes z ↦ absurd (k (ap (λ j. get_or t.nodes j 0) z ∙ second_is e.listed))
      | no s ↦
          let r = node_common e.listed i (omega arith) h in
          record { first = edge_comm es (get_or t.nodes i 0) a ∙ r.first; second = edge_comm es (get_or t.nodes i 0) b ∙ r.second }
    ]
  ]

  pub reached : {ends : Ends} → BothEnds es n a b ends → (i : ℕ) → i < t.count → Reached es n a b ends (get_or t.nodes i 0)
  reached both i h = record { both = both; affected = affected i h; shared = shared i h }

  -- THE CHANGES that are written are the changes of the scores
  pub changes_are : {changes : List ℤ} → changes ≡ change_each (edge (with_edge es a b true)) n a b on t.nodes (replicate n (pos 0)) t.count
      → changes ≡ score_changes (edge es) (with_pair (edge es) a b on) n
  unfolding score_changes
  changes_are {changes} q =
      let g = edge (with_edge es a b true) in
      let zeros : List ℤ = replicate n (pos 0) in
      let all : length zeros ≡ n = length-replicate n (pos 0) in
      let long : length changes ≡ n = ap length q ∙ each-length g n a b on t.nodes zeros t.count ∙ all in
      tabulate_is (change_at (edge es) (with_pair (edge es) a b on) n) (pos 0) changes (λ p h.
      ap (λ l. get_or l p (pos 0)) q
      ∙ each_at g n a b on t.nodes zeros t.count (λ i l. omega (arith, below i l, all)) p
      ∙ ap₂ (λ x y. cond x (change_by on (effect_of g n a b p)) y) (listed_touched e.listed p (omega arith)) (get_or-replicate n p (pos 0) (pos 0) (omega arith))
      ∙ score_change e.pair p)
      ∙ ap (tabulate (change_at (edge es) (with_pair (edge es) a b on) n)) long
