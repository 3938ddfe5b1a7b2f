-- The change that an edge makes to a score, by its effect: at the nodes that it touches, and none elsewhere. Assumes nothing.
use mathlib.Core.Bool.{◌&&◌, Bool, cond, false, not, true}
use mathlib.Core.List.{List}
use mathlib.Core.Logic.{inl, inr, ◌≢◌}
use mathlib.Core.Path.{ap, ap₂, fun_ext, refl, subst, sym, ◌∙◌, ◌≡◌}
use Prim.Native.Nat.{◌+◌, ◌<◌, ℕ}
use native.Mathlib.Decide.{ℕ_discrete}
use native.Mathlib.Nat.{add-zero}
use native.Mathlib.Omega.{arith}
use borrow.Author.Tests.{eq-eqb, ne_eqb}
use lib.IntN.{ℤ, pos, ◌-ℤ◌}
use Rattle.arith.proofs.Tests.{and-true, test}
use Rattle.edits.proofs.EditLaws.{add_gains, edit_pair, not_end, remove_gains, untouched_common, untouched_end}
use Rattle.edits.specs.Inside.Change.{Changeable}
use Rattle.ego.proofs.Changes.{gains_links, others_same}
use Rattle.ego.proofs.WithPair.{pair_is}
use Rattle.ego.specs.Change.{with_pair}
use Rattle.ego.specs.Graph.{Graph}
use Rattle.ego.specs.Inside.Gains.{Gains}
use Rattle.ego.specs.Score.{score}
use Rattle.packed.proofs.EdgeLaws.{edge_comm}
use Rattle.packed.specs.Edges.{edge, with_edge}
use Rattle.state.proofs.TouchLaws.{touched_else, touched_first, touched_second}
use Rattle.state.specs.Refusal.{touched}
use Rattle.preview.proofs.ChangeLaws.{change_is, minus_more}
use Rattle.preview.proofs.Lemmas.{gains_turned, lemma_4, lemma_5}
use Rattle.preview.specs.Inside.Effect.{change_by, common_effect, effect_of, end_effect}
use Rattle.preview.specs.declared.effect.Effect.{Effect}

-- the change of p's score from a graph to another
abbrev pub change_at : Graph → Graph → ℕ → ℕ → ℤ
change_at g g' n p = pos (score g' n p) -ℤ pos (score g n p)

pub no_change : {x y : ℕ} → x ≡ y → pos 0 ≡ pos y -ℤ pos x
no_change {x} {y} e = sym (minus_more y x (omega arith) ∙ ap pos (omega arith))

-- what holds of an edge's effect gives the change, whether the edge is added or removed
by_effect : (on : Bool) (e : Effect) (old new : ℕ) → new + e.costs ≡ old + e.brings → change_by on e ≡ cond on (pos new -ℤ pos old) (pos old -ℤ pos new)
unfolding change_by
by_effect true e old new h = change_is old new e.brings e.costs (sym h)
by_effect false e old new h = change_is new old e.costs e.brings h

-- ---- g' is g with the edge a, b

module _ (g g' : Graph) (a b : ℕ) (change : Gains g g' a b) (n : ℕ) (ha : a < n) (hb : b < n) (on : Bool) (p : ℕ) where
  abbrev turned : ℤ
  turned = cond on (change_at g g' n p) (change_at g' g n p)

  effect_touched : touched g a b p ≡ true → change_by on (effect_of g' n a b p) ≡ turned
  unfolding effect_of end_effect common_effect
  effect_touched t = elim (ℕ_discrete p a) [
    | yes e ↦ rw (e, eq-eqb a a refl) (by_effect on _ _ _ (lemma_4 g g' a b change n hb))
    | no d ↦ elim (ℕ_discrete p b) [
      | yes e ↦ rw (ne_eqb p a d, e, eq-eqb b b refl) (by_effect on _ _ _ (lemma_4 g g' b a (gains_turned change) n ha))
      | no k ↦
          let both = and-true (g a p) (g b p) (sym (touched_else g a b p d k) ∙ t) in
          let five = lemma_5 g g' a b change n p (change.old.symmetric p a ∙ both.0) (change.old.symmetric p b ∙ both.1) ha hb in
          rw (ne_eqb p a d, ne_eqb p b k) (by_effect on _ _ _ (five ∙ sym (add-zero (score g n p))))
    ]
  ]

  effect_elsewhere : touched g a b p ≡ false → pos 0 ≡ turned
  effect_elsewhere t =
      let apart = not_end a b p (untouched_end g a b p t) in
      let same = others_same g g' a b change n p apart.0 apart.1 (untouched_common g change.old a b p t) in
      neither on same
    where
      neither : (on : Bool) → score g n p ≡ score g' n p → pos 0 ≡ cond on (change_at g g' n p) (change_at g' g n p)
      neither true e = no_change e
      neither false e = no_change (sym e)

  -- the edge does not tell which nodes it touches
  pub touched_same : touched g a b p ≡ touched g' a b p
  touched_same = elim (ℕ_discrete p a) [
    | yes e ↦ touched_first g a b p e ∙ sym (touched_first g' a b p e)
    | no d ↦ elim (ℕ_discrete p b) [
      | yes e ↦ touched_second g a b p e ∙ sym (touched_second g' a b p e)
      | no k ↦ touched_else g a b p d k ∙ ap₂ (λ x y. x && y) (linked a d k) (linked b d k) ∙ sym (touched_else g' a b p d k)
    ]
  ]
    where
      linked : (q : ℕ) → p ≢ a → p ≢ b → g q p ≡ g' q p
      linked q d k = change.old.symmetric q p ∙ gains_links g g' a b change p d k q ∙ change.new.symmetric p q

  -- THE CHANGE is the effect's at the ends and at their common neighbours, and 0 elsewhere.
  pub effect_is : cond (touched g a b p) (change_by on (effect_of g' n a b p)) (pos 0) ≡ turned
  effect_is = elim (test (touched g a b p)) [ inl t ↦ rw t (effect_touched t) | inr t ↦ rw t (effect_elsewhere t) ]

-- ---- an edit of the edge

module _ {es : List ℕ} {n a b : ℕ} {on : Bool} (c : Changeable es n a b on) where
  -- a pair that is set as it is
  pub as_is : edge es a b ≡ true → edge (with_edge es a b true) ≡ edge es
  as_is e = fun_ext (λ x. fun_ext (λ y.
      edit_pair es n a b c.room c.first_below c.second_below c.apart true x y
      ∙ sym (pair_is (edge es) (edge es) a b true x y (λ p q. rw (p, q) e) (λ p q. rw (p, q) (edge_comm es b a ∙ e)) (λ p q. refl))))

  pub after_is : edge (with_edge es a b on) ≡ with_pair (edge es) a b on
  after_is = fun_ext (λ x. fun_ext (edit_pair es n a b c.room c.first_below c.second_below c.apart on x))

  -- the edge is gained by an add, and lost by a removal
  pub add_pair : on ≡ true → Gains (edge es) (with_pair (edge es) a b on) a b
  add_pair z =
      subst (λ h. Gains (edge es) h a b) (ap (λ v. edge (with_edge es a b v)) (sym z) ∙ after_is)
      (add_gains es n a b c.room c.first_below c.second_below c.apart (c.was ∙ ap not z))

  pub remove_pair : on ≡ false → Gains (with_pair (edge es) a b on) (edge es) a b
  remove_pair z =
      subst (λ h. Gains h (edge es) a b) (ap (λ v. edge (with_edge es a b v)) (sym z) ∙ after_is)
      (remove_gains es n a b c.room c.first_below c.second_below c.apart (c.was ∙ ap not z))

  -- the change by an edit
  pub score_change : (p : ℕ) → cond (touched (edge es) a b p) (change_by on (effect_of (edge (with_edge es a b true)) n a b p)) (pos 0)
      ≡ change_at (edge es) (with_pair (edge es) a b on) n p
  score_change p = each on refl ∙ ap (λ h. change_at (edge es) h n p) after_is
    where
      each : (v : Bool) → on ≡ v → cond (touched (edge es) a b p) (change_by on (effect_of (edge (with_edge es a b true)) n a b p)) (pos 0)
          ≡ change_at (edge es) (edge (with_edge es a b on)) n p
      each true z =
          rw z (effect_is (edge es) (edge (with_edge es a b true)) a b
          (add_gains es n a b c.room c.first_below c.second_below c.apart (c.was ∙ ap not z)) n c.first_below c.second_below true p)
      each false z =
          let was = c.was ∙ ap not z in
          let gains = remove_gains es n a b c.room c.first_below c.second_below c.apart was in
          rw (z, as_is was, ← touched_same (edge (with_edge es a b false)) (edge es) a b gains n c.first_below c.second_below false p)
          (effect_is (edge (with_edge es a b false)) (edge es) a b gains n c.first_below c.second_below false p)
