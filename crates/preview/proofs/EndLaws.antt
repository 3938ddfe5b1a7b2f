-- The two ends at hand: what they hold, and the effect of their edge from it. Assumes nothing.
use mathlib.Core.Bool.{cond, false, true, true≢false}
use mathlib.Core.List.{List}
use mathlib.Core.Logic.{◌≢◌}
use mathlib.Core.Path.{ap, ap₂, subst, sym, ◌∙◌, ◌≡◌}
use Prim.Native.Nat.{◌*◌, ◌+◌, ◌<◌, ◌^◌, ℕ, ◌≤◌}
use native.Mathlib.Omega.{arith}
use lib.ListN.{get_or, length, length-replicate, replicate, set}
use lib.Dec.{eqb}
use Rattle.arith.proofs.Sums.{fill_length, Filling, filling_more, get_or_fill_to, get_or_fill_to_past, sum_to_ext}
use Rattle.packed.proofs.BitLaws.{zero_at}
use native.Mathlib.Nat.{le_refl}
use Rattle.arith.specs.Digits.{bit_of}
use Rattle.arith.specs.Sums.{bit, pack_to}
use Rattle.edits.proofs.EditLaws.{edge_apart}
use Rattle.ego.proofs.FoundLaws.{Found, node_linked, node_place}
use Rattle.ego.proofs.WordLaws.{link_self, word_bit}
use Rattle.std.proofs.Common.{get_or-take, IsSome, Option, take}
use Rattle.ego.specs.Graph.{degree}
use Rattle.ego.specs.Inside.Words.{Ascending, link_at, shared_bits, word_count}
use Rattle.ego.specs.Limits.{limit}
use Rattle.packed.proofs.EdgeLaws.{edge_comm, edge_self, with_comm}
use Rattle.packed.specs.Edges.{edge, with_edge}
use Rattle.packed.specs.Inside.Search.{FirstIn}
use Rattle.preview.proofs.ByWordsLaws.{across_few, new_shares_is, pair_share_is, shared_falls_is, side_falls_is}
use Rattle.preview.proofs.FallLaws.{counted_apart, new_shares_fit, shared_falls_fit, share_of_most, side_falls_most}
use Rattle.preview.proofs.PresentLaws.{linked_ascending, place_there}
use Rattle.preview.proofs.RuleLaws.{worded}
use Rattle.preview.specs.Inside.ByWords.{common_falls_in, Crossed, new_shares_in, shared_falls_in, Sided, side_falls_in, Worded}
use Rattle.preview.specs.Inside.Effect.{CommonOf, end_effect, Fits}
use Rattle.preview.specs.Inside.Ends.{Affected, Crossable, crossing_of, EndOf}
use Rattle.preview.specs.Rules.{common_falls, connectors, share_of, side_falls}
use Rattle.preview.specs.declared.effect.Effect.{Effect}
use Rattle.preview.specs.declared.ends.End.{End}
use Rattle.preview.specs.declared.ends.Ends.{Ends}

module _ {es : List ℕ} {n u v : ℕ} {e : End} (h : EndOf es n u v e) where
  pub end_nodes : Found es n u e.near.nodes e.near.count
  end_nodes = record { first = h.first; all = h.all }

  pub end_worded : Worded e.words e.near.count
  end_worded = worded h.words h.few (link_self es e.near.nodes)

  -- the effect on the end
  pub end_is : {r : Effect} → r ≡ record { brings = new_shares_in e.words e.near.count e.at; costs = shared_falls_in e.words e.near.count e.at }
      → r ≡ end_effect (edge es) n u v
  unfolding end_effect
  end_is q =
      q ∙ ap₂ {C = Effect} (λ x y. record { brings = x; costs = y }) (new_shares_is end_nodes h.few h.words e.at v h.inside h.other)
      (shared_falls_is end_nodes h.few h.words e.at v h.inside h.other)

  pub end_fits : {r : Effect} → r ≡ record { brings = new_shares_in e.words e.near.count e.at; costs = shared_falls_in e.words e.near.count e.at } → Fits r
  end_fits q = rw q (new_shares_fit e.words h.few e.at, shared_falls_fit e.words h.few e.at)

-- named the other way round
pub end_turned : (es : List ℕ) {n a b : ℕ} {e : End} → EndOf (with_edge es b a true) n b a e → EndOf (with_edge es a b true) n b a e
end_turned es {n} {a} {b} {e} h = subst (λ l. EndOf l n b a e) (with_comm es b a true) h

module _ (es : List ℕ) {n a b : ℕ} (s : Affected es n a b a) where
  -- the nodes of an end can be read without the edge
  end_ascending : {u v : ℕ} {e : End} → EndOf (with_edge es a b true) n u v e → Ascending es e.near.nodes e.near.count
  end_ascending h = linked_ascending es n a b s.room s.first_below s.second_below s.apart (end_nodes h) h.few

  pub crossable : {u v u' v' : ℕ} {from to : End} → EndOf (with_edge es a b true) n u v from → EndOf (with_edge es a b true) n u' v' to → Crossable es from to
  crossable h k = record { start = end_ascending h; stop = end_ascending k; inside = h.inside }

-- ---- the words from one end to the other

-- a turn that leaves a 0 where it is
pub filling_kept : (m : ℕ) {f : ℕ → ℕ} {n k : ℕ} {l : List ℕ} → Filling f (take n (replicate m 0)) n l k → k < n → f k ≡ 0
    → Filling f (take n (replicate m 0)) n (set l k (get_or l k 0)) (k + 1)
filling_kept m {f} {n} {k} {l} w h z =
    let zero_there : get_or (take n (replicate m 0)) k 0 ≡ 0 = rw get_or-take (zero_at m k) in
    filling_more w h (ap (λ a. get_or a k 0) w.done ∙ get_or_fill_to_past f _ 0 k k (le_refl k) ∙ zero_there ∙ sym z)

module _ (es : List ℕ) (from to : End) (few : from.near.count ≤ limit) {crossing : List ℕ} (c : crossing ≡ crossing_of es from to) where
  abbrev word : ℕ → ℕ
  word k = cond (bit_of (get_or from.words from.at 0) k) 0 (pack_to (λ j. edge es (get_or from.near.nodes k 0) (get_or to.near.nodes j 0)) to.near.count)

  crossing_long : length crossing ≡ word_count
  unfolding crossing_of
  crossing_long = fill_length word (replicate word_count 0) from.near.count c ∙ length-replicate {A = ℕ} word_count 0

  crossing_held : (k : ℕ) → k < from.near.count → bit_of (get_or from.words from.at 0) k ≡ false
      → get_or crossing k 0 ≡ pack_to (λ j. edge es (get_or from.near.nodes k 0) (get_or to.near.nodes j 0)) to.near.count
  unfolding crossing_of
  crossing_held k h e =
      ap (λ w. get_or w k 0) c ∙ get_or_fill_to word (replicate word_count 0) 0 from.near.count k h (omega (arith, few, length-replicate {A = ℕ} word_count 0)) ∙ rw e

-- ---- from the end u to the other, v, for a common neighbour w: the edges that are read are the same with the edge

module _ (es : List ℕ) {n a b u v : ℕ} (sides : (x : ℕ) → x ≢ u → x ≢ v → (x ≢ a) × (x ≢ b)) {from to : End} {crossing : List ℕ}
    (h : EndOf (with_edge es a b true) n u v from) (k : EndOf (with_edge es a b true) n v u to) (c : crossing ≡ crossing_of es from to)
    {w i j : ℕ} (hi : i < from.near.count) (hj : j < to.near.count) (iw : get_or from.near.nodes i 0 ≡ w) (jw : get_or to.near.nodes j 0 ≡ w) where
  abbrev linked : List ℕ
  linked = with_edge es a b true

  other_end : (m : ℕ) → m < from.near.count → get_or from.near.nodes m 0 ≢ u
  other_end m l e = true≢false (sym (node_linked (end_nodes h) h.few m l) ∙ edge_self linked u (get_or from.near.nodes m 0) (sym e))

  crosses : (m : ℕ) → m < from.near.count → get_or from.near.nodes m 0 ≢ v → edge linked v (get_or from.near.nodes m 0) ≡ false
      → get_or crossing m 0 ≡ pack_to (λ q. edge linked (get_or from.near.nodes m 0) (get_or to.near.nodes q 0)) to.near.count
  unfolding link_at
  crosses m l d unlinked =
      let x = get_or from.near.nodes m 0 in
      let apart = sides x (other_end m l) d in
      crossing_held es from to h.few c m l (word_bit (link_at linked from.near.nodes) from.near.count h.words from.at m h.inside l ∙ ap (λ y. edge linked y x) h.other ∙ unlinked)
      ∙ sum_to_ext _ _ to.near.count (λ q r. ap (λ t. bit t * 2 ^ q) (sym (edge_apart es a b true x (get_or to.near.nodes q 0) (λ p z. apart.0 p) (λ p z. apart.1 p))))

  pub side_is : side_falls_in from.words crossing from.near.count from.at (get_or from.words i 0) (get_or to.words j 0) ≡ side_falls (edge linked) n w u v
  side_is =
      side_falls_is crossing (end_nodes h) h.few h.words (end_nodes k) k.few k.words crosses from.at h.inside h.other w i j hi hj iw jw

  pub share_is : shared_bits from.words i from.at ≡ connectors (edge linked) n w (u, v)
  share_is =
      pair_share_is crossing (end_nodes h) h.few h.words (end_nodes k) k.few k.words crosses from.at h.inside h.other w i j hi hj iw jw

  pub sided : degree (edge linked) n w ≤ limit → Sided from.words crossing from.near.count from.at (get_or from.words i 0) (get_or to.words j 0)
  sided few = record {
    few = h.few;
    inside = h.inside;
    long = h.words.size;
    across_long = crossing_long es from to h.few c;
    counted = across_few crossing (end_nodes h) h.few h.words (end_nodes k) k.few k.words crosses from.at h.inside h.other w i j hi hj iw jw few;
  }

-- ---- the effect on a common neighbour

module _ {es : List ℕ} {n a b w : ℕ} {e : Ends} (m : CommonOf es n a b e w) where
  -- it is a neighbour of both ends with the edge too
  near : (u : ℕ) → edge es w u ≡ true → edge (with_edge es a b true) u w ≡ true
  near u l = edge_comm (with_edge es a b true) u w ∙ edge_apart es a b true w u (λ p q. w_apart m.shared.first p) (λ p q. w_apart m.shared.second p) ∙ l
    where
      w_apart : {q : ℕ} → edge es w q ≡ true → w ≡ q → ⊥
      w_apart {q} t z = true≢false (sym t ∙ edge_self es w q z)

  pub first_there : (o : Option ℕ) → FirstIn (λ k. eqb (get_or e.first.near.nodes k 0) w) 0 e.first.near.count o → IsSome o
  first_there o f = let h = m.both.first in place_there e.first.near.nodes o f (node_place (end_nodes h) h.few w m.affected.below (near a m.shared.first))

  pub second_there : (o : Option ℕ) → FirstIn (λ k. eqb (get_or e.second.near.nodes k 0) w) 0 e.second.near.count o → IsSome o
  second_there o f = let h = m.both.second in place_there e.second.near.nodes o f (node_place (end_nodes h) h.few w m.affected.below (near b m.shared.second))

  module _ {i j : ℕ} (at : (i < e.first.near.count) × (get_or e.first.near.nodes i 0 ≡ w))
      (at' : (j < e.second.near.count) × (get_or e.second.near.nodes j 0 ≡ w)) where
    forth_sides : (x : ℕ) → x ≢ a → x ≢ b → (x ≢ a) × (x ≢ b)
    forth_sides x p q = (p, q)

    back_sides : (x : ℕ) → x ≢ b → x ≢ a → (x ≢ a) × (x ≢ b)
    back_sides x p q = (q, p)

    pub crossed : Crossed e i j
    crossed =
        let h = m.both.first in
        let k = m.both.second in
        record {
          first_inside = omega (arith, at.0, h.few);
          second_inside = omega (arith, at'.0, k.few);
          pair = counted_apart (end_worded h).tabled i e.first.at
              (λ z. true≢false (sym m.shared.second ∙ edge_self es w b (sym at.1 ∙ ap (λ p. get_or e.first.near.nodes p 0) z ∙ h.other))) at.0 h.inside;
          forth = sided es forth_sides h k m.both.forth at.0 at'.0 at.1 at'.1 m.affected.few;
          back = sided es back_sides k h m.both.back at'.0 at.0 at'.1 at.1 m.affected.few;
        }

    pub falls_are : common_falls_in e.first e.second e.forth e.back i j ≡ common_falls (edge (with_edge es a b true)) n w a b
    unfolding common_falls_in common_falls
    falls_are =
        let h = m.both.first in
        let k = m.both.second in
        ap₂ (λ (x y : ℕ). x + y) (ap share_of (share_is es forth_sides h k m.both.forth at.0 at'.0 at.1 at'.1))
        (ap₂ (λ (x y : ℕ). x + y) (side_is es forth_sides h k m.both.forth at.0 at'.0 at.1 at'.1)
        (side_is es back_sides k h m.both.back at'.0 at.0 at'.1 at.1))

-- ---- its falls fit

pub falls_fit : (e : Ends) {i j : ℕ} → Crossed e i j → common_falls_in e.first e.second e.forth e.back i j < 2 ^ 63
unfolding common_falls_in
falls_fit e {i} {j} c =
    let own = get_or e.first.words i 0 in
    let other = get_or e.second.words j 0 in
    omega (
      arith,
      c.forth.few,
      c.back.few,
      share_of_most (shared_bits e.first.words i e.first.at),
      side_falls_most e.first.words e.forth e.first.near.count e.first.at own other,
      side_falls_most e.second.words e.back e.second.near.count e.second.at other own,
    )
