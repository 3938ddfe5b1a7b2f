-- The degrees after one edge more, or one less: those of its ends shift, and the others stay. Assumes nothing.
use mathlib.Core.Bool.{Bool, false, not, true}
use mathlib.Core.List.{List}
use mathlib.Core.Logic.{◌≢◌}
use mathlib.Core.Path.{ap, sym, ◌∙◌, ◌≡◌}
use Prim.Native.Nat.{◌+◌, ◌<◌, max, min, ℕ}
use native.Mathlib.Decide.{dec_lt, ℕ_discrete}
use native.Mathlib.Omega.{arith}
use lib.ListN.{get_or, length, length-set, set}
use lib.Seq.{ext_get_or, get_or-set_other, get_or-set_same}
use Rattle.arith.proofs.Sums.{bit_le, count_gain, count_to_ext, count_to_le}
use Rattle.arith.specs.Sums.{bit, count_to}
use Rattle.packed.proofs.DegreeLaws.{degree_at, degree_past, length_degrees}
use Rattle.packed.proofs.EdgeLaws.{edge_comm, edge_with_other, edge_with_same}
use Rattle.packed.proofs.PairLaws.{pair_within, room_within}
use Rattle.packed.specs.Edges.{edge, with_edge}
use Rattle.packed.specs.Pairs.{max_nodes}
use Rattle.packed.specs.Inside.Room.{Room}
use Rattle.packed.specs.Inside.Degrees.{degrees_of, moved, shifted, Shiftable}

-- a test that changes at one number
count_moved : (on : Bool) (p q : ℕ → Bool) (n k : ℕ) → k < n → p k ≡ not on → q k ≡ on → ((j : ℕ) → j ≢ k → q j ≡ p j)
    → (count_to q n ≡ moved on (count_to p n)) × (0 < count_to p n + bit on)
unfolding moved
count_moved true p q n k l a b h = (count_gain p q n k l a b (λ j d. sym (h j d)), omega arith)
count_moved false p q n k l a b h = let e = count_gain q p n k l b a h in (omega arith, omega arith)

no_pair : (a b p j : ℕ) → p ≢ a → p ≢ b → max p j ≡ max a b → min p j ≡ min a b → ⊥
no_pair a b p j c d x y = omega arith

-- a shifted list, place by place
module _ (ds : List ℕ) (a b : ℕ) (on : Bool) where
  pub shifted_first : a ≢ b → a < length ds → get_or (shifted ds a b on) a 0 ≡ moved on (get_or ds a 0)
  unfolding shifted
  shifted_first two h = get_or-set_other (set ds a (moved on (get_or ds a 0))) b a (moved on (get_or ds b 0)) 0 two ∙ get_or-set_same ds a (moved on (get_or ds a 0)) 0 h

  pub shifted_second : b < length ds → get_or (shifted ds a b on) b 0 ≡ moved on (get_or ds b 0)
  unfolding shifted
  shifted_second h = get_or-set_same (set ds a (moved on (get_or ds a 0))) b (moved on (get_or ds b 0)) 0 (simp length-set h)

  pub shifted_other : (p : ℕ) → p ≢ a → p ≢ b → get_or (shifted ds a b on) p 0 ≡ get_or ds p 0
  unfolding shifted
  shifted_other p c d = get_or-set_other (set ds a (moved on (get_or ds a 0))) b p (moved on (get_or ds b 0)) 0 d ∙ get_or-set_other ds a p (moved on (get_or ds a 0)) 0 c

  length_shifted : length (shifted ds a b on) ≡ length ds
  unfolding shifted
  length_shifted = simp length-set

module _ (es : List ℕ) (n a b : ℕ) (on : Bool) (two : a ≢ b) (ha : a < n) (hb : b < n) (room : Room n es) (was : edge es a b ≡ not on) where
  abbrev after : List ℕ
  after = with_edge es a b on

  now_on : edge after a b ≡ on
  now_on = edge_with_same es a b on two (pair_within a b (length es) two (room_within a b n es ha hb room).bits)

  -- THE DEGREE OF EACH END one more, or one less
  pub first_moved : (count_to (edge after a) n ≡ moved on (count_to (edge es a) n)) × (0 < count_to (edge es a) n + bit on)
  first_moved = count_moved on (edge es a) (edge after a) n b hb was now_on (λ j d. edge_with_other es a b on a j (λ x y. omega arith))

  pub second_moved : (count_to (edge after b) n ≡ moved on (count_to (edge es b) n)) × (0 < count_to (edge es b) n + bit on)
  second_moved =
      count_moved on (edge es b) (edge after b) n a ha (edge_comm es b a ∙ was) (edge_comm after b a ∙ now_on)
      (λ j d. edge_with_other es a b on b j (λ x y. omega arith))

  -- and every other as it was
  pub other_kept : (p : ℕ) → p ≢ a → p ≢ b → count_to (edge after p) n ≡ count_to (edge es p) n
  other_kept p c d = count_to_ext _ _ n (λ j l. edge_with_other es a b on p j (no_pair a b p j c d))

  long : length (degrees_of es n) ≡ max_nodes
  long = length_degrees es n

  elsewhere : (p : ℕ) → p < max_nodes → p ≢ a → p ≢ b → get_or (degrees_of es n) p 0 ≡ get_or (degrees_of after n) p 0
  elsewhere p l c d = elim (dec_lt p n) [
    | yes h ↦ degree_at es n p room.few h ∙ sym (other_kept p c d) ∙ sym (degree_at after n p room.few h)
    | no h ↦ degree_past es n p (omega arith) l ∙ sym (degree_past after n p (omega arith) l)
  ]

  -- THE TABLE after the shift is that of the edges after the change
  pub shifted_degrees : shifted (degrees_of es n) a b on ≡ degrees_of after n
  shifted_degrees =
      let few = room.few in
      let ds = degrees_of es n in
      ext_get_or 0 _ _ (length_shifted ds a b on ∙ long ∙ sym (length_degrees after n)) (λ p l. elim (ℕ_discrete p b) [
        | yes e ↦ rw e (shifted_second ds a b on (omega (arith, long)) ∙ ap (moved on) (degree_at es n b few hb)
            ∙ sym second_moved.0 ∙ sym (degree_at after n b few hb))
        | no d ↦ elim (ℕ_discrete p a) [
          | yes e ↦ rw e (shifted_first ds a b on two (omega (arith, long)) ∙ ap (moved on) (degree_at es n a few ha)
              ∙ sym first_moved.0 ∙ sym (degree_at after n a few ha))
          | no c ↦ shifted_other ds a b on p c d ∙ elsewhere p (omega (arith, length_shifted ds a b on, long)) c d
        ]
      ])

  -- and no degree wraps
  pub shiftable : Shiftable (degrees_of es n) a b on
  shiftable =
      let few = room.few in
      let first = degree_at es n a few ha in
      let second = degree_at es n b few hb in
      record {
        first_below = omega (arith, long);
        second_below = omega (arith, long);
        first_some = omega (arith, first_moved.1);
        second_some = omega (arith, second_moved.1);
        first_fits = omega (arith, count_to_le (edge es a) n, bit_le on);
        second_fits = omega (arith, count_to_le (edge es b) n, bit_le on);
      }
