-- The laws of the counts that one pass makes for a strip: a node that is not linked keeps its count, one that is gets one more, and the counts
-- through a row are the degrees with its node. Assumes nothing.
use mathlib.Core.Bool.{◌&&◌, and-false, Bool, false, true}
use mathlib.Core.List.{List}
use mathlib.Core.Logic.{◌≢◌}
use mathlib.Core.Path.{ap, ap₂, refl, sym, ◌∙◌, ◌≡◌}
use Prim.Native.Nat.{◌*◌, ◌+◌, ◌-◌, ◌<◌, ◌^◌, zero-le, ℕ, ◌≤◌}
use native.Mathlib.Decide.{dec_lt, ℕ_discrete}
use native.Mathlib.Nat.{lt_of_le_of_lt, zero-add}
use native.Mathlib.Omega.{arith}
use borrow.Author.Tests.{le-ltb, lt-ltb}
use lib.Bits.{and_le_l, bit_and}
use lib.Count.{ones}
use lib.Dec.{lit<, ltb}
use lib.ListN.{get_or, length, length-set, replicate, set}
use lib.Seq.{ext_get_or, get_or-set_other, get_or-set_same}
use Rattle.arith.proofs.Counts.{count_none}
use Rattle.arith.proofs.Sums.{count_gain, count_more, count_to_ext, count_to_le, get_d_tabulate, length_tabulate, sum_to_cat, tabulate_ext, tabulate_same}
use Rattle.arith.proofs.Words.{LowDigit, past_top}
use Rattle.arith.specs.Digits.{bit_of}
use Rattle.arith.specs.Sums.{bit, count_to}
use Rattle.packed.proofs.EdgeLaws.{edge_comm, edge_self}
use Rattle.packed.proofs.RowLaws.{row_run}
use Rattle.packed.proofs.RunLaws.{run_at, run_lt}
use Rattle.packed.proofs.SetLaws.{ones_word}
use Rattle.packed.specs.Bits.{run_of, word_of}
use Rattle.packed.specs.Inside.Degrees.{Counted, counted_at, degree_in, degrees_from, degrees_of, degrees_to}
use Rattle.packed.specs.Inside.Runs.{max_run}
use Rattle.packed.specs.Edges.{edge}
use Rattle.packed.specs.Pairs.{max_nodes, pair_count}

-- ---- the degree of a node, and its count in the row of node b

in_below : (es : List ℕ) (n p : ℕ) → p < n → degree_in es n p ≡ count_to (edge es p) n
unfolding degree_in
in_below es n p h = rw (lt-ltb p n h)

in_past : (es : List ℕ) (n p : ℕ) → n ≤ p → degree_in es n p ≡ 0
unfolding degree_in
in_past es n p h = rw (le-ltb p n h)

at_behind : (es : List ℕ) (b a p : ℕ) → p < a → counted_at es b a p ≡ count_to (edge es p) (b + 1)
unfolding counted_at
at_behind es b a p h = rw (lt-ltb p a h)

at_ahead : (es : List ℕ) (b a p : ℕ) → a ≤ p → counted_at es b a p ≡ degree_in es b p
unfolding counted_at
at_ahead es b a p h = rw (le-ltb p a h)

-- ---- the lists of them

pub length_strip : (es : List ℕ) (first size n : ℕ) → length (degrees_from es first size n) ≡ size
unfolding degrees_from
length_strip es first size n = length_tabulate (λ j. degree_in es n (first + j)) size

place_at : (es : List ℕ) (first size n j : ℕ) → j < size → get_or (degrees_from es first size n) j 0 ≡ degree_in es n (first + j)
unfolding degrees_from
place_at es first size n j h = get_d_tabulate (λ j. degree_in es n (first + j)) size j 0 h

pub strip_at : (es : List ℕ) (first size n j : ℕ) → j < size → first + j < n → get_or (degrees_from es first size n) j 0 ≡ count_to (edge es (first + j)) n
strip_at es first size n j h l = place_at es first size n j h ∙ in_below es n (first + j) l

pub length_degrees : (es : List ℕ) (n : ℕ) → length (degrees_of es n) ≡ max_nodes
length_degrees es n = length_strip es 0 max_nodes n

pub degree_at : (es : List ℕ) (n p : ℕ) → n ≤ max_nodes → p < n → get_or (degrees_of es n) p 0 ≡ count_to (edge es p) n
degree_at es n p h l = strip_at es 0 max_nodes n p (omega arith) (omega arith) ∙ ap (λ q. count_to (edge es q) n) (zero-add p)

pub degree_past : (es : List ℕ) (n p : ℕ) → n ≤ p → p < max_nodes → get_or (degrees_of es n) p 0 ≡ 0
degree_past es n p h l = place_at es 0 max_nodes n p l ∙ in_past es n (0 + p) (omega arith)

-- before the first row there is none
pub degrees_none : (es : List ℕ) (first size : ℕ) → replicate size 0 ≡ degrees_from es first size first
unfolding degrees_from
degrees_none es first size = sym (tabulate_ext (λ j. degree_in es first (first + j)) (λ _. 0) size (λ j h. in_past es first (first + j) (omega arith)) ∙ tabulate_same 0 size)

pub length_row : (es : List ℕ) (first size b a : ℕ) → length (degrees_to es first size b a) ≡ size
unfolding degrees_to
length_row es first size b a = length_tabulate (λ j. counted_at es b a (first + j)) size

row_at : (es : List ℕ) (first size b a j : ℕ) → j < size → get_or (degrees_to es first size b a) j 0 ≡ counted_at es b a (first + j)
unfolding degrees_to
row_at es first size b a j h = get_d_tabulate (λ j. counted_at es b a (first + j)) size j 0 h

pub row_start : (es : List ℕ) (first size b : ℕ) → degrees_from es first size b ≡ degrees_to es first size b first
unfolding degrees_from degrees_to
row_start es first size b = tabulate_ext _ _ size (λ j h. sym (at_ahead es b first (first + j) (omega arith)))

-- the end of a row past the strip,
pub row_past : (es : List ℕ) (first size b : ℕ) → first + size ≤ b → degrees_to es first size b (first + size) ≡ degrees_from es first size (b + 1)
unfolding degrees_from degrees_to
row_past es first size b h =
    tabulate_ext _ _ size (λ j l. at_behind es b (first + size) (first + j) (omega arith) ∙ sym (in_below es (b + 1) (first + j) (omega arith)))

-- and of one whose node is in it: b takes its own count
pub row_end : (es : List ℕ) (first size b : ℕ) {counts : List ℕ} {own : ℕ} → first ≤ b → b < first + size → counts ≡ degrees_to es first size b b
    → own ≡ count_to (edge es b) b → set counts (b - first) own ≡ degrees_from es first size (b + 1)
row_end es first size b {counts} {own} h l e k =
    let long : length counts ≡ size = ap length e ∙ length_row es first size b b in
    let at : (j : ℕ) → j < size → get_or counts j 0 ≡ counted_at es b b (first + j) = λ j t. ap (λ c. get_or c j 0) e ∙ row_at es first size b b j t in
    let here : first + (b - first) ≡ b = omega arith in
    let mine : own ≡ count_to (edge es b) (b + 1) = k ∙ sym (count_more (edge es b) b false (edge_self es b b refl) ∙ omega arith) in
    ext_get_or 0 (set counts (b - first) own) (degrees_from es first size (b + 1)) (length-set counts (b - first) own ∙ long ∙ sym (length_strip es first size (b + 1))) (λ j s.
    let t : j < size = omega (arith, length-set counts (b - first) own, long) in
    elim (ℕ_discrete j (b - first)) [
      | yes q ↦ rw q (get_or-set_same counts (b - first) own 0 (omega (arith, long)) ∙ mine ∙ sym (place_at es first size (b + 1) (b - first) (omega arith)
          ∙ ap (degree_in es (b + 1)) here ∙ in_below es (b + 1) b (omega arith)))
      | no d ↦ get_or-set_other counts (b - first) j own 0 d ∙ at j t ∙ elim (dec_lt (first + j) b) [
        | yes u ↦ at_behind es b b (first + j) u ∙ sym (place_at es first size (b + 1) j t ∙ in_below es (b + 1) (first + j) (omega arith))
        | no u ↦ at_ahead es b b (first + j) (omega arith) ∙ in_past es b (first + j) (omega arith)
            ∙ sym (place_at es first size (b + 1) j t ∙ in_past es (b + 1) (first + j) (omega arith))
      ]
    ])

-- the ones of a run more
pub ones_more : (es : List ℕ) (b k : ℕ) {own run : ℕ} → max_run * (k + 1) ≤ b → own ≡ count_to (edge es b) (max_run * k)
    → run ≡ run_of es (pair_count b + max_run * k) max_run → own + ones run ≡ count_to (edge es b) (max_run * (k + 1))
ones_more es b k h e q =
    let more : max_run * k + max_run ≡ max_run * (k + 1) = omega arith in
    ap₂ (λ x y. x + y) e (ap ones (q ∙ row_run es b (max_run * k) max_run (omega arith)) ∙ ones_word (edge es b) (max_run * k) max_run)
    ∙ sym (sum_to_cat (λ q. bit (edge es b q)) (max_run * k) max_run) ∙ ap (count_to (edge es b)) more

-- ---- a run of the row, its linked nodes from the last on

-- node p is before `end`, and its digit is left of a run up to there
abbrev left_at : ℕ → ℕ → ℕ → Bool
left_at left end p = ltb p end && bit_of left (end - 1 - p)

-- the nodes that are left are all that the counts lack
pub record Counts (es counts : List ℕ) (first size b at end own left : ℕ) : Type 0 where
  pub small : left < 2 ^ (end - at)
  pub long : length counts ≡ size
  pub each : (j : ℕ) → j < size → get_or counts j 0 + bit (left_at left end (first + j)) ≡ counted_at es b end (first + j)
  pub mine : count_to (edge es b) at + own + count_to (left_at left end) end ≡ count_to (edge es b) end

-- no count is above a degree
pub counts_most : (es counts : List ℕ) (first size b at end own left j : ℕ) → j < size → first + j < end → Counts es counts first size b at end own left
    → get_or counts j 0 ≤ b + 1
counts_most es counts first size b at end own left j h k r =
    omega (arith, r.each j h, at_behind es b end (first + j) k, count_to_le (edge es (first + j)) (b + 1))

-- at first they are the linked ones
module _ (es : List ℕ) (first size b at end left : ℕ) (k : at ≤ end) (l : end ≤ b) (e : left ≡ word_of (edge es b) at (end - at)) where
  first_small : left < 2 ^ (end - at)
  first_small = rw e (run_lt (edge es b) at (end - at))

  left_before : (p : ℕ) → p < at → left_at left end p ≡ false
  left_before p s = rw (past_top left (end - at) (end - 1 - p) first_small (omega arith)) (and-false (ltb p end))

  left_inside : (p : ℕ) → at ≤ p → p < end → left_at left end p ≡ edge es b p
  left_inside p s t = rw (lt-ltb p end t) (run_at (edge es b) at end p e s t)

  first_each : (p : ℕ) → counted_at es b at p + bit (left_at left end p) ≡ counted_at es b end p
  first_each p = elim (dec_lt p at) [
    | yes s ↦ omega (arith, at_behind es b at p s, at_behind es b end p (omega arith), ap bit (left_before p s))
    | no s ↦ elim (dec_lt p end) [
      | yes t ↦ omega (
        arith,
        at_ahead es b at p (omega arith) ∙ in_below es b p (omega arith),
        at_behind es b end p t,
        ap bit (left_inside p (omega arith) t),
        count_more (edge es p) b (edge es b p) (edge_comm es p b),
      )
      | no t ↦ rw (le-ltb p end (omega arith)) (omega (arith, at_ahead es b at p (omega arith), at_ahead es b end p (omega arith)))
    ]
  ]

  first_mine : count_to (edge es b) at + 0 + count_to (left_at left end) end ≡ count_to (edge es b) end
  first_mine =
      let m : ℕ = end - at in
      let all : end ≡ at + m = omega arith in
      omega (
        arith,
        ap (count_to (left_at left end)) all ∙ sum_to_cat (λ p. bit (left_at left end p)) at m,
        count_none (left_at left end) at left_before,
        count_to_ext (λ i. left_at left end (at + i)) (λ i. edge es b (at + i)) m (λ i s. left_inside (at + i) (omega arith) (omega arith)),
        ap (count_to (edge es b)) all ∙ sum_to_cat (λ p. bit (edge es b p)) at m,
      )

  pub first_counts : {counts : List ℕ} → counts ≡ degrees_to es first size b at → Counts es counts first size b at end 0 left
  first_counts q = record {
    small = first_small;
    long = ap length q ∙ length_row es first size b at;
    each = λ j h. ap (λ c. get_or c j 0 + bit (left_at left end (first + j))) q
        ∙ ap (λ x. x + bit (left_at left end (first + j))) (row_at es first size b at j h) ∙ first_each (first + j);
    mine = first_mine;
  }

-- the place of the node of digit t
pub place_of : (first at end t : ℕ) → t < end - at → first ≤ at → first + (end - first - 1 - t) + t + 1 ≡ end
place_of first at end t h f = omega arith

-- a turn takes the last of them,
pub next_counts : (es counts : List ℕ) (first size b at end own left t j : ℕ) → first + j + t + 1 ≡ end → end ≤ first + size → LowDigit left t
    → Counts es counts first size b at end own left
    → Counts es (set counts j (get_or counts j 0 + 1)) first size b at end (own + 1) (bit_and left (left - 1))
next_counts es counts first size b at end own left t j h k l r =
    let a : ℕ = first + j in
    let place : end - 1 - a ≡ t = omega arith in
    let before : a < end = omega arith in
    let rest : ℕ = bit_and left (left - 1) in
    let on : left_at left end a ≡ true = rw (lt-ltb a end before) (ap (bit_of left) place ∙ l.on) in
    let off : left_at rest end a ≡ false = rw (lt-ltb a end before) (ap (bit_of rest) place ∙ l.off) in
    let others : (p : ℕ) → p ≢ a → left_at rest end p ≡ left_at left end p = λ p d. elim (dec_lt p end) [
      | yes s ↦ ap (λ x. ltb p end && x) (l.others (end - 1 - p) (λ q. d (omega arith)))
      | no s ↦ rw (le-ltb p end (omega arith))
    ] in
    record {
      small = lt_of_le_of_lt (and_le_l left (left - 1)) r.small;
      long = length-set counts j _ ∙ r.long;
      each = λ i s. elim (ℕ_discrete i j) [
        | yes e ↦ rw e (omega (arith, get_or-set_same counts j (get_or counts j 0 + 1) 0 (omega (arith, r.long)), ap bit off, ap bit on, r.each j (omega arith)))
        | no d ↦ omega (arith, get_or-set_other counts j i (get_or counts j 0 + 1) 0 d, ap bit (others (first + i) (λ q. d (omega arith))), r.each i s)
      ];
      mine = omega (arith, r.mine, count_gain (left_at rest end) (left_at left end) end a (omega arith) off on others);
    }

-- and at last there is none
pub all_counts : (es counts : List ℕ) (first size b at end own left : ℕ) → Counts es counts first size b at end own left → left ≡ 0
    → Counted es counts first size b at end own
all_counts es counts first size b at end own left r e =
    let none : (p : ℕ) → left_at left end p ≡ false = λ p. rw (e, past_top 0 0 (end - 1 - p) (lit< tt) zero-le) (and-false (ltb p end)) in
    record {
      each = ext_get_or 0 counts (degrees_to es first size b end) (r.long ∙ sym (length_row es first size b end)) (λ j s.
          let t : j < size = omega (arith, r.long) in
          omega (arith, r.each j t, ap bit (none (first + j)), row_at es first size b end j t));
      mine = omega (arith, r.mine, count_none (left_at left end) end (λ p s. none p));
    }
