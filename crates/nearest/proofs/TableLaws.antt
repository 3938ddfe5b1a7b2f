-- The laws of the table of rows: a word that takes nodes in, a table of zeros, and the sizes of the rows. Assumes nothing.
use mathlib.Core.Bool.{◌&&◌, and-false, Bool, false, or-false, ◌||◌}
use mathlib.Core.List.{List}
use mathlib.Core.Path.{ap, ap₂, sym, ◌∙◌, ◌≡◌}
use Prim.Native.Nat.{◌%◌, ◌*◌, ◌+◌, ◌/◌, ◌<◌, ◌^◌, suc, zero, ℕ, zero-le, ◌≤◌}
use native.Mathlib.Decide.{ℕ_discrete}
use native.Mathlib.Omega.{arith}
use borrow.Author.Tests.{eq-eqb, le-ltb, lt-ltb, ne_eqb}
use lib.Count.{ones}
use lib.Dec.{eqb, lit<, ltb}
use Rattle.std.proofs.Common.{get_or-drop, length-drop}
use lib.ListN.{drop, get_or, length, length-replicate, length-set, replicate, set, take}
use native.Mathlib.Numerals.{add-one}
use Rattle.std.proofs.lemmas.List.Sums.{sum_by_more}
use Rattle.std.specs.List.{list_any, range_with_len, sum_by}
use lib.Pow.{pow_pos}
use lib.Seq.{get_or-set_other, get_or-set_same}
use Rattle.arith.proofs.Counts.{count_skip}
use Rattle.arith.proofs.Sums.{any_to_ext, any_to_first, any_to_none, count_to_ext, sum_to_cat, sum_to_none}
use Rattle.arith.specs.Sums.{any_to, bit, count_to}
use Rattle.packed.proofs.BitLaws.{same_words, zero_at}
use Rattle.packed.specs.Pairs.{max_nodes}
use Rattle.packed.specs.Inside.Runs.{max_run}
use Rattle.ego.proofs.FoundLaws.{degree_is}
use Rattle.ego.specs.Graph.{Graph}
use Rattle.ego.specs.Limits.{limit}
use Rattle.state.specs.Refusal.{everyone, too_many}
use Rattle.nearest.proofs.StripLaws.{strip_ones, word_none}
use Rattle.nearest.specs.Inside.Levels.{among}
use Rattle.nearest.specs.Inside.Strips.{in_row, in_word, places, Rows, strips, Table, TableOf, table_words}

-- the words are known by the test
pub table_one : {s t : List ℕ} {g : Graph} → TableOf s g → TableOf t g → s ≡ t
unfolding in_row in_word
table_one {s} {t} a b = same_words max_run (lit< tt) s t (a.table.long ∙ sym b.table.long) a.table.narrow b.table.narrow (λ i h.
    let x : ℕ = i / places in
    let y : ℕ = i % places in
    let l : y < places = omega arith in
    let place : strips * x + y / max_run ≡ i / max_run = omega arith in
    let rest : y % max_run ≡ i % max_run = omega arith in
    rw (place, rest) at (a.has x y l ∙ sym (b.has x y l)))

-- ---- a word that is stored: word j of row a

module _ (rows : List ℕ) (a j : ℕ) (w : ℕ) (s : j < strips) (h : strips * a + j < length rows) where
  pub table-set : Table rows → w < 2 ^ max_run → Table (set rows (strips * a + j) w)
  table-set t l = record {
    long = length-set rows (strips * a + j) w ∙ t.long;
    narrow = λ k. elim (ℕ_discrete k (strips * a + j)) [
      | yes e ↦ rw (e, get_or-set_same rows (strips * a + j) w 0 h) l
      | no d ↦ rw (get_or-set_other rows (strips * a + j) k w 0 d) (t.narrow k)
    ];
  }

  -- it has the nodes of the word before, and those that pass a test
  pub row_set : (f : ℕ → Bool) → ((y : ℕ) → y / max_run ≡ j → in_word w y ≡ in_word (get_or rows (strips * a + j) 0) y || f y) → (x y : ℕ) → y < places
      → in_row (set rows (strips * a + j) w) x y ≡ in_row rows x y || (eqb x a && (eqb (y / max_run) j && f y))
  unfolding in_row
  row_set f more x y l = elim (ℕ_discrete (strips * x + y / max_run) (strips * a + j)) [
    | yes e ↦ rw (e, get_or-set_same rows (strips * a + j) w 0 h, eq-eqb x a (omega arith), eq-eqb (y / max_run) j (omega arith)) (more y (omega arith))
    | no d ↦
        let none : eqb x a && (eqb (y / max_run) j && f y) ≡ false = elim (ℕ_discrete x a) [
          | yes e ↦ rw (ne_eqb (y / max_run) j (λ q. d (omega arith))) (and-false (eqb x a))
          | no e ↦ rw (ne_eqb x a e)
        ] in
        ap (λ v. in_word v y) (get_or-set_other rows (strips * a + j) (strips * x + y / max_run) w 0 d) ∙ sym (rw none (or-false (in_row rows x y)))
  ]

-- ---- zeros are the rows of no nodes

pub rows_none : (g : Graph) {rows : List ℕ} → rows ≡ replicate table_words 0 → Rows g 0 rows
unfolding in_row among
rows_none g e = rw e (record {
  table = record { long = length-replicate {A = ℕ} table_words 0; narrow = λ k. rw (zero_at table_words k) (pow_pos max_run) };
  has = λ x y h. ap (λ w. in_word w y) (zero_at table_words (strips * x + y / max_run)) ∙ word_none y ∙ sym (ap (λ t. t && (ltb y 0 && g x y)) (le-ltb x 0 zero-le));
})

-- ---- the sizes of the rows

-- one word more
pub size_more : (rows : List ℕ) (p k : ℕ) {size : ℕ} → Table rows → size ≡ count_to (in_row rows p) (max_run * k)
    → size + ones (get_or rows (strips * p + k) 0) ≡ count_to (in_row rows p) (max_run * (k + 1))
unfolding in_row
size_more rows p k t e =
    let more : max_run * k + max_run ≡ max_run * (k + 1) = omega arith in
    let w : ℕ = get_or rows (strips * p + k) 0 in
    ap₂ (λ x y. x + y) e (strip_ones w k (t.narrow (strips * p + k)) ∙ count_to_ext (λ j. in_word w (max_run * k + j)) (λ j. in_row rows p (max_run * k + j)) max_run (λ j l.
    let at : k ≡ (max_run * k + j) / max_run = omega arith in
    ap (λ i. in_word (get_or rows (strips * p + i) 0) (max_run * k + j)) at))
    ∙ sym (sum_to_cat (λ q. bit (in_row rows p q)) (max_run * k) max_run) ∙ ap (count_to (in_row rows p)) more

-- a row's words
pub row_ones : (rows : List ℕ) (p : ℕ) → p < max_nodes → Table rows → (k : ℕ) → k ≤ strips
    → sum_by ones (take k (drop (strips * p) rows)) ≡ count_to (in_row rows p) (max_run * k)
row_ones rows p h t zero l = sym (sum_to_none _)
row_ones rows p h t (suc k) l =
    let row : List ℕ = drop (strips * p) rows in
    let next : k + 1 ≡ suc k = add-one k in
    let inside : k < length row = omega (arith, t.long, length-drop {A = ℕ}) in
    ap (λ m. sum_by ones (take m row)) (sym next) ∙ sum_by_more ones row k 0 inside
    ∙ ap (λ w. sum_by ones (take k row) + ones w) (get_or-drop (strips * p) rows k 0) ∙ size_more rows p k t (row_ones rows p h t k (omega arith))
    ∙ ap (λ m. count_to (in_row rows p) (max_run * m)) next

-- a test of the numbers from a on, and of those below n
any_from : (test : ℕ → Bool) (a n : ℕ) → list_any test (range_with_len a n) ≡ any_to (λ i. test (a + i)) n
any_from test a zero = sym (any_to_none _)
any_from test a (suc n) =
    ap (λ b. test a || b) (any_from test (a + 1) n ∙ any_to_ext _ _ n (λ i _. ap test (omega arith)))
    ∙ ap (λ x. test x || any_to (λ i. test (a + suc i)) n) (omega arith) ∙ sym (any_to_first (λ i. test (a + i)) n)

pub any_range : (test : ℕ → Bool) (n : ℕ) → list_any test (range_with_len 0 n) ≡ any_to test n
any_range test n = any_from test 0 n ∙ any_to_ext _ _ n (λ i _. ap test (omega arith))

-- whether one of the n nodes has too many links
pub rows_crowded : (g : Graph) (n : ℕ) (rows : List ℕ) → n ≤ max_nodes → Rows g n rows
    → any_to (λ p. ltb limit (count_to (in_row rows p) places)) n ≡ too_many g n everyone
unfolding too_many among
rows_crowded g n rows few r = any_to_ext _ _ n (λ p h. ap (ltb limit) (
    count_to_ext (in_row rows p) (among g n p) places (r.has p)
    ∙ count_skip (among g n p) n places (omega arith) (λ q a b. rw (le-ltb q n a) (and-false (ltb p n)))
    ∙ count_to_ext (among g n p) (g p) n (λ q b. rw (lt-ltb p n h, lt-ltb q n b))
    ∙ sym (degree_is g n p)))
