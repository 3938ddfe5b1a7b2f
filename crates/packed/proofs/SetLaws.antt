-- The laws of sets of nodes: a word's nodes in order and how many they are, a set's from its words, and a node's row. Assumes nothing.
use mathlib.Core.Bool.{◌&&◌, and_comm, Bool, false, true, ◌||◌}
use mathlib.Core.List.{◌++◌, [], List, ◌∷◌}
use mathlib.Core.Logic.{◌≢◌}
use mathlib.Core.Path.{ap, ap₂, fun_ext, refl, sym, ◌∙◌, ◌≡◌}
use Prim.Native.Nat.{◌%◌, ◌*◌, ◌+◌, ◌-◌, ◌/◌, ◌<◌, ◌^◌, min, suc, zero, zero-le, ℕ, ◌≤◌}
use native.Mathlib.Decide.{dec_lt, ℕ_discrete}
use native.Mathlib.Nat.{le_refl, mod-eq_of_lt, one-mul, sub-zero}
use native.Mathlib.Omega.{arith}
use borrow.Author.Tests.{le-ltb, lt-ltb}
use lib.Bits.{bit_and, bit_or}
use lib.Count.{ones, ones_cat}
use lib.Dec.{lit<, ltb}
use lib.ListN.{get_or, get_or-append, get_or-replicate, length, length-append, length-set, replicate, set}
use lib.Pow.{pow-lt, shl_exact}
use lib.Seq.{ext_get_or, length-sets, sets}
use Rattle.std.proofs.Common.{drop, get_or-drop, length-drop, length-take, take}
use Rattle.std.proofs.lemmas.List.{get_or-append_right}
use Rattle.arith.proofs.Counts.{count_skip}
use Rattle.arith.proofs.Filter.{count_most, filter-append, filter_mem}
use Rattle.arith.proofs.Padded.{sets_append, sets_past}
use Rattle.arith.proofs.Range.{filter_hit, filter_skip, length_range, mem_range, range-append}
use Rattle.arith.proofs.Sums.{count_to_ext, fill_end, fill_length, fill_rest, get_d_tabulate, get_or_fill_to, get_or_fill_to_past, fill_to_none, Filling, filling_length, length_fill_to, length_tabulate, sum_to_cat}
use Rattle.arith.proofs.Words.{bit-and, bit-or, bits_eq, pack_is, pack_lt}
use Rattle.arith.proofs.Digits.{or_is}
use Rattle.arith.specs.Digits.{bit_of, with_digit}
use Rattle.arith.specs.Lists.{filter, range}
use Rattle.arith.specs.Sums.{bit, count_to, pack_to, sum_to}
use Rattle.arith.specs.Inside.Fill.{fill_to}
use Rattle.packed.proofs.BitLaws.{bit_packed, bit_two, in_lt, in_other, in_same, packed_lt, same_words, with_in}
use Rattle.packed.proofs.FirstLaws.{Top, top_rest}
use Rattle.packed.proofs.RunLaws.{run_bit, run_cat, run_clear, run_ext, run_lt, run_zero}
use Rattle.packed.specs.Bits.{word_of}
use Rattle.packed.specs.Edges.{edge}
use Rattle.packed.specs.Pairs.{max_nodes}
use Rattle.packed.specs.Inside.Rows.{both_of, either_of, in_set, in_word, members_in, members_of, row_of, set_of, with_node}

-- ---- a loop that fills the first n places of a list

pub front_none : {A : Type 0} (f : ℕ → A) (zs : List A) (n : ℕ) → n ≤ length zs → Filling f (take n zs) n (take n zs) 0
front_none f zs n h = record { most = zero-le; all = omega (arith, length-take n zs); done = sym (fill_to_none f (take n zs)) }

-- the places from n on are as they were
pub fill_front : {A : Type 0} (f : ℕ → A) (zs : List A) (d : A) (n : ℕ) {made : List A} {i : ℕ} → n ≤ length zs → Filling f (take n zs) n made i → length made ≤ i
    → made ++ drop n zs ≡ fill_to f zs n
fill_front f zs d n {made} h w stop =
    let e = fill_end f (take n zs) w.most (omega (arith, w.all, filling_length w)) w.done in
    let front : length (take n zs) ≡ n = omega (arith, length-take n zs) in
    let long : length made ≡ n = fill_length f (take n zs) n e ∙ front in
    let whole : length (made ++ drop n zs) ≡ length zs = omega (arith, length-append made (drop n zs), length-drop n zs, long) in
    ext_get_or d (made ++ drop n zs) (fill_to f zs n) (whole ∙ sym (length_fill_to f zs n)) (λ i b. elim (dec_lt i n) [
      | yes l ↦
          get_or-append made (drop n zs) d i (omega (arith, long)) ∙ ap (λ l. get_or l i d) e
          ∙ get_or_fill_to f (take n zs) d n i l (omega (arith, front)) ∙ sym (get_or_fill_to f zs d n i l h)
      | no l ↦
          let at : n + (i - n) ≡ i = omega arith in
          get_or-append_right made (drop n zs) n i d long (omega arith) ∙ rw get_or-drop (ap (λ j. get_or zs j d) at)
          ∙ sym (get_or_fill_to_past f zs d n i (omega arith))
    ])

-- ---- a word

-- its nodes are its bits
pub word_is : (x first : ℕ) → x < 2 ^ 32 → x ≡ word_of (in_word x first) first 32
unfolding in_word
word_is x first h = bits_eq 32 x (word_of (in_word x first) first 32) h (run_lt (in_word x first) first 32) (λ k l.
    let at : first + 31 - (first + (31 - k)) ≡ k = omega arith in
    let place : 32 - 1 - (31 - k) ≡ k = omega arith in
    sym (ap (bit_of (word_of (in_word x first) first 32)) (sym place) ∙ run_bit (in_word x first) first 32 (31 - k) (omega arith) ∙ ap (bit_of x) at))

-- how many they are
pub ones_word : (f : ℕ → Bool) (i n : ℕ) → ones (word_of f i n) ≡ count_to (λ j. f (i + j)) n
unfolding word_of sum_to ones
ones_word f i zero = refl
ones_word f i (suc n) = ones_cat 1 (word_of f i n) (bit (f (i + n))) (bit_two (f (i + n))) ∙ ap₂ (λ x y. x + y) (ones_word f i n) (one (f (i + n)))
  where
    one : (b : Bool) → ones (bit b) ≡ bit b
    one true = refl
    one false = refl

-- ---- a loop that writes the nodes of a word, the first first

-- those before q are written, and `left` has the others
pub record WrittenUpTo (f : ℕ → Bool) (first : ℕ) (nodes₀ nodes : List ℕ) (count left at q : ℕ) : Type 0 where
  pub start : first ≤ q
  pub stop : q ≤ first + 32
  pub rest : left ≡ word_of f q (first + 32 - q)
  pub put : nodes ≡ sets nodes₀ count (filter f (range first (q - first)))
  pub place : at ≡ count + length (filter f (range first (q - first)))

module _ {f : ℕ → Bool} {first : ℕ} {nodes₀ nodes : List ℕ} {count left at q : ℕ} (w : WrittenUpTo f first nodes₀ nodes count left at q) where
  pub written_long : length nodes ≡ length nodes₀
  written_long = ap length w.put ∙ length-sets nodes₀ count (filter f (range first (q - first)))

  pub written_few : at ≤ count + 32
  written_few = omega (arith, w.place, w.stop, count_most f (range first (q - first)), length_range first (q - first))

  module _ {a after : ℕ} (t : Top f q (first + 32) left a after) (h : after < 64) where
    hit : filter f (range first (a + 1 - first)) ≡ filter f (range first (q - first)) ++ a ∷ []
    hit = filter_hit f first q a w.start t.first.start t.first.none (t.first.some (omega (arith, t.places)))

    next : {nodes' : List ℕ} → nodes' ≡ sets nodes₀ count (filter f (range first (q - first)) ++ a ∷ [])
        → WrittenUpTo f first nodes₀ nodes' count (left - 1 * 2 ^ after % 2 ^ 64) (at + 1) (a + 1)
    next e = record {
      start = omega (arith, w.start, t.first.start);
      stop = omega (arith, t.places);
      rest = (top_rest t h).1;
      put = e ∙ ap (sets nodes₀ count) (sym hit);
      place = omega (arith, w.place, ap length hit, length-append (filter f (range first (q - first))) (a ∷ []));
    }

    pub written_next : {nodes' : List ℕ} → nodes' ≡ set nodes at a → WrittenUpTo f first nodes₀ nodes' count (left - 1 * 2 ^ after % 2 ^ 64) (at + 1) (a + 1)
    written_next e = next (e ∙ ap₂ (λ l i. set l i a) w.put w.place ∙ sets_append nodes₀ count (filter f (range first (q - first))) (a ∷ []))

    pub written_full : {nodes' : List ℕ} → nodes' ≡ nodes → length nodes ≤ at
        → WrittenUpTo f first nodes₀ nodes' count (left - 1 * 2 ^ after % 2 ^ 64) (at + 1) (a + 1)
    written_full e l = next (e ∙ w.put ∙ sym (sets_past nodes₀ count (filter f (range first (q - first))) a (omega (arith, w.place, written_long))))

  pub written_all : left ≡ 0 → (nodes ≡ sets nodes₀ count (filter f (range first 32))) × (at ≡ count + length (filter f (range first 32)))
  written_all z =
      let all : first + 32 - first ≡ 32 = omega arith in
      let same : filter f (range first (q - first)) ≡ filter f (range first 32) =
      sym (filter_skip f first q (first + 32) w.start w.stop
      (λ p a b. run_zero f q (first + 32 - q) (sym w.rest ∙ z) p a (omega (arith, w.stop)))) ∙ ap (λ m. filter f (range first m)) all in
      (w.put ∙ ap (sets nodes₀ count) same, w.place ∙ ap (λ l. count + length l) same)

pub written_none : (x first : ℕ) (nodes : List ℕ) (count : ℕ) → x < 2 ^ 32 → WrittenUpTo (in_word x first) first nodes nodes count x count first
written_none x first nodes count h =
    let none : first - first ≡ 0 = omega arith in
    let all : first + 32 - first ≡ 32 = omega arith in
    record {
      start = le_refl first;
      stop = omega arith;
      rest = word_is x first h ∙ ap (word_of (in_word x first) first) (sym all);
      put = ap (λ m. sets nodes count (filter (in_word x first) (range first m))) (sym none);
      place = omega (arith, ap (λ m. length (filter (in_word x first) (range first m))) none);
    }

-- ---- a set, word by word

in_word_lem : (row : List ℕ) (k q : ℕ) → 32 * k ≤ q → q < 32 * k + 32 → in_set row q ≡ in_word (get_or row k 0) (32 * k) q
unfolding in_set in_word
in_word_lem row k q a b =
    let word : q / 32 ≡ k = omega arith in
    let place : 31 - q % 32 ≡ 32 * k + 31 - q = omega arith in
    ap₂ (λ m e. bit_of (get_or row m 0) e) word place

pub size_more : (row : List ℕ) (k : ℕ) {count r : ℕ} → count ≡ count_to (in_set row) (32 * k) → r ≡ count_to (in_word (get_or row k 0) 0) 32
    → count + r ≡ count_to (in_set row) (32 * (k + 1))
unfolding in_word
size_more row k e g =
    let more : 32 * k + 32 ≡ 32 * (k + 1) = omega arith in
    let word : ℕ = get_or row k 0 in
    ap₂ (λ x y. x + y) e (g ∙ count_to_ext (in_word word 0) (λ j. in_set row (32 * k + j)) 32 (λ j l.
    sym (in_word_lem row k (32 * k + j) (omega arith) (omega arith) ∙ ap (bit_of word) (omega arith))))
    ∙ sym (sum_to_cat (λ q. bit (in_set row q)) (32 * k) 32) ∙ ap (count_to (in_set row)) more

members_more : (row : List ℕ) (k : ℕ) → members_of row (32 * k) ++ members_in (get_or row k 0) (32 * k) ≡ members_of row (32 * (k + 1))
unfolding members_in members_of
members_more row k =
    let more : 32 * k + 32 ≡ 32 * (k + 1) = omega arith in
    let start : 0 + 32 * k ≡ 32 * k = omega arith in
    ap (λ l. members_of row (32 * k) ++ l) (filter_mem (in_word (get_or row k 0) (32 * k)) (in_set row) (range (32 * k) 32) (λ q m.
    let b = mem_range (32 * k) 32 m in sym (in_word_lem row k q b.0 b.1)))
    ∙ sym (filter-append (in_set row) (range 0 (32 * k)) (range (32 * k) 32))
    ∙ ap (filter (in_set row)) (ap (λ i. range 0 (32 * k) ++ range i 32) (sym start) ∙ range-append 0 (32 * k) 32 ∙ ap (range 0) more)

-- the members of the first k words are written
pub record Appended (row nodes₀ nodes : List ℕ) (count at k : ℕ) : Type 0 where
  pub put : nodes ≡ sets nodes₀ count (members_of row (32 * k))
  pub place : at ≡ count + length (members_of row (32 * k))

pub append_none : (row nodes : List ℕ) (count : ℕ) → Appended row nodes nodes count count 0
unfolding members_of
append_none row nodes count = record { put = refl; place = omega arith }

module _ {row nodes₀ nodes : List ℕ} {count at k : ℕ} (w : Appended row nodes₀ nodes count at k) where
  pub append_long : length nodes ≡ length nodes₀
  append_long = ap length w.put ∙ length-sets nodes₀ count (members_of row (32 * k))

  pub append_few : at ≤ count + 32 * k
  unfolding members_of
  append_few = omega (arith, w.place, count_most (in_set row) (range 0 (32 * k)), length_range 0 (32 * k))

  pub append_more : {nodes' : List ℕ} {at' : ℕ} → let xs = members_in (get_or row k 0) (32 * k) in (nodes' ≡ sets nodes at xs) × (at' ≡ at + length xs)
      → Appended row nodes₀ nodes' count at' (k + 1)
  append_more e =
      let old : List ℕ = members_of row (32 * k) in
      let new : List ℕ = members_in (get_or row k 0) (32 * k) in
      record {
        put = e.0 ∙ ap₂ (λ l i. sets l i new) w.put w.place ∙ sets_append nodes₀ count old new ∙ ap (sets nodes₀ count) (members_more row k);
        place = omega (arith, e.1, w.place, length-append old new, ap length (members_more row k));
      }

-- ---- the set of the nodes that pass a test

pub in_set_lem : (f : ℕ → Bool) (q : ℕ) → q < max_nodes → in_set (set_of f) q ≡ f q
unfolding in_set set_of
in_set_lem f q h = bit_packed 32 (lit< tt) f 8 q h

-- the nodes that two sets have in common
pub in_both : (x y : List ℕ) (q : ℕ) → q < max_nodes → in_set (both_of x y) q ≡ in_set x q && in_set y q
unfolding in_set both_of
in_both x y q h =
    let word = get_d_tabulate (λ k. bit_and (get_or x k 0) (get_or y k 0)) 8 (q / 32) 0 (omega arith) in
    ap (λ w. bit_of w (31 - q % 32)) word ∙ bit-and (get_or x (q / 32) 0) (get_or y (q / 32) 0) (31 - q % 32)

pub in_either : (x y : List ℕ) (q : ℕ) → q < max_nodes → in_set (either_of x y) q ≡ in_set x q || in_set y q
unfolding in_set either_of
in_either x y q h =
    let word = get_d_tabulate (λ k. bit_or (get_or x k 0) (get_or y k 0)) 8 (q / 32) 0 (omega arith) in
    ap (λ w. bit_of w (31 - q % 32)) word ∙ bit-or (get_or x (q / 32) 0) (get_or y (q / 32) 0) (31 - q % 32)

-- the bit of node q, as code shifts it to its place
pub bit_mask : (q : ℕ) → 1 * 2 ^ (31 - q % 32) % 2 ^ 32 ≡ 2 ^ (31 - q % 32)
bit_mask q =
    let k : ℕ = 31 - q % 32 in
    mod-eq_of_lt (omega (arith, one-mul (2 ^ k), pow-lt {i = k} {j = 32} (omega arith))) ∙ one-mul (2 ^ k)

-- one node more
set_put : (f g : ℕ → Bool) (q : ℕ) → q < max_nodes → g q ≡ true → ((r : ℕ) → r ≢ q → g r ≡ f r)
    → with_node (set_of f) q ≡ set_of g
unfolding set_of with_node
set_put f g q h t o =
    let z : 0 < 32 = lit< tt in
    let l : List ℕ = set_of f in
    let k : ℕ = 31 - q % 32 in
    let long = length_tabulate (λ k. pack_to (λ j. f (32 * k + (31 - j))) 32) 8 in
    let wide = length_tabulate (λ k. pack_to (λ j. g (32 * k + (31 - j))) 32) 8 in
    let same = length-set l (q / 32) (with_digit (get_or l (q / 32) 0) k 1) in
    ap (set l (q / 32)) (or_is (get_or l (q / 32) 0) k)
    ∙ same_words 32 z (with_in 32 z l q true) (set_of g) (same ∙ long ∙ sym wide) (in_lt 32 z l q true (packed_lt 32 z f 8)) (packed_lt 32 z g 8) (λ i b.
    let few : i < max_nodes = omega (arith, same, long) in
    elim (ℕ_discrete i q) [
      | yes e ↦ rw e (in_same 32 z l q true (omega (arith, long))) ∙ sym (bit_packed 32 z g 8 i few ∙ ap g e ∙ t)
      | no d ↦ in_other 32 z l q i true d ∙ bit_packed 32 z f 8 i few ∙ sym (bit_packed 32 z g 8 i few ∙ o i d)
    ])

word_packed : (f : ℕ → Bool) (i n : ℕ) → word_of f i n ≡ pack_to (λ j. f (i + (n - 1 - j))) n
word_packed f i n = pack_is n (word_of f i n) (λ j. f (i + (n - 1 - j))) (run_lt f i n) (λ k l.
    let place : n - 1 - (n - 1 - k) ≡ k = omega arith in
    ap (bit_of (word_of f i n)) (sym place) ∙ run_bit f i n (n - 1 - k) (omega arith))

-- ---- the row of p

module _ (es : List ℕ) (n p : ℕ) where
  abbrev neighbour : ℕ → Bool
  neighbour q = ltb q n && edge es p q

  neighbour_below : (q : ℕ) → q < n → neighbour q ≡ edge es p q
  neighbour_below q h = rw (lt-ltb q n h)

  neighbour_past : (q : ℕ) → n ≤ q → neighbour q ≡ false
  neighbour_past q h = rw (le-ltb q n h)

  pub in_row : (q : ℕ) → q < n → n ≤ max_nodes → in_set (row_of es n p) q ≡ edge es p q
  unfolding row_of
  in_row q h few = in_set_lem neighbour q (omega arith) ∙ neighbour_below q h

  pub row_long : length (row_of es n p) ≡ 8
  unfolding row_of set_of
  row_long = length_tabulate (λ k. pack_to (λ j. neighbour (32 * k + (31 - j))) 32) 8

  abbrev pub word_of_row : ℕ → ℕ
  word_of_row k = pack_to (λ j. neighbour (32 * k + (31 - j))) 32

  -- as code shifts a word of the nodes before `end` to its place
  pub row_word : (k end : ℕ) {x : ℕ} → end ≡ min (32 * k + 32) n → 32 * k < n → x ≡ word_of (edge es p) (32 * k) (end - 32 * k)
      → (x * 2 ^ (32 * k + 32 - end) % 2 ^ 64 ≡ word_of_row k) × (word_of_row k < 2 ^ 32)
  row_word k end {x} e h g =
      let i : ℕ = 32 * k in
      let a : ℕ = end - i in
      let b : ℕ = i + 32 - end in
      let all : a + b ≡ 32 = omega arith in
      let same : word_of (edge es p) i a ≡ word_of neighbour i a = run_ext (edge es p) neighbour i i a (λ j l. sym (neighbour_below (i + j) (omega arith))) in
      let none : word_of neighbour (i + a) b ≡ 0 = run_clear neighbour (i + a) b (λ j l. neighbour_past (i + a + j) (omega arith)) in (
        ap (λ y. y * 2 ^ b % 2 ^ 64) (g ∙ same) ∙ shl_exact a b 64 (run_lt neighbour i a) (omega arith) ∙ omega (arith, none, run_cat neighbour i a b)
            ∙ ap (word_of neighbour i) all ∙ word_packed neighbour i 32,
        pack_lt (λ j. neighbour (i + (31 - j))) 32,
      )

  -- the words past n are 0
  pub row_filled : (k : ℕ) → k ≤ 8 → n ≤ 32 * k → fill_to word_of_row (replicate 8 0) k ≡ row_of es n p
  unfolding row_of set_of
  row_filled k h l =
      fill_rest word_of_row (replicate 8 0) 0 k h (λ i a b. get_or-replicate 8 i 0 0 b
      ∙ sym (sym (word_packed neighbour (32 * i) 32) ∙ run_clear neighbour (32 * i) 32 (λ j c. neighbour_past (32 * i + j) (omega arith))))

  -- the next node
  others : (r : ℕ) → r ≢ n → ltb r (n + 1) ≡ ltb r n
  others r d = elim (dec_lt r n) [
    | yes b ↦ lt-ltb r (n + 1) (omega arith) ∙ sym (lt-ltb r n b)
    | no b ↦ le-ltb r (n + 1) (omega arith)
        ∙ sym (le-ltb r n (omega arith))
  ]

  pub row_pass : edge es p n ≡ false → row_of es n p ≡ row_of es (n + 1) p
  unfolding row_of
  row_pass e = ap set_of (fun_ext (λ r. elim (ℕ_discrete r n) [
    | yes d ↦ neighbour_past r (omega arith) ∙ sym (rw (lt-ltb r (n + 1) (omega arith)) (ap (edge es p) d ∙ e))
    | no d ↦ ap (λ b. b && edge es p r) (sym (others r d))
  ]))

  pub row_next : n < max_nodes → edge es p n ≡ true → with_node (row_of es n p) n ≡ row_of es (n + 1) p
  unfolding row_of
  row_next h t = set_put neighbour (λ q. ltb q (n + 1) && edge es p q) n h (rw (lt-ltb n (n + 1) (omega arith)) t) (λ r d. ap (λ b. b && edge es p r) (others r d))

  -- the row of p in a graph where p has one neighbour more
  pub row_with : (fs : List ℕ) (q : ℕ) → q < n → n ≤ max_nodes → edge fs p q ≡ true → ((r : ℕ) → r ≢ q → edge fs p r ≡ edge es p r)
      → with_node (row_of es n p) q ≡ row_of fs n p
  unfolding row_of
  row_with fs q h few t o =
      set_put neighbour (λ r. ltb r n && edge fs p r) q (omega arith) (rw (lt-ltb q n h) t) (λ r d. ap (λ b. ltb r n && b) (o r d))

  pub row_size : (m : ℕ) → n ≤ m → m ≤ max_nodes → count_to (in_set (row_of es n p)) m ≡ count_to (edge es p) n
  unfolding row_of
  row_size m h few =
      count_to_ext (in_set (row_of es n p)) neighbour m (λ q l. in_set_lem neighbour q (omega arith))
      ∙ count_skip neighbour n m h (λ q a b. neighbour_past q a)
      ∙ count_to_ext neighbour (edge es p) n neighbour_below

  pub row_members : (m : ℕ) → n ≤ m → m ≤ max_nodes → members_of (row_of es n p) m ≡ filter (edge es p) (range 0 n)
  unfolding row_of members_of
  row_members m h few =
      filter_mem (in_set (row_of es n p)) neighbour (range 0 m) (λ q l. in_set_lem neighbour q (omega (arith, (mem_range 0 m l).1)))
      ∙ ap (λ k. filter neighbour (range 0 k)) (sym (sub-zero m)) ∙ filter_skip neighbour 0 n m zero-le h (λ q a b. neighbour_past q a)
      ∙ ap (λ m. filter neighbour (range 0 m)) (sub-zero n) ∙ filter_mem neighbour (edge es p) (range 0 n) (λ q m. neighbour_below q (omega (arith, (mem_range 0 n m).1)))

-- the neighbours of p and of q that are below q
pub row_common : (es : List ℕ) (n p q m : ℕ) → q ≤ n → q ≤ m → m ≤ max_nodes
    → count_to (in_set (both_of (row_of es n p) (row_of es q q))) m ≡ count_to (λ k. edge es p k && edge es q k) q
unfolding row_of
row_common es n p q m l h few =
    count_to_ext (in_set (both_of (row_of es n p) (row_of es q q))) (λ k. neighbour es n p k && neighbour es q q k) m (λ k b.
    let small : k < max_nodes = omega arith in
    in_both (row_of es n p) (row_of es q q) k small ∙ ap₂ (λ a b. a && b) (in_set_lem (neighbour es n p) k small) (in_set_lem (neighbour es q q) k small))
    ∙ count_skip (λ k. neighbour es n p k && neighbour es q q k) q m h (λ k a b. rw (neighbour_past es q q k a) (and_comm (neighbour es n p k) false))
    ∙ count_to_ext (λ k. neighbour es n p k && neighbour es q q k) (λ k. edge es p k && edge es q k) q (λ k b.
    ap₂ (λ a b. a && b) (neighbour_below es n p k (omega arith)) (neighbour_below es q q k b))
