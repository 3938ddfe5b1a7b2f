-- The laws of sets of nodes as words: a set from its words, two sets word by word, one node more, and the first node. Assumes nothing.
use mathlib.Core.Bool.{◌&&◌, Bool, not, or-false, or-true, true, ◌||◌}
use mathlib.Core.List.{List}
use mathlib.Core.Path.{ap, refl, subst, sym, ◌∙◌, ◌≡◌}
use Prim.Native.Nat.{◌%◌, ◌*◌, ◌+◌, ◌-◌, ◌/◌, ◌<◌, ◌^◌, suc, zero, zero-le, ℕ, ◌≤◌}
use native.Mathlib.Decide.{dec_lt, ℕ_discrete}
use native.Mathlib.Nat.{le_refl}
use native.Mathlib.Omega.{arith}
use borrow.Author.Tests.{ne_eqb}
use lib.Bits.{bit_and, bit_or, or_lt}
use lib.Dec.{eqb, lit<}
use lib.ListN.{get_or, length, length-set, get_or-eq_default, set}
use lib.Seq.{ext_get_or}
use denote.Param.Members.{Mut}
use Rattle.std.specs.Fn.{Called}
use Rattle.std.specs.Array.{IsFromFnResult, IsFromFnResultFrom}
use Rattle.arith.proofs.Digits.{or_is}
use Rattle.arith.proofs.Sums.{Filling, filling_all, filling_more, filling_none, get_d_tabulate, get_or_fill_to_past, length_tabulate}
use Rattle.arith.proofs.Tests.{eqb_same}
use Rattle.arith.proofs.Words.{bit-and, bit-or, pack_bit, pack_is, pack_not}
use Rattle.arith.specs.Digits.{bit_of}
use Rattle.arith.specs.Sums.{pack_to, tabulate}
use Rattle.packed.proofs.BitLaws.{in_lt, in_other, in_same, same_words}
use Rattle.packed.proofs.FirstLaws.{Passed, passed_found, passed_over}
use Rattle.packed.specs.Inside.Runs.{max_run}
use Rattle.packed.specs.Inside.Search.{FirstFrom}
use Rattle.nearest.specs.Inside.Strips.{in_strips, in_word, Narrow, places, SetOf, strips}

-- ---- a set and its test

pub set_ext : {s : List ℕ} {f g : ℕ → Bool} → SetOf s f → ((q : ℕ) → q < places → f q ≡ g q) → SetOf s g
set_ext s e = record { long = s.long; narrow = s.narrow; has = λ q h. s.has q h ∙ e q h }

-- the words are known by the test
pub set_one : {s t : List ℕ} {f : ℕ → Bool} → SetOf s f → SetOf t f → s ≡ t
unfolding in_strips in_word
set_one {s} {t} a b = same_words max_run (lit< tt) s t (a.long ∙ sym b.long) a.narrow b.narrow (λ i h.
    let l : i < places = omega (arith, a.long) in a.has i l ∙ sym (b.has i l))

-- a set from its words
pub set_made : (word : ℕ → ℕ) (test : ℕ → Bool) → ((k : ℕ) → word k < 2 ^ max_run) → ((q : ℕ) → q < places → in_word (word (q / max_run)) q ≡ test q)
    → SetOf (tabulate word strips) test
unfolding in_strips
set_made word test small has = record {
  long = length_tabulate word strips;
  narrow = λ k. elim (dec_lt k strips) [
    | yes l ↦ rw (get_d_tabulate word strips k 0 l) (small k)
    | no l ↦ rw (get_or-eq_default (tabulate word strips) 0 {n = k} (omega (arith, length_tabulate word strips))) (lit< tt)
  ];
  has = λ q h. ap (λ w. in_word w q) (get_d_tabulate word strips (q / max_run) 0 (omega arith)) ∙ has q h;
}

-- ---- two sets, word by word: words whose bits are a test of the bits of two others

pub set_op : (logic : Bool → Bool → Bool) (w x y : ℕ → ℕ) → ((k j : ℕ) → j < max_run → bit_of (w k) j ≡ logic (bit_of (x k) j) (bit_of (y k) j))
    → ((k : ℕ) → w k < 2 ^ max_run) → {l : List ℕ} → l ≡ tabulate w strips
    → SetOf l (λ q. logic (in_word (x (q / max_run)) q) (in_word (y (q / max_run)) q))
unfolding in_word
set_op logic w x y bits small e = rw e (set_made w _ small (λ q h. bits (q / max_run) (max_run - 1 - q % max_run) (omega arith)))

-- words made one by one, each by a call at its place
module _ {F : Type 0} (g : Mut F (ℕ × Unit {0}) ℕ) (f : F) (w : ℕ → ℕ)
    (same : (k y : ℕ) (q : F) → Called g f (k, tt {0}) y q → (q ≡ f) × (y ≡ w k)) where
  made_each : (l : List ℕ) (i n : ℕ) → IsFromFnResultFrom g f l i n → (k : ℕ) → i ≤ k → k < i + n → get_or l k 0 ≡ w k
  made_each l i zero h k a b = absurd (omega arith)
  made_each l i (suc n) h k a b =
      let (q, y, at, call, rest) = h in
      elim (ℕ_discrete k i) [
        | yes e ↦ rw e (at.1 0 ∙ (same i y q call).1)
        | no d ↦ made_each l (i + 1) n (subst (λ p. IsFromFnResultFrom g p l (i + 1) n) (same i y q call).0 rest) k (omega arith) (omega arith)
      ]

  pub made_all : {l : List ℕ} → IsFromFnResult g f l strips → l ≡ tabulate w strips
  made_all {l} r = ext_get_or 0 l (tabulate w strips) (r.long ∙ sym (length_tabulate w strips)) (λ i h.
      let b : i < strips = omega (arith, r.long) in made_each l 0 strips r.each i zero-le b ∙ sym (get_d_tabulate w strips i 0 b))

-- a loop that puts words into those of a set, by or
pub filling_start : (w : ℕ → ℕ) {l : List ℕ} → strips ≡ length l → Filling w l strips l 0
filling_start w {l} e = rw e (filling_none w l)

pub or_more : (w : ℕ → ℕ) {l₀ l : List ℕ} {k : ℕ} → Filling (λ k. bit_or (get_or l₀ k 0) (w k)) l₀ strips l k → k < strips
    → Filling (λ k. bit_or (get_or l₀ k 0) (w k)) l₀ strips (set l k (bit_or (get_or l k 0) (w k))) (k + 1)
or_more w {l₀} {k = k} held h = filling_more held h (ap (λ x. bit_or x (w k)) (ap (λ s. get_or s k 0) held.done ∙ get_or_fill_to_past _ l₀ 0 k k (le_refl _)))

pub or_all : (w : ℕ → ℕ) {l₀ l : List ℕ} {k : ℕ} → Narrow l₀ → ((k : ℕ) → w k < 2 ^ max_run)
    → Filling (λ k. bit_or (get_or l₀ k 0) (w k)) l₀ strips l k → strips ≤ k → SetOf l (λ q. in_strips l₀ q || in_word (w (q / max_run)) q)
unfolding in_strips
or_all w {l₀} a b held h =
    set_op ◌||◌ _ (λ k. get_or l₀ k 0) w (λ k j _. bit-or (get_or l₀ k 0) (w k) j) (λ k. or_lt max_run _ _ (a k) (b k))
    (filling_all held 0 h ∙ ap (tabulate _) (sym held.all))

-- the bits of the one word that the other has not
bit_not : (b j : ℕ) → b < 2 ^ 64 → j < 64 → bit_of (2 ^ 64 - 1 - b) j ≡ not (bit_of b j)
bit_not b j h l =
    let all : b ≡ pack_to (bit_of b) 64 = pack_is 64 b (bit_of b) h (λ k _. refl) in
    let none : 2 ^ 64 - 1 - b ≡ pack_to (λ k. not (bit_of b k)) 64 = omega (arith, all, pack_not (bit_of b) 64) in
    ap (λ x. bit_of x j) none ∙ pack_bit (λ k. not (bit_of b k)) 64 j l

pub bit_without : (a b j : ℕ) → b < 2 ^ 64 → j < 64 → bit_of (bit_and a (2 ^ 64 - 1 - b)) j ≡ bit_of a j && not (bit_of b j)
bit_without a b j h l = bit-and a (2 ^ 64 - 1 - b) j ∙ ap (λ t. bit_of a j && t) (bit_not b j h l)

-- ---- one node more

pub set_with : (s : List ℕ) (q : ℕ) {m : ℕ} → q < places → length s ≡ strips → Narrow s → m ≡ 2 ^ (max_run - 1 - q % max_run)
    → SetOf (set s (q / max_run) (bit_or (get_or s (q / max_run) 0) m)) (λ x. in_strips s x || eqb x q)
unfolding in_strips in_word
set_with s q h long small e = rw (e, or_is (get_or s (q / max_run) 0) (max_run - 1 - q % max_run)) (record {
  long = length-set s (q / max_run) _ ∙ long;
  narrow = in_lt max_run (lit< tt) s q true small;
  has = λ x l. elim (ℕ_discrete x q) [
    | yes d ↦ rw (d, eqb_same q) (in_same max_run (lit< tt) s q true (omega arith) ∙ sym (or-true (in_strips s q)))
    | no d ↦ in_other max_run (lit< tt) s q x true d ∙ sym (rw (ne_eqb x q d) (or-false (in_strips s x)))
  ];
})

-- ---- the first node, strip by strip

module _ (s : List ℕ) (k : ℕ) (l : k < strips) (p : Passed (in_strips s) 0 places (max_run * k)) {found : ℕ}
    (f : FirstFrom (λ j. bit_of (get_or s k 0) (63 - j)) (64 - max_run) 64 found) where
  in_place : (q : ℕ) → max_run * k ≤ q → q < max_run * k + max_run → in_strips s q ≡ bit_of (get_or s k 0) (63 - (64 - max_run + (q - max_run * k)))
  unfolding in_strips in_word
  in_place q a b =
      let strip : q / max_run ≡ k = omega arith in
      let place : max_run - 1 - q % max_run ≡ 63 - (64 - max_run + (q - max_run * k)) = omega arith in
      rw (strip, place)

  clear : (j : ℕ) → max_run * k ≤ j → j ≤ max_run * k + (found - (64 - max_run)) → Passed (in_strips s) 0 places j
  clear j a b = passed_over j p a (omega (arith, f.stop)) (λ q c d.
      in_place q c (omega (arith, f.stop)) ∙ f.none (64 - max_run + (q - max_run * k)) (omega arith) (omega (arith, f.start)))

  pub first_here : found < 64 → FirstFrom (in_strips s) 0 places (max_run * k + (found - (64 - max_run)))
  first_here h =
      let at : ℕ = max_run * k + (found - (64 - max_run)) in
      let place : 64 - max_run + (at - max_run * k) ≡ found = omega (arith, f.start) in
      passed_found (clear at (omega arith) (omega arith)) (omega arith)
      (in_place at (omega arith) (omega arith) ∙ ap (λ j. bit_of (get_or s k 0) (63 - j)) place ∙ f.some h)

  pub first_later : 64 ≤ found → Passed (in_strips s) 0 places (max_run * (k + 1))
  first_later h = clear (max_run * (k + 1)) (omega arith) (omega (arith, f.start))
