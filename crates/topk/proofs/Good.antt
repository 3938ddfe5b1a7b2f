-- The list where the figures are honest: what holds after each step. T is the score, F the figures and M the marks at entry, S the taken nodes.
-- Assumes nothing.
use mathlib.Core.Bool.{◌&&◌, Bool, false, not}
use mathlib.Core.List.{List}
use mathlib.Core.Logic.{inl, inr, ◌⊎◌, ⊎_elim}
use mathlib.Core.Path.{ap, refl, subst, sym, ◌∙◌, ◌≡◌}
use Prim.Native.Nat.{◌+◌, ◌<◌, min, zero-le, ℕ, ◌≤◌}
use native.Mathlib.Decide.{ℕ_discrete}
use native.Mathlib.Nat.{le_refl}
use native.Mathlib.Omega.{arith}
use borrow.Author.Tests.{eq-eqb}
use lib.Dec.{eqb}
use lib.ListN.{get_or, get_or-replicate, length, length-replicate, length-set, replicate, set, take}
use lib.Seq.{get_or-set_other, get_or-set_same}
use Rattle.arith.proofs.Sums.{count_gain, count_to_ext}
use Rattle.arith.proofs.Tests.{test, and-false}
use Rattle.arith.specs.Sums.{bit, count_to}
use Rattle.state.specs.Marks.{mark_bytes, stale, with_mark}
use Rattle.arith.proofs.Counts.{count_none}
use Rattle.state.proofs.MarkLaws.{length-with_mark, stale_other, stale_same}
use Rattle.topk.proofs.NextLaws.{figure_of, Free, Taken}
use Rattle.topk.proofs.Order.{Ahead, ahead_ahead, ahead_asym, Behind, behind_behind, behind_by, behind_flip}
use Rattle.topk.proofs.Sort.{All-map, All-take, In, in_insert, in_last, in_old, in_or_out, insert_all, insert-or, insert_sorted, length_keep, Out, Pairwise-take, push, Sorted}
use Rattle.topk.proofs.Top.{scored}
use Rattle.topk.specs.Entries.{Entry, entry, insert, keep, last_or, stops}
use Rattle.topk.specs.Inside.Layout.{All}
use Rattle.state.specs.Inside.Honest.{Honest}
use Rattle.topk.specs.Steps.{Progress, at_start, stored, took, worth}

-- whether a node is taken; whether it is, and was stale
abbrev pub is_taken : List ℕ → ℕ → Bool
is_taken S q = not (eqb (get_or S q 0) 0)

abbrev pub is_recomputed : List ℕ → List ℕ → ℕ → Bool
is_recomputed M S q = stale M q && is_taken S q

-- what holds after each step
pub record Good (T : ℕ → ℕ) (F M : List ℕ) (k : ℕ) (s : Progress) : Type 0 where
  pub len_f : length s.figures ≡ length F
  pub len_m : mark_bytes (length F) ≤ length s.marks
  pub len_s : length s.taken ≡ length F
  pub fresh : (q : ℕ) → q < length F → Free s.taken q → (get_or s.figures q 0 ≡ get_or F q 0) × (stale s.marks q ≡ stale M q)
  pub done : (q : ℕ) → q < length F → Taken s.taken q → (get_or s.figures q 0 ≡ T q) × (stale s.marks q ≡ false)
  pub order : (q p : ℕ) → q < length F → p < length F → Taken s.taken q → Free s.taken p → Ahead (figure_of F q) (figure_of F p)
  pub sorted : Sorted s.kept
  pub real : All (λ x. (x.node < length F) × Taken s.taken x.node × (x ≡ scored T x.node)) s.kept
  pub cover : (q : ℕ) → q < length F → Taken s.taken q → In (scored T q) s.kept ⊎ Out k (scored T q) s.kept
  pub reach : (q : ℕ) → q < length F → Taken s.taken q → Behind (last_or (entry 0 0) s.kept) (figure_of F q)
  pub room : length s.kept ≤ k
  pub size : length s.kept ≡ min (count_to (is_taken s.taken) (length F)) k
  pub count : s.recomputed ≡ count_to (is_recomputed M s.taken) (length F)

-- at the start nothing is taken
abbrev none_taken : List ℕ → List ℕ
none_taken F = replicate (length F) 0

pub start_good : (T : ℕ → ℕ) (F M : List ℕ) (k : ℕ) → mark_bytes (length F) ≤ length M → Good T F M k (at_start F M)
start_good T F M k l =
    let z : (q : ℕ) → q < length F → get_or (none_taken F) q 0 ≡ 0 = λ q m. get_or-replicate (length F) q 0 0 m in
    let f : (q : ℕ) → q < length F → is_taken (none_taken F) q ≡ false = λ q m. rw (z q m) in
    record {
      len_f = refl;
      len_m = l;
      len_s = length-replicate (length F) 0;
      fresh = λ q m u. (refl, refl);
      done = λ q m u. absurd (u (z q m));
      order = λ q p m m' u v. absurd (u (z q m));
      sorted = tt;
      real = tt;
      cover = λ q m u. absurd (u (z q m));
      reach = λ q m u. absurd (u (z q m));
      room = zero-le;
      size = let e = count_none (is_taken (none_taken F)) (length F) f in omega arith;
      count = sym (count_none (is_recomputed M (none_taken F)) (length F) (λ q m. rw (f q m) (and-false (stale M q))));
    }

-- node p, which is next and does not stop the call, is taken
module _ (T : ℕ → ℕ) (F M : List ℕ) (k : ℕ) (s : Progress) (hon : Honest T F M) (g : Good T F M k s) (p : ℕ) (lp : p < length F) (free : Free s.taken p)
    (ranked : (q : ℕ) → q < length F → Free s.taken q → Behind (figure_of s.figures q) (figure_of s.figures p))
    (goes : stops k (stored s p) s.kept ≡ false) where
  abbrev n : ℕ
  n = length F

  abbrev xs : List Entry
  xs = s.kept

  abbrev e : Entry
  e = scored T p

  abbrev S : List ℕ
  S = s.taken

  abbrev S' : List ℕ
  S' = set S p 1

  abbrev v : ℕ
  v = worth T s p

  v_is : v ≡ T p
  unfolding worth
  v_is = elim (test (stale s.marks p)) [
    | inl t ↦ rw t
    | inr t ↦ rw t ((g.fresh p lp free).0 ∙ hon.settled p lp (sym (g.fresh p lp free).1 ∙ t))
  ]

  -- the marks
  here : get_or S' p 0 ≡ 1
  here = get_or-set_same S p 1 0 (omega (arith, g.len_s))

  other : (q : ℕ) → (q ≡ p → ⊥) → get_or S' q 0 ≡ get_or S q 0
  other q d = get_or-set_other S p q 1 0 d

  free_old : (q : ℕ) → Free S' q → (q ≡ p → ⊥) × Free S q
  free_old q f =
      let d : q ≡ p → ⊥ = λ c. let z : get_or S' p 0 ≡ 0 = subst (λ (m : ℕ). Free S' m) c f in omega (arith, here) in
      (d, sym (other q d) ∙ f)

  taken_here : Taken S' p
  taken_here z = omega (arith, here)

  taken_cases : (q : ℕ) → Taken S' q → (q ≡ p) ⊎ ((q ≡ p → ⊥) × Taken S q)
  taken_cases q t = go (ℕ_discrete q p)
    where
      go : Dec (q ≡ p) → (q ≡ p) ⊎ ((q ≡ p → ⊥) × Taken S q)
      go (yes c) = inl c
      go (no d) = inr (d, λ z. t (other q d ∙ z))

  still_taken : (q : ℕ) → Taken S q → Taken S' q
  still_taken q t = go (ℕ_discrete q p)
    where
      go : Dec (q ≡ p) → Taken S' q
      go (yes c) = absurd (t (ap (λ (m : ℕ). get_or S m 0) c ∙ free))
      go (no d) = λ z. t (sym (other q d) ∙ z)

  -- the kept entries
  ys : List Entry
  ys = take k (insert e xs)

  kept_is_lem : keep k (entry p v) xs ≡ ys
  unfolding ys keep
  kept_is_lem = rw v_is

  length_ys : length ys ≡ min (length xs + 1) k
  unfolding ys keep
  length_ys = length_keep k e xs

  insert_is_sorted : Sorted (insert e xs)
  insert_is_sorted =
      insert_sorted e xs
      (All-map {P = λ x. (x.node < n) × Taken S x.node × (x ≡ scored T x.node)} {Q = λ x. Behind e x → Ahead x e}
      (λ x r. behind_flip e x (λ (c : p ≡ x.node). r.1 (ap (λ (m : ℕ). get_or S m 0) (sym c) ∙ free))) xs g.real)
      g.sorted

  ys_sorted : Sorted ys
  unfolding ys
  ys_sorted = Pairwise-take Ahead k (insert e xs) insert_is_sorted

  ys_real : All (λ x. (x.node < n) × Taken S' x.node × (x ≡ scored T x.node)) ys
  unfolding ys
  ys_real =
      let P : Entry → Type 0 = λ x. (x.node < n) × Taken S' x.node × (x ≡ scored T x.node) in
      All-take P k (insert e xs)
      (insert_all P e xs (lp, taken_here, refl)
      (All-map {P = λ x. (x.node < n) × Taken S x.node × (x ≡ scored T x.node)} {Q = P} (λ x r. (r.0, still_taken x.node r.1, r.2)) xs
      g.real))

  ys_cover : (q : ℕ) → q < n → Taken S' q → In (scored T q) ys ⊎ Out k (scored T q) ys
  unfolding ys
  ys_cover q l t =
      ⊎_elim
      (λ c. subst (λ (m : ℕ). In (scored T m) ys ⊎ Out k (scored T m) ys) (sym c) (in_or_out k (insert e xs) e insert_is_sorted (in_insert e xs)))
      (λ o. ⊎_elim
      (λ i. in_or_out k (insert e xs) (scored T q) insert_is_sorted (in_old (scored T q) e xs i))
      (λ u. inr (omega (arith, length_ys, u.0), push (λ x. Ahead x (scored T q)) k e xs u.0 (λ x b c. ahead_ahead e x (scored T q) b c) u.1))
      (g.cover q l o.1))
      (taken_cases q t)

  -- the score ranks after the stored figure, and that after those of the nodes taken before
  behind : (q : ℕ) → q < n → Taken S' q → Behind e (figure_of F q)
  behind q l t =
      let own : Behind e (figure_of F p) = behind_by e (figure_of F p) (hon.above p lp) (λ _. le_refl p) in
      ⊎_elim
      (λ c. subst (λ (m : ℕ). Behind e (figure_of F m)) (sym c) own)
      (λ o. behind_behind (figure_of F q) (figure_of F p) e (ahead_asym (figure_of F q) (figure_of F p) (g.order q p l lp o.1 free)) own)
      (taken_cases q t)

  full : length xs ≡ k → Behind (last_or (entry 0 0) xs) (figure_of F p)
  unfolding stops
  full f = rw (eq-eqb (length xs) k f, (g.fresh p lp free).0) at goes

  ys_reach : (q : ℕ) → q < n → Taken S' q → Behind (last_or (entry 0 0) ys) (figure_of F q)
  unfolding ys
  ys_reach q l t =
      ⊎_elim
      (λ i. behind_behind (figure_of F q) e (last_or (entry 0 0) ys) (behind q l t) (in_last (entry 0 0) ys e ys_sorted i))
      (λ u. subst (λ (z : List Entry). Behind (last_or (entry 0 0) z) (figure_of F q)) (sym u.0)
      (⊎_elim
      (λ c. subst (λ (m : ℕ). Behind (last_or (entry 0 0) xs) (figure_of F m)) (sym c) (full u.1))
      (λ o. g.reach q l o.1)
      (taken_cases q t)))
      (insert-or k e xs g.room)

  -- what is next ranks before the other nodes that are not taken
  ahead : (r : ℕ) → r < n → (r ≡ p → ⊥) → Free S r → Ahead (figure_of F p) (figure_of F r)
  ahead r l d f =
      behind_flip (figure_of F r) (figure_of F p) d (rw ((g.fresh r l f).0, (g.fresh p lp free).0) at (ranked r l f))

  pub took_count : count_to (is_taken S') n ≡ count_to (is_taken S) n + 1
  took_count = count_gain (is_taken S) (is_taken S') n p lp (rw free) (rw here) (λ q d. rw (other q d))

  ys_size : length ys ≡ min (count_to (is_taken S') n) k
  ys_size = omega (arith, length_ys, g.size, took_count)

  recomputed_is_lem : s.recomputed + bit (stale s.marks p) ≡ count_to (is_recomputed M S') n
  recomputed_is_lem = elim (test (stale M p)) [
    | inl t ↦
        let gain = count_gain (is_recomputed M S) (is_recomputed M S') n p lp (rw (t, free)) (rw (t, here)) (λ q d. rw (other q d)) in
        rw ((g.fresh p lp free).1, t) (omega (arith, g.count))
    | inr t ↦ rw ((g.fresh p lp free).1, t) (omega (
      arith,
      g.count,
      count_to_ext (is_recomputed M S) (is_recomputed M S') n (λ q l. elim (ℕ_discrete q p) [
        | yes c ↦ let u : stale M q ≡ false = ap (stale M) c ∙ t in rw u
        | no d ↦ rw (other q d)
      ]),
    ))
  ]

  pub took_good : Good T F M k (took T k s p)
  unfolding took
  took_good = record {
    len_f = length-set s.figures p v ∙ g.len_f;
    len_m = omega (arith, g.len_m, length-with_mark s.marks p false);
    len_s = length-set S p 1 ∙ g.len_s;
    fresh = λ q l f. let o = free_old q f in (
      get_or-set_other s.figures p q v 0 o.0 ∙ (g.fresh q l o.1).0,
      stale_other s.marks p q false o.0 ∙ (g.fresh q l o.1).1,
    );
    done = λ q l t. ⊎_elim (λ c. subst (λ (m : ℕ). (get_or (set s.figures p v) m 0 ≡ T m) × (stale (with_mark s.marks p false) m ≡ false)) (sym c)
        (get_or-set_same s.figures p v 0 (omega (arith, g.len_f)) ∙ v_is, stale_same s.marks p false (omega (arith, g.len_m))))
        (λ o. (get_or-set_other s.figures p q v 0 o.0 ∙ (g.done q l o.1).0, stale_other s.marks p q false o.0 ∙ (g.done q l o.1).1))
        (taken_cases q t);
    order = λ q r lq lr t f. let o = free_old r f in
        ⊎_elim (λ c. subst (λ (m : ℕ). Ahead (figure_of F m) (figure_of F r)) (sym c) (ahead r lr o.0 o.1))
        (λ u. g.order q r lq lr u.1 o.1) (taken_cases q t);
    sorted = subst Sorted (sym kept_is_lem) ys_sorted;
    real = subst (All (λ x. (x.node < n) × Taken S' x.node × (x ≡ scored T x.node))) (sym kept_is_lem) ys_real;
    cover = λ q l t. subst (λ (z : List Entry). In (scored T q) z ⊎ Out k (scored T q) z) (sym kept_is_lem) (ys_cover q l t);
    reach = λ q l t. subst (λ (z : List Entry). Behind (last_or (entry 0 0) z) (figure_of F q)) (sym kept_is_lem) (ys_reach q l t);
    room = rw kept_is_lem (omega (arith, length_ys));
    size = rw kept_is_lem ys_size;
    count = recomputed_is_lem;
  }
