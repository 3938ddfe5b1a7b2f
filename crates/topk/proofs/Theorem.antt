-- THE LIST where the figures are honest: the first k of all nodes by score; as many recomputed as rank at or before the last of them; exactly those
-- settled. T is the score, F the figures and M the marks at entry. Assumes nothing.
use mathlib.Core.Bool.{◌&&◌, Bool, cond, false, not, true, true≢false}
use mathlib.Core.List.{List}
use mathlib.Core.Logic.{inl, inr, ◌⊎◌, ⊎_elim}
use mathlib.Core.Path.{ap, refl, subst, sym, ◌∙◌, ◌≡◌}
use Prim.Native.Nat.{◌+◌, ◌<◌, min, suc, zero, ℕ, ◌≤◌}
use native.Mathlib.Decide.{ℕ_discrete}
use native.Mathlib.Nat.{le_refl}
use native.Mathlib.Omega.{arith}
use borrow.Author.Tests.{eqb-true, ne_eqb}
use lib.Dec.{eqb}
use lib.ListN.{get_or, get_or-replicate, length, take}
use Rattle.arith.proofs.Sums.{count_to_ext, count_to_le}
use Rattle.arith.proofs.Tests.{and-true, test, and_all, and-false, and_not_self}
use Rattle.arith.specs.Sums.{count_to}
use Rattle.state.specs.Marks.{mark_bytes, stale}
use Rattle.arith.proofs.Counts.{count_all, count_full, count_none}
use Rattle.topk.proofs.Good.{Good, is_recomputed, is_taken, start_good, took_count, took_good}
use Rattle.topk.proofs.NextLaws.{figure_of, Free, IsBest, next_best, Taken}
use Rattle.topk.proofs.Order.{Ahead, ahead_behind, Behind, behind_by}
use Rattle.topk.proofs.Sort.{All-map, before_last, In}
use Rattle.topk.proofs.Top.{First, firsts_unique, length_top, Node, scored, top_first}
use Rattle.topk.proofs.TurnLaws.{still}
use Rattle.topk.specs.Entries.{Entry, entry, ranks_before, last_entry, stops}
use Rattle.state.specs.Inside.Honest.{Honest}
use Rattle.topk.specs.Ranking.{ranking, works_out}
use Rattle.topk.specs.Inside.Layout.{All}
use Rattle.topk.specs.Inside.Right.{Right}
use Rattle.topk.specs.Steps.{at, all_steps, Next, nothing, Progress, at_start, step, step_at, steps, stored, took}
use Rattle.topk.specs.Inside.Next.{next, stopped, stopped_at}

-- what a stop says
stops_true : (k : ℕ) (e : Entry) (xs : List Entry) → stops k e xs ≡ true → (length xs ≡ k) × Ahead (last_entry xs) e
unfolding stops
stops_true k e xs t = let r = and-true (eqb (length xs) k) (ranks_before (last_entry xs) e) t in (eqb-true (length xs) k r.0, r.1)

-- a node is recomputed or not, by how its stored figure ranks
module _ (F M : List ℕ) (xs : List Entry) (q : ℕ) where
  passed_over : Ahead (last_entry xs) (figure_of F q) → works_out F M xs q ≡ false
  unfolding works_out
  passed_over t = rw t (and-false (stale M q))

  reached : Behind (last_entry xs) (figure_of F q) → works_out F M xs q ≡ stale M q
  unfolding works_out
  reached t = rw t (and_all (stale M q))

module _ (T : ℕ → ℕ) (F M : List ℕ) (k : ℕ) (hon : Honest T F M) (fits : mark_bytes (length F) ≤ length M) where
  abbrev n : ℕ
  n = length F

  -- a step from a good state: it stands still and is stopped, or it takes one node more
  pub record StopsOrTakes (s s' : Progress) : Type 0 where
    pub good : Good T F M k s'
    pub stopped_or_more : (stopped k s ≡ true) ⊎ (count_to (is_taken s'.taken) n ≡ count_to (is_taken s.taken) n + 1)

  at_stops_or_takes : (s : Progress) → Good T F M k s → (x : Next) → next s ≡ x → IsBest s (length s.figures) x → StopsOrTakes s (step_at T k s x)
  unfolding stopped stopped_at step_at took
  at_stops_or_takes s g nothing e b = record { good = g; stopped_or_more = inl (rw e) }
  at_stops_or_takes s g (at p) e b = go (stops k (stored s p) s.kept) refl
    where
      lp : p < n
      lp = omega (arith, g.len_f, b.0)

      ranked : (q : ℕ) → q < n → Free s.taken q → Behind (figure_of s.figures q) (figure_of s.figures p)
      ranked q l f = b.2 q (omega (arith, g.len_f)) f

      go : (t : Bool) → stops k (stored s p) s.kept ≡ t → StopsOrTakes s (cond t s (took T k s p))
      go true c = record { good = g; stopped_or_more = inl (rw (e, c)) }
      go false c = record {
        good = took_good T F M k s hon g p lp b.1 ranked c;
        stopped_or_more = inr (took_count T F M k s hon g p lp b.1 ranked c);
      }

  stops_or_takes : (s : Progress) → Good T F M k s → StopsOrTakes s (step T k s)
  unfolding step next
  stops_or_takes s g = at_stops_or_takes s g (next s) refl (next_best s)

  pub steps_good : (t : ℕ) → Good T F M k (steps T k t (at_start F M))
  unfolding steps
  steps_good zero = start_good T F M k fits
  steps_good (suc t) = (stops_or_takes (steps T k t (at_start F M)) (steps_good t)).good

  -- after t steps the call is stopped, or t nodes are taken
  moves : (t : ℕ) → (stopped k (steps T k t (at_start F M)) ≡ true) ⊎ (count_to (is_taken (steps T k t (at_start F M)).taken) n ≡ t)
  unfolding steps
  moves zero = inr (count_none (is_taken (at_start F M).taken) n (λ q l. let z : get_or (at_start F M).taken q 0 ≡ 0 = get_or-replicate n q 0 0 l in rw z))
  moves (suc t) =
      let s = steps T k t (at_start F M) in
      let halt : stopped k s ≡ true → stopped k (step T k s) ≡ true = λ c. ap (stopped k) (still T k s c) ∙ c in
      ⊎_elim (λ c. inl (halt c)) (λ c. ⊎_elim (λ d. inl (halt d)) (λ d. inr (omega arith)) (stops_or_takes s (steps_good t)).stopped_or_more) (moves t)

  abbrev end : Progress
  end = steps T k n (at_start F M)

  g : Good T F M k end
  g = steps_good n

  full : count_to (is_taken end.taken) n ≡ n → (q : ℕ) → q < n → Free end.taken q → ⊥
  full c q l f = true≢false (sym (count_full (is_taken end.taken) n q c l) ∙ rw f)

  ended : stopped k end ≡ true
  unfolding stopped stopped_at next
  ended = ⊎_elim (λ c. c) (λ c. go c (next end) (next_best end)) (moves n)
    where
      go : count_to (is_taken end.taken) n ≡ n → (x : Next) → IsBest end (length end.figures) x → stopped_at k end x ≡ true
      go c nothing b = refl
      go c (at p) b = absurd (full c p (omega (arith, g.len_f, b.0)) b.1)

  -- what the end of the call says of the nodes that are not taken: none, or there are k entries, and the last ranks before each stored figure
  abbrev Stop : Type 0
  Stop = ((q : ℕ) → q < n → Free end.taken q → ⊥)
      ⊎ (length end.kept ≡ k) × ((q : ℕ) → q < n → Free end.taken q → Ahead (last_entry end.kept) (figure_of F q))

  stop : Stop
  unfolding stopped stopped_at next
  stop = go (next end) (next_best end) ended
    where
      go : (x : Next) → IsBest end (length end.figures) x → stopped_at k end x ≡ true → Stop
      go nothing b t = inl (λ q l f. b q (omega (arith, g.len_f)) f)
      go (at p) b t =
          let lp : p < n = omega (arith, g.len_f, b.0) in
          let u = stops_true k (stored end p) end.kept t in
          let v : Ahead (last_entry end.kept) (figure_of F p) = rw (g.fresh p lp b.1).0 at u.1 in
          inr (
            u.0,
            λ q l f. ahead_behind (last_entry end.kept) (figure_of F p) (figure_of F q) v
                (rw ((g.fresh q l f).0, (g.fresh p lp b.1).0) at (b.2 q (omega (arith, g.len_f)) f)),
          )

  free_behind : (q : ℕ) → q < n → Free end.taken q → Ahead (last_entry end.kept) (figure_of F q)
  free_behind q l f = ⊎_elim (λ a. absurd (a q l f)) (λ b. b.1 q l f) stop

  -- what becomes of a node, by whether it is taken
  pub record Became (q : ℕ) : Type 0 where
    pub counted : is_recomputed M end.taken q ≡ works_out F M end.kept q
    pub figure_is : get_or end.figures q 0 ≡ cond (works_out F M end.kept q) (T q) (get_or F q 0)
    pub mark_is : stale end.marks q ≡ stale M q && not (works_out F M end.kept q)

  became : (q : ℕ) → q < n → Became q
  became q l = elim (ℕ_discrete (get_or end.taken q 0) 0) [
    | yes f ↦
        let w = passed_over F M end.kept q (free_behind q l f) in
        record {
          counted = rw (f, w) (and-false (stale M q));
          figure_is = rw w (g.fresh q l f).0;
          mark_is = rw w ((g.fresh q l f).1 ∙ sym (and_all (stale M q)));
        }
    | no t ↦
        let w = reached F M end.kept q (g.reach q l t) in
        let d = g.done q l t in
        record {
          counted = rw (ne_eqb _ _ t, w) (and_all (stale M q));
          figure_is = rw w (elim (test (stale M q)) [ inl u ↦ rw u d.0 | inr u ↦ rw u (d.0 ∙ sym (hon.settled q l u)) ]);
          mark_is = rw w (d.1 ∙ sym (and_not_self (stale M q)));
        }
  ]

  kept_first : First (Node T n) end.kept
  kept_first = record {
    sorted = g.sorted;
    real = All-map {P = λ x. (x.node < n) × Taken end.taken x.node × (x ≡ scored T x.node)} {Q = Node T n} (λ x r. (r.0, r.2))
        end.kept g.real;
    rest = λ y p. subst (λ (z : Entry). In z end.kept ⊎ All (λ x. Ahead x z) end.kept) (sym p.1)
        (go y.node p.0 (ℕ_discrete (get_or end.taken y.node 0) 0));
  }
    where
      go : (q : ℕ) → q < n → Dec (Free end.taken q) → In (scored T q) end.kept ⊎ All (λ x. Ahead x (scored T q)) end.kept
      go q l (no t) = ⊎_elim (λ i. inl i) (λ o. inr o.1) (g.cover q l t)
      go q l (yes f) =
          inr (All-map {P = λ x. Ahead x (figure_of F q)} {Q = λ x. Ahead x (scored T q)}
          (λ x b. ahead_behind x (figure_of F q) (scored T q) b (behind_by (scored T q) (figure_of F q) (hon.above q l) (λ _. le_refl q)))
          end.kept (before_last (entry 0 0) end.kept (figure_of F q) g.sorted (free_behind q l f)))

  pub kept-length : length end.kept ≡ min n k
  kept-length =
      ⊎_elim
      (λ a. let c = count_all (is_taken end.taken) n (λ q l. rw (ne_eqb (get_or end.taken q 0) 0 (a q l))) in omega (arith, g.size))
      (λ b. omega (arith, b.0, g.size, count_to_le (is_taken end.taken) n))
      stop

  pub right : Right T F M k end
  right = record {
    kept = firsts_unique (Node T n) end.kept (take k (ranking T n)) (kept-length ∙ sym (length_top T k n)) kept_first (top_first T k n);
    recomputed = g.count ∙ count_to_ext (is_recomputed M end.taken) (works_out F M end.kept) n (λ q l. (became q l).counted);
    figures_are = λ q l. (became q l).figure_is;
    marks_are = λ q l. (became q l).mark_is;
  }

module _ (truth : ℕ → ℕ) (k : ℕ) (figures marks : List ℕ) where
  pub all_steps_right : 0 < k → k ≤ length figures → mark_bytes (length figures) ≤ length marks → Honest truth figures marks
      → Right truth figures marks k (all_steps truth k figures marks)
  unfolding all_steps
  all_steps_right some most fits honest = right truth figures marks k honest fits
