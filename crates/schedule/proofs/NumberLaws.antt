-- The pairs of a schedule by their numbers: a pair is linked as its number is, and which differs first. Assumes nothing.
use mathlib.Core.Bool.{true, ◌&&◌}
use mathlib.Core.List.{List}
use mathlib.Core.Logic.{inl, inr, ◌≢◌}
use mathlib.Core.Path.{ap, subst, ◌∙◌, ◌≡◌}
use Prim.Native.Nat.{◌+◌, ◌<◌, ℕ, ◌≤◌}
use native.Mathlib.Omega.{arith}
use borrow.Author.Tests.{le-leb}
use lib.Dec.{leb}
use Rattle.arith.proofs.Sums.{any_to_ext, any_to_here, any_to_never, some_of}
use Rattle.arith.proofs.Tests.{and-true, same_test, test}
use Rattle.packed.proofs.FirstLaws.{first_least}
use Rattle.packed.proofs.GraphLaws.{Numbered, pair_here, pair_some}
use Rattle.packed.proofs.PairLaws.{pair_lt, pair_onto, same_number, same_self}
use Rattle.packed.specs.Bits.{differ}
use Rattle.packed.specs.Inside.Search.{FirstFrom}
use Rattle.packed.specs.Pairs.{pair_count, pair_index}
use Rattle.schedule.proofs.OpenLaws.{linked_of}
use Rattle.schedule.specs.Change.{differs_at, first_differing, minutes}
use Rattle.schedule.specs.Schedule.{linked_at, names, open_at, opening_at, record_count, schedule_nodes}
use Rattle.schedule.specs.Inside.Numbers.{differs_in, linked_no, open_to}
use Rattle.schedule.specs.Inside.Records.{Sounds}

module _ (schedule : List ℕ) (v : Sounds schedule) where
  abbrev n : ℕ
  n = schedule_nodes schedule

  pub schedule_numbered : (t : ℕ) → Numbered (linked_at schedule t) n (linked_no schedule t)
  unfolding linked_at names open_to
  schedule_numbered t = record {
    two = λ a b d. any_to_ext _ _ (record_count schedule) (λ i h.
        ap (λ x. x && open_at (opening_at schedule i) t) (same_number (opening_at schedule i).a (opening_at schedule i).b a b (v i h).nodes.apart d));
    self = λ a. any_to_never _ (record_count schedule) (λ i h. rw (same_self (opening_at schedule i).a (opening_at schedule i).b a (v i h).nodes.apart));
    within = λ p e.
        let o = linked_of schedule t p e in
        let two = (v o.at o.inside).nodes in
        subst (λ q. q < pair_count n) o.number (pair_lt _ _ n two.apart two.first two.second);
  }

  -- a link differs exactly if a number does
  differs_number : (t m end : ℕ) → pair_count n ≤ end → differs_at schedule t m ≡ differs_in schedule 0 end t m
  unfolding differs_at differs_in
  differs_number t m end all = same_test _ _
      (λ e.
      let (a, b, ha, hb, d) = pair_some (λ a b. differ (linked_at schedule m a b) (linked_at schedule t a b)) n e in
      let apart : a ≢ b = omega (arith, ha) in
      let p = pair_index a b in
      any_to_here (λ p. leb 0 p && differ (linked_no schedule m p) (linked_no schedule t p)) end p (omega (arith, pair_lt a b n apart (omega arith) hb))
      (rw (le-leb 0 p (omega arith), ← (schedule_numbered m).two a b apart, ← (schedule_numbered t).two a b apart) d))
      (λ e.
      let s = some_of (λ p. leb 0 p && differ (linked_no schedule m p) (linked_no schedule t p)) end e in
      let d = (and-true (leb 0 s.at) (differ (linked_no schedule m s.at) (linked_no schedule t s.at)) s.passes).1 in
      let (a, b, ha, hb, at) = pair_onto n s.at (one_within s.at d) in
      let apart : a ≢ b = omega (arith, ha) in
      pair_here (λ a b. differ (linked_at schedule m a b) (linked_at schedule t a b)) n a b ha hb
      (rw ((schedule_numbered m).two a b apart, (schedule_numbered t).two a b apart, at) d))
    where
      -- one of two that differ is linked
      one_within : (p : ℕ) → differ (linked_no schedule m p) (linked_no schedule t p) ≡ true → p < pair_count n
      one_within p d = elim (test (linked_no schedule m p)) [
        | inl e ↦ (schedule_numbered m).within p e
        | inr e ↦ (schedule_numbered t).within p (rw e at d)
      ]

  -- the first number that differs
  pub first_all : (t end r : ℕ) → pair_count n ≤ end → FirstFrom (differs_in schedule 0 end t) (t + 1) minutes r → r ≡ first_differing schedule t
  unfolding first_differing
  first_all t end r all f =
      first_least (differs_at schedule t) (record {
        start = f.start;
        stop = f.stop;
        none = λ i a b. differs_number t i end all ∙ f.none i a b;
        some = λ b. differs_number t r end all ∙ f.some b;
      })
