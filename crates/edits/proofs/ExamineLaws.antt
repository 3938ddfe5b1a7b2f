-- When an edit turns back, from the list of the nodes that it touches and from their degrees. Assumes nothing.
use mathlib.Core.Bool.{Bool, cond, false, true, true≢false}
use mathlib.Core.List.{[], List, ◌∷◌}
use mathlib.Core.Logic.{inl, inr}
use mathlib.Core.Path.{ap, refl, sym, ◌∙◌, ◌≡◌}
use Prim.Native.Nat.{◌+◌, ◌<◌, ℕ, ◌≤◌}
use native.Mathlib.Decide.{dec_lt, ℕ_discrete}
use native.Mathlib.Omega.{arith}
use borrow.Author.Tests.{le-ltb, lt-ltb}
use lib.Dec.{ltb}
use lib.ListN.{get_or, length}
use Rattle.arith.proofs.Sums.{any_to_here, any_to_never, bit_le, count_to_le}
use Rattle.arith.proofs.Tests.{test}
use Rattle.arith.specs.Sums.{any_to, bit, count_to}
use Rattle.ego.proofs.FoundLaws.{degree_is}
use Rattle.ego.specs.Graph.{degree}
use Rattle.ego.specs.Limits.{limit}
use Rattle.packed.proofs.EdgeLaws.{edge_self}
use Rattle.packed.proofs.ShiftLaws.{first_moved, other_kept, second_moved, shifted_first, shifted_other, shifted_second}
use Rattle.packed.specs.Edges.{edge, with_edge}
use Rattle.packed.specs.Inside.Degrees.{moved, shifted, Shiftable}
use Rattle.state.proofs.DegreeLaws.{within_by}
use Rattle.state.proofs.RefusalLaws.{passed_after, passed_before, refusal_none, refused_after, refused_before}
use Rattle.state.proofs.TouchLaws.{touched_first}
use Rattle.state.specs.Refusal.{Condition, crowded_after, ends, refusal, too_many, touched}
use Rattle.edits.proofs.ListedLaws.{count_two, each-length, each_node, first_is, listed_ends, listed_touched, node_below, node_common, over_is, second_is}
use Rattle.edits.specs.Inside.Change.{Changeable, crowding, Editable, Examines}
use Rattle.edits.specs.Inside.Touched.{Lists, max_touched, of_each}
use Rattle.edits.specs.declared.touched.Touched.{Touched}
use Rattle.edits.proofs.NumberLaws.{number_one}
use Rattle.state.proofs.AnswerLaws.{number_some}
use Rattle.state.specs.Answers.{number}
use Rattle.state.specs.declared.refusal.Refusal.{Refusal}
use Rattle.std.proofs.Common.{Result, Ok, Err, IsErrAnd}

module _ {es : List ℕ} {n a b : ℕ} {on : Bool} (c : Changeable es n a b on) where
  -- 11 where the first end has too many edges
  pub first_crowded : limit < degree (edge es) n a → 11 ≡ refusal (crowding es n a b on)
  unfolding too_many
  first_crowded h =
      sym (refused_before _ (edge es) n _
      (any_to_here _ n a c.first_below (rw (touched_first (edge es) a b a refl) (lt-ltb limit _ h))))

  -- the degrees of the ends after the edit
  abbrev Moves : ℕ → Type 0
  Moves p = (count_to (edge (with_edge es a b on) p) n ≡ moved on (count_to (edge es p) n)) × (0 < count_to (edge es p) n + bit on)

  first_after : Moves a
  first_after = first_moved es n a b on c.apart c.first_below c.second_below c.room c.was

  second_after : Moves b
  second_after = second_moved es n a b on c.apart c.first_below c.second_below c.room c.was

  module _ {t : Touched} {before : List ℕ} (e : Lists (edge es) n a b t) (d : before ≡ of_each (degree (edge es) n) t.nodes t.count) where
    each : (i : ℕ) → i < t.count → get_or before i 0 ≡ degree (edge es) n (get_or t.nodes i 0)
    each = each_node (degree (edge es) n) t.nodes t.count d e.few

    two : 2 ≤ t.count
    two = count_two e

    long : length before ≡ max_touched
    long = each-length (degree (edge es) n) t.nodes t.count d

    first_degree : get_or before 0 0 ≡ count_to (edge es a) n
    first_degree = each 0 (omega (arith, two)) ∙ ap (degree (edge es) n) (first_is e) ∙ degree_is (edge es) n a

    second_degree : get_or before 1 0 ≡ count_to (edge es b) n
    second_degree = each 1 (omega (arith, two)) ∙ ap (degree (edge es) n) (second_is e) ∙ degree_is (edge es) n b

    pub shift_ready : Shiftable before 0 1 on
    shift_ready = record {
      first_below = omega (arith, long);
      second_below = omega (arith, long);
      first_some = omega (arith, first_degree, first_after.1);
      second_some = omega (arith, second_degree, second_after.1);
      first_fits = omega (arith, first_degree, count_to_le (edge es a) n, bit_le on, c.room.few);
      second_fits = omega (arith, second_degree, count_to_le (edge es b) n, bit_le on, c.room.few);
    }

    -- 11
    over_before : any_to (λ i. ltb limit (get_or before i 0)) t.count ≡ too_many (edge es) n (touched (edge es) a b)
    over_before =
        over_is (edge es) n (touched (edge es) a b) t.nodes before t.count (node_below e c.first_below c.second_below) (listed_touched e) each

    module _ {x : Bool} (f : x ≡ any_to (λ i. ltb limit (get_or before i 0)) t.count) where
      pub before_crowded : x ≡ true → 11 ≡ refusal (crowding es n a b on)
      before_crowded z = sym (refused_before _ (edge es) n _ (sym over_before ∙ sym f ∙ z))

      -- the degrees after it
      module _ (z : x ≡ false) {next : List ℕ} (q : next ≡ shifted before 0 1 on) where
        end_moved : (i : ℕ) → i < 2 → get_or next i 0 ≡ moved on (get_or before i 0)
        end_moved i h = ap (λ l. get_or l i 0) q ∙ elim (ℕ_discrete i 0) [
          | yes p ↦ rw p (shifted_first before 0 1 on (omega arith) (omega (arith, long)))
          | no m ↦ let p : i ≡ 1 = omega arith in rw p (shifted_second before 0 1 on (omega (arith, long)))
        ]

        common_kept : (i : ℕ) → 2 ≤ i → get_or next i 0 ≡ get_or before i 0
        common_kept i h = ap (λ l. get_or l i 0) q ∙ shifted_other before 0 1 on i (omega arith) (omega arith)

        each_after : (i : ℕ) → i < t.count → get_or next i 0 ≡ degree (edge (with_edge es a b on)) n (get_or t.nodes i 0)
        each_after i h = elim (dec_lt i 2) [
          | no l ↦
              let p = get_or t.nodes i 0 in
              let r = node_common e i (omega arith) h in
              common_kept i (omega arith) ∙ each i h ∙ degree_is (edge es) n p
              ∙ sym (other_kept es n a b on c.apart c.first_below c.second_below c.room c.was p
              (λ y. true≢false (sym r.first ∙ edge_self es a p (sym y))) (λ y. true≢false (sym r.second ∙ edge_self es b p (sym y))))
              ∙ sym (degree_is (edge (with_edge es a b on)) n p)
          | yes l ↦ end_moved i l ∙ elim (ℕ_discrete i 0) [
            | yes p ↦ rw (p, first_is e) (ap (moved on) first_degree ∙ sym first_after.0 ∙ sym (degree_is _ n a))
            | no m ↦
                let p : i ≡ 1 = omega arith in
                rw (p, second_is e) (ap (moved on) second_degree ∙ sym second_after.0 ∙ sym (degree_is _ n b))
          ]
        ]

        -- 12
        over_after : any_to (λ i. ltb limit (get_or next i 0)) 2 ≡ too_many (edge (with_edge es a b on)) n (ends a b)
        over_after =
            over_is (edge (with_edge es a b on)) n (ends a b) t.nodes next 2
            (λ i h. node_below e c.first_below c.second_below i (omega (arith, two)))
            (λ p h. listed_ends e p) (λ i h. each_after i (omega (arith, two)))

        rest : {v : Bool} → on ≡ v → refusal (crowding es n a b on) ≡ refusal (cond v (crowded_after (edge (with_edge es a b on)) n (ends a b) ∷ []) [])
        rest p =
            passed_before _ (edge es) n _ (sym over_before ∙ sym f ∙ z)
            ∙ ap (λ v. refusal (cond v (crowded_after (edge (with_edge es a b on)) n (ends a b) ∷ []) [])) p

        module _ {y : Bool} (g : y ≡ any_to (λ i. ltb limit (get_or next i 0)) 2) where
          -- no end has more edges after a removal
          pub after_crowded : y ≡ true → 12 ≡ refusal (crowding es n a b on)
          unfolding moved
          after_crowded w = elim (test on) [
            | inl p ↦ sym (rest p ∙ refused_after [] _ n (ends a b) (sym over_after ∙ sym g ∙ w))
            | inr p ↦ absurd (true≢false (sym w ∙ g ∙ any_to_never _ 2 (λ i h. le-ltb limit (get_or next i 0)
                (omega (arith, end_moved i h, ap (λ v. moved v (get_or before i 0)) p, within_by before t.count f z i (omega (arith, two)))))))
          ]

          pub edit_accepted : y ≡ false → (refusal (crowding es n a b on) ≡ 0) × Editable es n a b on t
          edit_accepted w = (
            elim (test on) [
              | inl p ↦ rest p ∙ passed_after [] _ n (ends a b) (sym over_after ∙ sym g ∙ w) ∙ refusal_none
              | inr p ↦ rest p ∙ refusal_none
            ],
            record {
              pair = c;
              listed = e;
              few_before = λ i h. rw (← each i h) (within_by before t.count f z i h);
              few_after = λ i h. rw (← each_after i h) (elim (dec_lt i 2) [
                | yes l ↦ within_by next 2 g w i l
                | no l ↦ rw (common_kept i (omega arith)) (within_by before t.count f z i h)
              ]);
            },
          )

-- an edit that `?` turns back
module _ {cs : List Condition} {es : List ℕ} {n a b : ℕ} {on : Bool} where
  pub examines_refused : (r : Result Touched Refusal) (x : Refusal) → number x ≡ refusal cs → IsErrAnd r (λ y. y ≡ x) → Examines cs es n a b on r
  examines_refused (Ok t) x e h = absurd h
  examines_refused (Err y) x e h = record { answer = ap number h ∙ e; ready = tt }

  -- one answer meets what is promised of an examination
  pub examines_one : {r r' : Result Touched Refusal} → Examines cs es n a b on r → Examines cs es n a b on r' → r ≡ r'
  examines_one {r = Ok t} {r' = Ok u} h k = ap Ok (h.ready.listed.all ∙ sym k.ready.listed.all)
  examines_one {r = Ok t} {r' = Err y} h k = absurd (number_some y (sym (h.answer ∙ sym k.answer)))
  examines_one {r = Err x} {r' = Ok u} h k = absurd (number_some x (h.answer ∙ sym k.answer))
  examines_one {r = Err x} {r' = Err y} h k = ap Err (number_one x y (h.answer ∙ sym k.answer))
