-- A pass over the records for the pairs of a window: what one record more does to the edges and to the table of numbers. Assumes nothing.
use mathlib.Core.Bool.{Bool, cond, false, true, ◌&&◌}
use mathlib.Core.List.{List}
use mathlib.Core.Logic.{inl, inr}
use mathlib.Core.Path.{ap, ap₂, refl, subst, sym, ◌∙◌, ◌≡◌}
use Prim.Native.Nat.{◌+◌, ◌-◌, ◌<◌, suc, ℕ, ◌≤◌}
use native.Mathlib.Decide.{dec_lt, ℕ_discrete}
use native.Mathlib.Numerals.{add-one}
use native.Mathlib.Omega.{arith}
use borrow.Author.Tests.{eq-eqb, le-leb, le-ltb, lt-leb, lt-ltb, ltb-true, ne_eqb}
use lib.Dec.{eqb, leb, ltb}
use lib.ListN.{get_or, get_or-replicate, length, length-replicate, length-set, replicate, set}
use lib.Seq.{get_or-set_other, get_or-set_same}
use Rattle.arith.proofs.Tests.{and_all, and-false, and-true, test}
use Rattle.packed.proofs.BitLaws.{clear_bytes_of, length-bytes_of, put_bytes_of}
use Rattle.packed.proofs.PairLaws.{pair_lt}
use Rattle.packed.proofs.WindowLaws.{Inside, place_before, place_in_lem, place_inside, place_past, placed_none, placed_some}
use Rattle.std.proofs.Common.{None, Option, Some}
use Rattle.packed.specs.Bits.{bytes_of, with_bit}
use Rattle.packed.specs.Inside.Windows.{place_in, placed as found_at, window}
use Rattle.packed.specs.Pairs.{max_nodes, pair_count}
use Rattle.calls.proofs.MadeLaws.{most_pairs}
use Rattle.state.specs.Inside.Earlier.{TwoNodes}
use Rattle.state.specs.Inside.MaxSizes.{max_edge_bytes}
use Rattle.survey.proofs.NumberLaws.{number_past}
use Rattle.survey.proofs.PickLaws.{last_never}
use Rattle.survey.specs.Survey.{measurement_at, record_count}
use Rattle.survey.specs.declared.records.Measurement.{Measurement}
use Rattle.survey.specs.Inside.Walk.{decides, has_number, last_to, linked_no, number_at, number_of, Numbers, pass_edges, reached_by, seen, Valid}

-- ---- what a record does

module _ (start : ℕ) (latest edges : List ℕ) (r : Measurement) (on : Bool) {p : ℕ} (is : p ≡ number_of r) {o : Option ℕ} (at : o ≡ found_at start p) where
  -- the edges and the table after it
  abbrev pub Decided : List ℕ → List ℕ → Type 0
  Decided edges' latest' =
      (edges' ≡ cond (decides start latest r) (with_bit edges (number_of r) on) edges)
      × (latest' ≡ cond (decides start latest r) (set latest (place_in start (number_of r)) r.number) latest)

  left_as : decides start latest r ≡ false → Decided edges latest
  left_as e = rw e (refl, refl)

  pub decided_outside : o ≡ None → Decided edges latest
  unfolding decides
  decided_outside e = left_as (rw (← is, placed_none start p at e))

  module _ {k : ℕ} (e : o ≡ Some k) where
    place_is : place_in start (number_of r) ≡ k
    place_is = ap (place_in start) (sym is) ∙ (placed_some start p at e).3

    pub decided_lower : r.number < get_or latest k 0 → Decided edges latest
    unfolding decides
    decided_lower h = left_as (rw (place_is, lt-leb (get_or latest k 0) r.number h) (and-false (ltb k window)))

    pub decided : get_or latest k 0 ≤ r.number → Decided (with_bit edges p on) (set latest k r.number)
    unfolding decides
    decided l = rw (place_is, lt-ltb k window (placed_some start p at e).2, le-leb (get_or latest k 0) r.number l, is) (refl, refl)

-- ---- which records a pair has seen

module _ (survey : List ℕ) (start p : ℕ) where
  seen_before : (i : ℕ) → p < start → seen survey start i p ≡ record_count survey
  unfolding seen
  seen_before i h = rw (lt-ltb p start h)

  seen_in : (i : ℕ) → start ≤ p → p < start + window → seen survey start i p ≡ i
  unfolding seen
  seen_in i h l = rw (le-ltb p start h, lt-ltb p (start + window) l)

  seen_past : (i : ℕ) → start + window ≤ p → seen survey start i p ≡ 0
  unfolding seen
  seen_past i h = rw (le-ltb p start (omega arith), le-ltb p (start + window) h)

  -- after all records the window is done
  seen_next : seen survey start (record_count survey) p ≡ seen survey (start + window) 0 p
  unfolding seen
  seen_next = elim (dec_lt p start) [
    | yes h ↦ rw (lt-ltb p start h, lt-ltb p (start + window) (omega arith))
    | no h ↦ elim (dec_lt p (start + window)) [
      | yes l ↦ rw (le-ltb p start (omega arith), lt-ltb p (start + window) l)
      | no l ↦ rw (le-ltb p start (omega arith), le-ltb p (start + window) (omega arith)) (sym (both (ltb p (start + window + window))))
    ]
  ]
    where
      both : (t : Bool) → ◌≡◌ {A = ℕ} (cond t 0 0) 0
      both true = refl
      both false = refl

module _ (survey : List ℕ) (threshold : ℕ) where
  abbrev linked_after : ℕ → ℕ → Bool
  linked_after p k = reached_by survey threshold (last_to survey (has_number survey p) k)

  pub pass_none : replicate max_edge_bytes 0 ≡ pass_edges survey threshold 0 0
  unfolding pass_edges last_to reached_by
  pass_none = clear_bytes_of _ max_edge_bytes (λ p. ap (linked_after p) (begin p))
    where
      begin : (p : ℕ) → seen survey 0 0 p ≡ 0
      begin p = elim (dec_lt p window) [ yes h ↦ seen_in survey 0 p 0 (omega arith) (omega arith) | no h ↦ seen_past survey 0 p 0 (omega arith) ]

  pub pass_next : (start : ℕ) → pass_edges survey threshold start (record_count survey) ≡ pass_edges survey threshold (start + window) 0
  unfolding pass_edges
  pass_next start = λ j. bytes_of (λ p. linked_after p (seen_next survey start p j)) max_edge_bytes

  -- once the windows are past the pairs, all is done
  pub pass_all : {n : ℕ} → Valid survey n → (start : ℕ) → pair_count n ≤ start
      → pass_edges survey threshold start 0 ≡ bytes_of (linked_no survey threshold) max_edge_bytes
  unfolding pass_edges
  pass_all v start h = λ j. bytes_of (λ p. same p j) max_edge_bytes
    where
      few : (p : ℕ) → seen survey start 0 p ≤ record_count survey
      few p = elim (dec_lt p start) [
        | yes l ↦ omega (arith, seen_before survey start p 0 l)
        | no l ↦ elim (dec_lt p (start + window)) [
          | yes m ↦ omega (arith, seen_in survey start p 0 (omega arith) m)
          | no m ↦ omega (arith, seen_past survey start p 0 (omega arith))
        ]
      ]

      same : (p : ℕ) → linked_after p (seen survey start 0 p) ≡ linked_no survey threshold p
      same p = elim (dec_lt p start) [
        | yes l ↦ ap (linked_after p) (seen_before survey start p 0 l)
        | no l ↦
            let none : (k : ℕ) → k ≤ record_count survey → last_to survey (has_number survey p) k ≡ 0 =
            λ k m. last_never survey (has_number survey p) k (λ i g. number_past v p (omega arith) i (omega arith)) in
            ap (reached_by survey threshold) (none (seen survey start 0 p) (few p) ∙ sym (none (record_count survey) (omega arith)))
      ]

-- ---- one record more

-- the table at the start
pub numbers_none : (survey : List ℕ) (start : ℕ) → Numbers survey start 0 (replicate window 0)
unfolding last_to number_at
numbers_none survey start = record { long = length-replicate {A = ℕ} window 0; each = λ k h. get_or-replicate window k 0 0 h }

module _ (survey : List ℕ) (start i : ℕ) (latest : List ℕ) (held : Numbers survey start i latest) where
  abbrev this : Measurement
  this = measurement_at survey i

  abbrev takes : Bool
  takes = decides start latest this

  -- a pair outside of the window is not decided
  outside : (p : ℕ) → window ≡ place_in start p → takes && eqb (number_of this) p ≡ false
  unfolding decides
  outside p w = elim (ℕ_discrete (number_of this) p) [
    | yes e ↦ rw (e, ← w)
    | no d ↦ rw (ne_eqb (number_of this) p d) (and-false takes)
  ]

  -- in it, the record takes the pair's place
  takes_at : (p : ℕ) → start ≤ p → p < start + window → number_of this ≡ p
      → takes ≡ leb (number_at survey (last_to survey (has_number survey p) i)) this.number
  unfolding decides
  takes_at p h l e =
      let k : ℕ = p - start in
      let at : place_in start (number_of this) ≡ k = ap (place_in start) e ∙ sym (place_in_lem start p h (omega arith)) in
      let back : start + k ≡ p = omega arith in
      rw (at, lt-ltb k window (omega arith))
      (ap (λ x. leb x this.number) (held.each k (omega arith) ∙ ap (λ q. number_at survey (last_to survey (has_number survey q) i)) back))

  last_more : (p : ℕ) → start ≤ p → p < start + window
      → last_to survey (has_number survey p) (suc i) ≡ cond (takes && eqb (number_of this) p) (suc i) (last_to survey (has_number survey p) i)
  unfolding last_to has_number
  last_more p h l = elim (ℕ_discrete (number_of this) p) [
    | yes e ↦
        let same = takes_at p h l e in
        rw (eq-eqb (number_of this) p e, and_all takes) (ap (λ t. cond t (suc i) (last_to survey (has_number survey p) i)) (sym same))
    | no d ↦ rw (ne_eqb (number_of this) p d, and-false takes)
  ]

  -- the table after it
  placed : takes ≡ true → Inside start (number_of this)
  unfolding decides
  placed t =
      let below : place_in start (number_of this) < window = ltb-true _ _ (and-true (ltb (place_in start (number_of this)) window) _ t).0 in
      place_inside start (number_of this) (λ e. omega arith)

  number_more : (k : ℕ) → k < window → get_or (cond takes (set latest (place_in start (number_of this)) this.number) latest) k 0
      ≡ number_at survey (cond (takes && eqb (number_of this) (start + k)) (suc i) (last_to survey (has_number survey (start + k)) i))
  unfolding number_at
  number_more k h = elim (test takes) [
    | inr t ↦ rw t (held.each k h)
    | inl t ↦
        let in_table = placed t in
        elim (ℕ_discrete (number_of this) (start + k)) [
          | yes e ↦
              let at : place_in start (number_of this) ≡ k = omega (arith, in_table.number) in
              rw (t, at, eq-eqb (number_of this) (start + k) e) (get_or-set_same latest k this.number 0 (omega (arith, held.long)))
          | no d ↦
              rw (t, ne_eqb (number_of this) (start + k) d)
              (get_or-set_other latest (place_in start (number_of this)) k this.number 0 (λ e. d (omega (arith, in_table.number))) ∙ held.each k h)
        ]
  ]

  numbers_more : Numbers survey start (i + 1) (cond takes (set latest (place_in start (number_of this)) this.number) latest)
  numbers_more = rw (add-one i) (record {
    long = kept takes;
    each = λ k h. number_more k h ∙ ap (number_at survey) (sym (last_more (start + k) (omega arith) (omega arith)));
  })
    where
      kept : (t : Bool) → length (cond t (set latest (place_in start (number_of this)) this.number) latest) ≡ window
      kept true = length-set latest _ _ ∙ held.long
      kept false = held.long

  -- the edges after it
  module _ (threshold : ℕ) where
    abbrev reaches : Bool
    reaches = leb threshold this.strength

    chosen : (t : Bool) (x : ℕ) → cond t reaches (reached_by survey threshold x) ≡ reached_by survey threshold (cond t (suc i) x)
    unfolding reached_by
    chosen true x = refl
    chosen false x = refl

    linked_more : (p : ℕ) → cond (takes && eqb (number_of this) p) reaches (linked_after survey threshold p (seen survey start i p))
        ≡ linked_after survey threshold p (seen survey start (i + 1) p)
    linked_more p = rw (add-one i) (elim (dec_lt p start) [
      | yes h ↦ rw (outside p (place_before start p h), seen_before survey start p i h, seen_before survey start p (suc i) h)
      | no h ↦ elim (dec_lt p (start + window)) [
        | no l ↦ rw (outside p (place_past start p (omega arith) (omega arith)), seen_past survey start p i (omega arith), seen_past survey start p (suc i) (omega arith))
        | yes l ↦
            rw (seen_in survey start p i (omega arith) l, seen_in survey start p (suc i) (omega arith) l, last_more p (omega arith) l)
            (chosen (takes && eqb (number_of this) p) (last_to survey (has_number survey p) i))
      ]
    ])

    edges_more : TwoNodes max_nodes this.a this.b
        → cond takes (with_bit (pass_edges survey threshold start i) (number_of this) reaches) (pass_edges survey threshold start i)
        ≡ pass_edges survey threshold start (i + 1)
    unfolding pass_edges
    edges_more two = elim (test takes) [
      | inl t ↦
          rw t (put_bytes_of _ max_edge_bytes (number_of this) reaches (omega (arith, pair_lt _ _ max_nodes two.apart two.first two.second, most_pairs))
          ∙ (λ j. bytes_of (λ p. more t p j) max_edge_bytes))
      | inr t ↦ rw t (λ j. bytes_of (λ p. still t p j) max_edge_bytes)
    ]
      where
        more : takes ≡ true → (p : ℕ) → cond (eqb (number_of this) p) reaches (linked_after survey threshold p (seen survey start i p))
            ≡ linked_after survey threshold p (seen survey start (i + 1) p)
        more t p = rw t at (linked_more p)

        still : takes ≡ false → (p : ℕ) → linked_after survey threshold p (seen survey start i p) ≡ linked_after survey threshold p (seen survey start (i + 1) p)
        still t p = rw t at (linked_more p)

-- from what `decide` ensures
pub pass_more : (survey : List ℕ) (threshold start i : ℕ) {r : Measurement} {edges latest edges' latest' : List ℕ} → r ≡ measurement_at survey i
    → edges ≡ pass_edges survey threshold start i → Numbers survey start i latest → TwoNodes max_nodes (measurement_at survey i).a (measurement_at survey i).b
    → edges' ≡ cond (decides start latest r) (with_bit edges (number_of r) (leb threshold r.strength)) edges
    → latest' ≡ cond (decides start latest r) (set latest (place_in start (number_of r)) r.number) latest
    → (edges' ≡ pass_edges survey threshold start (i + 1)) × Numbers survey start (i + 1) latest'
pass_more survey threshold start i {latest = latest} is at held two e f = (
  e ∙ ap₂ (λ r es. cond (decides start latest r) (with_bit es (number_of r) (leb threshold r.strength)) es) is at
      ∙ edges_more survey start i latest held threshold two,
  subst (Numbers survey start (i + 1)) (sym (f ∙ ap (λ r. cond (decides start latest r) (set latest (place_in start (number_of r)) r.number) latest) is))
      (numbers_more survey start i latest held),
)

pub length_pass : (survey : List ℕ) (threshold start i : ℕ) → length (pass_edges survey threshold start i) ≡ max_edge_bytes
unfolding pass_edges
length_pass survey threshold start i = length-bytes_of _ max_edge_bytes
