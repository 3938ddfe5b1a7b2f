-- The call says the nearest listed post, none exactly if no path within the limit leads to a listed one, or a refusal. Assumes nothing.
use mathlib.Core.Bool.{false, not-eq-not, true, true≢false}
use mathlib.Core.List.{List, Memᴰ}
use mathlib.Core.Logic.{inl, inr, ◌⊎◌}
use mathlib.Core.Path.{ap, refl, sym, ◌∙◌, ◌≡◌}
use Prim.Native.Nat.{◌+◌, ◌<◌, zero-le, ℕ}
use native.Mathlib.Decide.{dec_lt, ℕ_discrete}
use native.Mathlib.Nat.{le_antisymm}
use native.Mathlib.Omega.{arith}
use Rattle.arith.proofs.Least.{least_from_le}
use Rattle.arith.proofs.Members.{elem_mem, mem_elem}
use Rattle.arith.proofs.Sums.{any_to_here, some_of}
use Rattle.arith.proofs.Tests.{and-true}
use Rattle.arith.specs.Lists.{elem, least_from}
use Rattle.ego.specs.Graph.{Graph}
use Rattle.nearest.proofs.AnswerLaws.{answer_at, answer_none}
use Rattle.nearest.proofs.CallLaws.{accepted_is, accepted_knows, as_found, refused_is}
use Rattle.nearest.proofs.PathLaws.{path_reaches, reaches_inside, reaches_path}
use Rattle.std.proofs.Common.{None, Some}
use Rattle.nearest.specs.declared.search.Near.{Near}
use Rattle.state.specs.Answers.{At, found, Nowhere}
use Rattle.std.proofs.Common.{Ok, Option}
use Rattle.nearest.specs.Nearest.{near, nearest_call, nearest_conditions, nearest_of, numbers_of}
use Rattle.nearest.specs.NearestListed.{Answers, NearestListed, Path, Reached}
use Rattle.nearest.specs.Paths.{any_at, listed_at, reaches}
use Rattle.packed.proofs.FirstLaws.{least_first}
use Rattle.packed.specs.Edges.{edge}
use Rattle.packed.specs.Pairs.{max_nodes}
use Rattle.state.specs.Refusal.{refusal}

module _ (g : Graph) (n p : ℕ) (hp : p < n) (listed : List ℕ) where
  listed_path : (h q : ℕ) → listed_at g n p listed h q ≡ true → Memᴰ q listed × Path g n h p q
  unfolding listed_at
  listed_path h q e = let r = and-true (elem q listed) (reaches g n h p q) e in (elem_mem q listed r.0, reaches_path g n h p q r.1)

  path_listed : {h q : ℕ} → Memᴰ q listed → Path g n h p q → (q < n) × (listed_at g n p listed h q ≡ true)
  unfolding listed_at
  path_listed {h} {q} m path = let r = path_reaches g n h p q path in (reaches_inside g n h p q hp r, rw (mem_elem m, r))

  not_listed : {h q : ℕ} → (Memᴰ q listed → Path g n h p q → ⊥) → listed_at g n p listed h q ≡ false
  not_listed {h} {q} none = (not-eq-not {b = false}).0 (λ t. let r = listed_path h q t in none r.0 r.1)

  path_any : {h q : ℕ} → Memᴰ q listed → Path g n h p q → any_at g n p listed h ≡ true
  unfolding any_at
  path_any {h} {q} m path = let r = path_listed m path in any_to_here _ n q r.0 r.1

  module _ (limit : ℕ) where
    answer_is_lem : {q h : ℕ} → Answers g n p listed limit q h → Some (near q h) ≡ nearest_of g n p listed limit
    answer_is_lem {q} {h} a =
        let r = path_listed a.listed_is a.path in
        answer_at g n p listed limit q h a.within r.0 r.1
        (λ k r l _. not_listed (λ m path. omega (arith, a.fewest r k m path)))
        (λ r l. not_listed (λ m path. omega (arith, a.lowest r m path)))

    none_is : (Reached g n p listed limit → ⊥) → None ≡ nearest_of g n p listed limit
    none_is none = answer_none g n p listed limit (λ k r l _. not_listed (λ m path. none (r, k, m, l, path)))

    -- there is an answer, or there is none
    pub answered : ((q : ℕ) × (h : ℕ) × Answers g n p listed limit q h) ⊎ (Reached g n p listed limit → ⊥)
    answered =
        let h : ℕ = least_from (any_at g n p listed) 0 (limit + 1) in
        let first = least_first (any_at g n p listed) 0 (limit + 1) in
        elim (dec_lt limit h) [
          | yes l ↦ inr (λ r. let (q, k, m, a, path) = r in true≢false (sym (path_any m path) ∙ first.none k zero-le (omega arith)))
          | no l ↦
              let q : ℕ = least_from (listed_at g n p listed h) 0 n in
              let some = some_of (listed_at g n p listed h) n (unfold any_at in first.some (omega arith)) in
              let few = least_from_le (listed_at g n p listed h) 0 n some.at zero-le some.passes in
              let r = listed_path h q ((least_first (listed_at g n p listed h) 0 n).some (omega (arith, some.inside))) in
              inl (
                q,
                h,
                record {
                  listed_is = r.0;
                  within = omega arith;
                  path = r.1;
                  fewest = λ s k m path. least_from_le (any_at g n p listed) 0 (limit + 1) k zero-le (path_any m path);
                  lowest = λ s m path. least_from_le (listed_at g n p listed h) 0 n s zero-le (path_listed m path).1;
                },
              )
        ]

    is_answer : {q h : ℕ} → nearest_of g n p listed limit ≡ Some (near q h) → Answers g n p listed limit q h
    is_answer {q} {h} e = elim answered [
      | inl s ↦
          let (r, k, a) = s in
          let same : near r k ≡ near q h = cc (answer_is_lem a) in
          let node : r ≡ q = ap (λ (x : Near). x.node) same in
          let links : k ≡ h = ap (λ (x : Near). x.hops) same in
          rw (node, links) at a
      | inr none ↦ let z : ◌≡◌ {A = ℕ} 0 1 = cc (none_is none) in absurd (omega arith)
    ]

    is_none : nearest_of g n p listed limit ≡ None → Reached g n p listed limit → ⊥
    is_none e = elim answered [
      | inl s ↦ let (r, k, a) = s in let z : ◌≡◌ {A = ℕ} 0 1 = cc (answer_is_lem a) in absurd (omega arith)
      | inr none ↦ none
    ]

one : (g : Graph) (n p : ℕ) (listed : List ℕ) (limit q h r k : ℕ) → Answers g n p listed limit q h → Answers g n p listed limit r k → (q ≡ r) × (h ≡ k)
one g n p listed limit q h r k a b =
    let e : h ≡ k = le_antisymm (a.fewest r k b.listed_is b.path) (b.fewest q h a.listed_is a.path) in
    (le_antisymm (a.lowest r b.listed_is (rw e b.path)) (b.lowest q a.listed_is (rw e at a.path)), e)

-- what is found is what the search answers
found_at : (x : Option Near) {y : Near} → found (Ok x) ≡ At y → x ≡ Some y
found_at (Some z) e = cc
found_at None e = cc

found_nowhere : (x : Option Near) → found (Ok x) ≡ Nowhere → x ≡ None
found_nowhere (Some z) e = cc
found_nowhere None e = refl

pub nearest_listed : NearestListed
nearest_listed = record {
  one = one;
  some = λ g n p listed limit l. (
    λ s. let (q, h, a) = s in (q, h, a.listed_is, a.within, a.path),
    λ r. elim (answered g n p l listed limit) [ inl s ↦ s | inr none ↦ absurd (none r) ],
  );
  found = λ edges n p listed limit q h z.
      let l = (accepted_knows edges n p listed z).1 in
      let same = accepted_is edges n p listed limit z refl in
      (λ e. is_answer (edge edges) n p l listed limit (found_at _ (same ∙ e)), λ a. sym (as_found (answer_is_lem (edge edges) n p l listed limit a) ∙ same));
  none = λ edges n p listed limit z.
      let l = (accepted_knows edges n p listed z).1 in
      let same = accepted_is edges n p listed limit z refl in
      (λ e. is_none (edge edges) n p l listed limit (found_nowhere _ (same ∙ e)), λ f. sym (as_found (none_is (edge edges) n p l listed limit f) ∙ same));
  refused = λ edges n p listed limit d. sym (refused_is edges n p listed limit refl d);
}

-- a post that is the answer is a node
pub names_one : (edges : List ℕ) (n p : ℕ) (listed : List ℕ) (limit : ℕ) → let x = numbers_of (nearest_call edges n p listed limit) in x.some ≡ true → x.node < max_nodes
unfolding numbers_of
names_one edges n p listed limit = elim (ℕ_discrete (refusal (nearest_conditions edges n p listed)) 0) [
  | yes z ↦
      let (sized, l) = accepted_knows edges n p listed z in
      let same = accepted_is edges n p listed limit z refl in
      elim (answered (edge edges) n p l listed limit) [
        | inl t ↦
            let (q, h, a) = t in
            rw (← (as_found (answer_is_lem (edge edges) n p l listed limit a) ∙ same)) (λ e. omega (arith, (path_listed (edge edges) n p l listed a.listed_is a.path).0, sized.few))
        | inr f ↦ rw (← (as_found (none_is (edge edges) n p l listed limit f) ∙ same)) (λ e. absurd (true≢false (sym e)))
      ]
  | no d ↦ rw (← refused_is edges n p listed limit refl d) (λ e. absurd (true≢false (sym e)))
]
