-- The answer depends on the links among the nodes alone: spare bits are ignored. Assumes nothing.
use mathlib.Core.Bool.{◌&&◌, Bool, cond}
use mathlib.Core.List.{List}
use mathlib.Core.Path.{ap, fun_ext, refl, sym, ◌∙◌, ◌≡◌}
use Prim.Native.Nat.{◌+◌, ◌<◌, ℕ}
use native.Mathlib.Decide.{ℕ_discrete}
use lib.Dec.{ltb}
use Rattle.arith.specs.Lists.{elem, least_from}
use Rattle.arith.specs.Sums.{any_to}
use Rattle.ego.proofs.Agreement.{Agree}
use Rattle.ego.specs.Graph.{Graph}
use Rattle.nearest.proofs.CallLaws.{accepted_is, accepted_knows, as_found, refused_is}
use Rattle.nearest.proofs.PathLaws.{reaches_agree}
use Rattle.std.proofs.Common.{None, Some}
use Rattle.nearest.specs.Nearest.{fewest_links, lowest_at, near, nearest_call, nearest_conditions, nearest_of}
use Rattle.nearest.specs.Paths.{any_at, listed_at}
use Rattle.packed.specs.Edges.{edge}
use Rattle.packed.specs.Pairs.{pair_count}
use Rattle.state.proofs.CrowdedLaws.{before_agree}
use Rattle.state.proofs.Spare.{same_agree}
use Rattle.state.specs.Refusal.{everyone, refusal}
use Rattle.state.specs.Spare.{SameBits}

module _ (g g' : Graph) (n p : ℕ) (same : Agree n g g') (hp : p < n) (listed : List ℕ) where
  listed_agree : (h q : ℕ) → listed_at g n p listed h q ≡ listed_at g' n p listed h q
  unfolding listed_at
  listed_agree h q = ap (λ b. elem q listed && b) (reaches_agree g g' same h p q hp)

  pub nearest_agree : (limit : ℕ) → nearest_of g n p listed limit ≡ nearest_of g' n p listed limit
  unfolding nearest_of fewest_links lowest_at any_at
  nearest_agree limit =
      ap (λ (f : ℕ → ℕ → Bool). let h = least_from (λ k. any_to (f k) n) 0 (limit + 1) in cond (ltb limit h) None (Some (near (least_from (f h) 0 n) h)))
      (fun_ext (λ h. fun_ext (listed_agree h)))

pub nearest_spare : (x y : List ℕ) (n p : ℕ) (listed : List ℕ) (limit : ℕ) → SameBits (pair_count n) x y
    → nearest_call x n p listed limit ≡ nearest_call y n p listed limit
nearest_spare x y n p listed limit same =
    let links : Agree n (edge x) (edge y) = same_agree same in
    let tests : nearest_conditions x n p listed ≡ nearest_conditions y n p listed =
    rw (same.long, before_agree n (edge x) (edge y) everyone everyone links (λ q l. refl)) in
    elim (ℕ_discrete (refusal (nearest_conditions x n p listed)) 0) [
      | yes z ↦
          let l = (accepted_knows x n p listed z).1 in
          sym (accepted_is x n p listed limit z refl) ∙ as_found (nearest_agree (edge x) (edge y) n p links l listed limit)
          ∙ accepted_is y n p listed limit (sym (ap refusal tests) ∙ z) refl
      | no d ↦ sym (refused_is x n p listed limit refl d) ∙ refused_is y n p listed limit (ap refusal tests) d
    ]
