-- A larger limit, a link more, a listed seat, an empty list, and a limit that reaches every post. Assumes nothing.
use mathlib.Core.Bool.{true}
use mathlib.Core.List.Memᴰ
use mathlib.Core.List.{[], List}
use mathlib.Core.Logic.{inl, inr}
use mathlib.Core.Path.{refl, ◌∙◌, ◌≡◌}
use Prim.Native.Nat.{◌<◌, zero-le, ℕ}
use native.Mathlib.Decide.{ℕ_discrete}
use native.Mathlib.Omega.{arith}
use Rattle.ego.proofs.Within.{Within}
use Rattle.ego.proofs.WithPair.{apart, apart_numbers, back, forth, which}
use Rattle.nearest.proofs.CallLaws.{accepted_knows, refused_is}
use Rattle.nearest.proofs.LevelLaws.{far_few, new_reaches, reached_new}
use Rattle.nearest.proofs.NearestListed.{answered, nearest_listed}
use Rattle.nearest.proofs.PathLaws.{path_reaches, reaches_more, reaches_path, reaches_same, reaches_self}
use Rattle.nearest.specs.declared.search.Near.{Near}
use Rattle.state.specs.Answers.{At, Found, Refused}
use Rattle.nearest.specs.Nearest.{near, nearest_call, nearest_conditions}
use Rattle.nearest.specs.NearestListed.{Answers, NearestChanges}
use Rattle.packed.proofs.EdgeLaws.{edge_comm, edge_with_other, edge_with_same, with_self}
use Rattle.packed.proofs.PairLaws.{pair_lt}
use Rattle.packed.specs.Edges.{edge, with_edge}
use Rattle.packed.specs.Inside.Room.{Room}
use Rattle.state.proofs.RefusalLaws.{sized_room}
use Rattle.state.specs.Refusal.{refusal}

-- a link more, in bytes that have room for it
with_more : (es : List ℕ) (n a b : ℕ) → Room n es → a < n → b < n → Within n (edge es) (edge (with_edge es a b true))
with_more es n a b room ha hb x y _ _ t = elim (ℕ_discrete a b) [
  | yes e ↦ rw (with_self es a b true e) t
  | no d ↦
      let on = edge_with_same es a b true d (omega (arith, pair_lt a b n d ha hb, room.bits)) in
      elim (which a b x y) [
        | forth p q ↦ rw (p, q) on
        | back p q ↦ rw (p, q) (edge_comm (with_edge es a b true) b a ∙ on)
        | apart f h ↦ edge_with_other es a b true x y (apart_numbers a b x y f h) ∙ t
      ]
]

module _ (edges : List ℕ) (n p : ℕ) (listed : List ℕ) (limit : ℕ) where
  -- a call that answers is not refused
  not_refused : {x : Found Near} → nearest_call edges n p listed limit ≡ x → ((r : ℕ) → Refused r ≡ x → ⊥) → refusal (nearest_conditions edges n p listed) ≡ 0
  not_refused e other = elim (ℕ_discrete (refusal (nearest_conditions edges n p listed)) 0) [
    | yes z ↦ z
    | no d ↦ absurd (other _ (refused_is edges n p listed limit refl d ∙ e))
  ]

  answers : {q h : ℕ} → nearest_call edges n p listed limit ≡ At (near q h) → (refusal (nearest_conditions edges n p listed) ≡ 0) × Answers (edge edges) n p listed limit q h
  answers {q} {h} e =
      let z = not_refused e (λ r d. let z : ◌≡◌ {A = ℕ} 0 1 = cc in omega arith) in
      (z, (nearest_listed.found edges n p listed limit q h z).0 e)

pub nearest_changes : NearestChanges
nearest_changes = record {
  larger = λ edges n p listed limit more q h l e.
      let (z, a) = answers edges n p listed limit e in
      (nearest_listed.found edges n p listed more q h z).1 (record {
        listed_is = a.listed_is;
        within = omega (arith, a.within);
        path = a.path;
        fewest = a.fewest;
        lowest = a.lowest;
      });
  added = λ edges n p listed limit a b q h ha hb y e.
      let (z, s) = answers edges n p listed limit e in
      let (sized, l) = accepted_knows edges n p listed z in
      let after = edge (with_edge edges a b true) in
      let path = reaches_path after n h p q (reaches_more (edge edges) after (with_more edges n a b (sized_room sized) ha hb) h p q l
      (path_reaches (edge edges) n h p q s.path)) in
      elim (answered after n p l listed limit) [
        | inl t ↦
            let (r, k, x) = t in
            (r, k, (nearest_listed.found (with_edge edges a b true) n p listed limit r k y).1 x, x.fewest q h s.listed_is path)
        | inr none ↦ absurd (none (q, h, s.listed_is, s.within, path))
      ];
  seat = λ edges n p listed limit z m. (nearest_listed.found edges n p listed limit p 0 z).1 (record {
    listed_is = m;
    within = zero-le;
    path = reaches_path (edge edges) n 0 p p (reaches_self (edge edges) n p);
    fewest = λ r k _ _. zero-le;
    lowest = λ r _ path. let e = reaches_same (edge edges) n p r (path_reaches (edge edges) n 0 p r path) in omega arith;
  });
  empty = λ edges n p limit z. (nearest_listed.none edges n p [] limit z).1 (λ r. Memᴰ.not-nil r.2);
  far = λ edges n p listed h e q m path.
      let z = not_refused edges n p listed 255 e (λ r d. let z : ◌≡◌ {A = ℕ} 0 1 = cc in omega arith) in
      let (sized, l) = accepted_knows edges n p listed z in
      let (k, _, new) = reached_new (edge edges) n p h q (path_reaches (edge edges) n h p q path) in
      (nearest_listed.none edges n p listed 255 z).0 e
      (q, k, m, omega (arith, far_few (edge edges) n p l k q new, sized.few), reaches_path (edge edges) n k p q (new_reaches (edge edges) n p k q new));
}
