-- The rank of entries is a strict order, and total on entries of different nodes. Assumes nothing.
use mathlib.Core.Bool.{false, true}
use mathlib.Core.Logic.{inl, inr, ◌⊎◌}
use mathlib.Core.Path.{◌≡◌}
use Prim.Native.Nat.{◌<◌, ◌≤◌}
use native.Mathlib.Omega.{arith}
use Rattle.arith.proofs.Rank.{after_by, after_is, before_asym, before_by, before_is, before_total, before_trans}
use Rattle.topk.specs.Entries.{Entry, ranks_before}

-- x ranks before y; x does not
abbrev pub Ahead : Entry → Entry → Type 0
Ahead x y = ranks_before x y ≡ true

abbrev pub Behind : Entry → Entry → Type 0
Behind x y = ranks_before x y ≡ false

-- what the test says, both ways

pub ahead_by : (x y : Entry) → y.figure ≤ x.figure → (x.figure ≡ y.figure → x.node < y.node) → Ahead x y
unfolding ranks_before
ahead_by x y h g = before_by x.figure x.node y.figure y.node h g

pub behind_by : (x y : Entry) → x.figure ≤ y.figure → (x.figure ≡ y.figure → y.node ≤ x.node) → Behind x y
unfolding ranks_before
behind_by x y h g = after_by x.figure x.node y.figure y.node h g

ahead_is : (x y : Entry) → Ahead x y → (y.figure < x.figure) ⊎ ((x.figure ≡ y.figure) × (x.node < y.node))
unfolding ranks_before
ahead_is x y t = before_is x.figure x.node y.figure y.node t

pub behind_is : (x y : Entry) → Behind x y → (x.figure < y.figure) ⊎ ((x.figure ≡ y.figure) × (y.node ≤ x.node))
unfolding ranks_before
behind_is x y t = after_is x.figure x.node y.figure y.node t

-- the order

pub behind_self : (x : Entry) → Behind x x
behind_self x = behind_by x x (omega arith) (omega arith)

pub ahead_asym : (x y : Entry) → Ahead x y → Behind y x
unfolding ranks_before
ahead_asym x y t = before_asym x.figure x.node y.figure y.node t

pub behind_flip : (x y : Entry) → (x.node ≡ y.node → ⊥) → Behind x y → Ahead y x
unfolding ranks_before
behind_flip x y d t = before_total x.figure x.node y.figure y.node t d

module _ (x y z : Entry) where
  pub ahead_ahead : Ahead x y → Ahead y z → Ahead x z
  unfolding ranks_before
  ahead_ahead s t = before_trans x.figure x.node y.figure y.node z.figure z.node s t

  pub ahead_behind : Ahead x y → Behind z y → Ahead x z
  ahead_behind s t = elim (ahead_is x y s) [
    | inl a ↦ elim (behind_is z y t) [ inl b ↦ ahead_by x z (omega arith) (omega arith) | inr b ↦ ahead_by x z (omega arith) (omega arith) ]
    | inr a ↦ elim (behind_is z y t) [ inl b ↦ ahead_by x z (omega arith) (omega arith) | inr b ↦ ahead_by x z (omega arith) (omega arith) ]
  ]

  pub behind_ahead : Behind y x → Ahead y z → Ahead x z
  behind_ahead s t = elim (behind_is y x s) [
    | inl a ↦ elim (ahead_is y z t) [ inl b ↦ ahead_by x z (omega arith) (omega arith) | inr b ↦ ahead_by x z (omega arith) (omega arith) ]
    | inr a ↦ elim (ahead_is y z t) [ inl b ↦ ahead_by x z (omega arith) (omega arith) | inr b ↦ ahead_by x z (omega arith) (omega arith) ]
  ]

  pub behind_behind : Behind y x → Behind z y → Behind z x
  behind_behind s t = elim (behind_is y x s) [
    | inl a ↦ elim (behind_is z y t) [ inl b ↦ behind_by z x (omega arith) (omega arith) | inr b ↦ behind_by z x (omega arith) (omega arith) ]
    | inr a ↦ elim (behind_is z y t) [ inl b ↦ behind_by z x (omega arith) (omega arith) | inr b ↦ behind_by z x (omega arith) (omega arith) ]
  ]
