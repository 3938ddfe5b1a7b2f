-- What an edge brings a node and what it costs it, and the changes that a preview writes of it. Assumes nothing.
use Rattle.std.specs.Prelude.{Bool, cond, true, List, ◌≢◌, ◌≡◌, ℕ, zero, suc, ◌^◌, ◌<◌, eqb, ℤ, pos, ◌-ℤ◌, get_or, set}
use Rattle.packed.specs.Edges.{edge, with_edge}
use Rattle.ego.specs.Graph.{Graph}
use Rattle.preview.specs.Rules.{common_falls, new_shares, shared_falls}
use Rattle.preview.specs.Inside.Ends.{Affected, BothEnds}
use Rattle.preview.specs.declared.effect.Effect.{Effect}
use Rattle.preview.specs.declared.ends.Ends.{Ends}

-- the effect of an edge u, v, which g has, on its end u
unfoldable pub end_effect : Graph → ℕ → ℕ → ℕ → Effect
end_effect g n u v = record { brings = new_shares g n u v; costs = shared_falls g n u v }

-- on a common neighbour w
unfoldable pub common_effect : Graph → ℕ → ℕ → ℕ → ℕ → Effect
common_effect g n w u v = record { brings = 0; costs = common_falls g n w u v }

-- on any of these
unfoldable pub effect_of : Graph → ℕ → ℕ → ℕ → ℕ → Effect
effect_of g n a b p = cond (eqb p a) (end_effect g n a b) (cond (eqb p b) (end_effect g n b a) (common_effect g n p a b))

-- w is linked to both
pub record Shared (g : Graph) (a b w : ℕ) : Type 0 where
  pub first : g w a ≡ true
  pub second : g w b ≡ true

-- both ends are at hand, w is linked to both and keeps to the limit
pub record CommonOf (edges : List ℕ) (n a b : ℕ) (ends : Ends) (w : ℕ) : Type 0 where
  pub both : BothEnds edges n a b ends
  pub affected : Affected edges n a b w
  pub shared : Shared (edge edges) a b w

-- both ends are at hand, and p is one of them or such a node
pub record Reached (edges : List ℕ) (n a b : ℕ) (ends : Ends) (p : ℕ) : Type 0 where
  pub both : BothEnds edges n a b ends
  pub affected : Affected edges n a b p
  pub shared : p ≢ a → p ≢ b → Shared (edge edges) a b p

-- the graph is known from the ends: the effect is that of its edge, whatever graph they are of
abbrev pub OnCommon : Ends → ℕ → Effect → Type 0
OnCommon ends w r = (edges : List ℕ) (n a b : ℕ) → CommonOf edges n a b ends w → r ≡ common_effect (edge (with_edge edges a b true)) n w a b

abbrev pub OnNode : Ends → ℕ → ℕ → ℕ → Effect → Type 0
OnNode ends a b p r = (edges : List ℕ) (n : ℕ) → Reached edges n a b ends p → r ≡ effect_of (edge (with_edge edges a b true)) n a b p

-- both numbers fit a signed number
abbrev pub Fits : Effect → Type 0
Fits e = (e.brings < 2 ^ 63) × (e.costs < 2 ^ 63)

-- the change of a score by an edge that is added where `on`, and removed elsewhere
unfoldable pub change_by : Bool → Effect → ℤ
change_by on e = cond on (pos e.brings -ℤ pos e.costs) (pos e.costs -ℤ pos e.brings)

-- the changes, where those of the first `count` nodes are written
unfoldable pub change_each : Graph → ℕ → ℕ → ℕ → Bool → List ℕ → List ℤ → ℕ → List ℤ
change_each g n a b on nodes changes zero = changes
change_each g n a b on nodes changes (suc i) =
    let p = get_or nodes i 0 in
    set (change_each g n a b on nodes changes i) p (change_by on (effect_of g n a b p))
