-- Entries in order, as they lie in a buffer of numbers, and an entry put in among them. Assumes nothing.
use Rattle.std.specs.Prelude.{cond, false, ◌++◌, [], List, ◌∷◌, ◌≡◌, ◌*◌, ◌+◌, suc, zero, ℕ, drop, get_or, length, take}
use Rattle.topk.specs.Entries.{Entry, entry, over, ranks_before}

-- entry i of a buffer of numbers
abbrev pub entry_in : List ℕ → ℕ → Entry
entry_in numbers i = entry (get_or numbers (2 * i) 0) (get_or numbers (2 * i + 1) 0)

abbrev pub All : (Entry → Type 0) → List Entry → Type 0
All P [] = Unit {0}
All P (x ∷ xs) = P x × All P xs

-- R holds of each entry and every one that follows it
abbrev pub Pairwise : (Entry → Entry → Type 0) → List Entry → Type 0
Pairwise R [] = Unit {0}
Pairwise R (x ∷ xs) = All (R x) xs × Pairwise R xs

-- no entry ranks before one that stands before it
abbrev pub Ordered : List Entry → Type 0
Ordered xs = Pairwise (λ x y. ranks_before y x ≡ false) xs

-- how many entries stand at the front that e does not rank before
unfoldable pub place : Entry → List Entry → ℕ
place e [] = zero
place e (x ∷ xs) = cond (ranks_before e x) zero (suc (place e xs))

-- the buffer with a node and its figure put in at index i
unfoldable pub spliced : List ℕ → ℕ → ℕ → ℕ → List ℕ
spliced buffer i node figure = take i buffer ++ (node ∷ figure ∷ drop i buffer)

-- the first n numbers of a buffer, and another's from there on
abbrev pub mixed : List ℕ → List ℕ → ℕ → List ℕ
mixed front rest n = take n front ++ drop n rest

-- the buffer with an entry put in at a place, as far as r entries go
abbrev pub entry_put_in : List ℕ → ℕ → Entry → ℕ → List ℕ
entry_put_in buffer spot e r = mixed (spliced buffer (2 * spot) e.node e.figure) buffer (2 * r)

-- a buffer has become another, whose first r entries are xs
pub record Kept (xs : List Entry) (before after : List ℕ) (r : ℕ) : Type 0 where
  pub count : r ≡ length xs
  pub entries : after ≡ over xs before
