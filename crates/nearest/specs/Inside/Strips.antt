-- Sets of nodes as words of 56 bits, a strip of nodes each, and a table of such sets, a row for each node. Assumes nothing.
use Rattle.std.specs.Prelude.{Bool, ◌&&◌, List, ◌≡◌, ℕ, ◌+◌, ◌-◌, ◌*◌, ◌/◌, ◌%◌, ◌^◌, ◌<◌, eqb, get_or, length}
use Rattle.arith.specs.Digits.{bit_of}
use Rattle.packed.specs.Pairs.{max_nodes}
use Rattle.packed.specs.Inside.Runs.{max_run}
use Rattle.ego.specs.Graph.{Graph}
use Rattle.nearest.specs.Inside.Levels.{among}

-- the words of a set, the places that they have, and the words of a row for each node
abbrev pub strips : ℕ
strips = 5

abbrev pub places : ℕ
places = max_run * strips

abbrev pub table_words : ℕ
table_words = strips * max_nodes

-- the bit of node q in the word of its strip
unfoldable pub in_word : ℕ → ℕ → Bool
in_word word q = bit_of word (max_run - 1 - q % max_run)

-- node q is in the set
unfoldable pub in_strips : List ℕ → ℕ → Bool
in_strips set q = in_word (get_or set (q / max_run) 0) q

-- node y is in row x of the table
unfoldable pub in_row : List ℕ → ℕ → ℕ → Bool
in_row rows x y = in_word (get_or rows (strips * x + y / max_run) 0) y

-- each word has the bits of a strip and no others
abbrev pub Narrow : List ℕ → Type 0
Narrow words = (k : ℕ) → get_or words k 0 < 2 ^ max_run

-- the words are a set of the nodes that pass a test
pub record SetOf (set : List ℕ) (test : ℕ → Bool) : Type 0 where
  pub long : length set ≡ strips
  pub narrow : Narrow set
  pub has : (q : ℕ) → q < places → in_strips set q ≡ test q

-- the words have a row for each node
pub record Table (rows : List ℕ) : Type 0 where
  pub long : length rows ≡ table_words
  pub narrow : Narrow rows

-- row x has the nodes that pass a test with x
pub record TableOf (rows : List ℕ) (test : Graph) : Type 0 where
  pub table : Table rows
  pub has : (x y : ℕ) → y < places → in_row rows x y ≡ test x y

-- the rows of the first n nodes
abbrev pub Rows : Graph → ℕ → List ℕ → Type 0
Rows g n rows = TableOf rows (among g n)

-- node x is in strip k, and in its word
unfoldable pub in_strip : ℕ → ℕ → ℕ → Bool
in_strip word k x = eqb (x / max_run) k && in_word word x
