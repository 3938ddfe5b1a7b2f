-- An entry put into a list in rank order, and the first k of that. Assumes nothing.
use mathlib.Core.Bool.{Bool, cond, false, true}
use mathlib.Core.List.{[], List, ◌∷◌}
use mathlib.Core.Logic.{inl, inr, ◌⊎◌, ⊎_elim}
use mathlib.Core.Path.{ap, refl, subst, ◌∙◌, ◌≡◌}
use Prim.Native.Nat.{◌+◌, ◌<◌, min, suc, zero, ℕ, ◌≤◌}
use native.Mathlib.Nat.{le_of_suc-le-suc, not-suc-le-zero}
use native.Mathlib.Omega.{arith}
use lib.ListN.{get_or, length, length-take, take}
use Rattle.arith.proofs.Tests.{test}
use Rattle.topk.proofs.Order.{Ahead, ahead_ahead, ahead_asym, Behind, behind_ahead, behind_self}
use Rattle.topk.specs.Entries.{Entry, ranks_before, insert, keep, last_or}
use Rattle.topk.specs.Inside.Layout.{All, Pairwise}

abbrev pub In : Entry → List Entry → Type 0
In e [] = ⊥
In e (x ∷ xs) = (x ≡ e) ⊎ In e xs

-- each entry ranks before all that follow it
abbrev pub Sorted : List Entry → Type 0
Sorted xs = Pairwise Ahead xs

pub All-map : {P Q : Entry → Type 0} → ((x : Entry) → P x → Q x) → (xs : List Entry) → All P xs → All Q xs
All-map f [] a = tt
All-map f (x ∷ xs) a = (f x a.0, All-map f xs a.1)

pub All_in : (P : Entry → Type 0) (xs : List Entry) (e : Entry) → All P xs → In e xs → P e
All_in P [] e a i = absurd i
All_in P (x ∷ xs) e a i = ⊎_elim (λ q. subst P q a.0) (λ j. All_in P xs e a.1 j) i

pub All_of : (P : Entry → Type 0) (xs : List Entry) → ((x : Entry) → In x xs → P x) → All P xs
All_of P [] f = tt
All_of P (x ∷ xs) f = (f x (inl refl), All_of P xs (λ y i. f y (inr i)))

pub All_at : (P : Entry → Type 0) (xs : List Entry) (i : ℕ) (d : Entry) → i < length xs → All P xs → P (get_or xs i d)
All_at P [] i d h a = absurd (not-suc-le-zero h)
All_at P (x ∷ xs) zero d h a = a.0
All_at P (x ∷ xs) (suc i) d h a = All_at P xs i d (le_of_suc-le-suc h) a.1

pub All-take : (P : Entry → Type 0) (k : ℕ) (xs : List Entry) → All P xs → All P (take k xs)
All-take P zero xs a = tt
All-take P (suc k) [] a = tt
All-take P (suc k) (x ∷ xs) a = (a.0, All-take P k xs a.1)

pub Pairwise-take : (R : Entry → Entry → Type 0) (k : ℕ) (xs : List Entry) → Pairwise R xs → Pairwise R (take k xs)
Pairwise-take R zero xs s = tt
Pairwise-take R (suc k) [] s = tt
Pairwise-take R (suc k) (x ∷ xs) s = (All-take (R x) k xs s.0, Pairwise-take R k xs s.1)

-- a split on the test, with what it says
split : (C : List Entry → Type 0) (e x : Entry) (l r : List Entry) → (Ahead e x → C l) → (Behind e x → C r) → C (cond (ranks_before e x) l r)
split C e x l r f g = go (ranks_before e x) refl
  where
    go : (t : Bool) → ranks_before e x ≡ t → C (cond t l r)
    go true q = f q
    go false q = g q

pub insert_all : (P : Entry → Type 0) (e : Entry) (xs : List Entry) → P e → All P xs → All P (insert e xs)
unfolding insert
insert_all P e [] p a = (p, tt)
insert_all P e (x ∷ xs) p a = split (All P) e x (e ∷ x ∷ xs) (x ∷ insert e xs) (λ b. (p, a)) (λ n. (a.0, insert_all P e xs p a.1))

-- R is kept as e is put in: e has it to each entry that it ranks before and to all that such an entry has it to, and the others have it to e
pub insert_pairwise : (R : Entry → Entry → Type 0) (e : Entry) → ((x : Entry) → Ahead e x → R e x) → ((x y : Entry) → Ahead e x → R x y → R e y)
    → (xs : List Entry) → All (λ x. Behind e x → R x e) xs → Pairwise R xs → Pairwise R (insert e xs)
unfolding insert
insert_pairwise R e f g [] a s = (tt, tt)
insert_pairwise R e f g (x ∷ xs) a s =
    split (Pairwise R) e x (e ∷ x ∷ xs) (x ∷ insert e xs) (λ b. ((f x b, All-map (λ y. g x y b) xs s.0), s))
    (λ n. (insert_all (R x) e xs (a.0 n) s.0, insert_pairwise R e f g xs a.1 s.1))

pub insert_sorted : (e : Entry) (xs : List Entry) → All (λ x. Behind e x → Ahead x e) xs → Sorted xs → Sorted (insert e xs)
insert_sorted e xs a s = insert_pairwise Ahead e (λ x b. b) (λ x y. ahead_ahead e x y) xs a s

pub in_insert : (e : Entry) (xs : List Entry) → In e (insert e xs)
unfolding insert
in_insert e [] = inl refl
in_insert e (x ∷ xs) = split (In e) e x (e ∷ x ∷ xs) (x ∷ insert e xs) (λ b. inl refl) (λ n. inr (in_insert e xs))

pub in_old : (y e : Entry) (xs : List Entry) → In y xs → In y (insert e xs)
unfolding insert
in_old y e [] i = absurd i
in_old y e (x ∷ xs) i = split (In y) e x (e ∷ x ∷ xs) (x ∷ insert e xs) (λ b. inr i) (λ n. ⊎_elim (λ q. inl q) (λ j. inr (in_old y e xs j)) i)

-- y is outside xs, which is full, and all of xs rank before it
abbrev pub Out : ℕ → Entry → List Entry → Type 0
Out k y xs = (length xs ≡ k) × All (λ x. Ahead x y) xs

-- of a sorted list's first k
pub in_or_out : (k : ℕ) (xs : List Entry) (y : Entry) → Sorted xs → In y xs → In y (take k xs) ⊎ Out k y (take k xs)
in_or_out zero xs y s i = inr (refl, tt)
in_or_out (suc k) [] y s i = absurd i
in_or_out (suc k) (x ∷ xs) y s i =
    ⊎_elim (λ q. inl (inl q))
    (λ j. ⊎_elim (λ m. inl (inr m)) (λ o. inr (ap suc o.0, (All_in (Ahead x) xs y s.0 j, o.1))) (in_or_out k xs y s.1 j)) i

-- what holds of all of a full list, and of e where it holds of one that e ranks before, holds after e is put in
pub push : (P : Entry → Type 0) (k : ℕ) (e : Entry) (xs : List Entry) → length xs ≡ k → ((x : Entry) → Ahead e x → P x → P e)
    → All P xs → All P (take k (insert e xs))
unfolding insert
push P zero e xs l f a = tt
push P (suc k) e [] l f a = absurd (omega arith)
push P (suc k) e (x ∷ xs) l f a =
    split (λ (r : List Entry). All P (take (suc k) r)) e x (e ∷ x ∷ xs) (x ∷ insert e xs) (λ b. (f x b a.0, All-take P k (x ∷ xs) a))
    (λ n. (a.0, push P k e xs (omega arith) f a.1))

-- e is in, or nothing has changed
pub insert-or : (k : ℕ) (e : Entry) (xs : List Entry) → length xs ≤ k → In e (take k (insert e xs)) ⊎ (take k (insert e xs) ≡ xs) × (length xs ≡ k)
unfolding insert
insert-or zero e [] l = inr (refl, refl)
insert-or zero e (x ∷ xs) l = absurd (omega arith)
insert-or (suc k) e [] l = inl (inl refl)
insert-or (suc k) e (x ∷ xs) l =
    split (λ (r : List Entry). In e (take (suc k) r) ⊎ (take (suc k) r ≡ x ∷ xs) × (suc (length xs) ≡ suc k)) e x (e ∷ x ∷ xs) (x ∷ insert e xs)
    (λ b. inl (inl refl))
    (λ n. ⊎_elim (λ i. inl (inr i)) (λ q. inr (ap {B = List Entry} (λ r. x ∷ r) q.0, ap suc q.1)) (insert-or k e xs (le_of_suc-le-suc l)))

last_all : (P : Entry → Type 0) (x : Entry) (xs : List Entry) → P x → All P xs → P (last_or x xs)
last_all P x [] p a = p
last_all P x (y ∷ ys) p a = last_all P y ys a.0 a.1

-- the last of a sorted list ranks before none of it
pub in_last : (d : Entry) (xs : List Entry) (e : Entry) → Sorted xs → In e xs → Behind (last_or d xs) e
in_last d [] e s i = absurd i
in_last d (x ∷ xs) e s i =
    ⊎_elim (λ q. subst (λ (z : Entry). Behind (last_or x xs) z) q (last_all (λ y. Behind y x) x xs (behind_self x) (All-map (λ y. ahead_asym x y) xs s.0)))
    (λ j. in_last x xs e s.1 j) i

pub before_last : (d : Entry) (xs : List Entry) (y : Entry) → Sorted xs → Ahead (last_or d xs) y → All (λ x. Ahead x y) xs
before_last d xs y s b = All_of (λ x. Ahead x y) xs (λ x i. behind_ahead x (last_or d xs) y (in_last d xs x s i) b)

pub length_insert : (e : Entry) (xs : List Entry) → length (insert e xs) ≡ suc (length xs)
unfolding insert
length_insert e [] = refl
length_insert e (x ∷ xs) = elim (test (ranks_before e x)) [ inl t ↦ rw t | inr t ↦ rw t (ap suc (length_insert e xs)) ]

pub length_keep : (k : ℕ) (e : Entry) (xs : List Entry) → length (keep k e xs) ≡ min (length xs + 1) k
unfolding keep
length_keep k e xs = length-take k (insert e xs) ∙ rw (length_insert e xs) (omega arith)
