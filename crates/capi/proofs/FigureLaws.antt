-- Figures as bytes: what is written is read, what is read is written, and what the loops that write come to. Assumes nothing.
use mathlib.Core.List.{List}
use mathlib.Core.Logic.{◌≢◌, ⊎_elim}
use mathlib.Core.Path.{ap, ap₂, refl, sym, ◌∙◌, ◌≡◌}
use Prim.Native.Nat.{◌%◌, ◌*◌, ◌+◌, ◌-◌, ◌/◌, ◌<◌, ◌^◌, suc, zero, ℕ, ◌≤◌}
use native.Mathlib.Decide.{ℕ_discrete}
use native.Mathlib.Nat.{add_comm, add-mul-div_right, add-mul-mod_self_right, div-eq_of_lt, eq-or-lt_of_le, mod-eq_of_lt, mod-one, mul_comm, mul-le-mul_right, mul-suc, one-le-pow, pow-suc, zero-add}
use native.Mathlib.Omega.{arith}
use lib.Arith.{mod-mul}
use lib.Dec.{ltb}
use lib.ListN.{get_or, get_or-replicate, length, length-replicate, length-set, replicate, set}
use lib.Pow.{field, mod-mod-pow, pow-add}
use lib.Seq.{ext_get_or, get_or-set_other, get_or-set_same}
use Rattle.std.proofs.lemmas.List.{drop-drop, get_or-append_right, get_or-drop, get_or-take, get_or_append_left, length-append, length-drop, length-take-le}
use Rattle.std.specs.Int.{byte_worth, bytes_low_first, from_le_bytes, sum_through, to_le_bytes, w64}
use Rattle.std.specs.Simd.{first_chunks}
use lib.ListN.{drop, take}
use mathlib.Core.List.{◌++◌}
use native.Mathlib.Decide.{dec_lt}
use Rattle.arith.proofs.Sums.{get_d_tabulate, length_tabulate, sum_to_ext, tabulate_is}
use Rattle.arith.specs.Sums.{sum_to}
use Rattle.packed.specs.Inside.Bytes.{Bytes}
use Rattle.edits.proofs.RenewalLaws.{length_renew_each, renew_each_more, renew_each_none, renew_each_small}
use Rattle.edits.specs.Inside.Renewal.{figure_by, renew_each}
use Rattle.capi.specs.Figures.{byte_at, byte_of, decoded, encoded, figure_at}
use Rattle.capi.specs.Inside.Writing.{figure_count}

-- ---- the bytes of a number

pow_byte : (i : ℕ) → 2 ^ (8 * i) ≡ 256 ^ i
pow_byte zero = refl
pow_byte (suc i) = ap (λ k. 2 ^ k) (mul-suc 8 i) ∙ pow-add 2 (8 * i) 8 ∙ ap (λ m. m * 256) (pow_byte i) ∙ sym (pow-suc 256 i)

byte_is : (x i : ℕ) → x / 2 ^ (8 * i) % 256 ≡ byte_of x i
unfolding byte_of
byte_is x i = ap (λ m. x / m % 256) (pow_byte i)

-- a number of n bytes is what they come to
bytes_sum : (x n : ℕ) → sum_to (λ i. byte_of x i * 256 ^ i) n ≡ x % 256 ^ n
unfolding sum_to byte_of
bytes_sum x zero = sym (mod-one x)
bytes_sum x (suc n) =
    ap (λ s. s + x / 256 ^ n % 256 * 256 ^ n) (bytes_sum x n) ∙ add_comm (x % 256 ^ n) (x / 256 ^ n % 256 * 256 ^ n)
    ∙ sym (ap (λ m. x % m) (pow-suc 256 n ∙ mul_comm (256 ^ n) 256) ∙ mod-mul x {m = 256} (omega arith) (one-le-pow n 256 (omega arith)))

-- and what n bytes come to has them for its bytes
byte_mod : (n x j : ℕ) → j < n → byte_of (x % 256 ^ n) j ≡ byte_of x j
byte_mod n x j h =
    let k : ℕ = 8 * (n - j - 1) in
    let all : 8 * n ≡ (k + 8) + 8 * j = omega arith in
    sym (byte_is (x % 256 ^ n) j)
    ∙ ap (λ m. x % m / 2 ^ (8 * j) % 256) (sym (pow_byte n) ∙ ap (λ m. 2 ^ m) all)
    ∙ ap (λ y. y % 256) (field x (k + 8) (8 * j)) ∙ mod-mod-pow (x / 2 ^ (8 * j)) k 8 ∙ byte_is x j

module _ (f : ℕ → ℕ) (small : (i : ℕ) → f i < 256) where
  sum_fits : (n : ℕ) → sum_to (λ i. f i * 256 ^ i) n < 256 ^ n
  unfolding sum_to
  sum_fits zero = omega arith
  sum_fits (suc n) = rw pow-suc (omega (arith, sum_fits n, mul-le-mul_right (256 ^ n) (small n)))

  sum_byte : (n j : ℕ) → j < n → byte_of (sum_to (λ i. f i * 256 ^ i) n) j ≡ f j
  unfolding sum_to byte_of
  sum_byte zero j h = absurd (omega arith)
  sum_byte (suc n) j h =
      let lower : ℕ = sum_to (λ i. f i * 256 ^ i) n in
      ⊎_elim
      (λ (e : j ≡ n). rw e (ap (λ y. y % 256) (add-mul-div_right lower (f n) (one-le-pow n 256 (omega arith))
      ∙ ap (λ y. y + f n) (div-eq_of_lt (sum_fits n)) ∙ zero-add (f n)) ∙ mod-eq_of_lt (small n)))
      (λ (b : j < n). sym (byte_mod n (lower + f n * 256 ^ n) j b)
      ∙ ap (λ y. byte_of y j) (add-mul-mod_self_right lower (f n) (256 ^ n) ∙ mod-eq_of_lt (sum_fits n)) ∙ sum_byte n j b)
      (eq-or-lt_of_le (omega arith))

-- ---- figures

pub length_decoded : (n : ℕ) (bytes : List ℕ) → length (decoded n bytes) ≡ n
unfolding decoded
length_decoded n bytes = length_tabulate (figure_at bytes) n

length_encoded : (figures : List ℕ) → length (encoded figures) ≡ 8 * length figures
unfolding encoded
length_encoded figures = length_tabulate (byte_at figures) (8 * length figures)

encoded_at : (figures : List ℕ) (k : ℕ) → k < 8 * length figures → get_or (encoded figures) k 0 ≡ byte_of (get_or figures (k / 8) 0) (k % 8)
unfolding encoded byte_at
encoded_at figures k h = get_d_tabulate (byte_at figures) (8 * length figures) k 0 h

-- the figure of a node in the bytes of figures, where it is a number of 64 bits
pub figure_back : (figures : List ℕ) (p : ℕ) → p < length figures → get_or figures p 0 < 2 ^ 64 → figure_at (encoded figures) p ≡ get_or figures p 0
unfolding figure_at
figure_back figures p h small =
    sum_to_ext _ _ 8 (λ i l.
    let d : (8 * p + i) / 8 ≡ p = omega arith in
    let m : (8 * p + i) % 8 ≡ i = omega arith in
    ap (λ b. b * 256 ^ i) (encoded_at figures (8 * p + i) (omega arith) ∙ ap₂ (λ q j. byte_of (get_or figures q 0) j) d m))
    ∙ bytes_sum (get_or figures p 0) 8 ∙ mod-eq_of_lt small

-- the bytes of figures are read as the figures, where each is a number of 64 bits
pub figures_back : (figures : List ℕ) → ((p : ℕ) → p < length figures → get_or figures p 0 < 2 ^ 64) → decoded (length figures) (encoded figures) ≡ figures
unfolding decoded
figures_back figures small = sym (tabulate_is (figure_at (encoded figures)) 0 figures (λ p h. sym (figure_back figures p h (small p h))))

-- and the figures of bytes are written as the bytes
pub bytes_back : (n : ℕ) (bytes : List ℕ) → Bytes bytes → length bytes ≡ 8 * n → encoded (decoded n bytes) ≡ bytes
unfolding decoded figure_at
bytes_back n bytes small h =
    let long = length_decoded n bytes in
    ext_get_or 0 (encoded (decoded n bytes)) bytes (length_encoded (decoded n bytes) ∙ ap (λ m. 8 * m) long ∙ sym h) (λ k b.
    let within : k < 8 * n = omega (arith, length_encoded (decoded n bytes), long) in
    let place : 8 * (k / 8) + k % 8 ≡ k = omega arith in
    encoded_at (decoded n bytes) k (omega (arith, long))
    ∙ ap (λ x. byte_of x (k % 8)) (get_d_tabulate (figure_at bytes) n (k / 8) 0 (omega arith))
    ∙ sum_byte (λ i. get_or bytes (8 * (k / 8) + i) 0) (λ i. small (8 * (k / 8) + i)) 8 (k % 8) (omega arith)
    ∙ ap (λ m. get_or bytes m 0) place)

-- a figure of bytes is a number of 64 bits
decoded_fits : (n : ℕ) (bytes : List ℕ) → Bytes bytes → (p : ℕ) → p < n → get_or (decoded n bytes) p 0 < 2 ^ 64
unfolding decoded figure_at
decoded_fits n bytes small p h = rw (get_d_tabulate (figure_at bytes) n p 0 h) (sum_fits (λ i. get_or bytes (8 * p + i) 0) (λ i. small (8 * p + i)) 8)

-- ---- one that is read

-- a figure is 8 bytes of them, one after another
chunk_at : (n k p : ℕ) (l d : List ℕ) → p < k → get_or (first_chunks n k l) p d ≡ take n (drop (n * p) l)
chunk_at n zero p l d h = absurd (omega arith)
chunk_at n (suc k) zero l d h = let z : 0 ≡ n * 0 = omega arith in ap (λ m. take n (drop m l)) z
chunk_at n (suc k) (suc p) l d h =
    let next : n + n * p ≡ n * suc p = omega arith in
    chunk_at n k p (drop n l) d (omega arith) ∙ ap (take n) (drop-drop (n * p) n l ∙ ap (λ m. drop m l) next)

sum_worth : (bytes : List ℕ) (n : ℕ) → sum_through (λ i. byte_worth i (get_or bytes i 0)) n ≡ sum_to (λ i. get_or bytes i 0 * 256 ^ i) (suc n)
unfolding sum_to
sum_worth bytes zero = omega arith
sum_worth bytes (suc n) = ap (λ s. s + get_or bytes (suc n) 0 * 256 ^ suc n) (sum_worth bytes n)

pub figure_read : (bytes : List ℕ) (p k : ℕ) (d : List ℕ) → p < k → from_le_bytes w64 (get_or (first_chunks 8 k bytes) p d) ≡ figure_at bytes p
unfolding figure_at
figure_read bytes p k d h =
    ap (from_le_bytes w64) (chunk_at 8 k p bytes d h) ∙ sum_worth (take 8 (drop (8 * p) bytes)) 7
    ∙ sum_to_ext _ _ 8 (λ i l. ap (λ b. b * 256 ^ i) (get_or-take 8 (drop (8 * p) bytes) i 0 l ∙ get_or-drop (8 * p) bytes i 0))

-- ---- one that is written

low_bytes : (s k x i : ℕ) → i < k → get_or (bytes_low_first s k x) i 0 ≡ byte_of x (s + i)
unfolding byte_of
low_bytes s zero x i h = absurd (omega arith)
low_bytes zero (suc k) x zero h = omega arith
low_bytes (suc s) (suc k) x zero h = let e : suc s ≡ suc s + 0 = omega arith in ap (λ m. x / 256 ^ m % 256) e
low_bytes s (suc k) x (suc i) h = let e : suc s + i ≡ s + suc i = omega arith in low_bytes (suc s) k x i (omega arith) ∙ ap (byte_of x) e

-- 8 bytes in the place of a figure's
abbrev in_place : List ℕ → ℕ → List ℕ → List ℕ
in_place l p ys = take (8 * p) l ++ (ys ++ drop (8 * p + 8) l)

module _ (l : List ℕ) (p : ℕ) (ys : List ℕ) (room : 8 * p + 8 ≤ length l) (long : length ys ≡ 8) where
  before : length (take (8 * p) l) ≡ 8 * p
  before = length-take-le (8 * p) l (omega arith)

  place_in : (j : ℕ) → j < 8 → get_or (in_place l p ys) (8 * p + j) 0 ≡ get_or ys j 0
  place_in j h =
      let e : 8 * p + j - 8 * p ≡ j = omega arith in
      get_or-append_right (take (8 * p) l) _ (8 * p) (8 * p + j) 0 before (omega arith)
      ∙ ap (λ m. get_or (ys ++ drop (8 * p + 8) l) m 0) e ∙ get_or_append_left ys _ 0 j (omega arith)

  place_else : (k : ℕ) → k / 8 ≢ p → get_or (in_place l p ys) k 0 ≡ get_or l k 0
  place_else k d = elim (dec_lt k (8 * p)) [
    | yes h ↦ get_or_append_left (take (8 * p) l) _ 0 k (omega (arith, before)) ∙ get_or-take (8 * p) l k 0 h
    | no h ↦
        let past : 8 * p + 8 ≤ k = omega arith in
        let e : 8 * p + 8 + (k - 8 * p - 8) ≡ k = omega arith in
        get_or-append_right (take (8 * p) l) _ (8 * p) k 0 before (omega arith)
        ∙ get_or-append_right ys _ 8 (k - 8 * p) 0 long (omega arith)
        ∙ get_or-drop (8 * p + 8) l (k - 8 * p - 8) 0 ∙ ap (λ m. get_or l m 0) e
  ]

  length_place : length (in_place l p ys) ≡ length l
  length_place = omega (
    arith,
    length-append (take (8 * p) l) (ys ++ drop (8 * p + 8) l),
    length-append ys (drop (8 * p + 8) l),
    before,
    long,
    length-drop (8 * p + 8) l,
  )

pub figure_written : (figures : List ℕ) (p x : ℕ) → p < length figures → in_place (encoded figures) p (to_le_bytes w64 x) ≡ encoded (set figures p x)
figure_written figures p x h =
    let long = length_encoded figures in
    let kept = length-set figures p x in
    let old = encoded figures in
    let ys = to_le_bytes w64 x in
    let room : 8 * p + 8 ≤ length old = omega (arith, long) in
    ext_get_or 0 (in_place old p ys) (encoded (set figures p x))
    (length_place old p ys room refl ∙ long ∙ ap (λ m. 8 * m) (sym kept) ∙ sym (length_encoded (set figures p x))) (λ k b.
    let within : k < 8 * length figures = omega (arith, length_place old p ys room refl, long) in
    sym (encoded_at (set figures p x) k (omega (arith, kept)) ∙ elim (ℕ_discrete (k / 8) p) [
      | yes e ↦
          let place : 8 * p + k % 8 ≡ k = omega arith in
          ap (λ q. byte_of (get_or (set figures p x) q 0) (k % 8)) e ∙ ap (λ y. byte_of y (k % 8)) (get_or-set_same figures p x 0 h)
          ∙ sym (place_in old p ys room refl (k % 8) (omega arith) ∙ low_bytes 0 8 x (k % 8) (omega arith) ∙ ap (byte_of x) (zero-add (k % 8))) ∙ ap (λ m. get_or (in_place old p ys) m 0) place
      | no d ↦ ap (λ y. byte_of y (k % 8)) (get_or-set_other figures p (k / 8) x 0 d) ∙ sym (encoded_at figures k within)
          ∙ sym (place_else old p ys room refl k d)
    ]))

-- all of them 0
pub figures_zero : (n : ℕ) → replicate (8 * n) 0 ≡ encoded (replicate n 0)
unfolding byte_of
figures_zero n =
    let long = length-replicate {A = ℕ} n 0 in
    ext_get_or 0 (replicate (8 * n) 0) (encoded (replicate n 0)) (length-replicate {A = ℕ} (8 * n) 0 ∙ ap (λ m. 8 * m) (sym long) ∙ sym (length_encoded (replicate n 0)))
    (λ k b.
    let within : k < 8 * n = omega (arith, length-replicate {A = ℕ} (8 * n) 0) in
    get_or-replicate (8 * n) k 0 0 within
    ∙ sym (encoded_at (replicate n 0) k (omega (arith, long)) ∙ ap (λ x. byte_of x (k % 8)) (get_or-replicate n (k / 8) 0 0 (omega arith)) ∙ none (k % 8)))
  where
    none : (i : ℕ) → byte_of 0 i ≡ 0
    none i = ap (λ m. m % 256) (div-eq_of_lt (one-le-pow i 256 (omega arith)))

-- ---- the loop that writes a renewal

module _ (l nodes bounds : List ℕ) (taken : ℕ) where
  -- the figures after the first i nodes, and their bytes
  abbrev renewing : ℕ → List ℕ
  renewing i = renew_each nodes bounds taken (decoded (figure_count l) l) i

  unfoldable pub renewed_to : ℕ → List ℕ
  renewed_to i = encoded (renewing i)

  pub renew_none : Bytes l → length l ≡ 8 * figure_count l → l ≡ renewed_to 0
  unfolding renewed_to
  renew_none b h = sym (ap encoded (renew_each_none nodes bounds taken (decoded (figure_count l) l)) ∙ bytes_back (figure_count l) l b h)

  length_renewing : (i : ℕ) → length (renewing i) ≡ figure_count l
  length_renewing i = length_renew_each nodes bounds taken (decoded (figure_count l) l) i ∙ length_decoded (figure_count l) l

  module _ (b : Bytes l) (count : ℕ) (fits : (i : ℕ) → i < count → get_or bounds i 0 < 2 ^ 64) where
    renewing_fits : (i : ℕ) → i ≤ count → (p : ℕ) → p < figure_count l → get_or (renewing i) p 0 < 2 ^ 64
    renewing_fits i h p k =
        renew_each_small nodes bounds taken (decoded (figure_count l) l) (2 ^ 64) i (λ j m. fits j (omega arith)) p
        (omega (arith, length_decoded (figure_count l) l)) (decoded_fits (figure_count l) l b p k)

    pub renew_more : (i : ℕ) {bytes next : List ℕ} {figure x : ℕ} → i < count → bytes ≡ renewed_to i → get_or nodes i 0 < figure_count l
        → figure ≡ figure_at bytes (get_or nodes i 0) → x ≡ figure_by (ltb i taken) figure (get_or bounds i 0)
        → next ≡ in_place bytes (get_or nodes i 0) (to_le_bytes w64 x) → next ≡ renewed_to (i + 1)
    unfolding renewed_to
    renew_more i {x = x} c e h f q w =
        let p = get_or nodes i 0 in
        let long : p < length (renewing i) = omega (arith, length_renewing i) in
        let known = f ∙ ap (λ l. figure_at l p) e ∙ figure_back (renewing i) p long (renewing_fits i (omega arith) p h) in
        w ∙ ap (λ b. in_place b p (to_le_bytes w64 x)) e ∙ figure_written (renewing i) p x long
        ∙ ap encoded (renew_each_more nodes bounds taken (decoded (figure_count l) l) i refl (q ∙ ap (λ y. figure_by (ltb i taken) y (get_or bounds i 0)) known))

  pub renew_end : {i count : ℕ} {bytes : List ℕ} → i ≡ count → bytes ≡ renewed_to i → bytes ≡ encoded (renewing count)
  unfolding renewed_to
  renew_end h e = e ∙ ap renewed_to h
