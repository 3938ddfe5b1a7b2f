-- What a read adds to the start of a buffer. Assumes nothing.
use Rattle.std.proofs.Common.{List, ap, length, length-take-le, sym, take, ◌+◌, ◌++◌, ◌∙◌, ◌≡◌, ◌≤◌, ℕ}
use Rattle.std.proofs.Math.Seq.{take-append-add}
use Rattle.std.proofs.lemmas.List.{take-append-le}
use borrow.Rule.Slice.PartMut.{post_of, put_mid}

-- after n bytes of what was read from a position on
pub take_read : (at k n : ℕ) (old read : List ℕ) → at ≤ length old → n ≤ length read → take (at + n) (put_mid at k old read) ≡ take at old ++ take n read
take_read at k n old read h g =
    ap (λ m. take (m + n) (put_mid at k old read)) (sym (length-take-le at old h))
    ∙ take-append-add (take at old) (read ++ post_of at k old) n ∙ ap (λ l. take at old ++ l) (take-append-le n read (post_of at k old) g)
