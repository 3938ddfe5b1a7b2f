-- `schedule::records::opening_at` meets its contract. Assumes nothing.
use Rattle.std.proofs.Common.{arith, get_or, ◌*◌, ◌+◌, ◌<◌, ◌≡◌, ℕ}
use Rattle.packed.proofs.FieldLaws.{field_of_byte, field_of_two}
use Rattle.packed.specs.Bits.{run_of}
use Rattle.schedule.specs.Schedule.{opening_at, record_bytes}
use Rattle.schedule.proofs.records.opening_at.Goals as goal

pub returns : goal.returns
unfolding opening_at
returns c =
    let bs = c.args.schedule.now in
    let small : (k : ℕ) → get_or bs k 0 < 256 = λ k. omega (arith, c.type_inv.schedule k) in
    let first : ℕ = 1 + record_bytes * c.args.i in
    let a = field_of_byte bs small first {from = 8 * first} (omega arith) c.from.ensures in
    let b = field_of_byte bs small (first + 1) {from = 8 * first + 8} (omega arith) c.from-2.ensures in
    let from : c.from_be_bytes.result ≡ run_of bs (8 * first + 16) 16 =
    field_of_two bs small (first + 2) (first + 3) (omega arith) (omega arith) (omega (arith, c.from_be_bytes.ensures)) in
    let to : c.from_be_bytes-2.result ≡ run_of bs (8 * first + 32) 16 =
    field_of_two bs small (first + 4) (first + 5) (omega arith) (omega arith) (omega (arith, c.from_be_bytes-2.ensures)) in
    λ j. record { a = a j; b = b j; from = from j; to = to j }
