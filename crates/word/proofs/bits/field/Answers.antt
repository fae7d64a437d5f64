-- `bits::field` meets its contract.
use Prim.Native.Nat.{◌/◌, ◌<◌, ◌^◌}
use native.Mathlib.Nat.{zero-mod, mod-eq_of_lt, div-le_self, lt_of_le_of_lt, lt_of_lt_of_le}
use lib.Bits.{and_mask}
use lib.Pow.{pow_mono}
use Rattle.word.proofs.Laws.{nothing_above, ones}
use Rattle.word.proofs.bits.field.Goals as goal

pub returns-then-low-ge64 : goal.returns-then-low-ge64
returns-then-low-ge64 c =
    let a = c.args in
    rw (nothing_above a.n a.low c.ranges.n.fits c.if-low-ge64.true, zero-mod)

pub returns-then-width-ge64 : goal.returns-then-width-ge64
returns-then-width-ge64 c =
    let a = c.args in
    let small : a.n / 2 ^ a.low < 2 ^ a.width = lt_of_le_of_lt (div-le_self a.n (2 ^ a.low)) (lt_of_lt_of_le c.ranges.n.fits (pow_mono {i = 64} {j = a.width} c.if-width-ge64.true)) in
    rw (mod-eq_of_lt small)

pub returns : goal.returns
returns c = let a = c.args in rw (ones a.width c.if-width-ge64.false) (and_mask (a.n / 2 ^ a.low) a.width)
