-- `meaning::above_width` meets its contract.
use Prim.Native.Nat.{◌^◌}
use native.Mathlib.Nat.{sub-eq-zero_of_le}
use native.Mathlib.Omega.{arith}
use mathlib.Core.Path.{sym}
use lib.Pow.{pow_mono}
use Rattle.word.proofs.Laws.{ones}
use Rattle.entry.proofs.meaning.above_width.Goals as goal

pub returns-then-width-ge52-clause-mask : goal.returns-then-width-ge52-clause-mask
returns-then-width-ge52-clause-mask c =
    sym (sub-eq-zero_of_le {n = 2 ^ 52} {m = 2 ^ c.args.width} (pow_mono {i = 52} {j = c.args.width} c.if-width-ge52.true))

pub overflow_sub-result : goal.overflow_sub-result
overflow_sub-result c =
    let w = c.args.width in
    rw (ones w (omega arith)) (pow_mono {i = w} {j = 52} (omega arith))
