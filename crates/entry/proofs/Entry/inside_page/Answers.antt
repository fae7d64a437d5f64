-- `Entry::inside_page` meets its contract.
use native.Mathlib.Omega.{arith}
use mathlib.Core.Bool.{not}
use mathlib.Core.Path.{ap}
use lib.Pow.{pow_mono}
use Rattle.word.proofs.Laws.{ones}
use Rattle.address.specs.Address.{page_bits}
use Rattle.entry.proofs.Masks.{masked_zero}
use Rattle.entry.proofs.Entry.inside_page.Goals as goal

pub overflow_sub-result : goal.overflow_sub-result
overflow_sub-result c =
    let n = page_bits c.args.self.level in
    rw (ones n (omega arith)) (pow_mono {i = 13} {j = n} (omega arith))

pub returns : goal.returns
returns c =
    let n = page_bits c.args.self.level in
    rw (ones n (omega arith)) (ap not (masked_zero c.args.self.value 13 n))
