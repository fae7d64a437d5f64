-- `VirtAddr::split` meets its contract.
use native.Mathlib.Nat.{div-eq_of_lt}
use Rattle.std.proofs.Common.{sym, mod-eq_of_lt, arith}
use Rattle.address.proofs.Laws.{below_large_page}
use Rattle.address.proofs.VirtAddr.split.Goals as goal

pub returns-in_default-clause-pages : goal.returns-in_default-clause-pages
returns-in_default-clause-pages c =
    sym (div-eq_of_lt (below_large_page c.args.self.0 c.args.level (omega arith) (omega (arith, c.in_default))))

pub returns-in_default-clause-offset : goal.returns-in_default-clause-offset
returns-in_default-clause-offset c =
    sym (mod-eq_of_lt (below_large_page c.args.self.0 c.args.level (omega arith) (omega (arith, c.in_default))))
