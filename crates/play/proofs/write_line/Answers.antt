-- A line takes no more bytes than are kept for it.
use Rattle.std.proofs.Common.{arith}
use Rattle.play.proofs.Lines.{line_short}
use Rattle.play.proofs.write_line.Goals as goal

pub returns-clause-short : goal.returns-clause-short
returns-clause-short g c =
    let n = c.args.numbers in
    omega (arith, line_short c.args.number n (omega arith) (omega arith) (omega arith) (omega arith) (omega arith) (omega arith))
