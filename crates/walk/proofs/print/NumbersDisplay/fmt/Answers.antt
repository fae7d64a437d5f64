-- What the hole of sixteen hexadecimal digits writes.
use Rattle.std.proofs.Common.{◌≡◌, ℕ, ◌-◌, ◌^◌, arith, false, [], ◌++◌, Some, ap, append-nil, append_assoc, replicate}
use Rattle.std.specs.Fmt.{digits, digits_output, format_spec, padded_integral, char_count}
use Rattle.std.proofs.Output.{has_written_of_eq}
use Rattle.walk.specs.Print.{sixteen_digits}
use Rattle.walk.proofs.print.NumbersDisplay.fmt.Goals as goal

-- zeros in front of the digits, and nothing after them
padded_to_sixteen : (n : ℕ) → padded_integral (format_spec 32 0 4 16 (2 ^ 64 - 1)) false [] (digits 16 false n) ≡ sixteen_digits n
unfolding padded_integral char_count
padded_to_sixteen n = rw append-nil (ap (λ k. replicate k 48 ++ digits 16 false n) (omega arith))

pub returns-clause-writes : goal.returns-clause-writes
returns-clause-writes g c = λ plain ok.
    let options : c.laid_out.result ≡ format_spec 32 0 4 16 (2 ^ 64 - 1) = c.laid_out.ensures in
    let value : digits_output c.in_radix.result ≡ Some (digits 16 false c.args.self.now.value) = c.in_radix.ensures in
    let written = simp (options, value, padded_to_sixteen) at c.write.ensures.writes in
    has_written_of_eq _ _ _ _ _ (simp append_assoc) (written plain ok)
