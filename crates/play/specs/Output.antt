-- What is written: the line of a card, and the bytes that a gathering writer was given.
use Rattle.std.specs.Prelude.{ℕ, List, Option, ◌++◌, take, codes, decimal}
use Rattle.std.specs.Io.KnownBytes.{append_known}
use Rattle.walk.specs.declared.Numbers.{Numbers}
use Rattle.walk.specs.Print.{text}
use Rattle.play.specs.declared.gathered.Gathered.{Gathered}

-- "Each card yields a line: card number from 1, answer, value as 16 lower-case hex digits, detail, entries read; one space between."
abbrev pub line : ℕ → Numbers → List ℕ
line number numbers = decimal number ++ codes " " ++ text numbers ++ codes "\n"

-- the bytes given to a gathering writer, where those of its output are known: they, and then as many of its text as are used
abbrev pub given : {W : Type 0} → (W → Option (List ℕ)) → Gathered W → Option (List ℕ)
given contents g = append_known (contents g.output) (take g.used g.text)
