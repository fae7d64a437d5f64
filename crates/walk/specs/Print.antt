-- The text of an answer.
use Rattle.std.specs.Prelude.{ℕ, ◌-◌, false, List, ◌++◌, length, replicate, codes, decimal}
use Rattle.std.specs.Fmt.{digits}
use Rattle.walk.specs.declared.Numbers.{Numbers}

-- sixteen hexadecimal digits, zeros in front
abbrev pub sixteen_digits : ℕ → List ℕ
sixteen_digits n = replicate (16 - length (digits 16 false n)) 48 ++ digits 16 false n

-- the five numbers with a space between, the value in sixteen hexadecimal digits
abbrev pub text : Numbers → List ℕ
text n =
    decimal n.answer ++ codes " " ++ sixteen_digits n.value ++ codes " " ++ decimal n.detail
    ++ codes " " ++ decimal n.reads ++ codes " " ++ decimal n.memory_type
