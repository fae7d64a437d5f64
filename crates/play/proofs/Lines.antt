-- How many bytes a line takes, and what a writer was given after it passed on what it had gathered.
use Rattle.std.proofs.Common.{◌≡◌, ℕ, zero, suc, ◌+◌, ◌-◌, ◌/◌, ◌%◌, ◌^◌, ◌<◌, ◌≤◌, arith, Bool, true, false, refl, ap, ◌∙◌, List, [], ◌∷◌, ◌++◌, append-nil, length, length-append, take, replicate, Option, None, Some, Result, Ok, Err, OnOk}
use Rattle.std.specs.Prelude.{◌==◌, if◌then◌else◌}
use Rattle.std.proofs.lemmas.Fmt.{length-decimal-le}
use Rattle.std.proofs.lemmas.List.{length-replicate}
use Rattle.std.specs.Fmt.{digits, decimal, digits_onto, digit_glyph}
use Rattle.std.specs.Io.KnownBytes.{Keeps, Appends, append_known}
use Rattle.walk.specs.declared.Numbers.{Numbers}
use Rattle.walk.specs.Print.{sixteen_digits}
use Rattle.play.specs.Output.{line}

-- a 64-bit number has at most twenty decimal digits
twenty : (n : ℕ) → n < 2 ^ 64 → length (decimal n) ≤ 20
twenty n fits = length-decimal-le 20 n (omega arith) (omega (arith, fits)) fits

-- a number below 16 ^ (k + 1) puts at most k + 1 hexadecimal digits in front
digits_in_front : (j k n : ℕ) (after : List ℕ) → n < 16 ^ suc k → length (digits_onto j 16 false n after) ≤ suc k + length after
digits_in_front zero k n after fits = omega arith
digits_in_front (suc j) zero n after fits =
    let none : n / 16 ≡ 0 = omega (arith, fits) in
    rw none (omega arith)
digits_in_front (suc j) (suc k) n after fits = by (n / 16 == 0) refl (digits_in_front j k (n / 16) (digit_glyph false (n % 16) ∷ after) (omega arith))
  where
    by : (t : Bool) → (n / 16 == 0) ≡ t → length (digits_onto j 16 false (n / 16) (digit_glyph false (n % 16) ∷ after)) ≤ suc k + suc (length after)
        → length (if t then digit_glyph false (n % 16) ∷ after else digits_onto j 16 false (n / 16) (digit_glyph false (n % 16) ∷ after)) ≤ suc (suc k) + length after
    by true none rest = omega arith
    by false some rest = omega arith

-- sixteen digits are no more
sixteen : (n : ℕ) → n < 2 ^ 64 → length (sixteen_digits n) ≤ 16
unfolding digits
sixteen n fits =
    let few : length (digits 16 false n) ≤ 16 = digits_in_front 64 15 n [] (omega (arith, fits)) in
    omega (arith, length-append (replicate (16 - length (digits 16 false n)) 48) (digits 16 false n), length-replicate {A = ℕ} (16 - length (digits 16 false n)) 48, few)

-- five decimal numbers, one of sixteen digits, and a byte after each
pub line_short : (number : ℕ) (n : Numbers) → number < 2 ^ 64 → n.answer < 2 ^ 64 → n.value < 2 ^ 64 → n.detail < 2 ^ 64 → n.reads < 2 ^ 64 → n.memory_type < 2 ^ 64
    → length (line number n) ≤ 122
line_short number n a b c d e f =
    simp length-append
    (omega (arith, twenty number a, twenty n.answer b, sixteen n.value c, length-append (replicate (16 - length (digits 16 false n.value)) 48) (digits 16 false n.value), twenty n.detail d, twenty n.reads e, twenty n.memory_type f))

-- bytes that follow all that was gathered, with nothing gathered since
passed : (old mid new : Option (List ℕ)) (text bytes : List ℕ) (used : ℕ) → Keeps old mid → used ≡ 0 → Appends mid new bytes
    → Appends old (append_known new (take used text)) bytes
passed None mid new text bytes used kept none more = tt
passed (Some x) None new text bytes used kept none more = absurd kept
passed (Some x) (Some y) None text bytes used kept none more = absurd more
passed (Some x) (Some y) (Some z) text bytes used kept none more =
    ap (λ (u : ℕ). z ++ take u text) none ∙ append-nil z ∙ more ∙ ap (λ (l : List ℕ). l ++ bytes) kept

-- the same where the write of those bytes did not fail
pub passed_on : {T E : Type 0} (r : Result T E) (old mid new : Option (List ℕ)) (text bytes : List ℕ) (used : ℕ) → Keeps old mid → used ≡ 0
    → OnOk r (Appends mid new bytes) → OnOk r (Appends old (append_known new (take used text)) bytes)
passed_on (Ok x) old mid new text bytes used kept none more = passed old mid new text bytes used kept none more
passed_on (Err e) old mid new text bytes used kept none more = tt
