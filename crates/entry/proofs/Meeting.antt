-- Rights as numbers: meeting them, and what an entry's bits say.
use Prim.Native.Nat.{ℕ, zero, suc, ◌+◌, ◌-◌, ◌*◌, ◌/◌, ◌%◌, ◌^◌, ◌<◌, min}
use native.Mathlib.Nat.{mod-lt, div-div-eq-div-mul}
use lib.Arith.{mod-mul, bin_ind}
use lib.Pow.{shr_mod}
use native.Mathlib.Omega.{arith}
use mathlib.Core.Path.{◌≡◌, refl}
use mathlib.Core.Bool.{Bool, true, false, not, ◌&&◌, ◌||◌, cond, beq, false≢true}
use borrow.Author.Tests.{eqb-true}
use lib.Bits.{bit_and, and_step, and_zero_l}
use lib.Dec.{eqb, lit<}
use Rattle.entry.specs.Rights.{number, own, allow}

and_left : (a b : Bool) → (a && b) ≡ true → a ≡ true
and_left true b h = refl
and_left false b h = h

and_right : (a b : Bool) → (a && b) ≡ true → b ≡ true
and_right true b h = h
and_right false b h = absurd (false≢true h)

pub same_true : (a b : Bool) → beq a b ≡ true → a ≡ b
same_true true true h = refl
same_true true false h = absurd (false≢true h)
same_true false true h = absurd (false≢true h)
same_true false false h = refl

pub small : (b : Bool) → cond b 1 0 < 2
small true = lit< tt
small false = lit< tt

-- a remainder by 2 and the test whether it is 1
pub test_number : (x : ℕ) → cond (eqb (x % 2) 1) 1 0 ≡ x % 2
test_number x = go (x % 2) (mod-lt x (lit< tt))
  where
    go : (r : ℕ) → r < 2 → cond (eqb r 1) 1 0 ≡ r
    go zero h = refl
    go (suc zero) h = refl
    go (suc (suc r)) h = absurd (omega arith)

-- the same of the test's opposite
test_not : (x : ℕ) → cond (not (eqb (x % 2) 1)) 1 0 ≡ 1 - x % 2
test_not x = go (x % 2) (mod-lt x (lit< tt))
  where
    go : (r : ℕ) → r < 2 → cond (not (eqb r 1)) 1 0 ≡ 1 - r
    go zero h = refl
    go (suc zero) h = refl
    go (suc (suc r)) h = absurd (omega arith)

-- a test at both bools
abbrev pub every : (Bool → Bool) → Bool
every f = f true && f false

pub at : (f : Bool → Bool) → every f ≡ true → (b : Bool) → f b ≡ true
at f h true = and_left (f true) (f false) h
at f h false = and_right (f true) (f false) h

-- a test at each six bools
abbrev every6 : (Bool → Bool → Bool → Bool → Bool → Bool → Bool) → Bool
every6 f = every (λ a. every (λ b. every (λ c. every (λ d. every (λ e. every (λ g. f a b c d e g))))))

at6 : (f : Bool → Bool → Bool → Bool → Bool → Bool → Bool) → every6 f ≡ true → (a b c d e g : Bool) → f a b c d e g ≡ true
at6 f h a b c d e g = at (f a b c d e) (at (λ e. every (f a b c d e)) (at (λ d. every (λ e. every (f a b c d e))) (at (λ c. every (λ d. every (λ e. every (f a b c d e)))) (at (λ b. every (λ c. every (λ d. every (λ e. every (f a b c d e))))) (at (λ a. every (λ b. every (λ c. every (λ d. every (λ e. every (f a b c d e)))))) h a) b) c) d) e) g

-- the numbers of two rights meet as the rights do
pub meet : (a b c d e f : Bool) → bit_and (number a b c) (number d e f) ≡ number (a && d) (b && e) (c && f)
meet a b c d e f =
    eqb-true (bit_and (number a b c) (number d e f)) (number (a && d) (b && e) (c && f))
    (at6 (λ a b c d e f. eqb (bit_and (number a b c) (number d e f)) (number (a && d) (b && e) (c && f))) refl a b c d e f)

-- what is needed is held where each right needed is held
pub allow_each : (a b c d e f : Bool) → allow (number a b c) (number d e f) ≡ ((not a || d) && ((not b || e) && (not c || f)))
allow_each a b c d e f =
    same_true (allow (number a b c) (number d e f)) ((not a || d) && ((not b || e) && (not c || f)))
    (at6 (λ a b c d e f. beq (allow (number a b c) (number d e f)) ((not a || d) && ((not b || e) && (not c || f)))) refl
    a b c d e f)

-- the halves of a meeting
halves : (a b : ℕ) → (bit_and a b / 2 ≡ bit_and (a / 2) (b / 2)) × (bit_and a b % 2 ≡ min (a % 2) (b % 2))
halves a b = (omega (arith, and_step a b), omega (arith, and_step a b))

-- meeting is associative
pub and_assoc : (a b c : ℕ) → bit_and (bit_and a b) c ≡ bit_and a (bit_and b c)
and_assoc = bin_ind (λ (a : ℕ). (b c : ℕ) → bit_and (bit_and a b) c ≡ bit_and a (bit_and b c)) base step
  where
    base : (b c : ℕ) → bit_and (bit_and 0 b) c ≡ bit_and 0 (bit_and b c)
    base b c = rw (and_zero_l b, and_zero_l c, and_zero_l (bit_and b c))

    step : (a : ℕ) → ((b c : ℕ) → bit_and (bit_and (a / 2) b) c ≡ bit_and (a / 2) (bit_and b c)) → (b c : ℕ) → bit_and (bit_and a b) c ≡ bit_and a (bit_and b c)
    step a ih b c =
        rw (and_step (bit_and a b) c, and_step a (bit_and b c), (halves a b).0, (halves a b).1, (halves b c).0, (halves b c).1, ih (b / 2) (c / 2))
        (omega arith)

-- an entry's rights from its bits 1, 2 and 63
pub own_number : (e : ℕ) → e < 2 ^ 64 → e / 2 % 4 + 4 * (1 - e / 0x8000_0000_0000_0000) ≡ own e
own_number e fits =
    let pair : e / 2 % 4 ≡ e / 4 % 2 * 2 + e / 2 % 2 = rw (div-div-eq-div-mul e 2 2) at (mod-mul (e / 2) {m = 2} {c = 2} (lit< tt) (lit< tt)) in
    let top : e / 2 ^ 63 % 2 ≡ e / 2 ^ 63 = shr_mod {n = e} 1 63 fits in
    rw (test_number (e / 2), test_number (e / 4), test_not (e / 2 ^ 63), pair, top) (omega arith)
