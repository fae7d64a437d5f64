-- A place's flags as a number: each is where it was put, and those wanted are there where each is.
use mathlib.Core.Path.{◌≡◌, refl}
use mathlib.Core.Bool.{Bool, true, not, ◌&&◌, ◌||◌, beq}
use Rattle.word.specs.Bits.{bit, includes}
use Rattle.entry.specs.Rights.{number}
use Rattle.entry.proofs.Meeting.{every, at, same_true}
use Rattle.machine.specs.Remember.{with_dirty, flags_of}

-- where something is wanted, it is there
abbrev pub given : Bool → Bool → Bool
given wanted there = not wanted || there

-- a test at each four bools, and at each five
abbrev four : (Bool → Bool → Bool → Bool → Bool) → Bool
four f = every (λ a. every (λ b. every (λ c. every (f a b c))))

at_four : (f : Bool → Bool → Bool → Bool → Bool) → four f ≡ true → (a b c d : Bool) → f a b c d ≡ true
at_four f h a b c d = at (f a b c) (at (λ c. every (f a b c)) (at (λ b. every (λ c. every (f a b c))) (at (λ a. every (λ b. every (λ c. every (f a b c)))) h a) b) c) d

abbrev five : (Bool → Bool → Bool → Bool → Bool → Bool) → Bool
five f = every (λ a. four (f a))

at_five : (f : Bool → Bool → Bool → Bool → Bool → Bool) → five f ≡ true → (a b c d e : Bool) → f a b c d e ≡ true
at_five f h a b c d e = at_four (f a) (at (λ a. four (f a)) h a) b c d e

pub flags_marked : (w u f d g : Bool) → bit (flags_of w u f d g) 5 ≡ true
flags_marked w u f d g = at_five (λ w u f d g. bit (flags_of w u f d g) 5) refl w u f d g

pub flags_global : (w u f d g : Bool) → bit (flags_of w u f d g) 4 ≡ g
flags_global w u f d g =
    same_true (bit (flags_of w u f d g) 4) g (at_five (λ w u f d g. beq (bit (flags_of w u f d g) 4) g) refl w u f d g)

-- the flags wanted, one by one
abbrev pub all_given : Bool → Bool → Bool → Bool → Bool → Bool → Bool → Bool → Bool
all_given write user fetch dirty w u f d = (given write w && given user u) && (given fetch f && given dirty d)

abbrev agree : Bool → Bool → Bool → Bool → Bool → Bool → Bool → Bool → Bool → Bool
agree write user fetch dirty w u f d g =
    beq (includes (with_dirty (number write user fetch) dirty) (flags_of w u f d g)) (all_given write user fetch dirty w u f d)

pub flags_each : (write user fetch dirty w u f d g : Bool)
    → includes (with_dirty (number write user fetch) dirty) (flags_of w u f d g) ≡ all_given write user fetch dirty w u f d
flags_each write user fetch dirty w u f d g =
    same_true (includes (with_dirty (number write user fetch) dirty) (flags_of w u f d g)) (all_given write user fetch dirty w u f d)
    (at_five (agree write user fetch dirty) (at_four (λ write user fetch dirty. five (agree write user fetch dirty)) refl write user fetch dirty) w u f d g)
