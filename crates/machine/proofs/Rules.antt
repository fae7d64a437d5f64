-- What the rights of a path say of what an access needs and of what a place has, in plain bools.
use Prim.Native.Nat.{ℕ}
use mathlib.Core.Path.{◌≡◌, refl, sym, ap, ap₂, ◌∙◌}
use mathlib.Core.Bool.{Bool, true, false, not, ◌&&◌, ◌||◌}
use mathlib.Core.List.{List, [], ◌∷◌}
use Rattle.word.specs.Bits.{bit}
use Rattle.entry.specs.Rights.{number, allow}
use Rattle.entry.proofs.Meeting.{allow_each}
use Rattle.cache.proofs.Lists.{and_true}
use Rattle.walk.specs.Path.{Entry, every}
use Rattle.machine.proofs.Flags.{given}
use Rattle.machine.proofs.Paths.{All}
use Rattle.machine.proofs.Reading.{Read}

-- the rights in their number
pub number_write : (a b c : Bool) → bit (number a b c) 0 ≡ a
number_write true true true = refl
number_write true true false = refl
number_write true false true = refl
number_write true false false = refl
number_write false true true = refl
number_write false true false = refl
number_write false false true = refl
number_write false false false = refl

pub number_user : (a b c : Bool) → bit (number a b c) 1 ≡ b
number_user true true true = refl
number_user true true false = refl
number_user true false true = refl
number_user true false false = refl
number_user false true true = refl
number_user false true false = refl
number_user false false true = refl
number_user false false false = refl

pub number_fetch : (a b c : Bool) → bit (number a b c) 2 ≡ c
number_fetch true true true = refl
number_fetch true true false = refl
number_fetch true false true = refl
number_fetch true false false = refl
number_fetch false true true = refl
number_fetch false true false = refl
number_fetch false false true = refl
number_fetch false false false = refl

-- a fetch right at either NXE gives what a fetch needs
fetch_gives : (fetch nxe right : Bool) → given fetch right ≡ true → given (fetch && nxe) right ≡ true
fetch_gives true true right h = h
fetch_gives true false right h = refl
fetch_gives false nxe right h = refl

-- rights that a place gives allow the access
pub given_allow : (write user fetch nxe a b c : Bool) → given write a ≡ true → given user b ≡ true → given fetch c ≡ true
    → allow (number write user (fetch && nxe)) (number a b c) ≡ true
given_allow write user fetch nxe a b c ha hb hc =
    allow_each write user (fetch && nxe) a b c ∙ rw (ha, hb, fetch_gives fetch nxe c hc)

-- where NXE is clear every right to fetch is there
fetch_given : (fetch nxe right : Bool) → (nxe ≡ false → right ≡ true) → given (fetch && nxe) right ≡ true → given fetch right ≡ true
fetch_given true true right clear h = h
fetch_given true false right clear h = clear refl
fetch_given false nxe right clear h = refl

-- rights that allow an access are given in the place
pub allow_given : (write user fetch nxe a b c : Bool) → (nxe ≡ false → c ≡ true)
    → allow (number write user (fetch && nxe)) (number a b c) ≡ true
    → (given write a ≡ true) × (given user b ≡ true) × (given fetch c ≡ true)
allow_given write user fetch nxe a b c clear h =
    let each = sym (allow_each write user (fetch && nxe) a b c) ∙ h in
    let x = and_true (given write a) (given user b && given (fetch && nxe) c) each in
    let y = and_true (given user b) (given (fetch && nxe) c) x.1 in
    (x.0, y.0, fetch_given fetch nxe c clear y.1)

-- where NXE is clear no entry that a walk took has XD
pub none_disabled : (nxe : Bool) (m : List ℕ) (es : List Entry) → All (Read nxe m) es → nxe ≡ false
    → every (λ (v : ℕ). not (bit v 63)) es ≡ true
unfolding every
none_disabled nxe m [] all off = refl
none_disabled nxe m (e ∷ es) all off =
    ap₂ (λ (a b : Bool). not a && b) (all.0.executable off) (none_disabled nxe m es all.1 off)

-- D as left by a walk serves the walk's own access
pub dirty_given : (was write : Bool) → given write (was || write) ≡ true
dirty_given true true = refl
dirty_given true false = refl
dirty_given false true = refl
dirty_given false false = refl

-- what is wanted and given is there
pub given_there : (wanted there : Bool) → given wanted there ≡ true → wanted ≡ true → there ≡ true
given_there wanted there h w = sym (ap (λ (x : Bool). not x || there) w) ∙ h
