-- What the tests before a walk say of settings and address, and that they look at a page's tag alone.
use Prim.Native.Nat.{ℕ, ◌^◌, ◌≤◌}
use native.Mathlib.Omega.{arith}
use mathlib.Core.Path.{◌≡◌, refl, ap}
use mathlib.Core.Bool.{Bool, true, false, cond}
use borrow.Author.Tests.{leb-true}
use lib.Dec.{leb, ltb}
use Rattle.settings.specs.declared.Settings.{Settings}
use Rattle.settings.specs.Settings.{Service, served, judged, pg, width_served}
use Rattle.word.specs.Bits.{bit}
use Rattle.address.specs.declared.PhysAddr.{PhysAddr}
use Rattle.address.specs.declared.VirtAddr.{VirtAddr}
use Rattle.address.specs.Address.{tag, canonical}
use Rattle.walk.specs.declared.Way.{Way}
use Rattle.walk.specs.declared.Asked.{Asked}
use Rattle.walk.specs.Access.{known, way_of}
use Rattle.walk.specs.Translate.{asked, asked_of, asked_off}
use Rattle.walk.proofs.Asking.{judged_served, served_is}
use Rattle.cache.proofs.Lists.{and_true}
use Rattle.machine.proofs.Frames.{canonical_same}
use Rattle.machine.proofs.Places.{Alike}
use Rattle.walk.specs.declared.Refusal.{Refusal}
use Rattle.std.specs.Prelude.{Result, Ok, Err}

-- a walk is due
pub record Due (s : Settings) (address : VirtAddr) (access mode : ℕ) (a : Way) : Type 0 where
  pub is_known : known access mode ≡ true
  pub is_served : served s ≡ true
  pub is_on : pg s ≡ true
  pub is_canonical : canonical address ≡ true
  pub is_access : way_of access mode ≡ a

-- the tests, in plain bools
abbrev tests : Bool → Service → Bool → Bool → Way → Result Asked Refusal → Result Asked Refusal
tests known service pg canonical a off = cond known (asked_of service (cond pg (cond canonical (Ok (Asked.On a)) (Err Refusal.Form)) off)) (Err Refusal.Unknown)

tests_on : (known : Bool) (service : Service) (pg canonical : Bool) (b a : Way) (off : Result Asked Refusal) → (off ≡ Ok (Asked.On a) → ⊥)
    → tests known service pg canonical b off ≡ Ok (Asked.On a) → (known ≡ true) × (service ≡ Ok tt) × (pg ≡ true) × (canonical ≡ true) × (b ≡ a)
tests_on true (Ok served) true true b a off never h = (refl, refl, refl, refl, cc)
tests_on true (Ok served) true false b a off never h = (refl, refl, refl, cc, cc)
tests_on true (Ok served) false canonical b a off never h = absurd (never h)
tests_on true (Err why) pg canonical b a off never h = (cc, cc, cc, cc, cc)
tests_on false service pg canonical b a off never h = (cc, cc, cc, cc, cc)

-- the refusals of the tests before a walk
abbrev pub early : Refusal → Bool
early Refusal.Unknown = true
early (Refusal.NotServed why) = true
early Refusal.Form = true
early (Refusal.Outside at l n) = false
early (Refusal.Fault c l n) = false
early Refusal.SpaceNumber = false

tests_refuse : (known : Bool) (service : Service) (pg canonical low : Bool) (a : Way) (at : PhysAddr) (why : Refusal)
    → tests known service pg canonical a (cond low (Ok (Asked.Off at)) (Err Refusal.Form)) ≡ Err why → early why ≡ true
tests_refuse true (Ok served) true true low a at why h = cc
tests_refuse true (Ok served) true false low a at why h = cc
tests_refuse true (Ok served) false canonical true a at why h = cc
tests_refuse true (Ok served) false canonical false a at why h = cc
tests_refuse true (Err unserved) pg canonical low a at why h = cc
tests_refuse false service pg canonical low a at why h = cc

pub refused_early : (s : Settings) (address : VirtAddr) (access mode : ℕ) (why : Refusal) → asked s address access mode ≡ Err why → early why ≡ true
refused_early s address access mode why h =
    tests_refuse (known access mode) (judged s) (pg s) (canonical address) (ltb address.0 (2 ^ 32)) (way_of access mode) (record { 0 = address.0 }) why h

-- with paging off no walk is due
off_none : (address : VirtAddr) (a : Way) → asked_off address ≡ Ok (Asked.On a) → ⊥
off_none address a h = go (ltb address.0 (2 ^ 32)) h
  where
    go : (b : Bool) → ◌≡◌ {A = Result Asked Refusal} (cond b (Ok (Asked.Off (record { 0 = address.0 }))) (Err Refusal.Form)) (Ok (Asked.On a)) → ⊥
    go true h = let z : ◌≡◌ {A = ℕ} 0 1 = cc in omega arith
    go false h = let z : ◌≡◌ {A = ℕ} 0 1 = cc in omega arith

pub due : (s : Settings) (address : VirtAddr) (access mode : ℕ) (a : Way) → asked s address access mode ≡ Ok (Asked.On a) → Due s address access mode a
due s address access mode a h =
    let x = tests_on (known access mode) (judged s) (pg s) (canonical address) (way_of access mode) a (asked_off address) (off_none address a) h in
    record { is_known = x.0; is_served = judged_served s x.1; is_on = x.2; is_canonical = x.3; is_access = x.4 }

-- served settings have a width from 32 on
pub served_wide : (s : Settings) → served s ≡ true → 7 ≤ s.width
served_wide s h =
    let a = and_true (width_served s) _ h in
    let b = and_true (leb 32 s.width) _ a.0 in
    let c = leb-true 32 s.width b.0 in
    omega arith

-- a walk is due in the same way at every address of the page, while the settings are served and differ in the root alone
pub due_again : (s s' : Settings) (first later : VirtAddr) (access mode : ℕ) (a : Way) → Alike s s' → served s' ≡ true → tag first ≡ tag later
    → Due s first access mode a → asked s' later access mode ≡ Ok (Asked.On a)
due_again s s' first later access mode a alike serving same d =
    rw (d.is_known, served_is s' serving, ← (ap (λ (n : ℕ). bit n 31) alike.cr0_same), d.is_on, ← (canonical_same first later same), d.is_canonical)
    (ap (λ (w : Way). Ok (Asked.On w)) d.is_access)
