-- The order of the tests of a settings record, and CR3 against the width.
use Prim.Native.Nat.{ℕ, ◌/◌, ◌^◌, ◌<◌}
use native.Mathlib.Decide.{dec_lt}
use native.Mathlib.Nat.{div-eq_of_lt, div-lt_iff_lt-mul, one-mul}
use native.Mathlib.Omega.{arith}
use mathlib.Core.Path.{◌≡◌, refl, sym, ◌∙◌}
use mathlib.Core.Bool.{Bool, true, false, ◌&&◌, cond}
use borrow.Author.Tests.{lt-ltb, le-ltb, eq-eqb, ne_eqb}
use Rattle.std.specs.Prelude.{Ok, Err, is_ok}
use lib.Dec.{eqb, ltb}
use lib.Pow.{pow_pos}
use Rattle.settings.specs.declared.Settings.{Settings}
use Rattle.settings.specs.declared.Unserved.TheVariants.{Width, Root, Paging, Extension, Spaces}
use Rattle.settings.specs.Settings.{Service, width_served, root_served, mode_served, extensions_served, spaces_served, served, judged, refused_on, turns_on_numbered, judged_from}

-- a record is served exactly where no test refuses it
pub served_judged : (s : Settings) → served s ≡ is_ok (judged s)
served_judged s = go (width_served s) (root_served s) (mode_served s) (extensions_served s) (spaces_served s)
  where
    go : (width root mode extensions spaces : Bool)
        → (width && (root && (mode && (extensions && spaces)))) ≡ is_ok (cond width
        (cond root (cond mode (cond extensions (cond spaces (Ok (tt {0})) (Err Spaces)) (Err Extension)) (Err Paging)) (Err Root))
        (Err Width))
    go true true true true true = refl
    go true true true true false = refl
    go true true true false spaces = refl
    go true true false extensions spaces = refl
    go true false mode extensions spaces = refl
    go false root mode extensions spaces = refl

-- a load that is served leaves settings that are served
pub judged_from_lem : (before s : Settings) → judged_from before s ≡ Ok tt → judged s ≡ Ok tt
judged_from_lem before s h = go (turns_on_numbered before s) (judged s) h
  where
    go : (b : Bool) (x : Service) → cond b (refused_on x) x ≡ Ok tt → x ≡ Ok tt
    go true (Ok served) h = refl
    go true (Err why) h = h
    go false x h = h

-- a number has nothing from bit k on exactly where it is below 2^k
pub shifted_out : (n k : ℕ) → eqb (n / 2 ^ k) 0 ≡ ltb n (2 ^ k)
shifted_out n k = go (dec_lt n (2 ^ k))
  where
    go : Dec (n < 2 ^ k) → eqb (n / 2 ^ k) 0 ≡ ltb n (2 ^ k)
    go (yes small) = eq-eqb _ 0 (div-eq_of_lt small) ∙ sym (lt-ltb n (2 ^ k) small)
    go (no large) = ne_eqb _ 0 (λ gone. large (below gone)) ∙ sym (le-ltb n (2 ^ k) (omega arith))
      where
        below : n / 2 ^ k ≡ 0 → n < 2 ^ k
        below gone = rw one-mul at ((div-lt_iff_lt-mul {k = 2 ^ k} {x = n} {y = 1} (pow_pos k)).0 (omega arith))
