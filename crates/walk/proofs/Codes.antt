-- The code of each cause: the paper's bits are the definition's.
use Prim.Native.Nat.{◌+◌}
use native.Mathlib.Nat.{zero-add}
use native.Mathlib.Omega.{arith}
use mathlib.Core.Path.{◌≡◌, ◌∙◌}
use mathlib.Core.Bool.{Bool, true, false, ◌&&◌, cond}
use Rattle.word.specs.Bits.{bit}
use Rattle.settings.specs.declared.Settings.{Settings}
use Rattle.walk.specs.declared.Access.{Access}
use Rattle.walk.specs.declared.Access.TheVariants.{Read, Write, Fetch}
use Rattle.walk.specs.declared.Way.{Way}
use Rattle.walk.specs.Access.{is_write, is_fetch, writes, needs_fetch}
use Rattle.walk.specs.Demand2.{access_code, way_code}
use Rattle.walk.specs.Translate.{code_of}

codes : (present reserved : Bool) (s : Settings) (x : Access) (user : Bool)
    → code_of present (is_write x) user reserved (is_fetch x && bit s.efer 11)
    ≡ (cond present 1 0 + cond reserved 8 0) + (access_code s x + cond user 4 0)
codes present reserved s Read user = omega arith
codes present reserved s Write user = omega arith
codes present reserved s Fetch user = omega arith

module _ (s : Settings) (a : Way) where
  pub missing_code : code_of false (writes a) a.user false (needs_fetch s a) ≡ way_code s a
  missing_code = codes false false s a.access a.user ∙ zero-add (way_code s a)

  pub reserved_code : code_of true (writes a) a.user true (needs_fetch s a) ≡ 1 + 8 + way_code s a
  reserved_code = codes true true s a.access a.user

  pub rights_code : code_of true (writes a) a.user false (needs_fetch s a) ≡ 1 + way_code s a
  rights_code = codes true false s a.access a.user
