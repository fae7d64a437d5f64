-- What the entries and the end of every path are: proved once, by the level.
use Prim.Native.Nat.{ℕ, zero, suc, ◌+◌, ◌*◌, ◌≤◌}
use native.Mathlib.Omega.{arith}
use mathlib.Core.Path.{◌≡◌, refl, ap, sym, ◌∙◌}
use mathlib.Core.Bool.{Bool, true, false, cond, false≢true}
use mathlib.Core.List.{List}
use mathlib.Core.Option.{Option, some, none}
use borrow.Author.Tests.{eq-eqb}
use lib.Dec.{eqb}
use lib.ListN.{length}
use Rattle.word.specs.Bits.{bit}
use Rattle.word.specs.Bytes.{load, inside}
use Rattle.settings.specs.declared.Settings.{Settings}
use Rattle.settings.specs.Settings.{nxe}
use Rattle.address.specs.declared.VirtAddr.{VirtAddr}
use Rattle.address.specs.Address.{index}
use Rattle.entry.specs.Says.{says, says_by, page_base, table_base, is_page}
use Rattle.entry.specs.Says as say
use Rattle.walk.specs.Demand2.{first, last, stops, all_inside, follow}
use Rattle.walk.specs.Path.{Path, End, Entry, ends, next, outside, missing, reserved, page, onward, path, entries, end_of}

same : (n : ℕ) → eqb n n ≡ true
same n = eq-eqb n n refl

module _ (s : Settings) (m : List ℕ) where
  -- what stands at an end
  abbrev pub SoundEnd : ℕ → End → Type 0
  SoundEnd l (outside k at) = (1 ≤ l) × (k ≡ l) × (inside m at ≡ false)
  SoundEnd l (missing e) = (1 ≤ l) × (e.level ≡ l) × (inside m e.address ≡ true) × (bit e.value 0 ≡ false)
  SoundEnd l (reserved e) =
      (1 ≤ l) × (e.level ≡ l) × (inside m e.address ≡ true) × (bit e.value 0 ≡ true) × (say.reserved s.width (nxe s) e.level e.value ≡ true)
  SoundEnd l (page e base) =
      (1 ≤ l) × (e.level ≡ l) × (inside m e.address ≡ true) × (stops s e ≡ false) × (base ≡ (page_base e.level e.value).0)
      × (is_page e.level e.value ≡ true)

  -- the entries fall by a level each, and only the last one stops
  abbrev pub Sound : ℕ → Path → Type 0
  Sound l (ends x) = SoundEnd l x
  Sound l (next e p) = (k : ℕ) × (l ≡ suc k) × (e.level ≡ l) × (inside m e.address ≡ true) × (stops s e ≡ false) × Sound k p

  module _ (l at v : ℕ) (rest : ℕ → Path) where
    -- the entry
    abbrev this : Entry
    this = record { level = suc l; address = at; value = v }

    -- one level, by its tests
    one_level : (is-inside present broken whole : Bool) → inside m at ≡ is-inside → bit v 0 ≡ present
        → say.reserved s.width (nxe s) (suc l) v ≡ broken → is_page (suc l) v ≡ whole
        → ((t : ℕ) → whole ≡ false → Sound l (rest t))
        → Sound (suc l) (cond is-inside (onward (says_by present broken whole (suc l) v) this rest) (ends (outside (suc l) at)))
    one_level false present broken whole i p r w f = (omega arith, refl, i)
    one_level true false broken whole i p r w f = (omega arith, refl, i, p)
    one_level true true true whole i p r w f = (omega arith, refl, i, p, r)
    one_level true true false true i p r w f = (omega arith, refl, i, rw (p, r) refl, refl, w)
    one_level true true false false i p r w f = (l, refl, refl, i, rw (p, r) refl, f _ refl)

  -- every path from a level of at least 1
  pub sound : (va : VirtAddr) (l base : ℕ) → Sound (suc l) (path (says s.width (nxe s)) m va (suc l) base)
  unfolding path
  sound va zero base =
      one_level 0 (base + 8 * index va 1) (load 8 m (base + 8 * index va 1)) (λ (t : ℕ). path (says s.width (nxe s)) m va 0 t)
      (inside m (base + 8 * index va 1)) (bit (load 8 m (base + 8 * index va 1)) 0)
      (say.reserved s.width (nxe s) 1 (load 8 m (base + 8 * index va 1))) true refl refl refl refl (λ t never. absurd (false≢true (sym never)))
  sound va (suc l) base =
      one_level (suc l) (base + 8 * index va (suc (suc l))) (load 8 m (base + 8 * index va (suc (suc l)))) (λ (t : ℕ). path (says s.width (nxe s)) m va (suc l) t)
      (inside m (base + 8 * index va (suc (suc l)))) (bit (load 8 m (base + 8 * index va (suc (suc l)))) 0)
      (say.reserved s.width (nxe s) (suc (suc l)) (load 8 m (base + 8 * index va (suc (suc l))))) (is_page (suc (suc l)) (load 8 m (base + 8 * index va (suc (suc l)))))
      refl refl refl refl (λ t table. sound va l t)

  -- the first entry that stops is the one at the end, if any
  abbrev pub stopping : End → Option Entry
  stopping (outside l at) = none
  stopping (missing e) = some e
  stopping (reserved e) = some e
  stopping (page e base) = none

  pub first_stop : (l : ℕ) (p : Path) → Sound l p → first (stops s) (entries p) ≡ stopping (end_of p)
  unfolding first entries end_of
  first_stop l (ends (outside k at)) h = refl
  first_stop l (ends (missing e)) h = rw h.3 refl
  first_stop l (ends (reserved e)) h = rw (h.3, h.4) refl
  first_stop l (ends (page e base)) h = rw h.3 refl
  first_stop l (next e p) h = ap (λ (b : Bool). cond b (some e) (first (stops s) (entries p))) h.4 ∙ first_stop h.0 p h.5

  -- what is known at the end of a path
  pub at_end : (l : ℕ) (p : Path) → Sound l p → (k : ℕ) × (k ≤ l) × SoundEnd k (end_of p)
  unfolding end_of
  at_end l (ends x) h = (l, omega arith, h)
  at_end l (next e p) h = let r : (k : ℕ) × (k ≤ h.0) × SoundEnd k (end_of p) = at_end h.0 p h.5 in (r.0, omega (arith, h.1), r.2)

  -- at most as many entries as levels, and fewer where one lies outside
  pub at_most : (l : ℕ) (p : Path) → Sound l p → length (entries p) + cond (all_inside (end_of p)) 0 1 ≤ l
  unfolding entries end_of
  at_most l (ends (outside k at)) h = h.0
  at_most l (ends (missing e)) h = h.0
  at_most l (ends (reserved e)) h = h.0
  at_most l (ends (page e base)) h = h.0
  at_most l (next e p) h = let r : length (entries p) + cond (all_inside (end_of p)) 0 1 ≤ h.0 = at_most h.0 p h.5 in omega (arith, h.1)

-- the entry at an end, if one was read there
abbrev pub ending : End → Option Entry
ending (outside l at) = none
ending (missing e) = some e
ending (reserved e) = some e
ending (page e base) = some e

-- the last entry read is the one at the end
pub last_read : (p : Path) → all_inside (end_of p) ≡ true → last (entries p) ≡ ending (end_of p)
unfolding last entries end_of
last_read (ends (outside l at)) h = absurd (false≢true h)
last_read (ends (missing e)) h = refl
last_read (ends (reserved e)) h = refl
last_read (ends (page e base)) h = refl
last_read (next e (ends (outside l at))) h = absurd (false≢true h)
last_read (next e (ends (missing f))) h = refl
last_read (next e (ends (reserved f))) h = refl
last_read (next e (ends (page f base))) h = refl
last_read (next e (next f p)) h = last_read (next f p) h

-- a path with no entry outside memory has read one
pub at_least : (p : Path) → all_inside (end_of p) ≡ true → 1 ≤ length (entries p)
unfolding entries end_of
at_least (ends (outside l at)) h = absurd (false≢true h)
at_least (ends (missing e)) h = omega arith
at_least (ends (reserved e)) h = omega arith
at_least (ends (page e base)) h = omega arith
at_least (next e p) h = omega arith

module _ (s : Settings) (m : List ℕ) (va : VirtAddr) where
  module _ (l base at v : ℕ) (is_at : at ≡ base + 8 * index va (suc l)) (is-v : v ≡ load 8 m at) (rest : ℕ → Path) where
    -- what one level gives
    abbrev one : Bool → Bool → Bool → Bool → Path
    one is-inside present broken whole =
        cond is-inside (onward (says_by present broken whole (suc l) v) (record { level = suc l; address = at; value = v }) rest) (ends (outside (suc l) at))

    -- one level, by its tests
    follow_one : (is-inside present broken whole : Bool) → inside m at ≡ is-inside → bit v 0 ≡ present
        → say.reserved s.width (nxe s) (suc l) v ≡ broken → is_page (suc l) v ≡ whole
        → ((t : ℕ) → whole ≡ false → follow s va m l t (entries (rest t)) (end_of (rest t)) ≡ true)
        → follow s va m (suc l) base (entries (one is-inside present broken whole)) (end_of (one is-inside present broken whole)) ≡ true
    unfolding follow entries end_of
    follow_one false present broken whole i p r w f = rw (← is_at, same (suc l), same at, i) refl
    follow_one true false broken whole i p r w f = rw (← is_at, same (suc l), same at, i, ← is-v, same v, p) refl
    follow_one true true true whole i p r w f = rw (← is_at, same (suc l), same at, i, ← is-v, same v, p, r) refl
    follow_one true true false true i p r w f = rw (← is_at, same (suc l), same at, i, ← is-v, same v, p, r, w) refl
    follow_one true true false false i p r w f = rw (← is_at, same (suc l), same at, i, ← is-v, same v, p, r, w) (f (table_base v).0 refl)

  -- the entries and the end of every path from a level of at least 1
  pub follows : (l base : ℕ)
      → follow s va m (suc l) base (entries (path (says s.width (nxe s)) m va (suc l) base)) (end_of (path (says s.width (nxe s)) m va (suc l) base)) ≡ true
  unfolding path
  follows zero base =
      follow_one 0 base (base + 8 * index va 1) (load 8 m (base + 8 * index va 1)) refl refl (λ (t : ℕ). path (says s.width (nxe s)) m va 0 t)
      (inside m (base + 8 * index va 1)) (bit (load 8 m (base + 8 * index va 1)) 0)
      (say.reserved s.width (nxe s) 1 (load 8 m (base + 8 * index va 1))) true refl refl refl refl (λ t never. absurd (false≢true (sym never)))
  follows (suc l) base =
      follow_one (suc l) base (base + 8 * index va (suc (suc l))) (load 8 m (base + 8 * index va (suc (suc l)))) refl refl
      (λ (t : ℕ). path (says s.width (nxe s)) m va (suc l) t)
      (inside m (base + 8 * index va (suc (suc l)))) (bit (load 8 m (base + 8 * index va (suc (suc l)))) 0)
      (say.reserved s.width (nxe s) (suc (suc l)) (load 8 m (base + 8 * index va (suc (suc l)))))
      (is_page (suc (suc l)) (load 8 m (base + 8 * index va (suc (suc l))))) refl refl refl refl (λ t table. follows l t)
