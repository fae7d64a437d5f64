-- What a walk reads lies in memory at multiples of 8, and ends at a page of size 1 to 3.
use Prim.Native.Nat.{ℕ, zero, suc, ◌+◌, ◌-◌, ◌*◌, ◌%◌, ◌^◌, ◌≤◌, ◌<◌}
use native.Mathlib.Omega.{arith}
use mathlib.Core.Path.{◌≡◌, refl, sym, ap, ap₂, ◌∙◌}
use mathlib.Core.Bool.{Bool, true, false, not, ◌&&◌, ◌||◌, cond}
use mathlib.Core.List.{List}
use borrow.Author.Tests.{leb-true, lt-leb, lt-ltb}
use native.Mathlib.Decide.{dec_le}
use lib.Dec.{leb, ltb}
use lib.ListN.{length}
use Rattle.word.specs.Bits.{bit, field}
use Rattle.word.specs.Bytes.{load, inside}
use Rattle.address.specs.declared.PhysAddr.{PhysAddr}
use Rattle.address.specs.declared.VirtAddr.{VirtAddr}
use Rattle.address.specs.Address.{index, page_bits}
use Rattle.entry.specs.declared.Says.{Says}
use Rattle.entry.specs.Says.{says, says_by, is_page, reserved as is_reserved, above_width, execute_disabled, size_too_large, inside_page, largest, table_base, page_base}
use Rattle.walk.specs.Path.{Path, End, Entry, ends, outside, missing, reserved, page, onward, path, entries, end_of}
use Rattle.machine.proofs.Paths.{All}

-- an entry that a walk of memory read and did not refuse
pub record Read (nxe : Bool) (m : List ℕ) (e : Entry) : Type 0 where
  pub value_is : e.value ≡ load 8 m e.address
  pub lies_inside : e.address < length m
  pub aligned : e.address % 8 ≡ 0
  pub executable : nxe ≡ false → bit e.value 63 ≡ false

-- a page at which a walk ends
pub record Ending (e : Entry) (base : ℕ) : Type 0 where
  pub level_from : 1 ≤ e.level
  pub level_to : e.level ≤ 3
  pub base_is : base ≡ field e.value (page_bits e.level) (52 - page_bits e.level) * 2 ^ page_bits e.level

-- the walk ends at a page, which is as it has to be and was read from memory
abbrev pub AtPage : Bool → List ℕ → End → Type 0
AtPage nxe m (outside l at) = ⊥
AtPage nxe m (missing e) = ⊥
AtPage nxe m (reserved e) = ⊥
AtPage nxe m (page e base) = Read nxe m e × Ending e base

-- an end is a page
abbrev pub IsPage : End → Type 0
IsPage (outside l at) = ⊥
IsPage (missing e) = ⊥
IsPage (reserved e) = ⊥
IsPage (page e base) = Unit

or_false : (a b : Bool) → (a || b) ≡ false → (a ≡ false) × (b ≡ false)
or_false true b h = (h, cc)
or_false false b h = (refl, h)

-- what an entry says that is not refused
says_table : (present met large : Bool) (l v : ℕ) (t : PhysAddr) → says_by present met large l v ≡ Says.Table t
    → (met ≡ false) × (large ≡ false) × (table_base v ≡ t)
says_table true true large l v t h = (cc, cc, cc)
says_table true false true l v t h = (cc, cc, cc)
says_table true false false l v t h = (refl, refl, cc)
says_table false met large l v t h = (cc, cc, cc)

says_page : (present met large : Bool) (l v : ℕ) (t : PhysAddr) → says_by present met large l v ≡ Says.Page t
    → (met ≡ false) × (large ≡ true) × (page_base l v ≡ t)
says_page true true large l v t h = (cc, cc, cc)
says_page true false true l v t h = (refl, refl, cc)
says_page true false false l v t h = (cc, cc, cc)
says_page false met large l v t h = (cc, cc, cc)

-- where NXE is clear, an entry that is not reserved has XD clear
clear_xd : (above disabled : Bool) (nxe : Bool) (rest : Bool) → ((above || (not nxe && disabled)) || rest) ≡ false → nxe ≡ false → disabled ≡ false
clear_xd above disabled nxe rest h off =
    let a = (or_false (above || (not nxe && disabled)) rest h).0 in
    let b = (or_false above (not nxe && disabled) a).1 in
    sym (ap (λ (x : Bool). not x && disabled) off) ∙ b

-- a page that is not reserved is no larger than the largest
not_large : (l : ℕ) (low ps above inside : Bool) → low ≡ leb l 1 → (above || ((ps && ltb largest l) || inside)) ≡ false → (low || ps) ≡ true → l ≤ 3
not_large l low ps above inside is-low clear is-page = go (dec_le l 3)
  where
    go : Dec (l ≤ 3) → l ≤ 3
    go (yes h) = h
    go (no h) =
        let high : low ≡ false = is-low ∙ lt-leb l 1 (omega arith) in
        let ps-set : ps ≡ true = sym (ap (λ (x : Bool). x || ps) high) ∙ is-page in
        let small : (ps && ltb largest l) ≡ false = (or_false (ps && ltb largest l) inside (or_false above ((ps && ltb largest l) || inside) clear).1).0 in
        let z : true ≡ false = sym (ap₂ (λ (a b : Bool). a && b) ps-set (lt-ltb largest l (omega arith))) ∙ small in
        let w : ◌≡◌ {A = ℕ} 0 1 = cc in
        absurd (omega arith)

module _ (width : ℕ) (nxe : Bool) (m : List ℕ) where
  -- what a walk that ends at a page reads
  abbrev Reads : Path → Type 0
  Reads p = All (Read nxe m) (entries p) × AtPage nxe m (end_of p)

  entry_read : (l at v : ℕ) (rest : Bool) → v ≡ load 8 m at → at < length m → at % 8 ≡ 0
      → ((above_width width v || execute_disabled nxe v) || rest) ≡ false
      → Read nxe m (record { level = l; address = at; value = v })
  entry_read l at v rest is in_memory is-aligned clear =
      record { value_is = is; lies_inside = in_memory; aligned = is-aligned; executable = clear_xd (above_width width v) (bit v 63) nxe rest clear }

  onward_read : (l at v : ℕ) (x : Says) (rest : ℕ → Path) → 1 ≤ l → v ≡ load 8 m at → at < length m → at % 8 ≡ 0
      → says width nxe l v ≡ x
      → ((table : ℕ) → table % 8 ≡ 0 → IsPage (end_of (rest table)) → Reads (rest table))
      → IsPage (end_of (onward x (record { level = l; address = at; value = v }) rest))
      → Reads (onward x (record { level = l; address = at; value = v }) rest)
  unfolding entries end_of
  onward_read l at v Says.Missing rest low is in_memory is-aligned tells below ok = absurd ok
  onward_read l at v Says.Reserved rest low is in_memory is-aligned tells below ok = absurd ok
  onward_read l at v (Says.Page base) rest low is in_memory is-aligned tells below ok =
      let h = says_page (bit v 0) (is_reserved width nxe l v) (is_page l v) l v base tells in
      let r = entry_read l at v (size_too_large l v || inside_page l v) is in_memory is-aligned h.0 in
      let end : Ending (record { level = l; address = at; value = v }) base.0 =
      record {
        level_from = low;
        level_to = not_large l (leb l 1) (bit v 7) (above_width width v || execute_disabled nxe v) (inside_page l v) refl h.0 h.1;
        base_is = ap (λ (b : PhysAddr). b.0) (sym h.2);
      } in
      ((r, tt), (r, end))
  onward_read l at v (Says.Table base) rest low is in_memory is-aligned tells below ok =
      let h = says_table (bit v 0) (is_reserved width nxe l v) (is_page l v) l v base tells in
      let r = entry_read l at v (size_too_large l v || inside_page l v) is in_memory is-aligned h.0 in
      let table : base.0 ≡ field v 12 40 * 4096 = ap (λ (b : PhysAddr). b.0) (sym h.2) in
      let b = below base.0 (omega arith) ok in
      ((r, b.0), b.1)

  -- a walk that ends at a page read its entries from memory, each at a multiple of 8
  pub read_path : (va : VirtAddr) (l base : ℕ) → base % 8 ≡ 0 → IsPage (end_of (path (says width nxe) m va l base))
      → Reads (path (says width nxe) m va l base)
  unfolding path end_of
  read_path va zero base is-aligned ok = absurd ok
  read_path va (suc l) base is-aligned ok = go (inside m at) refl (read_path va l) ok
    where
      at : ℕ
      at = base + 8 * index va (suc l)

      here : Path
      here =
          onward (says width nxe (suc l) (load 8 m at)) (record { level = suc l; address = at; value = load 8 m at })
          (λ (table : ℕ). path (says width nxe) m va l table)

      go : (b : Bool) → inside m at ≡ b
          → ((table : ℕ) → table % 8 ≡ 0 → IsPage (end_of (path (says width nxe) m va l table)) → Reads (path (says width nxe) m va l table))
          → IsPage (end_of (cond b here (ends (outside (suc l) at)))) → Reads (cond b here (ends (outside (suc l) at)))
      go true is-inside below ok =
          let h = leb-true (at + 8) (length m) is-inside in
          onward_read (suc l) at (load 8 m at) (says width nxe (suc l) (load 8 m at)) (λ (table : ℕ). path (says width nxe) m va l table)
          (omega arith) refl (omega arith) (omega arith) refl below ok
      go false is-inside below ok = absurd ok
