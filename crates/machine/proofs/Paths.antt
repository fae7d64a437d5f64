-- A path whose entries only grew is read again as the same path.
use Prim.Native.Nat.{ℕ, zero, suc, ◌+◌, ◌*◌, ◌/◌, ◌%◌, ◌^◌, ◌≤◌}
use native.Mathlib.Nat.{div-div-eq-div-mul}
use native.Mathlib.Omega.{arith}
use mathlib.Core.Path.{◌≡◌, refl, sym, ap, ap₂, ◌∙◌}
use mathlib.Core.Bool.{Bool, true, false, not, ◌&&◌, cond}
use mathlib.Core.List.{List, [], ◌∷◌}
use lib.Dec.{lit≤}
use lib.ListN.{length}
use lib.Pow.{pow-add}
use Rattle.word.specs.Bits.{bit}
use Rattle.word.specs.Bytes.{load, inside}
use Rattle.address.specs.declared.VirtAddr.{VirtAddr}
use Rattle.address.specs.Address.{index, tag, page_bits}
use Rattle.entry.specs.declared.Says.{Says}
use Rattle.entry.specs.Says.{says}
use Rattle.entry.specs.Rights.{number}
use Rattle.walk.specs.Path.{Path, End, Entry, ends, next, outside, missing, reserved, page, onward, path, entries, end_of, reads, rights, every}
use Rattle.machine.proofs.Values.{Grown, says_same, bit_low, bit_high}

-- every entry of a list has a property
abbrev pub All : (Entry → Type 0) → List Entry → Type 0
All P [] = Unit
All P (e ∷ es) = P e × All P es

pub all_map : {P Q R : Entry → Type 0} → ((e : Entry) → P e → Q e → R e) → (es : List Entry) → All P es → All Q es → All R es
all_map f [] p q = tt
all_map f (e ∷ es) p q = (f e p.0 q.0, all_map f es p.1 q.1)

-- an entry that only grew in memory
abbrev pub Kept : List ℕ → Entry → Type 0
Kept m e = Grown e.value (load 8 m e.address)

-- an entry, an end and a path as they are read again
abbrev pub refreshed : List ℕ → Entry → Entry
refreshed m e = record { level = e.level; address = e.address; value = load 8 m e.address }

abbrev pub reread_end : List ℕ → End → End
reread_end m (outside l at) = outside l at
reread_end m (missing e) = missing (refreshed m e)
reread_end m (reserved e) = reserved (refreshed m e)
reread_end m (page e base) = page (refreshed m e) base

abbrev pub reread : List ℕ → Path → Path
reread m (ends x) = ends (reread_end m x)
reread m (next e p) = next (refreshed m e) (reread m p)

-- a level goes on as before where its entry says the same and the rest is read again as the same
onward_again : (m : List ℕ) (l at v : ℕ) (x y : Says) (rest rest' : ℕ → Path)
    → (Grown v (load 8 m at) → x ≡ y)
    → ((table : ℕ) → All (Kept m) (entries (rest table)) → rest' table ≡ reread m (rest table))
    → All (Kept m) (entries (onward x (record { level = l; address = at; value = v }) rest))
    → onward y (record { level = l; address = at; value = load 8 m at }) rest'
    ≡ reread m (onward x (record { level = l; address = at; value = v }) rest)
unfolding entries
onward_again m l at v Says.Missing y rest rest' same below kept = rw (← (same kept.0))
onward_again m l at v Says.Reserved y rest rest' same below kept = rw (← (same kept.0))
onward_again m l at v (Says.Page base) y rest rest' same below kept = rw (← (same kept.0))
onward_again m l at v (Says.Table base) y rest rest' same below kept =
    rw (← (same kept.0), below base.0 kept.1)

-- an index looks at the tag alone
index_tag : (va : VirtAddr) (l : ℕ) → index va (suc l) ≡ tag va / 2 ^ (9 * l) % 512
index_tag va l =
    let bits : page_bits (suc l) ≡ 12 + 9 * l = omega arith in
    ap (λ (k : ℕ). va.0 / 2 ^ k % 512) bits
    ∙ ap (λ (x : ℕ). va.0 / x % 512) (pow-add 2 12 (9 * l)) ∙ ap (λ (x : ℕ). x % 512) (sym (div-div-eq-div-mul va.0 4096 (2 ^ (9 * l))))

index_same : (va va' : VirtAddr) (l : ℕ) → tag va ≡ tag va' → index va (suc l) ≡ index va' (suc l)
index_same va va' l same = index_tag va l ∙ ap (λ (t : ℕ). t / 2 ^ (9 * l) % 512) same ∙ sym (index_tag va' l)

deep : (l : ℕ) → 7 ≤ page_bits (suc l)
deep l = omega arith

module _ (width : ℕ) (nxe : Bool) (wide : 7 ≤ width) (m m' : List ℕ) (as_long : length m ≡ length m')
    (va va' : VirtAddr) (same_page : tag va ≡ tag va') where
  -- a path whose entries only grew is read again as the same path
  pub path_again : (l base : ℕ) → All (Kept m') (entries (path (says width nxe) m va l base))
      → path (says width nxe) m' va' l base ≡ reread m' (path (says width nxe) m va l base)
  unfolding path
  path_again zero base kept = refl
  path_again (suc l) base kept =
      rw (← (index_same va va' l same_page), ← as_long)
      (go (inside m (base + 8 * index va (suc l))) (path_again l) kept)
    where
      at : ℕ
      at = base + 8 * index va (suc l)

      go : (b : Bool)
          → ((table : ℕ) → All (Kept m') (entries (path (says width nxe) m va l table))
          → path (says width nxe) m' va' l table ≡ reread m' (path (says width nxe) m va l table))
          → All (Kept m')
          (entries (cond b (onward (says width nxe (suc l) (load 8 m at)) (record { level = suc l; address = at; value = load 8 m at })
          (λ (table : ℕ). path (says width nxe) m va l table)) (ends (outside (suc l) at))))
          → cond b (onward (says width nxe (suc l) (load 8 m' at)) (record { level = suc l; address = at; value = load 8 m' at })
          (λ (table : ℕ). path (says width nxe) m' va' l table)) (ends (outside (suc l) at))
          ≡ reread m' (cond b (onward (says width nxe (suc l) (load 8 m at)) (record { level = suc l; address = at; value = load 8 m at })
          (λ (table : ℕ). path (says width nxe) m va l table)) (ends (outside (suc l) at)))
      go true below kept =
          onward_again m' (suc l) at (load 8 m at) (says width nxe (suc l) (load 8 m at)) (says width nxe (suc l) (load 8 m' at))
          (λ (table : ℕ). path (says width nxe) m va l table) (λ (table : ℕ). path (says width nxe) m' va' l table)
          (says_same width nxe (suc l) (load 8 m at) (load 8 m' at) wide (deep l)) below kept
      go false below kept = refl

-- what is read off a path is read off it again
pub end_again : (m : List ℕ) (p : Path) → end_of (reread m p) ≡ reread_end m (end_of p)
unfolding end_of
end_again m (ends x) = refl
end_again m (next e p) = end_again m p

refreshed_all : List ℕ → List Entry → List Entry
refreshed_all m [] = []
refreshed_all m (e ∷ es) = refreshed m e ∷ refreshed_all m es

entries_again : (m : List ℕ) (p : Path) → entries (reread m p) ≡ refreshed_all m (entries p)
unfolding entries refreshed_all
entries_again m (ends (outside l at)) = refl
entries_again m (ends (missing e)) = refl
entries_again m (ends (reserved e)) = refl
entries_again m (ends (page e base)) = refl
entries_again m (next e p) = ap (λ (es : List Entry). refreshed m e ∷ es) (entries_again m p)

reads_all : (m : List ℕ) (es : List Entry) → length (refreshed_all m es) ≡ length es
unfolding refreshed_all
reads_all m [] = refl
reads_all m (e ∷ es) = ap suc (reads_all m es)

pub reads_again : (m : List ℕ) (p : Path) → reads (reread m p) ≡ reads p
reads_again m p = ap (λ (es : List Entry). length es) (entries_again m p) ∙ reads_all m (entries p)

every_all : (m : List ℕ) (test : ℕ → Bool) → ((v v' : ℕ) → Grown v v' → test v ≡ test v') → (es : List Entry) → All (Kept m) es
    → every test (refreshed_all m es) ≡ every test es
unfolding refreshed_all every
every_all m test same [] kept = refl
every_all m test same (e ∷ es) kept =
    ap₂ (λ (a b : Bool). a && b) (sym (same e.value (load 8 m e.address) kept.0)) (every_all m test same es kept.1)

every_again : (m : List ℕ) (test : ℕ → Bool) → ((v v' : ℕ) → Grown v v' → test v ≡ test v') → (p : Path) → All (Kept m) (entries p)
    → every test (entries (reread m p)) ≡ every test (entries p)
every_again m test same p kept = ap (every test) (entries_again m p) ∙ every_all m test same (entries p) kept

pub rights_again : (m : List ℕ) (p : Path) → All (Kept m) (entries p) → rights (reread m p) ≡ rights p
rights_again m p kept =
    λ i. number (every_again m (λ (v : ℕ). bit v 1) (λ v v' g. bit_low v v' 1 g (lit≤ tt)) p kept i) (every_again m (λ (v : ℕ). bit v 2) (λ v v' g. bit_low v v' 2 g (lit≤ tt)) p kept i)
    (every_again m (λ (v : ℕ). not (bit v 63)) (λ v v' g. ap not (bit_high v v' 63 g (lit≤ tt))) p kept i)
