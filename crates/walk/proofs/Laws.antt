-- The recursion's laws: one for each way that a level ends, in plain variables.
use Prim.Native.Nat.{ℕ, suc, ◌+◌, ◌-◌, ◌*◌, ◌≤◌}
use native.Mathlib.Nat.{add-zero}
use native.Mathlib.Omega.{arith}
use mathlib.Core.Path.{◌≡◌, refl, ap, ap₂, sym, ◌∙◌}
use mathlib.Core.Bool.{Bool, true, false, not, ◌&&◌, cond}
use mathlib.Core.List.{List}
use lib.Bits.{bit_and}
use Rattle.word.specs.Bits.{bit}
use Rattle.word.specs.Bytes.{load, inside, loaded}
use Rattle.address.specs.declared.PhysAddr.{PhysAddr}
use Rattle.address.specs.declared.VirtAddr.{VirtAddr}
use Rattle.address.specs.Address.{index}
use Rattle.entry.specs.declared.Says.{Says}
use Rattle.entry.specs.Mark.{mark}
use Rattle.entry.specs.Rights.{number, own, allow}
use Rattle.entry.proofs.Meeting.{meet, and_assoc}
use Rattle.walk.specs.declared.Cause.{Cause}
use Rattle.walk.specs.declared.Cause.TheVariants.{Missing, Reserved, Rights}
use Rattle.walk.specs.declared.Mapping.{Mapping}
use Rattle.walk.specs.Answers.{Walked}
use Rattle.walk.specs.declared.Unmapped.{Unmapped}
use Rattle.walk.specs.declared.Unmapped.TheVariants.{Refused, Outside}
use Rattle.walk.specs.Descent.{ended_below, walked_below, at_page, higher, path_below, entry_at, IsEnd, Descends}
use Rattle.walk.specs.declared.descend.Sought.{Sought}
use Rattle.walk.specs.Path.{Path, End, Entry, ends, next, outside, missing, reserved, page, onward, level, path, entries, end_of, reads, rights, report, every, marks}
use Rattle.walk.specs.Walk.{after}
use Rattle.std.specs.Prelude.{Ok, Err, Some, None}

-- a case split that keeps its equation
pub by_cases {ℓ} : {X : Type ℓ} (b : Bool) → (b ≡ true → X) → (b ≡ false → X) → X
by_cases true f g = f refl
by_cases false f g = g refl

and_true : (b : Bool) → (b && true) ≡ b
and_true true = refl
and_true false = refl

ap₃ {ℓ} : {A B : Type ℓ} (f : A → A → A → B) {a b c d e g : A} → a ≡ b → c ≡ d → e ≡ g → f a c e ≡ f b d g
ap₃ f p q r = λ i. f (p i) (q i) (r i)

-- a level from 1 on, as a successor
whole : (n : ℕ) → 1 ≤ n → n ≡ suc (n - 1)
whole n h = omega arith

-- one level of a path, whatever an entry tells
module _ (tell : ℕ → ℕ → Says) (m : List ℕ) (va : VirtAddr) (n l base : ℕ) (is : n ≡ suc l) where
  -- the address of the entry at this level
  abbrev pub at : ℕ
  at = base + 8 * index va n

  -- a path from a level on, with that level's step outermost
  unroll : path tell m va n base ≡ level tell m n at (λ (table : ℕ). path tell m va l table)
  unfolding path
  unroll = rw is refl

  -- a path whose next entry is outside memory ends there
  pub path_outside : loaded m at ≡ None → path tell m va n base ≡ ends (outside n at)
  path_outside h = by_cases (inside m at) (λ e. cc) (λ e. unroll ∙ rw e refl)

  -- a path whose next entry is a number goes on as that tells
  pub path_value : (v : ℕ) → loaded m at ≡ Some v
      → path tell m va n base ≡ onward (tell n v) (record { level = n; address = at; value = v }) (λ (table : ℕ). path tell m va l table)
  path_value v h = by_cases (inside m at) (λ e. let same : load 8 m at ≡ v = cc in unroll ∙ rw (e, same) refl) (λ e. cc)

-- the rights of a path from an entry on: that entry's, met with the rest's
pub rights_next : (e : Entry) (p : Path) → rights (next e p) ≡ bit_and (own e.value) (rights p)
unfolding entries every
rights_next e p =
    sym (meet (bit e.value 1) (bit e.value 2) (not (bit e.value 63)) (every (λ (v : ℕ). bit v 1) (entries p))
    (every (λ (v : ℕ). bit v 2) (entries p)) (every (λ (v : ℕ). not (bit v 63)) (entries p)))

-- the rights of a lone last entry are its own
pub rights_last : (e : Entry) (base : ℕ) → rights (ends (page e base)) ≡ own e.value
unfolding entries every
rights_last e base = ap₃ number (and_true (bit e.value 1)) (and_true (bit e.value 2)) (and_true (not (bit e.value 63)))

-- an answer on its way back past an entry
abbrev pub lift : ℕ → ℕ → ℕ → Walked → Walked
lift need own n (Ok found) = Ok found
lift need own n (Err why) = Err (higher need own n why)

lift_cond : (need own n : ℕ) (b : Bool) (x y : Walked) → lift need own n (cond b x y) ≡ cond b (lift need own n x) (lift need own n y)
lift_cond need own n true x y = refl
lift_cond need own n false x y = refl

-- entries read above, one level further down
count_next : (n l r : ℕ) → n ≡ suc l → n ≤ 4 → (4 - n) + suc r ≡ (4 - l) + r
count_next n l r is most = omega arith

-- an end seen from an entry above it
end_next : (need held n l : ℕ) (e : Entry) (p : Path) → n ≡ suc l → n ≤ 4 → e.level ≡ n → (x : End)
    → ended_below need held (4 - n) (next e p) x
    ≡ lift need (own e.value) n (ended_below need (bit_and held (own e.value)) (4 - l) p x)
unfolding ended_below entries report
end_next need held n l e p is most here (outside k a) = ap (λ (c : ℕ). Err (Outside (record { 0 = a }) k c)) (count_next n l (reads p) is most)
end_next need held n l e p is most here (missing f) = ap (λ (c : ℕ). Err (Refused (Missing f.level) c)) (count_next n l (reads p) is most)
end_next need held n l e p is most here (reserved f) = ap (λ (c : ℕ). Err (Refused (Reserved f.level) c)) (count_next n l (reads p) is most)
end_next need held n l e p is most here (page f b) =
    ap₃ last (ap (bit_and held) (rights_next e p) ∙ sym (and_assoc held (own e.value) (rights p))) (count_next n l (reads p) is most) here
    ∙ sym (lift_cond need (own e.value) n (allow need (bit_and (bit_and held (own e.value)) (rights p)))
    (Ok (record {
      base = record { 0 = b };
      last = f.value;
      rights = bit_and (bit_and held (own e.value)) (rights p);
      size = f.level;
      reads = (4 - l) + reads p;
    }))
    (Err (Refused (Rights (report need (entries p))) ((4 - l) + reads p))))
  where
    last : ℕ → ℕ → ℕ → Walked
    last met count lacking =
        cond (allow need met)
        (Ok (record { base = record { 0 = b }; last = f.value; rights = met; size = f.level; reads = count }))
        (Err (Refused (Rights (cond (allow need (own e.value)) (report need (entries p)) lacking)) count))

-- the answer from an entry on is the answer of the rest, on its way back
pub below_next : (need held n l : ℕ) (e : Entry) (p : Path) → n ≡ suc l → n ≤ 4 → e.level ≡ n
    → walked_below need held (4 - n) (next e p) ≡ lift need (own e.value) n (walked_below need (bit_and held (own e.value)) (4 - l) p)
unfolding end_of
below_next need held n l e p is most here = end_next need held n l e p is most here (end_of p)

-- the answer at a page
pub below_page : (need held n : ℕ) (v at : ℕ) (b : PhysAddr) → n ≤ 4
    → at_page need held n v b ≡ walked_below need held (4 - n) (ends (page (record { level = n; address = at; value = v }) b.0))
unfolding ended_below end_of entries report
below_page need held n v at b most =
    λ i. cond (allow need (bit_and held (lone i)))
    (Ok (record { base = b; last = v; rights = bit_and held (lone i); size = n; reads = count i }))
    (Err (Refused (Rights (cond (allow need (own v)) 0 n)) (count i)))
  where
    lone : own v ≡ rights (ends (page (record { level = n; address = at; value = v }) b.0))
    lone = sym (rights_last (record { level = n; address = at; value = v }) b.0)

    count : 4 + 1 - n ≡ (4 - n) + 1
    count = omega arith

-- a walk that finds no page leaves memory as it was
pub after_err : (write : Bool) (p : Path) (m : List ℕ) (why : Unmapped) → after write p m (Err why) ≡ m
unfolding after
after_err write p m (Refused cause n) = refl
after_err write p m (Outside a l n) = refl

after_cond : (write : Bool) (p : Path) (m : List ℕ) (ok : Bool) (f : Mapping) (cause : Cause) (k : ℕ)
    → after write p m (cond ok (Ok f) (Err (Refused cause k))) ≡ cond ok (marks write p m) m
unfolding after
after_cond write p m true f cause k = refl
after_cond write p m false f cause k = refl

-- the ends of a level, whatever an entry tells
module _ (tell : ℕ → ℕ → Says) (s : Sought) (held : ℕ) (n : ℕ) (from : 1 ≤ n) (most : n ≤ 4) (b : PhysAddr) (m : List ℕ) where
  -- the path from here
  abbrev here : Path
  here = path_below tell s m n b

  -- the entry's address, and the entry
  abbrev spot : ℕ
  spot = b.0 + 8 * index s.address n

  abbrev this : ℕ → Entry
  this v = record { level = n; address = spot; value = v }

  pub ret_outside : (why : Unmapped) → entry_at m s.address n b ≡ Err why → (r : Walked) → r ≡ Err why → Descends tell s held n b m r m
  unfolding after ended_below end_of entries
  ret_outside why h r is_err =
      by_cases (inside m spot) (λ e. cc)
      (λ e. let same : why ≡ Outside (record { 0 = spot }) n (4 - n) = cc in
      let on : here ≡ ends (outside n spot) = path_outside tell m s.address n (n - 1) b.0 (whole n from) (rw e refl) in
      (rw (is_err, on, add-zero (4 - n), same), rw is_err (sym (after_err s.write here m why))))

  -- what was read
  module _ (at : PhysAddr) (v : ℕ) (h : entry_at m s.address n b ≡ Ok (at, v)) where
    read : (loaded m spot ≡ Some v) × (at ≡ record { 0 = spot })
    read =
        by_cases (inside m spot)
        (λ e. let same : ◌≡◌ {A = PhysAddr × ℕ} (record { 0 = spot }, load 8 m spot) (at, v) = cc in
        (rw e (ap (λ (z : PhysAddr × ℕ). Some z.1) same), sym (ap (λ (z : PhysAddr × ℕ). z.0) same)))
        (λ e. (cc, cc))

    found : here ≡ onward (tell n v) (this v) (λ (table : ℕ). path tell m s.address (n - 1) table)
    found = path_value tell m s.address n (n - 1) b.0 (whole n from) v read.0

    pub ret_missing : tell n v ≡ Says.Missing
        → Descends tell s held n b m (Err (Refused (Missing n) (4 - n + 1))) m
    unfolding after ended_below end_of entries
    ret_missing says = (rw (found, says), refl)

    pub ret_reserved : tell n v ≡ Says.Reserved
        → Descends tell s held n b m (Err (Refused (Reserved n) (4 - n + 1))) m
    unfolding after ended_below end_of entries
    ret_reserved says = (rw (found, says), refl)

    pub ret_page : (p : PhysAddr) → tell n v ≡ Says.Page p → (r : Walked) (m' : List ℕ) → IsEnd s held n v at p m r m'
        → Descends tell s held n b m r m'
    unfolding after marks
    ret_page p says r m' ended = (
      ended.0 ∙ below_page s.needed held n v spot p most ∙ ap (walked_below s.needed held (4 - n)) (sym on),
      ended.1
          ∙ ap (λ (z : PhysAddr). cond (allow s.needed (bit_and held (own v))) (mark s.write m z.0) m) read.1
          ∙ ap (λ (z : Path). cond (allow s.needed (bit_and held (own v))) (marks s.write z m) m) (sym on)
          ∙ sym (after_cond s.write here m (allow s.needed (bit_and held (own v)))
          (record { base = p; last = v; rights = bit_and held (own v); size = n; reads = 4 + 1 - n })
          (Rights (cond (allow s.needed (own v)) 0 n)) (4 + 1 - n))
          ∙ ap (after s.write here m) (sym ended.0),
    )
      where
        on : here ≡ ends (page (this v) p.0)
        on = found ∙ ap (λ (z : Says). onward z (this v) (λ (table : ℕ). path tell m s.address (n - 1) table)) says

    -- what the rest answered, on its way back
    module _ (t : PhysAddr) (says : tell n v ≡ Says.Table t) (o : ℕ) (the_own : o ≡ own v) (w : Walked) (m' : List ℕ)
        (below : Descends tell s (bit_and held o) (n - 1) t m w m') where
      on : here ≡ next (this v) (path_below tell s m (n - 1) t)
      on = found ∙ ap (λ (z : Says). onward z (this v) (λ (table : ℕ). path tell m s.address (n - 1) table)) says

      back : walked_below s.needed held (4 - n) here ≡ lift s.needed o n w
      back =
          ap (walked_below s.needed held (4 - n)) on
          ∙ below_next s.needed held n (n - 1) (this v) (path_below tell s m (n - 1) t) (whole n from) most refl
          ∙ ap (λ (z : ℕ). lift s.needed z n (walked_below s.needed (bit_and held z) (4 - (n - 1)) (path_below tell s m (n - 1) t))) (sym the_own)
          ∙ ap (lift s.needed o n) (sym below.0)

      pub ret_mapped : (f : Mapping) → w ≡ Ok f → (m'' : List ℕ) → m'' ≡ mark false m' at.0 → Descends tell s held n b m (Ok f) m''
      unfolding after marks
      ret_mapped f is_mapped m'' the-mark = (
        sym (back ∙ ap (lift s.needed o n) is_mapped),
        the-mark
            ∙ ap₂ (mark false) (below.1 ∙ ap (after s.write (path_below tell s m (n - 1) t) m) is_mapped) (ap (λ (z : PhysAddr). z.0) read.1)
            ∙ ap (λ (z : Path). marks s.write z m) (sym on),
      )

      pub ret_unmapped : (why : Unmapped) → w ≡ Err why → (higher_why : Unmapped) → higher_why ≡ higher s.needed o n why
          → Descends tell s held n b m (Err higher_why) m'
      unfolding after
      ret_unmapped why is_unmapped higher_why same = (
        ap (λ (z : Unmapped). Err z) same ∙ sym (back ∙ ap (lift s.needed o n) is_unmapped),
        below.1
            ∙ ap (after s.write (path_below tell s m (n - 1) t) m) is_unmapped
            ∙ after_err s.write (path_below tell s m (n - 1) t) m why
            ∙ sym (after_err s.write here m higher_why),
      )
