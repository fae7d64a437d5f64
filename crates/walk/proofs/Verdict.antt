-- What is answered at each end of a path, and what follows from each answer.
use Prim.Native.Nat.{ℕ, ◌+◌, ◌-◌, ◌/◌, ◌^◌, ◌≤◌, ◌<◌}
use native.Mathlib.Nat.{mod-lt, lt_of_lt_of_le, sub-add_cancel}
use native.Mathlib.Decide.{ℕ_discrete}
use native.Mathlib.Omega.{arith}
use mathlib.Core.Path.{◌≡◌, refl, ap, ap₂, sym, ◌∙◌, subst}
use mathlib.Core.Bool.{Bool, true, false, cond, false≢true}
use mathlib.Core.List.{List}
use mathlib.Core.Option.{Option, some, none}
use borrow.Author.Tests.{lt-leb, ne_eqb}
use lib.Dec.{eqb, leb}
use lib.ListN.{length}
use lib.Pow.{pow_pos, pow_mono, shl_lt}
use Rattle.word.specs.Bits.{bit}
use Rattle.settings.specs.declared.Settings.{Settings}
use Rattle.address.specs.declared.PhysAddr.{PhysAddr}
use Rattle.address.specs.declared.VirtAddr.{VirtAddr}
use Rattle.address.specs.Address.{offset, page_bits}
use Rattle.address.proofs.Laws.{plus_plain}
use Rattle.entry.specs.Memory.{memory_type}
use Rattle.entry.specs.Says.{is_page, page_base}
use Rattle.walk.specs.declared.Way.{Way}
use Rattle.walk.specs.declared.Translation.{Translation}
use Rattle.walk.specs.declared.Refusal.{Refusal}
use Rattle.walk.specs.Answers.{Answer, Walked}
use Rattle.walk.specs.declared.Cause.TheVariants.{Rights}
use Rattle.walk.specs.declared.Unmapped.TheVariants.{Refused, Outside}
use Rattle.walk.specs.Access.{needed, needs_fetch, writes}
use Rattle.walk.specs.Demand2.{first, last, stops, lacks, all_inside, type_of, given}
use Rattle.walk.specs.Path.{Path, End, Entry, outside, missing, reserved, page, entries, end_of, reads, rights, marks}
use Rattle.walk.specs.Translate.{answered, code_of}
use Rattle.walk.specs.Walk.{ended, after}
use Rattle.walk.proofs.Lacking.{is_none, level_of, allowed, reported}
use Rattle.walk.proofs.Marking.{marks_length}
use Rattle.walk.proofs.Sound.{SoundEnd, stopping, ending}
use Rattle.std.specs.Prelude.{Ok, Err}

-- the base of a page lies below 2^52
base_small : (l v : ℕ) → l ≤ 4 → (page_base l v).0 < 2 ^ 52
base_small l v low =
    subst (λ (n : ℕ). (page_base l v).0 < 2 ^ n) (sub-add_cancel {n = 52} {m = page_bits l} (omega arith))
    (shl_lt (52 - page_bits l) (page_bits l) (mod-lt (v / 2 ^ page_bits l) (pow_pos (52 - page_bits l))))

-- the offset lies below the page's size
offset_small : (va : VirtAddr) (l : ℕ) → offset va l < 2 ^ page_bits l
offset_small va l = mod-lt va.0 (pow_pos (page_bits l))

-- base and offset add as plain numbers
sum_small : (va : VirtAddr) (l v : ℕ) → l ≤ 4 → (page_base l v).0 + offset va l < 2 ^ 64
sum_small va l v low =
    let top : offset va l < 2 ^ 52 = lt_of_lt_of_le (offset_small va l) (pow_mono {i = page_bits l} {j = 52} (omega arith)) in
    omega (arith, base_small l v low)

-- the memory type of an entry that maps a page, in demand 2's words
type_of_lem : (e : Entry) → 1 ≤ e.level → is_page e.level e.value ≡ true → memory_type e.level e.value ≡ type_of e
type_of_lem e low is = rw (is, at_one)
  where
    at_one : leb e.level 1 ≡ eqb e.level 1
    at_one = go (ℕ_discrete e.level 1)
      where
        go : Dec (e.level ≡ 1) → leb e.level 1 ≡ eqb e.level 1
        go (yes same) = rw same
        go (no other) = lt-leb e.level 1 (omega arith) ∙ sym (ne_eqb e.level 1 other)

module _ (s : Settings) (va : VirtAddr) (a : Way) (m : List ℕ) (p : Path) where
  -- the answer along the path
  abbrev pub reply : Answer
  reply = answered s va a (ended (needed s a) p (end_of p))

  -- what a page at a base gives
  abbrev found : Entry → ℕ → Translation
  found e base =
      record { address = record { 0 = base + offset va e.level }; size = e.level; memory_type = memory_type e.level e.value; reads = length (entries p) }

  -- what is answered at an end, where the first entry that lacks a right is known
  abbrev pub verdict : End → Option Entry → Answer
  verdict (outside l at) o = Err (Refusal.Outside (record { 0 = at }) l (length (entries p)))
  verdict (missing e) o = Err (Refusal.Fault (code_of false (writes a) a.user false (needs_fetch s a)) e.level (length (entries p)))
  verdict (reserved e) o = Err (Refusal.Fault (code_of true (writes a) a.user true (needs_fetch s a)) e.level (length (entries p)))
  verdict (page e base) none = Ok (found e base)
  verdict (page e base) (some f) = Err (Refusal.Fault (code_of true (writes a) a.user false (needs_fetch s a)) f.level (length (entries p)))

  -- the answer at a page
  at_page_lem : (e : Entry) (base : ℕ) → base + offset va e.level < 2 ^ 64 → (o : Option Entry)
      → answered s va a (cond (is_none o)
      (Ok (record { base = record { 0 = base }; last = e.value; rights = rights p; size = e.level; reads = reads p }))
      (Err (Refused (Rights (level_of o)) (reads p))))
      ≡ verdict (page e base) o
  at_page_lem e base fits none =
      ap (λ (x : PhysAddr). Ok (record { address = x; size = e.level; memory_type = memory_type e.level e.value; reads = reads p }))
      (plus_plain (record { 0 = base }) (offset va e.level) fits)
  at_page_lem e base fits (some f) = refl

  pub at_ending : (k : ℕ) (x : End) → k ≤ 4 → SoundEnd s m k x → answered s va a (ended (needed s a) p x) ≡ verdict x (first (lacks s a) (entries p))
  unfolding ended
  at_ending k (outside l at) low h = refl
  at_ending k (missing e) low h = refl
  at_ending k (reserved e) low h = refl
  at_ending k (page e base) low h =
      ap₂ (λ (ok : Bool) (l : ℕ). answered s va a (cond ok
      (Ok (record { base = record { 0 = base }; last = e.value; rights = rights p; size = e.level; reads = reads p }))
      (Err (Refused (Rights l) (reads p)))))
      (allowed s a (entries p)) (reported s a (entries p))
      ∙ at_page_lem e base
      (subst (λ (n : ℕ). n + offset va e.level < 2 ^ 64) (sym h.4) (sum_small va e.level e.value (omega (arith, h.1))))
      (first (lacks s a) (entries p))

  -- an address with what is known of it
  abbrev pub Address : Type 0
  Address =
      (e : Entry)
      × (last (entries p) ≡ some e)
      × ((page_base e.level e.value).0 < 2 ^ 52)
      × (offset va e.level < 2 ^ page_bits e.level)
      × (reply ≡ Ok (given e va (length (entries p))))

  -- two different answers
  apart {ℓ} : {X : Type ℓ} → ◌≡◌ {A = ℕ} 0 1 → X
  apart z = absurd (omega arith)

  -- an address is given where it is due
  pub address : (x : End) (k : ℕ) → k ≤ 4 → SoundEnd s m k x → first (stops s) (entries p) ≡ stopping s m x
      → (all_inside x ≡ true → last (entries p) ≡ ending x) → reply ≡ verdict x none
      → all_inside x ≡ true → first (stops s) (entries p) ≡ none → Address
  address (outside l at) k low h stop end told whole clear = absurd (false≢true whole)
  address (missing e) k low h stop end told whole clear = apart (cc)
  address (reserved e) k low h stop end told whole clear = apart (cc)
  address (page e base) k low h stop end told whole clear = (
    e,
    end refl,
    base_small e.level e.value (omega (arith, h.1)),
    offset_small va e.level,
    told
        ∙ ap₂ (λ (b n : ℕ). Ok (record { address = record { 0 = b + offset va e.level }; size = e.level; memory_type = n; reads = length (entries p) }))
        h.4 (type_of_lem e (omega (arith, h.1)) h.5),
  )

  -- an address is given only there
  pub only : (x : End) (o : Option Entry) → first (stops s) (entries p) ≡ stopping s m x → first (lacks s a) (entries p) ≡ o
      → reply ≡ verdict x o → (t : Translation) → reply ≡ Ok t
      → (all_inside x ≡ true) × (first (stops s) (entries p) ≡ none) × (first (lacks s a) (entries p) ≡ none)
  only (outside l b) o stop lack told t done = apart (cc)
  only (missing e) o stop lack told t done = apart (cc)
  only (reserved e) o stop lack told t done = apart (cc)
  only (page e base) none stop lack told t done = (refl, stop, lack)
  only (page e base) (some f) stop lack told t done = apart (cc)

  -- the first entry that stops, where P is clear
  pub missing_first : (x : End) (o : Option Entry) (k : ℕ) → SoundEnd s m k x → first (stops s) (entries p) ≡ stopping s m x
      → (all_inside x ≡ true → last (entries p) ≡ ending x) → reply ≡ verdict x o
      → (e : Entry) → first (stops s) (entries p) ≡ some e → bit e.value 0 ≡ false
      → (last (entries p) ≡ some e)
      × (reply ≡ Err (Refusal.Fault (code_of false (writes a) a.user false (needs_fetch s a)) e.level (length (entries p))))
  missing_first (outside l at) o k h stop end told e found clear = apart (cc)
  missing_first (missing f) o k h stop end told e found clear =
      let same : f ≡ e = cc in
      (end refl ∙ ap some same, told ∙ ap (λ (g : Entry). Err (Refusal.Fault (code_of false (writes a) a.user false (needs_fetch s a)) g.level (length (entries p)))) same)
  missing_first (reserved f) o k h stop end told e found clear =
      let same : f ≡ e = cc in
      absurd (false≢true (sym clear ∙ ap (λ (g : Entry). bit g.value 0) (sym same) ∙ h.3))
  missing_first (page f base) o k h stop end told e found clear = apart (cc)

  -- the first entry that stops, where P is set
  pub reserved_first : (x : End) (o : Option Entry) (k : ℕ) → SoundEnd s m k x → first (stops s) (entries p) ≡ stopping s m x
      → (all_inside x ≡ true → last (entries p) ≡ ending x) → reply ≡ verdict x o
      → (e : Entry) → first (stops s) (entries p) ≡ some e → bit e.value 0 ≡ true
      → (last (entries p) ≡ some e)
      × (reply ≡ Err (Refusal.Fault (code_of true (writes a) a.user true (needs_fetch s a)) e.level (length (entries p))))
  reserved_first (outside l at) o k h stop end told e found present = apart (cc)
  reserved_first (missing f) o k h stop end told e found present =
      let same : f ≡ e = cc in
      absurd (false≢true (sym h.3 ∙ ap (λ (g : Entry). bit g.value 0) same ∙ present))
  reserved_first (reserved f) o k h stop end told e found present =
      let same : f ≡ e = cc in
      (end refl ∙ ap some same, told ∙ ap (λ (g : Entry). Err (Refusal.Fault (code_of true (writes a) a.user true (needs_fetch s a)) g.level (length (entries p)))) same)
  reserved_first (page f base) o k h stop end told e found present = apart (cc)

  -- the first entry that lacks a right
  pub lacking_first : (x : End) → first (stops s) (entries p) ≡ stopping s m x → (e : Entry) → reply ≡ verdict x (some e)
      → all_inside x ≡ true → first (stops s) (entries p) ≡ none
      → reply ≡ Err (Refusal.Fault (code_of true (writes a) a.user false (needs_fetch s a)) e.level (length (entries p)))
  lacking_first (outside l at) stop e told whole clear = absurd (false≢true whole)
  lacking_first (missing f) stop e told whole clear = apart (cc)
  lacking_first (reserved f) stop e told whole clear = apart (cc)
  lacking_first (page f base) stop e told whole clear = told

  -- memory after an answer
  pub marked : (w : Walked) (t : Translation) → answered s va a w ≡ Ok t → after (writes a) p m w ≡ marks (writes a) p m
  unfolding after
  marked (Ok f) t done = refl
  marked (Err (Refused cause r)) t done = apart (cc)
  marked (Err (Outside b l r)) t done = apart (cc)

  pub unmarked : (w : Walked) → ((t : Translation) → answered s va a w ≡ Ok t → ⊥) → after (writes a) p m w ≡ m
  unfolding after
  unmarked (Ok f) never = absurd (never _ refl)
  unmarked (Err (Refused cause r)) never = refl
  unmarked (Err (Outside b l r)) never = refl

  pub same_length : (w : Walked) → length (after (writes a) p m w) ≡ length m
  unfolding after
  same_length (Ok f) = marks_length (writes a) p m
  same_length (Err (Refused cause r)) = refl
  same_length (Err (Outside b l r)) = refl

  -- a success ends at a page
  pub page_end : (x : End) (o : Option Entry) → reply ≡ verdict x o → (t : Translation) → reply ≡ Ok t
      → (e : Entry) × (base : ℕ) × (x ≡ page e base)
  page_end (outside l b) o told t done = apart (cc)
  page_end (missing e) o told t done = apart (cc)
  page_end (reserved e) o told t done = apart (cc)
  page_end (page e base) o told t done = (e, base, refl)

  -- the entries read that an answer reports
  abbrev pub count : Answer → ℕ
  count (Ok t) = t.reads
  count (Err Refusal.Unknown) = 0
  count (Err (Refusal.NotServed why)) = 0
  count (Err Refusal.Form) = 0
  count (Err (Refusal.Outside at l n)) = n
  count (Err (Refusal.Fault c l n)) = n
  count (Err Refusal.SpaceNumber) = 0

  pub counted : (x : End) (o : Option Entry) → reply ≡ verdict x o → count reply ≡ length (entries p)
  counted (outside l b) o told = ap count told
  counted (missing e) o told = ap count told
  counted (reserved e) o told = ap count told
  counted (page e base) none told = ap count told
  counted (page e base) (some f) told = ap count told

  -- an answer other than 4 met no entry outside
  pub fault_inside : (x : End) (o : Option Entry) → reply ≡ verdict x o → (c l n : ℕ) → reply ≡ Err (Refusal.Fault c l n) → all_inside x ≡ true
  fault_inside (outside l b) o told c k n fault = apart (cc)
  fault_inside (missing e) o told c k n fault = refl
  fault_inside (reserved e) o told c k n fault = refl
  fault_inside (page e base) o told c k n fault = refl

  pub outside_only : (x : End) (o : Option Entry) → reply ≡ verdict x o → (at : PhysAddr) (l n : ℕ) → reply ≡ Err (Refusal.Outside at l n) → all_inside x ≡ false
  outside_only (outside l b) o told at k n out = refl
  outside_only (missing e) o told at k n out = apart (cc)
  outside_only (reserved e) o told at k n out = apart (cc)
  outside_only (page e base) none told at k n out = apart (cc)
  outside_only (page e base) (some f) told at k n out = apart (cc)
