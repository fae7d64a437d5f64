-- Demand 2, for every settings, address, access and memory.
use Prim.Native.Nat.{ℕ, ◌+◌, ◌≤◌, ◌<◌}
use native.Mathlib.Omega.{arith}
use mathlib.Core.Path.{◌≡◌, refl, ap, sym, ◌∙◌, subst}
use mathlib.Core.Bool.{Bool, true, false, ◌||◌, cond}
use mathlib.Core.List.{List}
use mathlib.Core.Option.{Option, some, none}
use lib.ListN.{length, get_or}
use Rattle.word.specs.Bits.{bit}
use Rattle.settings.specs.declared.Settings.{Settings}
use Rattle.settings.specs.Settings.{root}
use Rattle.address.specs.declared.VirtAddr.{VirtAddr}
use Rattle.walk.specs.declared.Access.{Access}
use Rattle.walk.specs.declared.Access.TheVariants.{Read, Write, Fetch}
use Rattle.walk.specs.declared.Way.{Way}
use Rattle.walk.specs.declared.Asked.TheVariants as Asked
use Rattle.walk.specs.declared.Refusal.{Refusal}
use Rattle.walk.specs.Answers.{Answer}
use Rattle.walk.specs.Access.{known, way_of, needed, writes}
use Rattle.walk.specs.Demand2.{first, stops, lacks, all_inside, access_number, mode_number, Gives, Refuses, Marks, Counts, Demand2, Walks}
use Rattle.walk.specs.Path.{Path, End, Entry, page, entries, end_of}
use Rattle.walk.specs.Translate.{asked, fresh, fresh_memory, translated, translated_memory}
use Rattle.walk.specs.Walk.{ended, walk_path}
use Rattle.walk.proofs.Asking.{served_is}
use Rattle.walk.proofs.Codes.{missing_code, reserved_code, rights_code}
use Rattle.walk.proofs.Marking.{marks_bit, due_access}
use Rattle.walk.proofs.Sound.{Sound, SoundEnd, sound, stopping, first_stop, at_end, at_most, at_least, last_read, follows}
use Rattle.walk.proofs.Verdict as verdict
use Rattle.std.specs.Prelude.{Ok, Err}

module _ (s : Settings) (va : VirtAddr) (a : Way) (m : List ℕ) where
  -- the path, its end, and the first entry that lacks a right
  abbrev p : Path
  p = walk_path s va m

  abbrev x : End
  x = end_of p

  abbrev o : Option Entry
  o = first (lacks s a) (entries p)

  ok : Sound s m 4 p
  ok = sound s m va 3 (root s).0

  its_end : (k : ℕ) × (k ≤ 4) × SoundEnd s m k x
  its_end = at_end s m 4 p ok

  stop : first (stops s) (entries p) ≡ stopping s m x
  stop = first_stop s m 4 p ok

  told : verdict.reply s va a m p ≡ verdict.verdict s va a m p x o
  told = verdict.at_ending s va a m p its_end.0 x its_end.1 its_end.2

  -- the answer where the first entry that lacks a right is given
  told_with : (q : Option Entry) → o ≡ q → verdict.reply s va a m p ≡ verdict.verdict s va a m p x q
  told_with q is = told ∙ ap (verdict.verdict s va a m p x) is

  gives : Gives s va a m
  gives = record {
    where_due = λ whole clear allowed. verdict.address s va a m p x its_end.0 its_end.1 its_end.2 stop (last_read p) (told_with none allowed) whole clear;
    only_there = λ t done. verdict.only s va a m p x o stop refl told t done;
  }

  -- a fault at an entry, where the code is another's
  fault : (e : Entry) {c d : ℕ} → c ≡ d → ◌≡◌ {A = Answer} (Err (Refusal.Fault c e.level (length (entries p)))) (Err (Refusal.Fault d e.level (length (entries p))))
  fault e same = ap (λ (c : ℕ). Err (Refusal.Fault c e.level (length (entries p)))) same

  refuses : Refuses s va a m
  refuses = record {
    at_outside = λ l at is. (
      (subst (SoundEnd s m its_end.0) is its_end.2).2,
      stop ∙ ap (stopping s m) is,
      told ∙ ap (λ (y : End). verdict.verdict s va a m p y o) is,
    );
    at_missing = λ e found clear.
        let first_one = verdict.missing_first s va a m p x o its_end.0 its_end.2 stop (last_read p) told e found clear in
        (first_one.0, first_one.1 ∙ fault e (missing_code s a));
    at_reserved = λ e found present.
        let first_one = verdict.reserved_first s va a m p x o its_end.0 its_end.2 stop (last_read p) told e found present in
        (first_one.0, first_one.1 ∙ fault e (reserved_code s a));
    at_rights = λ whole clear e found. verdict.lacking_first s va a m p x stop e (told_with (some e) found) whole clear ∙ fault e (rights_code s a);
  }

  marks : Marks s va a m
  marks = record {
    on_success = λ t done i k.
        let end : (e : Entry) × (base : ℕ) × (x ≡ page e base) = verdict.page_end s va a m p x o told t done in
        ap (λ (z : List ℕ). bit (get_or z i 0) k) (verdict.marked s va a m p (ended (needed s a) p x) t done)
        ∙ marks_bit s m (writes a) i k 4 p ok end.0 end.1 end.2
        ∙ ap (λ (b : Bool). bit (get_or m i 0) k || b) (due_access a.access (entries p) i k);
    on_refusal = λ never. verdict.unmarked s va a m p (ended (needed s a) p x) never;
    no_longer = verdict.same_length s va a m p (ended (needed s a) p x);
  }

  counted : (z : Answer) → verdict.reply s va a m p ≡ z → verdict.count s va a m p z ≡ length (entries p)
  counted z is = ap (verdict.count s va a m p) (sym is) ∙ verdict.counted s va a m p x o told

  most : length (entries p) + cond (all_inside x) 0 1 ≤ 4
  most = at_most s m 4 p ok

  within : (n : ℕ) → n ≡ length (entries p) → all_inside x ≡ true → (n ≡ length (entries p)) × (1 ≤ n) × (n ≤ 4)
  within n is whole =
      let few : length (entries p) + 0 ≤ 4 = subst (λ (b : Bool). length (entries p) + cond b 0 1 ≤ 4) whole most in
      let one : 1 ≤ length (entries p) = at_least p whole in
      (is, omega arith, omega arith)

  fewer : (n : ℕ) → n ≡ length (entries p) → all_inside x ≡ false → (n ≡ length (entries p)) × (n < 4)
  fewer n is part =
      let few : length (entries p) + 1 ≤ 4 = subst (λ (b : Bool). length (entries p) + cond b 0 1 ≤ 4) part most in
      (is, omega arith)

  counts : Counts s va a m
  counts = record {
    of_address = λ t done. within t.reads (counted (Ok t) done) (verdict.only s va a m p x o stop refl told t done).0;
    of_fault = λ code l n fault. within n (counted (Err (Refusal.Fault code l n)) fault) (verdict.fault_inside s va a m p x o told code l n fault);
    of_outside = λ at l n out. fewer n (counted (Err (Refusal.Outside at l n)) out) (verdict.outside_only s va a m p x o told at l n out);
  }

pub demand2 : (s : Settings) (address : VirtAddr) (a : Way) (memory : List ℕ) → Demand2 s address a memory
demand2 s address a memory = record {
  reads = follows s memory address 3 (root s).0;
  gives = gives s address a memory;
  refuses = refuses s address a memory;
  marks = marks s address a memory;
  counts = counts s address a memory;
}

-- the numbers of a way are known, and are its numbers
known_way : (x : Access) (user : Bool) → known (access_number x) (mode_number user) ≡ true
known_way Read true = refl
known_way Read false = refl
known_way Write true = refl
known_way Write false = refl
known_way Fetch true = refl
known_way Fetch false = refl

way_of_lem : (x : Access) (user : Bool) → way_of (access_number x) (mode_number user) ≡ record { access = x; user = user }
way_of_lem Read true = refl
way_of_lem Read false = refl
way_of_lem Write true = refl
way_of_lem Write false = refl
way_of_lem Fetch true = refl
way_of_lem Fetch false = refl

pub walks : Walks
unfolding translated translated_memory
walks s address a memory on served canonical =
    let tested : asked s address (access_number a.access) (mode_number a.user) ≡ Ok (Asked.On a) = rw (known_way a.access a.user, served_is s served, on, canonical) (ap (λ (w : Way). Ok (Asked.On w)) (way_of_lem a.access a.user)) in
    (ap (fresh s address memory) tested, ap (fresh_memory s address memory) tested)
