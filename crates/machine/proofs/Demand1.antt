-- Demand 1 holds of every call.
use Prim.Native.Nat.{ℕ}
use mathlib.Core.Path.{◌≡◌, refl, sym, subst, ◌∙◌}
use mathlib.Core.Bool.{Bool, true, false, cond, false≢true}
use mathlib.Core.List.{List}
use lib.Dec.{leb}
use Rattle.word.specs.Bytes.{inside, store}
use Rattle.settings.specs.declared.Unserved.TheVariants.{Width, Root, Paging, Extension, Spaces}
use Rattle.settings.specs.Settings.{Service, space_number, judged_from}
use Rattle.address.specs.declared.VirtAddr.{VirtAddr}
use Rattle.address.specs.Address.{tag}
use Rattle.walk.specs.declared.Refusal.{Refusal}
use Rattle.walk.specs.Answers.{Answer}
use Rattle.walk.specs.Translate.{numbers}
use Rattle.cache.specs.declared.Drop.TheVariants.{Page}
use Rattle.cache.specs.Whole.{held, empty_cache, drop_cache}
use Rattle.cache.proofs.Laws.{held_drop}
use Rattle.machine.specs.declared.Call.{Call}
use Rattle.machine.specs.declared.Machine.{Machine}
use Rattle.machine.specs.declared.Stepped.{Stepped}
use Rattle.machine.specs.Calls.{Result, step, stored_result, root_loaded, settings_loaded, page_dropped, all_dropped, invalidated, load_answer, if_served, done, with_cache, with_memory, with_root, root_drop, with_settings, number_served, form_served, kind_drop, refused_with}
use Rattle.machine.specs.Demand1.{Demand1, among, refusals, refused, faulted, drops_asked, leaves}
use Rattle.machine.proofs.Translations.{Goes, goes, quiet, hits, fills}
use Rattle.machine.proofs.Translations as Ways
use Rattle.std.specs.Prelude.{Ok, Err}

-- what a refusal leaves, of a result
record Leaves (m : Machine) (memory : List ℕ) (c : Call) (r : Result) : Type 0 where
  number : among (numbers r.answer).answer refusals ≡ true
  bytes : r.memory ≡ memory
  registers : r.machine.settings ≡ m.settings
  places : (i : ℕ) → held i r.machine.cache ≡ leaves m.settings c r.answer (held i m.cache)
  otherwise : drops_asked c r.answer ≡ false → r.machine ≡ m

-- a refusal's number
named : (r : Answer) → refused r ≡ true → among (numbers r).answer refusals ≡ true
named (Ok t) h = absurd (false≢true h)
named (Err Refusal.Unknown) h = refl
named (Err (Refusal.NotServed Width)) h = refl
named (Err (Refusal.NotServed Root)) h = refl
named (Err (Refusal.NotServed Paging)) h = refl
named (Err (Refusal.NotServed Extension)) h = refl
named (Err (Refusal.NotServed Spaces)) h = refl
named (Err Refusal.Form) h = refl
named (Err (Refusal.Outside at l n)) h = refl
named (Err Refusal.SpaceNumber) h = refl
named (Err (Refusal.Fault code l n)) h = refl

module _ (m : Machine) (memory : List ℕ) where
  -- a refused call that leaves the machine as it was
  unmoved : (c : Call) (r : Answer) → ((i : ℕ) → held i m.cache ≡ leaves m.settings c r (held i m.cache)) → refused r ≡ true
      → Leaves m memory c (record { answer = r; machine = m; memory = memory })
  unmoved c r same h = record { number = named r h; bytes = refl; registers = refl; places = same; otherwise = λ no_drop. refl }

  module _ (address : VirtAddr) (access mode : ℕ) where
    abbrev this : Call
    this = Call.Translate address access mode

    -- a translation whose refusal leaves this
    abbrev Leaving : Result → Type 0
    Leaving r = refused r.answer ≡ true → Leaves m memory this r

    -- a translation that changes nothing
    quietly : (r : Answer) → faulted r ≡ false → refused r ≡ true → Leaves m memory this (record { answer = r; machine = m; memory = memory })
    quietly r no-fault h = unmoved this r (λ i. rw no-fault) h

    -- a walk that drops
    dropped : (r : Answer) → faulted r ≡ true → refused r ≡ true
        → Leaves m memory this (record { answer = r; machine = with_cache m (drop_cache (Page (tag address) (space_number m.settings)) m.cache); memory = memory })
    dropped r fault h =
        record {
          number = named r h;
          bytes = refl;
          registers = refl;
          places = λ (i : ℕ). rw fault (held_drop (Page (tag address) (space_number m.settings)) m.cache i);
          otherwise = λ no_drop. absurd (false≢true (sym no_drop ∙ fault));
        }

    translation : Goes m memory address access mode → refused (step m memory this).answer ≡ true → Leaves m memory this (step m memory this)
    translation (quiet r no-success no-fault is fresh-is left_is) = subst Leaving (sym is) (quietly r no-fault)
    translation (hits a p found is fresh-is left_is) = subst Leaving (sym is) (λ h. absurd (false≢true h))
    translation (fills a f on found is fresh-is left_is) = subst Leaving (sym is) (λ h. absurd (false≢true h))
    translation (Ways.drops r no-success fault is fresh-is left_is) = subst Leaving (sym is) (dropped r fault)

  -- a load that is refused leaves the machine
  load_leaves : (c : Call) → ((r : Answer) (i : ℕ) → held i m.cache ≡ leaves m.settings c r (held i m.cache)) → (x : Machine) (service : Service)
      → refused (load_answer service) ≡ true → Leaves m memory c (record { answer = load_answer service; machine = if_served service x m; memory = memory })
  load_leaves c same x (Ok tt) h = absurd (false≢true h)
  load_leaves c same x (Err why) h = unmoved c (Err (Refusal.NotServed why)) (same (Err (Refusal.NotServed why))) h

  -- INVPCID by what its tests find
  abbrev invpcid_result : ℕ → ℕ → VirtAddr → Bool → Bool → Bool → Stepped Answer
  invpcid_result kind number address known served form =
      cond known
      (cond served
      (cond form (record { answer = done; machine = with_cache m (drop_cache (kind_drop kind number address) m.cache) }) (refused_with (Err Refusal.Form) m))
      (refused_with (Err Refusal.SpaceNumber) m))
      (refused_with (Err Refusal.Unknown) m)

  store_leaves : (at value : ℕ) (ok : Bool) → refused (cond ok done (Err (Refusal.Outside (record { 0 = at }) 0 0))) ≡ true
      → Leaves m memory (Call.Store at value)
      (record { answer = cond ok done (Err (Refusal.Outside (record { 0 = at }) 0 0)); machine = m; memory = cond ok (store 8 memory at value) memory })
  store_leaves at value true h = absurd (false≢true h)
  store_leaves at value false h = unmoved (Call.Store at value) (Err (Refusal.Outside (record { 0 = at }) 0 0)) (λ i. refl) h

  -- INVPCID that is refused leaves the machine
  invpcid_leaves : (kind number : ℕ) (address : VirtAddr) (known served form : Bool)
      → refused (invpcid_result kind number address known served form).answer ≡ true
      → Leaves m memory (Call.Invpcid kind number address) (with_memory memory (invpcid_result kind number address known served form))
  invpcid_leaves kind number address true true true h = absurd (false≢true h)
  invpcid_leaves kind number address true true false h = unmoved (Call.Invpcid kind number address) (Err Refusal.Form) (λ i. refl) h
  invpcid_leaves kind number address true false form h = unmoved (Call.Invpcid kind number address) (Err Refusal.SpaceNumber) (λ i. refl) h
  invpcid_leaves kind number address false served form h = unmoved (Call.Invpcid kind number address) (Err Refusal.Unknown) (λ i. refl) h

  call_leaves : (c : Call) → refused (step m memory c).answer ≡ true → Leaves m memory c (step m memory c)
  unfolding step stored_result root_loaded settings_loaded page_dropped all_dropped invalidated
  call_leaves (Call.Translate address access mode) h = translation address access mode (goes m memory address access mode) h
  call_leaves (Call.Store at value) h = store_leaves at value (inside memory at) h
  call_leaves (Call.LoadRoot value) h =
      load_leaves (Call.LoadRoot value) (λ r i. refl) (record { settings = with_root m.settings value; cache = drop_cache (root_drop m.settings value) m.cache })
      (judged_from m.settings (with_root m.settings value))
      h
  call_leaves (Call.LoadSettings cr0 cr4 efer width) h =
      load_leaves (Call.LoadSettings cr0 cr4 efer width) (λ r i. refl)
      (record { settings = with_settings m.settings cr0 cr4 efer width; cache = empty_cache })
      (judged_from m.settings (with_settings m.settings cr0 cr4 efer width))
      h
  call_leaves (Call.DropPage address) h = absurd (false≢true h)
  call_leaves Call.DropAll h = absurd (false≢true h)
  call_leaves (Call.Invpcid kind number address) h =
      invpcid_leaves kind number address (leb kind 3) (number_served m.settings kind number) (form_served kind address) h

pub demand1 : Demand1
demand1 m memory c h =
    let k = call_leaves m memory c h in
    record { number = k.number; bytes = k.bytes; registers = k.registers; places = k.places; otherwise = k.otherwise }
