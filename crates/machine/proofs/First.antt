-- The first half: a series stands soundly from the start on, so a hit is what a fresh walk gives.
use Prim.Native.Nat.{ℕ}
use native.Mathlib.Omega.{arith}
use mathlib.Core.Path.{◌≡◌, refl, sym, ap, subst, ◌∙◌}
use mathlib.Core.Bool.{Bool, true, false, not, ◌&&◌, cond}
use mathlib.Core.List.{List, [], ◌∷◌}
use borrow.Author.Tests.{eqb-true, eq-eqb, ne_eqb}
use lib.Dec.{eqb, leb}
use lib.ListN.{length}
use Rattle.word.specs.Bytes.{inside, stored, store}
use Rattle.word.proofs.Laws.{store_length}
use Rattle.settings.specs.declared.Settings.{Settings}
use Rattle.settings.specs.Settings.{Service, initial, space_number, judged_from}
use Rattle.address.specs.declared.VirtAddr.{VirtAddr}
use Rattle.address.specs.Address.{tag, canonical}
use Rattle.walk.specs.declared.Way.{Way}
use Rattle.walk.specs.declared.Refusal.{Refusal}
use Rattle.walk.specs.Answers.{Answer}
use Rattle.walk.specs.declared.Asked.TheVariants as Asked
use Rattle.walk.specs.declared.Mapping.{Mapping}
use Rattle.walk.specs.Access.{writes}
use Rattle.walk.specs.Path.{end_of}
use Rattle.walk.specs.Walk.{walk_path, walk_answer, walk_memory}
use Rattle.walk.specs.Translate.{asked, answered}
use Rattle.walk.proofs.Laws.{by_cases}
use Rattle.cache.specs.declared.Drop.{Drop}
use Rattle.cache.specs.declared.Drop.TheVariants.{Page, All}
use Rattle.cache.specs.declared.Place.{Place}
use Rattle.cache.specs.Places.{key_of, mine, set_index, filled_in}
use Rattle.cache.specs.Whole.{held, empty_cache, fill_cache, drop_cache}
use Rattle.cache.proofs.Laws.{empty_sixteen, fill_sixteen, drop_sixteen}
use Rattle.cache.proofs.Lists.{and_true}
use Rattle.machine.specs.declared.Call.{Call}
use Rattle.machine.specs.declared.Machine.{Machine}
use Rattle.machine.specs.Remember.{place_of, hit}
use Rattle.machine.specs.Calls.{load_answer, if_served, Result, step, with_cache, with_memory, with_root, root_drop, with_settings, done, number_served, form_served, kind_drop, refused_with, initial_machine}
use Rattle.machine.specs.Calls as Calls
use Rattle.machine.specs.Series.{Event, call, stores, Stand, replaced, leads, run, start}
use Rattle.machine.specs.History.{Latest, none, walk, key_at, walk_of, walked_for, succeeded, accepted, forgotten, noted, noted_event, latest}
use Rattle.machine.proofs.Marking.{marks_length}
use Rattle.machine.proofs.Places.{found_reads, found_memory, found_filled, found_key}
use Rattle.machine.proofs.Hits.{Backs}
use Rattle.machine.proofs.Asked.{Due, due, served_wide}
use Rattle.machine.proofs.Translations.{not_accepted, Goes, quiet, hits, fills, filled_result, goes}
use Rattle.machine.proofs.Translations as Ways
use Rattle.machine.proofs.Lists.{Has}
use Rattle.machine.proofs.Sound.{Own, Sound, forgotten_nothing, forgotten_unless, contradiction, noted_quiet, noted_drop, noted_other, noted_walk, dropped, emptied, filled_own, filled_other, root_alike}
use Rattle.std.specs.Prelude.{Ok, Err}

module _ (t n size : ℕ) (m : Machine) (memory : List ℕ) (w : Latest) (sound : Sound t n size (record { machine = m; memory = memory }) w) where
  abbrev s : Settings
  s = m.settings

  -- what a result leads to
  abbrev Next : Call → Result → Type 0
  Next c r = Sound t n size (record { machine = r.machine; memory = r.memory }) (noted t n s memory c r.answer r.memory w)

  -- a result that changes nothing and drops nothing
  unchanged : (c : Call) (r : Answer) (after : List ℕ) → length after ≡ length memory → noted t n s memory c r after w ≡ w
      → Next c (record { answer = r; machine = m; memory = after })
  unchanged c r after long same =
      subst (Sound t n size (record { machine = m; memory = after })) (sym same)
      (record { sixteen = sound.sixteen; as_long = long ∙ sound.as_long; backed = sound.backed })

  -- a drop
  after_drop : (d : Drop) (known : Latest) → known ≡ forgotten d w
      → Sound t n size (record { machine = with_cache m (drop_cache d m.cache); memory = memory }) known
  after_drop d known is =
      record {
        sixteen = drop_sixteen d m.cache;
        as_long = sound.as_long;
        backed = subst (λ (v : Latest). Has (Own t n s size v) (held (set_index t) (drop_cache d m.cache))) (sym is)
            (dropped t n size s s (record { cr0_same = refl; cr4_same = refl; efer_same = refl; width_same = refl }) d w m.cache sound.backed);
      }

  module _ (address : VirtAddr) (access mode : ℕ) where
    abbrev this : Call
    this = Call.Translate address access mode

    -- a fill
    after_fill : (a : Way) (f : Mapping) → asked s address access mode ≡ Ok (Asked.On a) → walk_answer s address a memory ≡ Ok f
        → Next this (filled_result m memory address access mode a f)
    after_fill a f on is =
        record { sixteen = fill_sixteen new m.cache sound.sixteen; as_long = long; backed = by_cases (walked_for t n s address memory r) own other }
      where
        new : Place
        new = place_of s address a f

        left : List ℕ
        left = walk_memory s address a memory

        r : Answer
        r = answered s address a (Ok f)

        is_due : Due s address access mode a
        is_due = due s address access mode a on

        is_filled : filled_in (set_index (tag address)) new ≡ true
        is_filled = found_filled s address a memory f is is_due.is_canonical

        long : length left ≡ size
        long =
            ap (λ (x : List ℕ). length x) (found_memory s address a memory f is) ∙ marks_length (writes a) (walk_path s address memory) memory
            ∙ sound.as_long

        success : succeeded r ≡ true
        success = ap not (ne_eqb f.reads 0 (λ e. omega (arith, found_reads s address a memory f is)))

        backs : Backs s size (walk_of s address memory left) new
        backs =
            record {
              under = s;
              at = address;
              how = a;
              memory = memory;
              found = f;
              alike = record { cr0_same = refl; cr4_same = refl; efer_same = refl; width_same = refl };
              wide = served_wide s is_due.is_served;
              as_long = sound.as_long;
              walk_found = is;
              is_place = refl;
              is_walk = refl;
            }

        its_key : key_of new ≡ key_at s address (end_of (walk_path s address memory))
        its_key = found_key s address a memory f is left

        own : walked_for t n s address memory r ≡ true → Has (Own t n s size (noted t n s memory this r left w)) (held (set_index t) (fill_cache new m.cache))
        own walked =
            let both = and_true (eqb (tag address) t && succeeded r) _ walked in
            subst (λ (v : Latest). Has (Own t n s size v) (held (set_index t) (fill_cache new m.cache)))
            (sym (noted_walk t n s memory left address access mode r w walked))
            (filled_own t n size s (walk (walk_of s address memory left)) m.cache sound.sixteen new
            (eqb-true (tag address) t (and_true (eqb (tag address) t) (succeeded r) both.0).0) (ap (mine n) its_key ∙ both.1) is_filled backs)

        other : walked_for t n s address memory r ≡ false → Has (Own t n s size (noted t n s memory this r left w)) (held (set_index t) (fill_cache new m.cache))
        other apart =
            subst (λ (v : Latest). Has (Own t n s size v) (held (set_index t) (fill_cache new m.cache)))
            (sym (noted_other t n s memory left address access mode r w apart refl))
            (filled_other t n size s w m.cache sound.sixteen new
            (λ same own_number. contradiction (rw (eq-eqb (tag address) t same, success, ← its_key, own_number)) apart) is_filled sound.backed)

    -- a translation
    translation : Goes m memory address access mode → Next this (step m memory this)
    translation (quiet r no-success no-fault is fresh-is left_is) =
        subst (Next this) (sym is) (unchanged this r memory refl (noted_quiet t n s memory memory address access mode r w no-success no-fault))
    translation (hits a p found is fresh-is left_is) =
        subst (Next this) (sym is) (unchanged this (hit address p) memory refl (noted_quiet t n s memory memory address access mode (hit address p) w refl refl))
    translation (fills a f on found is fresh-is left_is) = subst (Next this) (sym is) (after_fill a f on found)
    translation (Ways.drops r no-success fault is fresh-is left_is) =
        subst (Next this) (sym is)
        (after_drop (Page (tag address) (space_number s)) (noted t n s memory this r memory w) (noted_drop t n s memory memory address access mode r w no-success fault))

  -- a store
  after_store : (at value : ℕ) → Next (Call.Store at value) (step m memory (Call.Store at value))
  unfolding step Calls.stored_result
  after_store at value =
      unchanged (Call.Store at value) (cond (inside memory at) done (Err (Refusal.Outside (record { 0 = at }) 0 0))) (stored memory at value) (long (inside memory at))
      (forgotten_nothing w)
    where
      long : (b : Bool) → length (cond b (store 8 memory at value) memory) ≡ length memory
      long true = store_length 8 memory at value
      long false = refl

  -- a root load
  after_root : (value : ℕ) → Next (Call.LoadRoot value) (step m memory (Call.LoadRoot value))
  unfolding step Calls.root_loaded
  after_root value = go (judged_from s (with_root s value))
    where
      go : (x : Service) → Next (Call.LoadRoot value)
          (record { answer = load_answer x; machine = if_served x (record { settings = with_root s value; cache = drop_cache (root_drop s value) m.cache }) m; memory = memory })
      go (Ok tt) =
          record {
            sixteen = drop_sixteen (root_drop s value) m.cache;
            as_long = sound.as_long;
            backed = dropped t n size s (with_root s value) (root_alike s value) (root_drop s value) w m.cache sound.backed;
          }
      go (Err why) =
          unchanged (Call.LoadRoot value) (Err (Refusal.NotServed why)) memory refl
          (forgotten_unless (accepted (Err (Refusal.NotServed why))) (root_drop s value) w (not_accepted why))

  -- a settings load
  after_settings : (cr0 cr4 efer width : ℕ) → Next (Call.LoadSettings cr0 cr4 efer width) (step m memory (Call.LoadSettings cr0 cr4 efer width))
  unfolding step Calls.settings_loaded
  after_settings cr0 cr4 efer width = go (judged_from s (with_settings s cr0 cr4 efer width))
    where
      go : (x : Service) → Next (Call.LoadSettings cr0 cr4 efer width)
          (record { answer = load_answer x; machine = if_served x (record { settings = with_settings s cr0 cr4 efer width; cache = empty_cache }) m; memory = memory })
      go (Ok tt) =
          record {
            sixteen = empty_sixteen;
            as_long = sound.as_long;
            backed =
                emptied t n size (with_settings s cr0 cr4 efer width) (forgotten All w) m.cache sound.sixteen;
          }
      go (Err why) =
          unchanged (Call.LoadSettings cr0 cr4 efer width) (Err (Refusal.NotServed why)) memory refl
          (forgotten_unless (accepted (Err (Refusal.NotServed why))) All w (not_accepted why))

  -- "drop all"
  after_all : Next Call.DropAll (step m memory Call.DropAll)
  unfolding step Calls.all_dropped
  after_all =
      record { sixteen = empty_sixteen; as_long = sound.as_long; backed = emptied t n size s (forgotten All w) m.cache sound.sixteen }

  -- "drop page"
  after_page : (address : VirtAddr) → Next (Call.DropPage address) (step m memory (Call.DropPage address))
  unfolding step Calls.page_dropped
  after_page address = go (canonical address) refl
    where
      go : (b : Bool) → canonical address ≡ b → Next (Call.DropPage address)
          (record { answer = done; machine = cond b (with_cache m (drop_cache (Page (tag address) (space_number s)) m.cache)) m; memory = memory })
      go true form = after_drop (Page (tag address) (space_number s)) _ (rw form)
      go false form = unchanged (Call.DropPage address) done memory refl (forgotten_unless (canonical address) (Page (tag address) (space_number s)) w form)

  -- INVPCID
  after_invpcid : (kind number : ℕ) (address : VirtAddr) → Next (Call.Invpcid kind number address) (step m memory (Call.Invpcid kind number address))
  unfolding step Calls.invalidated
  after_invpcid kind number address = go (leb kind 3) (number_served s kind number) (form_served kind address)
    where
      go : (known served form : Bool) → Next (Call.Invpcid kind number address) (with_memory memory (cond known
          (cond served
          (cond form (record { answer = done; machine = with_cache m (drop_cache (kind_drop kind number address) m.cache) }) (refused_with (Err Refusal.Form) m))
          (refused_with (Err Refusal.SpaceNumber) m))
          (refused_with (Err Refusal.Unknown) m)))
      go true true true = after_drop (kind_drop kind number address) _ refl
      go true true false = unchanged (Call.Invpcid kind number address) (Err Refusal.Form) memory refl (forgotten_nothing w)
      go true false form = unchanged (Call.Invpcid kind number address) (Err Refusal.SpaceNumber) memory refl (forgotten_nothing w)
      go false served form = unchanged (Call.Invpcid kind number address) (Err Refusal.Unknown) memory refl (forgotten_nothing w)

  -- every call
  after_call : (c : Call) → Next c (step m memory c)
  after_call (Call.Translate address access mode) = translation address access mode (goes m memory address access mode)
  after_call (Call.Store at value) = after_store at value
  after_call (Call.LoadRoot value) = after_root value
  after_call (Call.LoadSettings cr0 cr4 efer width) = after_settings cr0 cr4 efer width
  after_call (Call.DropPage address) = after_page address
  after_call Call.DropAll = after_all
  after_call (Call.Invpcid kind number address) = after_invpcid kind number address

  -- guest stores
  after_stores : (other : List ℕ) → Sound t n size (record { machine = m; memory = replaced memory other }) w
  after_stores other =
      record { sixteen = sound.sixteen; as_long = long (eqb (length other) (length memory)) refl ∙ sound.as_long; backed = sound.backed }
    where
      long : (b : Bool) → eqb (length other) (length memory) ≡ b → length (cond b other memory) ≡ length memory
      long true e = eqb-true (length other) (length memory) e
      long false e = refl

-- every event of a series
after_event : (t n size : ℕ) (now : Stand) (w : Latest) → Sound t n size now w → (e : Event) → Sound t n size (leads now e) (noted_event t n now e w)
after_event t n size now w sound (call c) = after_call t n size now.machine now.memory w sound c
after_event t n size now w sound (stores other) = after_stores t n size now.machine now.memory w sound other

-- a whole series
pub after_series : (t n size : ℕ) (now : Stand) (w : Latest) → Sound t n size now w → (es : List Event) → Sound t n size (run now es) (latest t n now es w)
unfolding run latest
after_series t n size now w sound [] = sound
after_series t n size now w sound (e ∷ es) = after_series t n size (leads now e) (noted_event t n now e w) (after_event t n size now w sound e) es

-- the start stands soundly
pub start_sound : (t n : ℕ) (s : Settings) (memory : List ℕ) → Sound t n (length memory) (start s memory) none
start_sound t n s memory = go (judged_from initial s)
  where
    go : (x : Service) → Sound t n (length memory) (record { machine = if_served x (record { settings = s; cache = empty_cache }) initial_machine; memory = memory }) none
    go (Ok tt) = record { sixteen = empty_sixteen; as_long = refl; backed = emptied t n (length memory) s none empty_cache empty_sixteen }
    go (Err why) = record { sixteen = empty_sixteen; as_long = refl; backed = emptied t n (length memory) initial none empty_cache empty_sixteen }
