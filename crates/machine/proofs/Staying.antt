-- The place of a page stays in its set while calls spare the page and at most three other pages of the set come in front of it.
use Prim.Native.Nat.{ℕ, ◌≤◌}
use native.Mathlib.Decide.{ℕ_discrete}
use native.Mathlib.Omega.{arith}
use mathlib.Core.Path.{◌≡◌, refl, sym, ap, ap₂, subst, ◌∙◌}
use mathlib.Core.Bool.{Bool, true, false, not, ◌&&◌, ◌||◌, cond, false≢true}
use mathlib.Core.List.{List, [], ◌∷◌, ◌++◌}
use borrow.Author.Tests.{eqb-false, eq-eqb, ne_eqb}
use lib.Dec.{eqb, leb}
use lib.ListN.{length, take}
use Rattle.settings.specs.declared.Settings.{Settings}
use Rattle.settings.specs.Settings.{Service, served, space_number, judged_from}
use Rattle.settings.proofs.Laws.{judged_from_lem}
use Rattle.address.specs.declared.VirtAddr.{VirtAddr}
use Rattle.address.specs.Address.{tag, canonical}
use Rattle.walk.specs.declared.Refusal.TheVariants as Refusal
use Rattle.walk.proofs.Asking.{judged_served}
use Rattle.cache.specs.declared.Cache.{Cache}
use Rattle.cache.specs.declared.Drop.{Drop}
use Rattle.cache.specs.declared.Drop.TheVariants.{Page, All, Nothing}
use Rattle.std.specs.Prelude.{Some, Ok, Err}
use Rattle.cache.specs.declared.Place.{Place}
use Rattle.cache.specs.declared.Wanted.{Wanted}
use Rattle.cache.specs.Places.{key_of, set_index, filled_in, takes, left, other_tag, spares, serves}
use Rattle.cache.specs.Sets.{keep, first_serving}
use Rattle.cache.specs.Whole.{held, empty_cache, fill_cache, drop_cache}
use Rattle.cache.proofs.Laws.{find_cache, Sixteen, fill_sixteen, drop_sixteen, held_fill, held_fill_other, held_drop, tag_other, fill_leaves, fill_other, find_cache_lem, other_serves_not}
use Rattle.cache.proofs.Lists.{Each, each_keep, each_kept, each_weaker, passed_by}
use Rattle.machine.specs.declared.Call.{Call}
use Rattle.machine.specs.declared.Machine.{Machine}
use Rattle.machine.specs.Remember.{place_of}
use Rattle.machine.specs.Calls.{load_answer, if_served, Result, step, with_cache, with_memory, with_root, root_drop, with_settings, done, number_served, form_served, kind_drop, refused_with}
use Rattle.machine.specs.Calls as Calls
use Rattle.machine.specs.Series.{Event, call, stores, Stand, leads, run}
use Rattle.machine.specs.History.{Walk, asks, drops}
use Rattle.machine.specs.Demand3.{others, Numbered, listed, counted, Between}
use Rattle.machine.proofs.Places.{Alike, found_reads, found_filled}
use Rattle.machine.proofs.Asked.{due}
use Rattle.machine.proofs.Translations.{Goes, quiet, hits, fills, goes}
use Rattle.machine.proofs.Translations as Ways
use Rattle.machine.proofs.Sets.{numbered, other_numbered, Few, few_length, few_keep, keep_around, take_around}

-- a place in its set behind places of few other pages
pub record Stays (t : ℕ) (pages : List Numbered) (p : Place) (c : Cache) : Type 0 where
  pub sixteen : Sixteen c
  pub front : List Place
  pub rest : List Place
  pub is_held : held (set_index t) c ≡ front ++ (p ∷ rest)
  pub few : Few pages front
  pub apart : Each (other_tag t) front

-- what a fill spares is of another page or number
spared_others : (q : Place) (ps : List Place) → Each (other_numbered q) (keep (spares q) ps)
spared_others q ps = each_weaker (spares q) (other_numbered q) (λ p spared. ap not (fill_other q p spared)) (keep (spares q) ps) (each_keep (spares q) ps)

-- a drop of everything takes every walk's place
all_taken : (w : Walk) → takes All w.key ≡ false → ⊥
unfolding takes
all_taken w h = false≢true (sym h)

module _ (t : ℕ) (pages : List Numbered) (at_most : length pages ≤ others) (p : Place) (own : p.tag ≡ t) (w : Walk) (same_key : key_of p ≡ w.key) where
  -- a filter of the set that keeps the place
  filtered : (test : Place → Bool) (c c' : Cache) → test p ≡ true → Sixteen c' → held (set_index t) c' ≡ keep test (held (set_index t) c)
      → Stays t pages p c → Stays t pages p c'
  filtered test c c' kept sixteen is k =
      record {
        sixteen = sixteen;
        front = keep test k.front;
        rest = keep test k.rest;
        is_held = is ∙ ap (keep test) k.is_held ∙ keep_around test k.front p k.rest kept;
        few = few_keep pages test k.front k.few;
        apart = each_kept (other_tag t) test k.front k.apart;
      }

  -- a drop that does not take the walk's place
  drop_stays : (d : Drop) (c : Cache) → takes d w.key ≡ false → Stays t pages p c → Stays t pages p (drop_cache d c)
  drop_stays d c spared k =
      filtered (left d) c (drop_cache d c) (ap not (ap (takes d) same_key ∙ spared)) (drop_sixteen d c) (held_drop d c (set_index t)) k

  -- a fill of another page, which is one of the list where it is of the same set
  fill_stays : (q : Place) (c : Cache) → (t ≡ q.tag → ⊥) → filled_in (set_index q.tag) q ≡ true
      → (set_index q.tag ≡ set_index t → listed (numbered q) pages ≡ true) → Stays t pages p c → Stays t pages p (fill_cache q c)
  fill_stays q c other is_filled counts k = go (ℕ_discrete (set_index t) (set_index q.tag))
    where
      go : Dec (set_index t ≡ set_index q.tag) → Stays t pages p (fill_cache q c)
      go (yes same) =
          let few' : Few pages (q ∷ keep (spares q) k.front) =
          (counts (sym same), spared_others q k.front, few_keep pages (spares q) k.front k.few) in
          let fits = take_around 3 (q ∷ keep (spares q) k.front) p (keep (spares q) k.rest)
          (omega (arith, few_length (q ∷ keep (spares q) k.front) pages few')) in
          record {
            sixteen = fill_sixteen q c k.sixteen;
            front = q ∷ keep (spares q) k.front;
            rest = fits.0;
            is_held =
                ap (λ (i : ℕ). held i (fill_cache q c)) same ∙ held_fill q c k.sixteen is_filled
                ∙ ap (λ (l : List Place). take 4 (q ∷ keep (spares q) l)) (ap (λ (i : ℕ). held i c) (sym same) ∙ k.is_held)
                ∙ ap (λ (l : List Place). take 4 (q ∷ l)) (keep_around (spares q) k.front p k.rest (fill_leaves q p (λ e. other (sym own ∙ e))))
                ∙ fits.1;
            few = few';
            apart = (tag_other t q (λ e. other (sym e)), each_kept (other_tag t) (spares q) k.front k.apart);
          }
      go (no elsewhere) =
          record {
            sixteen = fill_sixteen q c k.sixteen;
            front = k.front;
            rest = k.rest;
            is_held = held_fill_other q c (set_index t) elsewhere ∙ k.is_held;
            few = k.few;
            apart = k.apart;
          }

  -- the machine remembers the page: its place stays, and settings are served and differ in the root alone
  module _ (s₀ : Settings) where
    pub record Remembers (m : Machine) : Type 0 where
      pub stays_in : Stays t pages p m.cache
      pub alike : Alike s₀ m.settings
      pub serving : served m.settings ≡ true

    with_cache_lem : (m : Machine) (c : Cache) → Remembers m → Stays t pages p c → Remembers (with_cache m c)
    with_cache_lem m c k still = record { stays_in = still; alike = k.alike; serving = k.serving }

    module _ (m : Machine) (memory : List ℕ) (k : Remembers m) where
      -- a call that spares the page
      abbrev Spared : Call → Result → Type 0
      Spared c r = drops m.settings w c r.answer ≡ false → asks t c ≡ false → counted t pages m.settings c r.answer ≡ true → Remembers r.machine

      -- the drop of a page
      abbrev its_drop : VirtAddr → Drop
      its_drop address = Page (tag address) (space_number m.settings)

      -- another page that a walk with success put in the same set is one of the list
      counts : (u : Numbered) (success : Bool) → success ≡ true → (not (success && eqb (set_index u.tag) (set_index t)) || listed u pages) ≡ true
          → set_index u.tag ≡ set_index t → listed u pages ≡ true
      counts u success yes-it h same =
          sym (ap₂ (λ (a b : Bool). not (a && b) || listed u pages) yes-it (eq-eqb (set_index u.tag) (set_index t) same)) ∙ h

      translation : (address : VirtAddr) (access mode : ℕ) → Goes m memory address access mode
          → Spared (Call.Translate address access mode) (step m memory (Call.Translate address access mode))
      translation address access mode (quiet r no-success no-fault is fresh-is left_is) =
          subst (Spared (Call.Translate address access mode)) (sym is) (λ no_drop not-asked counting. k)
      translation address access mode (hits a q found is fresh-is left_is) =
          subst (Spared (Call.Translate address access mode)) (sym is) (λ no_drop not-asked counting. k)
      translation address access mode (fills a f on found is fresh-is left_is) =
          subst (Spared (Call.Translate address access mode)) (sym is)
          (λ no_drop not-asked counting.
          with_cache_lem m (fill_cache (place_of m.settings address a f) m.cache) k
          (fill_stays (place_of m.settings address a f) m.cache (λ e. eqb-false (tag address) t not-asked (sym e))
          (found_filled m.settings address a memory f found (due m.settings address access mode a on).is_canonical)
          (counts (record { tag = tag address; number = space_number m.settings }) (not (eqb f.reads 0))
          (ap not (ne_eqb f.reads 0 (λ e. omega (arith, found_reads m.settings address a memory f found)))) counting)
          k.stays_in))
      translation address access mode (Ways.drops r no-success fault is fresh-is left_is) =
          subst (Spared (Call.Translate address access mode)) (sym is)
          (λ no_drop not-asked counting.
          with_cache_lem m (drop_cache (its_drop address) m.cache) k
          (drop_stays (its_drop address) m.cache (sym (ap (λ (b : Bool). takes (cond b (its_drop address) Nothing) w.key) fault) ∙ no_drop) k.stays_in))

      after_store : (at value : ℕ) → Spared (Call.Store at value) (step m memory (Call.Store at value))
      unfolding step Calls.stored_result
      after_store at value = λ no_drop not-asked counting. k

      after_root : (value : ℕ) → Spared (Call.LoadRoot value) (step m memory (Call.LoadRoot value))
      unfolding step Calls.root_loaded
      after_root value = go (judged_from m.settings (with_root m.settings value)) refl
        where
          go : (x : Service) → judged_from m.settings (with_root m.settings value) ≡ x
              → Spared (Call.LoadRoot value) (record {
                answer = load_answer x;
                machine = if_served x (record { settings = with_root m.settings value; cache = drop_cache (root_drop m.settings value) m.cache }) m;
                memory = memory;
              })
          go (Ok tt) ok = λ no_drop not-asked counting.
              record {
                stays_in = drop_stays (root_drop m.settings value) m.cache no_drop k.stays_in;
                alike = record {
                  cr0_same = k.alike.cr0_same;
                  cr4_same = k.alike.cr4_same;
                  efer_same = k.alike.efer_same;
                  width_same = k.alike.width_same;
                };
                serving = judged_served (with_root m.settings value) (judged_from_lem m.settings (with_root m.settings value) ok);
              }
          go (Err why) ok = λ no_drop not-asked counting. k

      after_settings : (cr0 cr4 efer width : ℕ) → Spared (Call.LoadSettings cr0 cr4 efer width) (step m memory (Call.LoadSettings cr0 cr4 efer width))
      unfolding step Calls.settings_loaded
      after_settings cr0 cr4 efer width = go (judged_from m.settings (with_settings m.settings cr0 cr4 efer width))
        where
          go : (x : Service) → Spared (Call.LoadSettings cr0 cr4 efer width) (record {
            answer = load_answer x;
            machine = if_served x (record { settings = with_settings m.settings cr0 cr4 efer width; cache = empty_cache }) m;
            memory = memory;
          })
          go (Ok tt) = λ no_drop not-asked counting. absurd (all_taken w no_drop)
          go (Err why) = λ no_drop not-asked counting. k

      after_page : (address : VirtAddr) → Spared (Call.DropPage address) (step m memory (Call.DropPage address))
      unfolding step Calls.page_dropped
      after_page address = go (canonical address) refl
        where
          go : (b : Bool) → canonical address ≡ b
              → Spared (Call.DropPage address) (record { answer = done; machine = cond b (with_cache m (drop_cache (its_drop address) m.cache)) m; memory = memory })
          go true form no_drop not-asked counting =
              with_cache_lem m (drop_cache (its_drop address) m.cache) k
              (drop_stays (its_drop address) m.cache (sym (ap (λ (b : Bool). takes (cond b (its_drop address) Nothing) w.key) form) ∙ no_drop) k.stays_in)
          go false form no_drop not-asked counting = k

      after_all : Spared Call.DropAll (step m memory Call.DropAll)
      unfolding step Calls.all_dropped
      after_all = λ no_drop not-asked counting. absurd (all_taken w no_drop)

      after_invpcid : (kind number : ℕ) (address : VirtAddr) → Spared (Call.Invpcid kind number address) (step m memory (Call.Invpcid kind number address))
      unfolding step Calls.invalidated
      after_invpcid kind number address = go (leb kind 3) (number_served m.settings kind number) (form_served kind address)
        where
          go : (known served form : Bool) → Spared (Call.Invpcid kind number address) (with_memory memory (cond known
              (cond served
              (cond form (record { answer = done; machine = with_cache m (drop_cache (kind_drop kind number address) m.cache) }) (refused_with (Err Refusal.Form) m))
              (refused_with (Err Refusal.SpaceNumber) m))
              (refused_with (Err Refusal.Unknown) m)))
          go true true true no_drop not-asked counting =
              with_cache_lem m (drop_cache (kind_drop kind number address) m.cache) k (drop_stays (kind_drop kind number address) m.cache no_drop k.stays_in)
          go true true false no_drop not-asked counting = k
          go true false form no_drop not-asked counting = k
          go false served form no_drop not-asked counting = k

      after_call : (c : Call) → Spared c (step m memory c)
      after_call (Call.Translate address access mode) = translation address access mode (goes m memory address access mode)
      after_call (Call.Store at value) = after_store at value
      after_call (Call.LoadRoot value) = after_root value
      after_call (Call.LoadSettings cr0 cr4 efer width) = after_settings cr0 cr4 efer width
      after_call (Call.DropPage address) = after_page address
      after_call Call.DropAll = after_all
      after_call (Call.Invpcid kind number address) = after_invpcid kind number address

    -- a series that spares the page
    pub remembered : (now : Stand) (es : List Event) → Remembers now.machine → Between t w pages now es → Remembers (run now es).machine
    unfolding run
    remembered now [] k spared = k
    remembered now (call c ∷ es) k spared =
        remembered (leads now (call c)) es (after_call now.machine now.memory k c spared.0 spared.1 spared.2) spared.3
    remembered now (stores other ∷ es) k spared = remembered (leads now (stores other)) es k spared

    -- where the place serves, it is found
    pub found_again : (m : Machine) (x : Wanted) → x.tag ≡ t → serves x p ≡ true → Remembers m → find_cache x m.cache ≡ Some p
    found_again m x same serving k =
        find_cache_lem x m.cache
        ∙ ap (λ (u : ℕ). first_serving x (held (set_index u) m.cache)) same
        ∙ ap (first_serving x) k.stays_in.is_held
        ∙ passed_by x k.stays_in.front (p ∷ k.stays_in.rest)
        (each_weaker (other_tag t) (λ q. not (serves x q)) (λ q other. other_serves_not x q (subst (λ (u : ℕ). other_tag u q ≡ true) (sym same) other))
        k.stays_in.front k.stays_in.apart)
        ∙ rw serving
