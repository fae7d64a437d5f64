-- The first exercise, as instances of demand 3.
use Prim.Native.Nat.{ℕ}
use mathlib.Core.Path.{◌≡◌, refl, sym, ap, subst, ◌∙◌}
use mathlib.Core.Bool.{Bool, true, false, ◌&&◌, cond}
use mathlib.Core.List.{List, [], ◌∷◌, ◌++◌}
use borrow.Author.Tests.{eqb-true}
use lib.Dec.{eqb, lit≤}
use Rattle.settings.specs.declared.Settings.{Settings}
use Rattle.settings.specs.Settings.{space_number}
use Rattle.address.specs.declared.VirtAddr.{VirtAddr}
use Rattle.address.specs.Address.{canonical, tag}
use Rattle.walk.specs.Answers.{Answer}
use Rattle.walk.specs.Path.{End, outside, missing, reserved, page, end_of}
use Rattle.walk.specs.Walk.{walk_path}
use Rattle.cache.specs.declared.Drop.{Drop}
use Rattle.cache.specs.Places.{covers, mine, takes}
use Rattle.cache.specs.Whole.{drop_cache}
use Rattle.cache.proofs.Laws.{own_covered}
use Rattle.cache.proofs.Lists.{and_true}
use Rattle.machine.specs.declared.Call.{Call}
use Rattle.machine.specs.Remember.{page_drop}
use Rattle.machine.specs.Calls.{page_dropped, step, with_cache}
use Rattle.machine.specs.Series.{Event, call, stores, Stand, gives, leads, run, start}
use Rattle.machine.specs.History.{Latest, none, walk, key_at, walk_of, walked_for, succeeded, drop_of, forgotten, noted, noted_event, latest}
use Rattle.machine.specs.Demand3.{present_number, Premise}
use Rattle.machine.specs.MovedPage.{pressed_and_moved, PressArrives, PressLost}
use Rattle.machine.proofs.Translations.{settings_kept}
use Rattle.machine.proofs.Demand3.{first_half}
use Rattle.machine.proofs.Second.{second_half}

-- what is known after two series in a row
latest_append : (t n : ℕ) (now : Stand) (es fs : List Event) (w : Latest) → latest t n now (es ++ fs) w ≡ latest t n (run now es) fs (latest t n now es w)
unfolding latest run
latest_append t n now [] fs w = refl
latest_append t n now (e ∷ es) fs w = latest_append t n (leads now e) es fs _

-- the latest walk of a page under a number has the page's tag, and the number or G
abbrev Kept : ℕ → ℕ → Latest → Type 0
Kept t n none = Unit {0}
Kept t n (walk w) = (w.key.tag ≡ t) × (mine n w.key ≡ true)

kept_cond : (t n : ℕ) (b : Bool) (x y : Latest) → (b ≡ true → Kept t n x) → Kept t n y → Kept t n (cond b x y)
kept_cond t n true x y f g = f refl
kept_cond t n false x y f g = g

kept_forgotten : (t n : ℕ) (d : Drop) (w : Latest) → Kept t n w → Kept t n (forgotten d w)
kept_forgotten t n d none h = tt
kept_forgotten t n d (walk w) h = kept_cond t n (takes d w.key) none (walk w) (λ e. tt) h

key_tag : (s : Settings) (address : VirtAddr) (x : End) → (key_at s address x).tag ≡ tag address
key_tag s address (outside l at) = refl
key_tag s address (missing e) = refl
key_tag s address (reserved e) = refl
key_tag s address (page e base) = refl

noted_kept : (t n : ℕ) (s : Settings) (before after : List ℕ) (c : Call) (r : Answer) (w : Latest) → Kept t n w → Kept t n (noted t n s before c r after w)
noted_kept t n s before after (Call.Translate address access mode) r w h =
    kept_cond t n (walked_for t n s address before r) (walk (walk_of s address before after)) _ own
    (kept_forgotten t n (drop_of s (Call.Translate address access mode) r) w h)
  where
    own : walked_for t n s address before r ≡ true → Kept t n (walk (walk_of s address before after))
    own e =
        let both = and_true (eqb (tag address) t && succeeded r) _ e in
        (key_tag s address (end_of (walk_path s address before)) ∙ eqb-true (tag address) t (and_true (eqb (tag address) t) (succeeded r) both.0).0, both.1)
noted_kept t n s before after (Call.Store at value) r w h = kept_forgotten t n _ w h
noted_kept t n s before after (Call.LoadRoot value) r w h = kept_forgotten t n _ w h
noted_kept t n s before after (Call.LoadSettings cr0 cr4 efer width) r w h = kept_forgotten t n _ w h
noted_kept t n s before after (Call.DropPage address) r w h = kept_forgotten t n _ w h
noted_kept t n s before after Call.DropAll r w h = kept_forgotten t n _ w h
noted_kept t n s before after (Call.Invpcid kind number address) r w h = kept_forgotten t n _ w h

event_kept : (t n : ℕ) (now : Stand) (e : Event) (w : Latest) → Kept t n w → Kept t n (noted_event t n now e w)
event_kept t n now (call c) w h = noted_kept t n now.machine.settings now.memory (gives now c).memory c (gives now c).answer w h
event_kept t n now (stores other) w h = h

kept : (t n : ℕ) (now : Stand) (es : List Event) (w : Latest) → Kept t n w → Kept t n (latest t n now es w)
unfolding latest
kept t n now [] w h = h
kept t n now (e ∷ es) w h = kept t n (leads now e) es (noted_event t n now e w) (event_kept t n now e w h)

-- after a drop of its page under the present number no walk of it is known, whatever is stored then
known_none : (at : VirtAddr) (t : ℕ) → canonical at ≡ true → t ≡ tag at → (moved : List ℕ) (now : Stand) (w : Latest) → Kept t (present_number now) w
    → latest t (present_number now) now (call (Call.DropPage at) ∷ stores moved ∷ []) w ≡ none
unfolding latest step page_dropped takes
known_none at t form same moved now none h = refl
known_none at t form same moved now (walk w) h =
    rw (form, subst (λ (u : ℕ). covers w.key u ≡ true) (h.0 ∙ same) (own_covered w.key), h.1)

-- a page drop and guest stores leave the settings, and so the number
same_number : (at : VirtAddr) (moved : List ℕ) (now : Stand) → present_number (run now (call (Call.DropPage at) ∷ stores moved ∷ [])) ≡ present_number now
unfolding run step page_dropped
same_number at moved now = go (canonical at)
  where
    go : (b : Bool) → space_number (cond b (with_cache now.machine (drop_cache (page_drop now.machine.settings at) now.machine.cache)) now.machine).settings ≡ present_number now
    go true = refl
    go false = refl

-- where two series in a row lead
run_append : (now : Stand) (es fs : List Event) → run now (es ++ fs) ≡ run (run now es) fs
unfolding run
run_append now [] fs = refl
run_append now (e ∷ es) fs = run_append (leads now e) es fs

pub press_arrives : PressArrives
press_arrives s memory before dropped moved press access mode form same =
    first_half s memory (before ++ drop_and_stores) press access mode
    (subst (Premise (run (start s memory) (before ++ drop_and_stores))) (sym nothing_known) tt)
  where
    drop_and_stores : List Event
    drop_and_stores = call (Call.DropPage dropped) ∷ stores moved ∷ []

    there : Stand
    there = run (start s memory) before

    number_then : present_number (run (start s memory) (before ++ drop_and_stores)) ≡ present_number there
    number_then = ap present_number (run_append (start s memory) before drop_and_stores) ∙ same_number dropped moved there

    nothing_known : latest (tag press) (present_number (run (start s memory) (before ++ drop_and_stores))) (start s memory) (before ++ drop_and_stores) none ≡ none
    nothing_known =
        ap (λ (n : ℕ). latest (tag press) n (start s memory) (before ++ drop_and_stores) none) number_then
        ∙ latest_append (tag press) (present_number there) (start s memory) before drop_and_stores none
        ∙ known_none dropped (tag press) form same moved there _ (kept (tag press) (present_number there) (start s memory) before none tt)

pub press_lost : PressLost
unfolding run
press_lost s memory before moved press access mode success =
    second_half s memory before press press access mode [] (stores moved ∷ []) success refl (lit≤ tt) tt settings_stay
  where
    settings_stay : present_number (pressed_and_moved (run (start s memory) before) press access mode moved) ≡ present_number (run (start s memory) before)
    settings_stay = ap space_number (settings_kept (run (start s memory) before).machine (run (start s memory) before).memory press access mode)
