-- Where a series stands soundly: every place of a page that the cache holds is backed by the latest walk of the page.
use Prim.Native.Nat.{ℕ}
use native.Mathlib.Decide.{ℕ_discrete}
use mathlib.Core.Path.{◌≡◌, refl, sym, ap, subst, ◌∙◌}
use mathlib.Core.Bool.{Bool, true, false, ◌&&◌, cond, false≢true}
use mathlib.Core.List.{List, ◌∷◌}
use borrow.Author.Tests.{not-true}
use lib.Dec.{eqb}
use lib.ListN.{length}
use Rattle.settings.specs.declared.Settings.{Settings}
use Rattle.settings.specs.Settings.{space_number}
use Rattle.address.specs.declared.VirtAddr.{VirtAddr}
use Rattle.address.specs.Address.{tag}
use Rattle.walk.specs.Answers.{Answer}
use Rattle.walk.specs.Path.{end_of}
use Rattle.walk.specs.Walk.{walk_path}
use Rattle.cache.specs.declared.Cache.{Cache}
use Rattle.cache.specs.declared.Drop.{Drop}
use Rattle.cache.specs.declared.Drop.TheVariants.{Page, Nothing}
use Rattle.cache.specs.declared.Place.{Place}
use Rattle.cache.specs.Places.{set_index, filled_in, key_of, mine, takes, left, spares}
use Rattle.cache.specs.Sets.{keep}
use Rattle.cache.specs.Whole.{held, empty_cache, fill_cache, drop_cache}
use Rattle.cache.proofs.Laws.{Sixteen, held_empty, held_fill, held_fill_other, held_drop, fill_takes}
use Rattle.machine.specs.declared.Call.{Call}
use Rattle.machine.specs.Calls.{with_root}
use Rattle.machine.specs.Series.{Stand}
use Rattle.machine.specs.Demand1.{faulted}
use Rattle.machine.specs.History.{Walk, Latest, none, walk, key_at, walk_of, walked_for, succeeded, forgotten, noted}
use Rattle.machine.proofs.Places.{Alike}
use Rattle.machine.proofs.Hits.{Backs, backs_key}
use Rattle.machine.proofs.Lists.{Has, has_keep, has_take, keep_has}

-- a place is backed by the latest walk of its page
abbrev pub Backed : Settings → ℕ → Latest → Place → Type 0
Backed s size none p = ⊥
Backed s size (walk w) p = Backs s size w p

-- a place of page t that is of number n or G is
abbrev pub Own : ℕ → ℕ → Settings → ℕ → Latest → Place → Type 0
Own t n s size w p = p.tag ≡ t → mine n (key_of p) ≡ true → Backed s size w p

-- where a series stands soundly for page t under number n
pub record Sound (t n size : ℕ) (now : Stand) (w : Latest) : Type 0 where
  pub sixteen : Sixteen now.machine.cache
  pub as_long : length now.memory ≡ size
  pub backed : Has (Own t n now.machine.settings size w) (held (set_index t) now.machine.cache)

-- What is known of a page after a call.

-- a drop that takes nothing leaves what is known
pub forgotten_nothing : (w : Latest) → forgotten Nothing w ≡ w
unfolding takes
forgotten_nothing none = refl
forgotten_nothing (walk w) = refl

-- a drop that is not made leaves it too
pub forgotten_unless : (made : Bool) (d : Drop) (w : Latest) → made ≡ false → forgotten (cond made d Nothing) w ≡ w
forgotten_unless made d w h = ap (λ (b : Bool). forgotten (cond b d Nothing) w) h ∙ forgotten_nothing w

module _ (t n : ℕ) (s : Settings) (before after : List ℕ) (address : VirtAddr) (access mode : ℕ) (r : Answer) (w : Latest) where
  abbrev this : Call
  this = Call.Translate address access mode

  abbrev its_drop : Drop
  its_drop = Page (tag address) (space_number s)

  pub noted_other : walked_for t n s address before r ≡ false → faulted r ≡ false → noted t n s before this r after w ≡ w
  noted_other no_Walk no-fault = rw no_Walk (forgotten_unless (faulted r) its_drop w no-fault)

  pub noted_walk : walked_for t n s address before r ≡ true → noted t n s before this r after w ≡ walk (walk_of s address before after)
  noted_walk walked = rw walked

  not_walked : succeeded r ≡ false → walked_for t n s address before r ≡ false
  not_walked h = go (eqb (tag address) t)
    where
      go : (b : Bool) → ((b && succeeded r) && mine n (key_at s address (end_of (walk_path s address before)))) ≡ false
      go true = rw h
      go false = refl

  pub noted_quiet : succeeded r ≡ false → faulted r ≡ false → noted t n s before this r after w ≡ w
  noted_quiet no-success no-fault = noted_other (not_walked no-success) no-fault

  pub noted_drop : succeeded r ≡ false → faulted r ≡ true → noted t n s before this r after w ≡ forgotten its_drop w
  noted_drop no-success fault = rw (not_walked no-success, fault)

-- What the cache holds of a page after a change.

pub contradiction {ℓ} : {X : Type ℓ} {b : Bool} → b ≡ true → b ≡ false → X
contradiction yes-it no-it = absurd (false≢true (sym no-it ∙ yes-it))

module _ (t n size : ℕ) (s : Settings) (w : Latest) (c : Cache) (sixteen : Sixteen c) where
  -- nothing is held in the empty cache
  pub emptied : Has (Own t n s size w) (held (set_index t) empty_cache)
  emptied = subst (Has (Own t n s size w)) (sym (held_empty (set_index t))) tt

  -- a fill of the page leaves the new place
  pub filled_own : (p : Place) → p.tag ≡ t → mine n (key_of p) ≡ true → filled_in (set_index p.tag) p ≡ true → Backed s size w p → Has (Own t n s size w) (held (set_index t) (fill_cache p c))
  filled_own p same own_number is_filled new =
      subst (λ (u : ℕ). Has (Own t n s size w) (held (set_index u) (fill_cache p c))) same
      (subst (Has (Own t n s size w)) (sym (held_fill p c sixteen is_filled))
      (has_take (Own t n s size w) 4 (p ∷ keep (spares p) (held (set_index p.tag) c))
      ((λ tag_same number_same. new), keep_has (spares p) (λ q spared own its-number. contradiction its-number (fill_takes n p q (own ∙ sym same) own_number spared)) (held (set_index p.tag) c))))

  -- a fill of another page, or under another number, leaves what is backed
  pub filled_other : (p : Place) → (p.tag ≡ t → mine n (key_of p) ≡ true → ⊥) → filled_in (set_index p.tag) p ≡ true → Has (Own t n s size w) (held (set_index t) c)
      → Has (Own t n s size w) (held (set_index t) (fill_cache p c))
  filled_other p other is_filled h = go (ℕ_discrete (set_index t) (set_index p.tag))
    where
      go : Dec (set_index t ≡ set_index p.tag) → Has (Own t n s size w) (held (set_index t) (fill_cache p c))
      go (yes same) =
          subst (λ (i : ℕ). Has (Own t n s size w) (held i (fill_cache p c))) (sym same)
          (subst (Has (Own t n s size w)) (sym (held_fill p c sixteen is_filled))
          (has_take (Own t n s size w) 4 (p ∷ keep (spares p) (held (set_index p.tag) c)) (
            (λ tag_same number_same. absurd (other tag_same number_same)),
            has_keep (spares p) (λ q spared own. own) (held (set_index p.tag) c) (subst (λ (i : ℕ). Has (Own t n s size w) (held i c)) same h),
          )))
      go (no apart) = subst (Has (Own t n s size w)) (sym (held_fill_other p c (set_index t) apart)) h

-- settings with another root back what was backed
alike_backs : (s s' : Settings) (size : ℕ) (w : Walk) (p : Place) → Alike s s' → Backs s size w p → Backs s' size w p
alike_backs s s' size w p alike k =
    record {
      under = k.under;
      at = k.at;
      how = k.how;
      memory = k.memory;
      found = k.found;
      alike = record {
        cr0_same = k.alike.cr0_same ∙ alike.cr0_same;
        cr4_same = k.alike.cr4_same ∙ alike.cr4_same;
        efer_same = k.alike.efer_same ∙ alike.efer_same;
        width_same = k.alike.width_same ∙ alike.width_same;
      };
      wide = k.wide;
      as_long = k.as_long;
      walk_found = k.walk_found;
      is_place = k.is_place;
      is_walk = k.is_walk;
    }

pub root_alike : (s : Settings) (value : ℕ) → Alike s (with_root s value)
root_alike s value = record { cr0_same = refl; cr4_same = refl; efer_same = refl; width_same = refl }

-- a drop leaves what is backed by a walk that it does not take, and forgets the walk that it takes
pub dropped : (t n size : ℕ) (s s' : Settings) → Alike s s' → (d : Drop) (w : Latest) (c : Cache) → Has (Own t n s size w) (held (set_index t) c)
    → Has (Own t n s' size (forgotten d w)) (held (set_index t) (drop_cache d c))
dropped t n size s s' alike d w c h =
    subst (Has (Own t n s' size (forgotten d w))) (sym (held_drop d c (set_index t))) (has_keep (left d) (λ p kept own same own_number. stay w p kept (own same own_number)) (held (set_index t) c) h)
  where
    stay : (w : Latest) (p : Place) → left d p ≡ true → Backed s size w p → Backed s' size (forgotten d w) p
    stay none p kept back = back
    stay (walk v) p kept back =
        subst (λ (b : Bool). Backed s' size (cond b none (walk v)) p) (sym spared) (alike_backs s s' size v p alike back)
      where
        spared : takes d v.key ≡ false
        spared = ap (takes d) (sym (backs_key s size v p back)) ∙ not-true (takes d (key_of p)) kept
