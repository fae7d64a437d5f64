-- The laws of the cache that other crates cite: of one place, of one set, of the whole.
use Prim.Native.Nat.{ℕ, ◌+◌, ◌*◌, ◌/◌, ◌^◌, ◌<◌, ◌≤◌}
use native.Mathlib.Decide.{dec_lt}
use native.Mathlib.Omega.{arith}
use mathlib.Core.Path.{◌≡◌, refl, sym, ap, ◌∙◌}
use mathlib.Core.Bool.{Bool, true, false, not, ◌&&◌, ◌||◌, false≢true}
use mathlib.Core.List.{List, [], ◌∷◌}
use borrow.Author.Tests.{ltb-true, leb-true, eqb-true, eqb-false, not-true, lt-ltb, le-leb, eq-eqb, ne_eqb}
use lib.Dec.{eqb, ltb, leb}
use lib.ListN.{length, take, length-set, get_or-replicate, get_or-eq_default}
use lib.Seq.{take_all, get_or-set_same, get_or-set_other}
use Rattle.word.specs.Bits.{includes}
use Rattle.cache.specs.declared.Drop.{Drop}
use Rattle.cache.specs.declared.Place.{Place}
use Rattle.cache.specs.declared.Set.{Set}
use Rattle.cache.specs.declared.Cache.{Cache}
use Rattle.cache.specs.declared.Wanted.{Wanted}
use Rattle.std.specs.Prelude.{Option}
use Rattle.std.proofs.Math.Nat.{mul-div-mul_right, div-one}
use Rattle.std.proofs.lemmas.Nat.{pow-add}
use Rattle.cache.specs.Places.{is_marked, has_g, zero_place, set_index, filled_in, Key, key_of, mine, page_bytes, covers, left, other_tag, spares, serves}
use Rattle.cache.specs.Sets.{keep, four, set_of, empty_set, filled, first_serving, find_in, fill_set, drop_set}
use Rattle.cache.specs.Whole.{set_at, held, rewrite_set, rewrite_all, empty_cache, fill_cache, drop_cache}
use Rattle.cache.proofs.Steps.{other_tag_lem, sets_below_length, sets_below_at}
use Rattle.cache.proofs.Lists.{Each, and_true, each_keep, each_kept, keep_length, keep_four}

-- One place.

-- what a filled place has
pub record Filled (i : ℕ) (p : Place) : Type 0 where
  pub is_marked_lem : is_marked p ≡ true
  pub tag_below : p.tag < 2 ^ 52
  pub own_set : set_index p.tag ≡ i
  pub frame_below : p.frame.0 < 2 ^ 40
  pub size_from : 1 ≤ p.size
  pub size_to : p.size ≤ 3
  pub type_below : p.memory_type < 8
  pub number_to : p.number ≤ 4095

pub filled_has : (i : ℕ) (p : Place) → filled_in i p ≡ true → Filled i p
unfolding filled_in
filled_has i p h =
    let a = and_true (is_marked p) _ h in
    let b = and_true (ltb p.tag (2 ^ 52) && eqb (set_index p.tag) i) _ a.1 in
    let c = and_true (ltb p.tag (2 ^ 52)) _ b.0 in
    let d = and_true (ltb p.frame.0 (2 ^ 40)) _ b.1 in
    let f = and_true (leb 1 p.size && leb p.size 3) _ d.1 in
    let e = and_true (leb 1 p.size) _ f.0 in
    let g = and_true (ltb p.memory_type 8) _ f.1 in
    record {
      is_marked_lem = a.0;
      tag_below = ltb-true p.tag (2 ^ 52) c.0;
      own_set = eqb-true (set_index p.tag) i c.1;
      frame_below = ltb-true p.frame.0 (2 ^ 40) d.0;
      size_from = leb-true 1 p.size e.0;
      size_to = leb-true p.size 3 e.1;
      type_below = ltb-true p.memory_type 8 g.0;
      number_to = leb-true p.number 4095 g.1;
    }

pub has_filled : (i : ℕ) (p : Place) → Filled i p → filled_in i p ≡ true
unfolding filled_in
has_filled i p h =
    rw (
      h.is_marked_lem,
      lt-ltb p.tag (2 ^ 52) h.tag_below,
      eq-eqb (set_index p.tag) i h.own_set,
      lt-ltb p.frame.0 (2 ^ 40) h.frame_below,
      le-leb 1 p.size h.size_from,
      le-leb p.size 3 h.size_to,
      lt-ltb p.memory_type 8 h.type_below,
      le-leb p.number 4095 h.number_to,
    )

-- zeros are not filled
pub zero_empty : (i : ℕ) → filled_in i zero_place ≡ false
unfolding filled_in
zero_empty i = refl

-- places of a tag, and of others
pub tag_same : (t : ℕ) (p : Place) → p.tag ≡ t → other_tag t p ≡ false
unfolding other_tag
tag_same t p e = ap not (eq-eqb p.tag t e)

pub tag_other : (t : ℕ) (p : Place) → (p.tag ≡ t → ⊥) → other_tag t p ≡ true
unfolding other_tag
tag_other t p e = ap not (ne_eqb p.tag t e)

-- a tag's page among pages of 2 ^ k pieces of 4 KiB: its address by their bytes is its tag by their pieces
by_pieces : (k n : ℕ) → n * 4096 / 2 ^ (k + 12) ≡ n / 2 ^ k
by_pieces k n = rw (pow-add 2 k 12) (mul-div-mul_right {m = 4096} n (2 ^ k) (omega arith))

-- a place of 2 MiB covers the tags that have its own quotient by 512
pub covers_2_mib : (k : Key) (t : ℕ) → k.size ≡ 2 → eqb (k.tag / 512) (t / 512) ≡ covers k t
covers_2_mib k t size = rw (size, by_pieces 9 k.tag, by_pieces 9 t)

-- a place of 1 GiB covers the tags that have its own quotient by 262144
pub covers_1_gib : (k : Key) (t : ℕ) → k.size ≡ 3 → eqb (k.tag / 262144) (t / 262144) ≡ covers k t
covers_1_gib k t size = rw (size, by_pieces 18 k.tag, by_pieces 18 t)

-- a place of neither size covers its own tag alone
pub covers_4_kib : (k : Key) (t : ℕ) → (k.size ≡ 2 → ⊥) → (k.size ≡ 3 → ⊥) → eqb k.tag t ≡ covers k t
covers_4_kib k t not-2 not-3 = rw (ne_eqb k.size 2 not-2, ne_eqb k.size 3 not-3, by_pieces 0 k.tag, by_pieces 0 t, div-one k.tag, div-one t)

-- a page drop takes the place of the page itself
pub own_covered : (k : Key) → covers k k.tag ≡ true
own_covered k = eq-eqb (k.tag * 4096 / page_bytes k.size) _ refl

-- a fill whose place is G or of a number leaves no other place of its tag that is
pub fill_takes : (n : ℕ) (new p : Place) → p.tag ≡ new.tag → mine n (key_of new) ≡ true → spares new p ≡ true → mine n (key_of p) ≡ false
unfolding spares
fill_takes n new p same own spared = go (has_g new) (has_g p) own (rw (tag_same new.tag p same) at spared)
  where
    go : (g h : Bool) → (g || eqb new.number n) ≡ true → (not g && not (h || eqb p.number new.number)) ≡ true → (h || eqb p.number n) ≡ false
    go true h own spared = absurd (false≢true spared)
    go false true own spared = absurd (false≢true spared)
    go false false own spared =
        ne_eqb p.number n (λ e. eqb-false p.number new.number (not-true (eqb p.number new.number) spared) (e ∙ sym (eqb-true new.number n own)))

-- what it leaves is of another tag or number
pub fill_other : (new p : Place) → spares new p ≡ true → (eqb p.tag new.tag && eqb p.number new.number) ≡ false
unfolding spares other_tag
fill_other new p spared = go (eqb p.tag new.tag) (has_g new) (has_g p) spared
  where
    go : (t g h : Bool) → (not t || (not g && not (h || eqb p.number new.number))) ≡ true → (t && eqb p.number new.number) ≡ false
    go false g h spared = refl
    go true true h spared = absurd (false≢true spared)
    go true false true spared = absurd (false≢true spared)
    go true false false spared = not-true (eqb p.number new.number) spared

-- a fill leaves every place of another tag
pub fill_leaves : (new p : Place) → (p.tag ≡ new.tag → ⊥) → spares new p ≡ true
unfolding spares
fill_leaves new p e = rw (tag_other new.tag p e)

-- what a place that serves has
pub record Serves (w : Wanted) (p : Place) : Type 0 where
  pub same_tag : p.tag ≡ w.tag
  pub has_flags : includes w.flags p.flags ≡ true
  pub is_mine : mine w.number (key_of p) ≡ true

pub serves_has : (w : Wanted) (p : Place) → serves w p ≡ true → Serves w p
unfolding serves
serves_has w p h =
    let b = and_true (eqb p.tag w.tag && includes w.flags p.flags) _ h in
    let a = and_true (eqb p.tag w.tag) _ b.0 in
    record { same_tag = eqb-true p.tag w.tag a.0; has_flags = a.1; is_mine = b.1 }

pub has_serves : (w : Wanted) (p : Place) → Serves w p → serves w p ≡ true
unfolding serves
has_serves w p h = rw (eq-eqb p.tag w.tag h.same_tag, h.has_flags, h.is_mine)

-- a place of another tag does not serve
pub other_serves_not : (w : Wanted) (p : Place) → other_tag w.tag p ≡ true → not (serves w p) ≡ true
unfolding other_tag
other_serves_not w p h = ap not (other_tag_lem w p (eqb-false p.tag w.tag (not-true (eqb p.tag w.tag) h)))

-- One set.

-- what a set holds is filled
pub filled_places : (i : ℕ) (s : Set) → Each (filled_in i) (filled i s)
unfolding filled
filled_places i s = each_keep (filled_in i) (four s.places)

-- a set holds four places at most
pub filled_length : (i : ℕ) (s : Set) → length (filled i s) ≤ 4
unfolding filled
filled_length i s = keep_length (filled_in i) (four s.places)

-- a set that is made of filled places holds the first four of them
pub filled_made : (i : ℕ) (ps : List Place) → Each (filled_in i) ps → filled i (set_of ps) ≡ take 4 ps
unfolding filled
filled_made i ps h = keep_four (filled_in i) (zero_empty i) ps h

-- a drop leaves what its test keeps, whatever the test
pub filled_kept : (i : ℕ) (test : Place → Bool) (s : Set) → filled i (set_of (keep test (filled i s))) ≡ keep test (filled i s)
filled_kept i test s =
    filled_made i (keep test (filled i s)) (each_kept (filled_in i) test (filled i s) (filled_places i s))
    ∙ take_all 4 (keep test (filled i s)) (omega (arith, keep_length test (filled i s), filled_length i s))

-- what a set holds after each change
pub filled_empty : (i : ℕ) → filled i empty_set ≡ []
filled_empty i = filled_made i [] tt

pub filled_fill : (i : ℕ) (p : Place) (s : Set) → filled_in i p ≡ true → filled i (fill_set i p s) ≡ take 4 (p ∷ keep (spares p) (filled i s))
unfolding fill_set
filled_fill i p s h =
    filled_made i (p ∷ keep (spares p) (filled i s)) (h, each_kept (filled_in i) (spares p) (filled i s) (filled_places i s))

pub filled_drop : (i : ℕ) (d : Drop) (s : Set) → filled i (drop_set i d s) ≡ keep (left d) (filled i s)
unfolding drop_set
filled_drop i d s = filled_kept i (left d) s

-- The whole cache. A cache has 16 sets, and every change leaves as many.

abbrev pub Sixteen : Cache → Type 0
Sixteen c = length c.sets ≡ 16

pub empty_sixteen : Sixteen empty_cache
empty_sixteen = refl

pub one_sixteen : (i : ℕ) (change : Set → Set) (c : Cache) → Sixteen c → Sixteen (rewrite_set i change c)
one_sixteen i change c h = length-set c.sets i _ ∙ h

pub all_sixteen : (change : ℕ → Set → Set) (c : Cache) → Sixteen (rewrite_all change c)
all_sixteen change c = sets_below_length 16 (λ i. change i (set_at i c))

pub fill_sixteen : (p : Place) (c : Cache) → Sixteen c → Sixteen (fill_cache p c)
unfolding fill_cache
fill_sixteen p c h = one_sixteen (set_index p.tag) (fill_set (set_index p.tag) p) c h

pub drop_sixteen : (d : Drop) (c : Cache) → Sixteen (drop_cache d c)
unfolding drop_cache
drop_sixteen d c = all_sixteen (λ i. drop_set i d) c

-- a tag has one of the 16 sets
pub index_below : (t : ℕ) → set_index t < 16
index_below t = omega arith

-- a change of one set: that set, and every other
pub own_set_at : (i : ℕ) (change : Set → Set) (c : Cache) → Sixteen c → i < 16 → set_at i (rewrite_set i change c) ≡ change (set_at i c)
own_set_at i change c sixteen small = get_or-set_same c.sets i _ _ (omega arith)

pub other_set_at : (i j : ℕ) (change : Set → Set) (c : Cache) → (j ≡ i → ⊥) → set_at j (rewrite_set i change c) ≡ set_at j c
other_set_at i j change c apart = get_or-set_other c.sets i j _ _ apart

-- a change of all sets: each set, and past the end none
pub each_set_at : (change : ℕ → Set → Set) (c : Cache) (j : ℕ) → j < 16 → set_at j (rewrite_all change c) ≡ change j (set_at j c)
each_set_at change c j small = sets_below_at 16 (λ i. change i (set_at i c)) j _ small

-- what is held has its own set's number
pub held_own : (j : ℕ) (c : Cache) → Each (filled_in j) (held j c)
held_own j c = filled_places j (set_at j c)

-- past the end nothing is held
pub held_past : (j : ℕ) (c : Cache) → length c.sets ≤ j → held j c ≡ []
unfolding filled
held_past j c past = ap (filled j) (get_or-eq_default c.sets (record { places = [] }) past) ∙ filled_empty j

-- what a cache holds after each change
pub held_empty : (j : ℕ) → held j empty_cache ≡ []
held_empty j = go (dec_lt j 16)
  where
    go : Dec (j < 16) → held j empty_cache ≡ []
    go (yes small) = ap (filled j) (get_or-replicate 16 j empty_set (record { places = [] }) small) ∙ filled_empty j
    go (no large) = held_past j empty_cache (omega arith)

pub held_fill : (p : Place) (c : Cache) → Sixteen c → filled_in (set_index p.tag) p ≡ true
    → held (set_index p.tag) (fill_cache p c) ≡ take 4 (p ∷ keep (spares p) (held (set_index p.tag) c))
unfolding fill_cache
held_fill p c sixteen h =
    ap (filled (set_index p.tag)) (own_set_at (set_index p.tag) (fill_set (set_index p.tag) p) c sixteen (index_below p.tag))
    ∙ filled_fill (set_index p.tag) p (set_at (set_index p.tag) c) h

pub held_fill_other : (p : Place) (c : Cache) (j : ℕ) → (j ≡ set_index p.tag → ⊥) → held j (fill_cache p c) ≡ held j c
unfolding fill_cache
held_fill_other p c j apart = ap (filled j) (other_set_at (set_index p.tag) j (fill_set (set_index p.tag) p) c apart)

-- in a set past the sixteenth nothing is held, since no tag has it
held_beyond : (j : ℕ) (c : Cache) → 16 ≤ j → held j c ≡ []
held_beyond j c beyond = go (held j c) (held_own j c)
  where
    go : (ps : List Place) → Each (filled_in j) ps → ps ≡ []
    go [] h = refl
    go (p ∷ ps) h = absurd (omega (arith, index_below p.tag, (filled_has j p h.0).own_set))

-- a drop leaves in every set what it does not take
pub held_drop : (d : Drop) (c : Cache) (j : ℕ) → held j (drop_cache d c) ≡ keep (left d) (held j c)
unfolding drop_cache
held_drop d c j = go (dec_lt j 16)
  where
    go : Dec (j < 16) → held j (drop_cache d c) ≡ keep (left d) (held j c)
    go (yes small) = ap (filled j) (each_set_at (λ i. drop_set i d) c j small) ∙ filled_drop j d (set_at j c)
    go (no large) = held_beyond j (drop_cache d c) (omega arith) ∙ ap (keep (left d)) (sym (held_beyond j c (omega arith)))

-- a lookup in the set of its tag
abbrev pub find_cache : Wanted → Cache → Option Place
find_cache w c = find_in (set_index w.tag) w (set_at (set_index w.tag) c)

-- it goes by what that set holds
pub find_cache_lem : (w : Wanted) (c : Cache) → find_cache w c ≡ first_serving w (held (set_index w.tag) c)
unfolding find_in
find_cache_lem w c = refl
