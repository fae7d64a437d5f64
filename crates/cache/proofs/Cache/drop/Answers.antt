-- `Cache::drop` meets its contract.
use Rattle.std.proofs.Common.{◌≡◌, ◌≢◌, ◌<◌, ◌∙◌, ap, arith, ℕ, length, get_or-set_other}
use Rattle.std.proofs.lemmas.List.{length-set}
use Rattle.std.proofs.lemmas.List.Edits.{fill_by_more}
use Rattle.std.proofs.lemmas.List.FromFn.{fill_by_all}
use Rattle.cache.specs.declared.Set.{Set}
use Rattle.cache.specs.Sets.{drop_set}
use Rattle.cache.specs.Whole.{set_at, drop_cache}
use Rattle.cache.proofs.Cache.drop.Goals as goal

pub loop-i-preserved : goal.loop-i-preserved
loop-i-preserved c =
    let h = c.loop-i.invariant in
    let i = c.loop-i.i in
    let items = c.loop-i.set-items in
    let left : ℕ → Set = λ k. drop_set k c.args.drop (set_at k c.args.self) in
    let made : c.drop.result ≡ left i = rw (c.drop.ensures, h.2 i (omega arith)) in
    let small : i < length items = omega (arith, h.0) in (
      length-set items i _ ∙ h.0,
      rw made (fill_by_more left items i _ small h.1),
      λ k later. let other : k ≢ i = omega arith in rw get_or-set_other (h.2 k (omega arith)),
    )

pub returns : goal.returns
unfolding drop_cache
returns c =
    let h = c.loop-i.invariant in
    let left : ℕ → Set = λ k. drop_set k c.args.drop (set_at k c.args.self) in
    ap (λ sets. record { sets = sets }) (fill_by_all left c.loop-i.set-items 16 _ h.0 (λ k small. h.1 k (omega arith)))
