-- `Set::keep` meets its contract.
use Rattle.std.proofs.Common.{ap, ◌∙◌, sym, List, refl, [], ◌∷◌, ◌++◌, length-append, arith, map-id, take, filter, length, ◌≡◌}
use Rattle.std.specs.Iterator.Adapters.{filter_steps, copied_steps}
use Rattle.std.specs.Slice.Iter.{iter_steps}
use Rattle.std.proofs.lemmas.List.{set-get_or}
use Rattle.std.proofs.lemmas.Iterator.{YieldsList-from_slice}
use Rattle.std.proofs.lemmas.Iterator.Consumers.{YieldsList-at, YieldsList-from_copied, YieldsList-from_filter, YieldsList-end, YieldsList-so_far}
use Rattle.cache.specs.declared.Place.{Place}
use Rattle.cache.specs.declared.Set.{Set}
use Rattle.cache.specs.Sets.{four}
use Rattle.cache.specs.Places.{zero_place}
use Rattle.cache.proofs.Steps.{filtered, yields_more, one_more, four_first}
use Rattle.cache.proofs.Set.keep.Goals.{else-loop-slot-test, then-loop-slot-test+in_default}
use Rattle.cache.proofs.Set.keep.Goals as goal

pub loop-slot-init : goal.loop-slot-init
loop-slot-init g c = ([], refl, ap (λ (s : Set). s.places) c.empty-kept.ensures, refl)

pub loop-slot-preserved : goal.loop-slot-preserved
loop-slot-preserved g c =
    let loop = c.loop-slot in
    let given = loop.invariant in (
      given.0 ++ (c.in-Some.place ∷ []),
      omega (arith, length-append given.0 (c.in-Some.place ∷ []), given.1),
      one_more given.0 loop.slot-index loop.slot-items c.in-Some.place given.1 c.loop-slot-test.true given.2,
      yields_more (filter_steps (copied_steps iter_steps) g.F.FnMut) _ given.0 loop.passing _ c.in-Some.place _ given.3 c.in-Some.is c.next.ensures.steps,
    )

pub returns : goal.returns
returns g c passes acts =
    let loop = c.loop-slot in
    let given = loop.invariant in
    let listed = sym (map-id given.0) in
    let copied = YieldsList-from_copied (YieldsList-at c.copied.ensures.source (YieldsList-from_slice c.args.self.places c.iter.ensures.rest)) in
    let gives = YieldsList-from_filter g.F.FnMut passes (YieldsList-at c.filter-passing.ensures.source copied) c.filter-passing.ensures.closure acts in
    let all = filter passes c.args.self.places in
    let kept = ap four (filtered passes c.args.self.places) in
    let set : List Place → Set = λ ps. record { places = ps } in
    elim c.loop-slot-test.branch [
      | else-loop-slot-test w ↦
          let full : length given.0 ≡ 4 = omega (arith, given.1, loop.auto.slot-index-end, w.loop-slot-test.false) in
          let first = listed ∙ YieldsList-so_far gives given.0 loop.passing given.3 ∙ ap (λ n. take n all) full in
          w.kept-is ∙ ap set (given.2 ∙ ap four first ∙ four_first all ∙ kept)
      | then-loop-slot-test+in_default w ↦
          let whole = listed ∙ (YieldsList-end gives given.0 loop.passing given.3 w.next.result w.next.new.self w.in_default.is w.next.ensures.steps).0 in
          w.kept-is ∙ ap set (set-get_or loop.slot-items loop.slot-index zero_place ∙ given.2 ∙ ap four whole ∙ kept)
    ]
