-- What the buffer holds after a read is what was consumed before and by it.
use Rattle.std.proofs.Common.{◌≡◌, ℕ, ◌+◌, ◌-◌, ◌≤◌, List, ◌++◌, rules, length, take, drop, sym, ap, ◌∙◌, subst, le_refl, drop_at, length-take-le}
use Rattle.std.proofs.lemmas.Slice.{take-put_mid_below}
use Rattle.std.specs.Io.KnownBytes.{Consumes}
use Rattle.std.proofs.KnownBytes.{Consumes-trans}
use borrow.Rule.Slice.PartMut.{put_mid, post_of}
use lib.Seq.{take-add, take-append-le}
use Rattle.play.proofs.input.read_full.Goals as goal

-- after n bytes ys were put at a, the bytes before a + n are those before a and then these
put_after : (a k n : ℕ) (xs ys : List ℕ) → a ≤ length xs → n ≤ length ys → take (a + n) (put_mid a k xs ys) ≡ take a xs ++ take n ys
put_after a k n xs ys inside enough =
    take-add a n (put_mid a k xs ys)
    ∙ ap (λ l. l ++ take n (drop a (put_mid a k xs ys))) (take-put_mid_below a k xs ys a (le_refl a) inside)
    ∙ ap (λ l. take a xs ++ take n l) (drop_at (take a xs) (ys ++ post_of a k xs) a (length-take-le a xs inside))
    ∙ ap (λ l. take a xs ++ l) (take-append-le n ys (post_of a k xs) enough)

pub loop-count-preserved : goal.loop-count-preserved
loop-count-preserved g c =
    let h = c.loop-count.invariant in
    let a = c.loop-count.count in
    let bytes = c.loop-count.buffer in
    let joined = put_after a (length bytes - a) c.in-Ok.got bytes c.read.new.buf h.1 c.in-Ok.ensures.bound.0 in
    (search rules, search rules, subst (Consumes _ _) (sym joined) (Consumes-trans _ _ _ _ _ h.2 c.in-Ok.ensures.bytes.0))
