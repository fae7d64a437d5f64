-- What is passed on holds all that was gathered, and then the bytes.
use Rattle.play.proofs.Lines.{passed_on}
use Rattle.play.proofs.gathered.Gathered.pass_on_with.Goals as goal

pub returns : goal.returns
returns g c =
    let kept = c.in_ok-pass_on.ensures in
    passed_on c.write_all.result _ _ _ c.pass_on.new.self.text c.args.bytes.now c.pass_on.new.self.used kept.passed kept.none c.write_all.ensures.bytes
