-- The level falls.
use Rattle.walk.proofs.descend.+descend.Given as goal

abbrev pub decreases-descend : goal.decreases-descend
decreases-descend l = l.level
