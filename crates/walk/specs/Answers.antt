-- The two answers, each what was found or why nothing was: of a walk, "success holding a struct" beside a refusal, and of a call.
use Rattle.std.specs.Prelude.{Result}
use Rattle.walk.specs.declared.Mapping.{Mapping}
use Rattle.walk.specs.declared.Unmapped.{Unmapped}
use Rattle.walk.specs.declared.Translation.{Translation}
use Rattle.walk.specs.declared.Refusal.{Refusal}

-- how a walk ends
abbrev pub Walked : Type 0
Walked = Result Mapping Unmapped

-- what a call is answered
abbrev pub Answer : Type 0
Answer = Result Translation Refusal
