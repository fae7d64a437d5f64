-- The starred exercises come out as document 01 says, by computation.
use mathlib.Core.Path.{refl}
use Rattle.word.specs.Bytes.{load}
use Rattle.walk.specs.Path.{path, entries, end_of, every, report, marks}
use Rattle.walk.specs.Translate.{translated, translated_memory}
use Rattle.walk.specs.Walk.{ended, after}
use Rattle.exercises.specs.Exercises.{Right, bytes, laid, memory, found, exercises}

pub starred : Right
unfolding load path entries end_of every report marks translated translated_memory ended after bytes laid memory found exercises
starred = refl
