-- What a judgement says of the settings.
use mathlib.Core.Path.{◌≡◌, refl, ap, sym, ◌∙◌}
use mathlib.Core.Bool.{true, false≢true}
use Rattle.settings.specs.declared.Settings.{Settings}
use Rattle.settings.specs.Settings.{Service, served, judged}
use Rattle.settings.proofs.Laws.{served_judged}
use Rattle.std.specs.Prelude.{Ok, Err, is_ok}

-- settings that are judged served are served
pub judged_served : (s : Settings) → judged s ≡ Ok tt → served s ≡ true
judged_served s h = served_judged s ∙ ap is_ok h

-- and the other way round
pub served_is : (s : Settings) → served s ≡ true → judged s ≡ Ok tt
served_is s h = go (judged s) (sym (served_judged s) ∙ h)
  where
    go : (x : Service) → is_ok x ≡ true → x ≡ Ok tt
    go (Ok served) e = refl
    go (Err why) e = absurd (false≢true e)
