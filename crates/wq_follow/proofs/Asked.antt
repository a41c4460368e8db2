-- A launcher that was asked whether a run has ended shows what it showed.
use Rattle.std.proofs.Common.{◌≡◌, ℕ, Bool, Option, None, Some}
use Rattle.wq_follow.specs.Launcher.{EndsRun, LauncherData}

pub shown_after : (before after : Option LauncherData) (run : ℕ) (ended : Bool) → EndsRun before run ended after → after ≡ before
shown_after None after run ended is = is
shown_after (Some l) after run ended (as_told, is) = is
