-- Demands 2 and 3 for the stepping and the jumping method over any honest forward move that remembers nothing.
use mathlib.Core.Path.{◌≡◌, refl}
use mathlib.Core.List.{List, []}
use Prim.Native.Nat.{◌≤◌}
use native.Mathlib.Nat.{le_refl}
use Rattle.problem.specs.Tables.{Tables}
use Rattle.events.specs.Events.{Event, Ending, trials, checks}
use Rattle.methods.specs.Moves.{Forward, stepping}
use Rattle.methods.specs.CBJ.{jumping}
use Rattle.methods.proofs.Runs.{Runs}
use Rattle.methods.proofs.Standing.{Meaning, fit_start}
use Rattle.methods.proofs.Sound.{Honest, behind_start, sound_start}
use Rattle.methods.proofs.Steps.{steps_justified}
use Rattle.methods.proofs.Jumps.{Knows, knows_start, jumps_justified}
use Rattle.methods.proofs.Cheaper.{plain_cheaper}

module _ (t : Tables) (F : Forward (Unit {0})) (H : Honest t F) where
  -- demand 2, stepping
  pub step_means : {es : List Event} {r : Ending} → Runs t (stepping F) [] 0 (stepping F).start es r → Meaning t r
  step_means R = sound_start t F H (stepping F) (λ p a σ. Unit {0}) (steps_justified t F H) (stepping F).start tt R

  -- demand 2, jumping
  pub jump_means : {es : List Event} {r : Ending} → Runs t (jumping t F) [] 0 (jumping t F).start es r → Meaning t r
  jump_means R = sound_start t F H (jumping t F) (Knows t F H) (jumps_justified t F H) (jumping t F).start (knows_start t F H) R

  -- demand 3: jumping comes to the same ending with no more trials and no more checks
  pub jump_cheaper : {es fs : List Event} {r s : Ending} → Runs t (jumping t F) [] 0 (jumping t F).start es r → Runs t (stepping F) [] 0 (stepping F).start fs s →
      (r ≡ s) × (trials es ≤ trials fs) × (checks es ≤ checks fs)
  jump_cheaper Q R =
      plain_cheaper t F H (jumping t F) (Knows t F H) (jumps_justified t F H)
      (record { none_wait = λ p a σ. refl; few_trials = λ p a σ. le_refl _; few_checks = λ p a σ i lp la m. le_refl _ })
      Q (record { fit = fit_start t; behind = behind_start t; inv = knows_start t F H }) R
