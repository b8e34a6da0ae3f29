-- How many trials and checks there are: in two lists of events, one after the other, and in all.
use mathlib.Core.Path.{◌≡◌, refl}
use mathlib.Core.List.{List, [], ◌∷◌, ◌++◌}
use Prim.Native.Nat.{◌+◌}
use native.Mathlib.Omega.{arith}
use lib.ListN.{length}
use Rattle.events.specs.Events.{Event, trial, check, trials_of, checks_of, trials, checks}

-- their trials are the trials of the first and those of the second
pub trials_append : (es fs : List Event) → trials (es ++ fs) ≡ trials es + trials fs
unfolding trials_of
trials_append [] fs = omega arith
trials_append (trial i a ∷ es) fs = omega (arith, trials_append es fs)
trials_append (check h x i a ∷ es) fs = trials_append es fs

-- and so their checks
pub checks_append : (es fs : List Event) → checks (es ++ fs) ≡ checks es + checks fs
unfolding checks_of
checks_append [] fs = omega arith
checks_append (trial i a ∷ es) fs = checks_append es fs
checks_append (check h x i a ∷ es) fs = omega (arith, checks_append es fs)

-- every event is one or the other
pub length_counts : (es : List Event) → length es ≡ trials es + checks es
unfolding trials_of checks_of
length_counts [] = refl
length_counts (trial i a ∷ es) = omega (arith, length_counts es)
length_counts (check h x i a ∷ es) = omega (arith, length_counts es)
