-- How a walk ends under its allowances, from where it ends.
use mathlib.Core.Path.{◌≡◌, refl, ap, ◌∙◌, subst}
use mathlib.Core.List.{List}
use Prim.Native.Nat.{ℕ, ◌≤◌}
use native.Mathlib.Nat.{le_refl}
use lib.ListN.{length, take}
use lib.Seq.{length-take-le}
use Rattle.problem.specs.Tables.{Tables, boats}
use Rattle.problem.specs.declared.Allowance.{Allowance}
use Rattle.events.specs.Events.{Ending, Search}
use Rattle.events.specs.Allowances.{decided, outcome, cut_from}
use Rattle.events.specs.declared.Counts.{Counts}
use Rattle.events.specs.Counts.{Leads, cut_at}
use Rattle.events.proofs.Leading.{leads_trans, leads_same}
use Rattle.methods.specs.Machine.{stop, step, onward, search_from, search_inside}
use Rattle.methods.proofs.StepsLeft.{search_step}
use Rattle.methods.proofs.Runs.{step_end}
use Rattle.methods.proofs.GivenUp.{search_steps}
use Rattle.words.specs.Layout.{Placed}
use Rattle.visits.proofs.Ends.{stops_leads, stops_ends}
use Rattle.moves.specs.declared.Moves.{Moves}
use Rattle.moves.specs.Memory.{Memory, steps_by, memory}
use Rattle.ends.specs.declared.Place.{Place}
use Rattle.ends.specs.declared.Ended.{Ended}
use Rattle.ends.specs.declared.Ended.TheVariants.{Solved, NoPlan, Undecided}
use Rattle.ends.specs.Ends.{counts_then, decision_then}
use Rattle.walk.specs.Walks.{Arrives, EndsSolved, EndsInside, EndsAt, Ends}

-- a step that stops leaves nothing to come but the ending
cut_stop : (k : Counts) (r : Ending) {S : Type 0} (rest : List ℕ → ℕ → S → Search) → cut_at k (onward rest (stop r)) ≡ outcome (decided r) k.checks k.trials
unfolding onward cut_from
cut_stop k r rest = refl

module _ {moves : Moves} {t : Tables} {p : List ℕ} {a : ℕ} {σ : Memory moves} {m : Counts} where
  arrives_leads : {q : List ℕ} {b : ℕ} {τ : Memory moves} {k : Counts} → Arrives moves t p a σ m q b τ k →
      Leads m (search_from t (steps_by moves t) p a σ) k (search_from t (steps_by moves t) q b τ)
  arrives_leads v = record { made = v.events; comes = search_steps t (steps_by moves t) v.steps; makes = v.makes }

  stopped : {q : List ℕ} {b : ℕ} {τ : Memory moves} {k : Counts} {r : Ending} → Arrives moves t p a σ m q b τ k → step t (steps_by moves t) q b τ ≡ stop r →
      cut_at m (search_from t (steps_by moves t) p a σ) ≡ outcome (decided r) k.checks k.trials
  stopped {q} {b} {τ} {k} {r} v e =
      leads_same (arrives_leads v)
      ∙ ap (cut_at k) (search_step t (steps_by moves t) q b τ ∙ ap (onward (search_from t (steps_by moves t))) e)
      ∙ cut_stop k r (search_from t (steps_by moves t))

  -- at an end by allowance, the rest of the search from inside the step there is to come
  pub inside_leads : {w : List ℕ} {k : Counts} {which : Allowance} {at : Place} → EndsInside moves t p a σ m w k which at →
      Leads m (search_from t (steps_by moves t) p a σ) k (search_inside t (steps_by moves t) at.made (take at.boat w) at.slot (memory moves w at.boat))
  inside_leads e = leads_trans (arrives_leads e.arrives) (stops_leads t (steps_by moves t) e.stops)

-- the decision and the counts are those that the answer tells
cut_then : (moves : Moves) (t : Tables) (p : List ℕ) (a : ℕ) (σ : Memory moves) (m : Counts) (w : List ℕ) → boats t ≤ length w → (r : Ended) → EndsAt moves t p a σ m w r →
    cut_at m (search_from t (steps_by moves t) p a σ) ≡ outcome (decision_then r (take (boats t) w)) (counts_then r).checks (counts_then r).trials
cut_then moves t p a σ m w long (Solved k) e =
    stopped e.arrives (step_end t (steps_by moves t) (take (boats t) w) e.choice e.remembered (rw (length-take-le (boats t) w long) (le_refl (boats t))))
cut_then moves t p a σ m w long (NoPlan k) e = stopped e.arrives e.stops
cut_then moves t p a σ m w long (Undecided k which at) e =
    leads_same (inside_leads e) ∙ stops_ends t (steps_by moves t) e.stops

pub ended_cut : {moves : Moves} {t : Tables} {p : List ℕ} {a : ℕ} {σ : Memory moves} {w : List ℕ} {m : Counts} {w' : List ℕ} {r : Ended} → Ends moves t p a σ w m w' r →
    boats t ≤ length w' →
    cut_at m (search_from t (steps_by moves t) p a σ) ≡ outcome (decision_then r (take (boats t) w')) (counts_then r).checks (counts_then r).trials
ended_cut {moves} {t} {p} {a} {σ} {m = m} {w' = w'} {r = r} e long = cut_then moves t p a σ m w' long r e.ends

-- a solved walk holds a slot for each boat
pub solved_placed : {moves : Moves} {t : Tables} {p : List ℕ} {a : ℕ} {σ : Memory moves} {w : List ℕ} {m : Counts} {w' : List ℕ} {r : Ended} → Ends moves t p a σ w m w' r →
    (k : Counts) → r ≡ Solved k → Placed t w' (boats t)
solved_placed {moves} {t} {p} {a} {σ} {m = m} {w' = w'} e k f = placed (subst (EndsAt moves t p a σ m w') f e.ends)
  where
    placed : EndsSolved moves t p a σ m w' k → Placed t w' (boats t)
    placed x = x.placed
