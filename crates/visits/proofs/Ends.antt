-- Where a visit leads, for any method: from what it has given up, and how it ended, to what is to come.
use mathlib.Core.Path.{◌≡◌, sym, ap, ◌∙◌}
use mathlib.Core.List.{List, [], ◌∷◌, ◌++◌}
use Prim.Native.Nat.{ℕ, suc, ◌≤◌}
use lib.ListN.{drop}
use lib.Seq.{drop_at}
use Rattle.problem.specs.Tables.{Tables}
use Rattle.problem.specs.declared.Allowance.{Allowance}
use Rattle.events.specs.Events.{Event, Search, ◌then◌}
use Rattle.events.specs.Allowances.{outcome, undecided}
use Rattle.events.specs.declared.Counts.{Counts}
use Rattle.events.specs.Counts.{Fits, Makes, Leads, cut_at}
use Rattle.events.proofs.Leading.{makes_none, makes_append, then_append, leads_trans, leads_same, stops_cut}
use Rattle.methods.specs.Machine.{Steps, next, step, search_from, search_inside}
use Rattle.methods.specs.GivenUp.{none, more}
use Rattle.methods.proofs.GivenUp.{search_behind, given_up_le}
use Rattle.methods.proofs.StepsLeft.{search_next}
use Rattle.methods.proofs.Inside.{inside_step}
use Rattle.visits.specs.Visits.{ComesTo, Passes, StopsAt, RunsOut}

module _ (t : Tables) {S : Type 0} (M : Steps S) {p : List ℕ} {a : ℕ} {σ : S} {m : Counts} where
  -- at the first choice
  pub come_here : Fits m → ComesTo t M p a σ m a σ m
  come_here f = record { events = []; given_up = none; makes = makes_none m f }

  -- one choice more is given up
  pub come_more : {b : ℕ} {τ : S} {n k : Counts} {fs : List Event} {υ : S} → ComesTo t M p a σ m b τ n → step t M p b τ ≡ next fs p (suc b) υ → Makes n fs k →
      ComesTo t M p a σ m (suc b) υ k
  come_more c e g = record { events = c.events ++ _; given_up = more c.given_up e; makes = makes_append c.makes g }

  pub come_le : {b : ℕ} {τ : S} {k : Counts} → ComesTo t M p a σ m b τ k → a ≤ b
  come_le c = given_up_le t M c.given_up

  -- ---- what is to come then
  pub come_leads : {b : ℕ} {τ : S} {k : Counts} → ComesTo t M p a σ m b τ k → Leads m (search_from t M p a σ) k (search_from t M p b τ)
  come_leads c = record { made = c.events; comes = search_behind t M c.given_up; makes = c.makes }

  pub passes_leads : {b : ℕ} {υ : S} {k : Counts} → Passes t M p a σ m b υ k → Leads m (search_from t M p a σ) k (search_from t M (p ++ (b ∷ [])) 0 υ)
  passes_leads {b = b} c = leads_trans (come_leads c.comes) (record { made = c.events; comes = search_next t M p b c.remembered c.steps; makes = c.makes })

-- the events of a step, those that are made and those that are not
module _ (t : Tables) {S : Type 0} (M : Steps S) {p : List ℕ} {b : ℕ} {τ : S} {m : Counts} {which : Allowance} {made : ℕ} {k : Counts} (s : StopsAt t M p b τ m which made k) where
  abbrev left : List Event
  left = s.stops.due ∷ s.stops.behind

  abbrev after_step : Search
  after_step = search_from t M s.plan s.choice s.after

  unmade : search_inside t M made p b τ ≡ left then after_step
  unmade = inside_step t M p b τ s.steps made ∙ ap (λ (es : List Event). es then after_step) rest
    where
      rest : drop made s.events ≡ left
      rest = ap (drop made) s.stops.split ∙ drop_at s.stops.before left made s.stops.count

  -- a run that ends inside it has the rest of it to come
  pub stops_leads : Leads m (search_from t M p b τ) k (search_inside t M made p b τ)
  stops_leads =
      record {
        made = s.stops.before;
        comes = search_next t M p b τ s.steps
            ∙ ap (λ (es : List Event). es then after_step) s.stops.split
            ∙ then_append s.stops.before left after_step
            ∙ ap (λ (x : Search). s.stops.before then x) (sym unmade);
        makes = s.stops.makes;
      }

  -- and is undecided
  pub stops_ends : cut_at k (search_inside t M made p b τ) ≡ outcome (undecided which) k.checks k.trials
  stops_ends =
      sym (leads_same stops_leads)
      ∙ ap (cut_at m) (search_next t M p b τ s.steps)
      ∙ stops_cut after_step s.stops

pub out_leads : (t : Tables) {S : Type 0} (M : Steps S) {p : List ℕ} {a : ℕ} {σ : S} {m : Counts} {which : Allowance} {b : ℕ} {τ : S} {made : ℕ} {k : Counts} →
    RunsOut t M p a σ m which b τ made k → Leads m (search_from t M p a σ) k (search_inside t M made p b τ)
out_leads t M r = leads_trans (come_leads t M r.comes) (stops_leads t M r.stops)
