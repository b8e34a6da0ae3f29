-- Forward checking, with its strikes, does what looking ahead by the plan so far does: FC and FC-CBJ make the same searches over both, from any place.
use mathlib.Core.Path.{◌≡◌, refl, sym, ap, ◌∙◌}
use mathlib.Core.Bool.{false}
use mathlib.Core.List.{List, [], ◌∷◌, ◌++◌}
use mathlib.Core.Option.{Option, none, some}
use Prim.Native.Nat.{ℕ, suc, ◌-◌, ◌<◌}
use native.Mathlib.Omega.{arith}
use native.Mathlib.Nat.{le_refl}
use lib.ListN.{length}
use Rattle.problem.specs.Tables.{Tables, boats}
use Rattle.methods.specs.Machine.{search, search_inside}
use Rattle.methods.specs.Moves.{stepping}
use Rattle.methods.specs.CBJ.{Sets, jumping}
use Rattle.methods.specs.FC.{Strikes, no_strikes, Swept, sweep, end_of_sweep, looking_ahead, fc}
use Rattle.methods.specs.FCCBJ.{fccbj}
use Rattle.methods.specs.ByPlan.{open_sweep, end_of_open, ahead_by_plan, Struck}
use Rattle.methods.proofs.Inside.{inside_none}
use Rattle.methods.proofs.Ahead.{emptied_at}
use Rattle.methods.proofs.Strikes.{struck_start, struck_pass, struck_back, live_same, strikers_same, sweep_same}
use Rattle.methods.proofs.SameMoves.{SameVerdict, both_pass, both_fail, Twins, same_stepping, same_jumping}

module _ (t : Tables) where
  -- the two moves, as long as the strikes know the plan so far
  pub ahead_twins : Twins t (looking_ahead t) (ahead_by_plan t) (λ p s σ. Struck t p s)
  unfolding looking_ahead ahead_by_plan end_of_sweep
  ahead_twins =
      record {
        same_live = λ p a s σ k lp la. live_same t p s k (length p) a (le_refl (length p)) lp la;
        same_checks = λ p a s σ k lp la e. ap (λ (w : Swept). w.checks) (swept p a s k lp);
        same_verdict = λ p a s σ k lp la e.
            rw (swept p a s k lp) (by p a s k (open_sweep t p a (suc (length p)) (boats t - suc (length p))).emptied refl);
        same_blamers = λ p s σ k lp. strikers_same t p s k (length p) (le_refl (length p)) lp;
        keep_back = λ p h s σ k lp lh. struck_back t p s h k;
      }
    where
      swept : (p : List ℕ) (a : ℕ) (s : Strikes) → Struck t p s → length p < boats t →
          sweep t s (length p) a (suc (length p)) (boats t - suc (length p)) ≡ open_sweep t p a (suc (length p)) (boats t - suc (length p))
      swept p a s k lp = sweep_same t p s k a (suc (length p)) (boats t - suc (length p)) (omega arith) (omega arith)

      by : (p : List ℕ) (a : ℕ) (s : Strikes) → Struck t p s → (x : Option ℕ) → (open_sweep t p a (suc (length p)) (boats t - suc (length p))).emptied ≡ x →
          SameVerdict (λ (r : Strikes) (σ : Unit {0}). Struck t (p ++ (a ∷ [])) r) (end_of_sweep t s (length p) a x) (end_of_open t p x)
      by p a s k none e = both_pass (struck_pass t p s a k)
      by p a s k (some j) e =
          let w = emptied_at t p a j (suc (length p)) (boats t - suc (length p)) e in
          both_fail (strikers_same t p s k j (omega arith) (omega arith))

-- ---- FC: from any place, between two trials or inside one, whose strikes are those of its plan
pub fc_same : (t : Tables) (made : ℕ) (p : List ℕ) (a : ℕ) (s : Strikes) → Struck t p s →
    search_inside t (fc t) made p a s ≡ search_inside t (stepping (ahead_by_plan t)) made p a tt
unfolding fc
fc_same t made p a s k = same_stepping t (looking_ahead t) (ahead_by_plan t) (λ p s σ. Struck t p s) (ahead_twins t) made p a s tt k

-- from the beginning
pub fc_searches : (t : Tables) → search t (fc t) ≡ search t (stepping (ahead_by_plan t))
unfolding search fc looking_ahead ahead_by_plan
fc_searches t =
    sym (inside_none t (fc t) [] 0 no_strikes) ∙ fc_same t 0 [] 0 no_strikes (struck_start t) ∙ inside_none t (stepping (ahead_by_plan t)) [] 0 tt

-- ---- FC-CBJ, with any conflict sets
pub fccbj_same : (t : Tables) (made : ℕ) (p : List ℕ) (a : ℕ) (sets : Sets) (s : Strikes) → Struck t p s →
    search_inside t (fccbj t) made p a (record { sets = sets; rest = s }) ≡ search_inside t (jumping t (ahead_by_plan t)) made p a (record { sets = sets; rest = tt })
unfolding fccbj
fccbj_same t made p a sets s k = same_jumping t (looking_ahead t) (ahead_by_plan t) (λ p s σ. Struck t p s) (ahead_twins t) made p a _ _ (k, refl)

pub fccbj_searches : (t : Tables) → search t (fccbj t) ≡ search t (jumping t (ahead_by_plan t))
unfolding search fccbj looking_ahead ahead_by_plan
fccbj_searches t =
    sym (inside_none t (fccbj t) [] 0 (fccbj t).start)
    ∙ fccbj_same t 0 [] 0 (λ k j. false) no_strikes (struck_start t)
    ∙ inside_none t (jumping t (ahead_by_plan t)) [] 0 (jumping t (ahead_by_plan t)).start
