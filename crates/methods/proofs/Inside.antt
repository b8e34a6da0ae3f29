-- No. 10: a search that starts inside a trial makes the rest of the search that it is a part of, and decides the same under the counts reached.
use mathlib.Core.Path.{◌≡◌, refl, sym, ap, ◌∙◌}
use mathlib.Core.List.{List, [], ◌++◌, append_assoc}
use Prim.Native.Nat.{ℕ, ◌-◌, ◌+◌, ◌≤◌}
use native.Mathlib.Omega.{arith}
use native.Mathlib.Decide.{dec_le}
use lib.ListN.{length, take, drop, take-append-drop}
use lib.Seq.{drop-append-le, drop-append-add, drop-nil}
use Rattle.problem.specs.Tables.{Tables}
use Rattle.events.specs.Events.{Event, trials, checks, ◌then◌}
use Rattle.events.specs.Allowances.{cut_from, cut}
use Rattle.events.proofs.Cutting.{cut_on}
use Rattle.events.proofs.Laws.{resumed}
use Rattle.methods.specs.Machine.{Steps, Step, stop, next, step, onward, search_from, search, unmade, search_inside}
use Rattle.methods.specs.Reached.{Reached, start, later, Place, after}
use Rattle.methods.proofs.StepsLeft.{search_step, search_next, by_steps}

module _ (t : Tables) {S : Type 0} (M : Steps S) where
  module _ (p : List ℕ) (a : ℕ) (σ : S) where
    -- no event made yet: the search from between two choices
    pub inside_none : search_inside t M 0 p a σ ≡ search_from t M p a σ
    unfolding search_inside unmade
    inside_none = by (step t M p a σ) ∙ sym (search_step t M p a σ)
      where
        by : (x : Step S) → onward (search_from t M) (unmade 0 x) ≡ onward (search_from t M) x
        by (stop r) = refl
        by (next es q b τ) = refl

    module _ {es : List Event} {q : List ℕ} {b : ℕ} {τ : S} (e : step t M p a σ ≡ next es q b τ) (made : ℕ) where
      -- the events that the step has left, and then the search from where it leads
      pub inside_step : search_inside t M made p a σ ≡ drop made es then search_from t M q b τ
      unfolding search_inside unmade onward
      inside_step = ap (λ (x : Step S). onward (search_from t M) (unmade made x)) e

      -- from any place and any counts c and n: with those of the events made it decides what the search decides of which none is made
      pub inside_decides : (ca ta c n : ℕ) → made ≤ length es → c + checks (take made es) ≤ ca → n + trials (take made es) ≤ ta →
          cut_from ca ta c n (search_from t M p a σ).events (search_from t M p a σ).ending ≡
          cut_from ca ta (c + checks (take made es)) (n + trials (take made es)) (search_inside t M made p a σ).events (search_inside t M made p a σ).ending
      inside_decides ca ta c n le lc lt =
          rw (inside_step, search_next t M p a σ e)
          (ap (λ (gs : List Event). cut_from ca ta c n gs (search_from t M q b τ).ending) parted ∙ cut_on ca ta c n (take made es) (drop made es ++ (search_from t M q b τ).events) (search_from t M q b τ).ending lc lt)
        where
          parted : es ++ (search_from t M q b τ).events ≡ take made es ++ (drop made es ++ (search_from t M q b τ).events)
          parted = ap (λ (gs : List Event). gs ++ (search_from t M q b τ).events) (sym (take-append-drop made es)) ∙ append_assoc (take made es) (drop made es) (search_from t M q b τ).events

  -- ---- where a search is stopped
  place_from : (p : List ℕ) (a : ℕ) (σ : S) (k : ℕ) → Reached t M p a σ → Place t M (after k (search_from t M p a σ))
  unfolding search_inside unmade onward
  place_from =
      by_steps t M (λ p a σ. (k : ℕ) → Reached t M p a σ → Place t M (after k (search_from t M p a σ)))
      (λ p a σ later-places k r. rw (search_step t M p a σ) (by p a σ k r (step t M p a σ) refl later-places))
    where
      by : (p : List ℕ) (a : ℕ) (σ : S) (k : ℕ) → Reached t M p a σ → (x : Step S) → step t M p a σ ≡ x →
          ((es : List Event) (q : List ℕ) (b : ℕ) (τ : S) → step t M p a σ ≡ next es q b τ → (k : ℕ) → Reached t M q b τ → Place t M (after k (search_from t M q b τ))) →
          Place t M (after k (onward (search_from t M) x))
      by p a σ k r (stop f) e rec = record { plan = p; choice = a; memory = σ; made = 0; reached = r; of_its_step = omega arith; comes = rw (e, drop-nil k) }
      by p a σ k r (next es q b τ) e rec = in_step (dec_le k (length es))
        where
          in_step : Dec (k ≤ length es) → Place t M (after k (es then search_from t M q b τ))
          in_step (yes le) =
              record { plan = p; choice = a; memory = σ; made = k; reached = r; of_its_step = rw e le; comes = rw (e, drop-append-le k es (search_from t M q b τ).events le) }
          in_step (no nl) =
              let z : length es + (k - length es) ≡ k = omega arith in
              rw (rw z at (drop-append-add es (search_from t M q b τ).events (k - length es))) (rec es q b τ e (k - length es) (later r e))

  -- wherever the search from the beginning is stopped, there is such a place
  pub place_after : (k : ℕ) → Place t M (after k (search t M))
  unfolding search
  place_after k = place_from [] 0 M.start k start

  -- and from there, under the counts reached, it decides what the whole search decides
  pub goes_on_lem : (ca ta k : ℕ) (P : Place t M (after k (search t M))) → checks (take k (search t M).events) ≤ ca → trials (take k (search t M).events) ≤ ta →
      cut ca ta (search t M) ≡
      cut_from ca ta (checks (take k (search t M).events)) (trials (take k (search t M).events))
      (search_inside t M P.made P.plan P.choice P.memory).events (search_inside t M P.made P.plan P.choice P.memory).ending
  goes_on_lem ca ta k P lc lt = rw P.comes (resumed ca ta (search t M) k lc lt)
