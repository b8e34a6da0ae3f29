-- What is to come behind the choices that a boat has given up, and behind whole steps.
use mathlib.Core.Path.{◌≡◌, refl, sym, ap, ◌∙◌, subst}
use mathlib.Core.List.{List, ◌++◌, append_assoc, append-nil}
use Prim.Native.Nat.{ℕ, suc, ◌≤◌}
use native.Mathlib.Nat.{le_refl}
use native.Mathlib.Omega.{arith}
use Rattle.problem.specs.Tables.{Tables}
use Rattle.events.specs.Events.{Event, Search, ◌then◌}
use Rattle.events.proofs.Leading.{then_append}
use Rattle.methods.specs.Machine.{Steps, search_from}
use Rattle.methods.specs.Reached.{Reached, later, StepsTo, here, onward}
use Rattle.methods.specs.GivenUp.{GivenUp, none, more}
use Rattle.methods.proofs.StepsLeft.{search_next}

module _ (t : Tables) {S : Type 0} (M : Steps S) {p : List ℕ} {a : ℕ} {σ : S} where
  pub given_up_le : {es : List Event} {b : ℕ} {τ : S} → GivenUp t M p a σ es b τ → a ≤ b
  given_up_le none = le_refl a
  given_up_le (more G e) = omega (arith, given_up_le G)

  -- the search goes on behind their events
  pub search_behind : {es : List Event} {b : ℕ} {τ : S} → GivenUp t M p a σ es b τ → search_from t M p a σ ≡ es then search_from t M p b τ
  search_behind none = refl
  search_behind (more {es = es} {b = b} {τ = τ} {fs = fs} G e) =
      search_behind G ∙ ap (λ (x : Search). es then x) (search_next t M p b τ e) ∙ sym (then_append es fs _)

-- ---- whole steps
module _ (t : Tables) {S : Type 0} (M : Steps S) {p : List ℕ} {a : ℕ} {σ : S} where
  -- the search goes on behind their events
  pub search_steps : {es : List Event} {q : List ℕ} {b : ℕ} {τ : S} → StepsTo t M p a σ es q b τ → search_from t M p a σ ≡ es then search_from t M q b τ
  search_steps here = refl
  search_steps (onward {es = es} {q = q} {b = b} {τ = τ} {fs = fs} P e) =
      search_steps P ∙ ap (λ (x : Search). es then x) (search_next t M q b τ e) ∙ sym (then_append es fs _)

  -- choices given up are whole steps
  pub steps_given_up : {es : List Event} {q : List ℕ} {b : ℕ} {τ : S} → StepsTo t M p a σ es q b τ → {fs : List Event} {c : ℕ} {υ : S} → GivenUp t M q b τ fs c υ →
      StepsTo t M p a σ (es ++ fs) q c υ
  steps_given_up {es} {q} {b} {τ} P none = subst (λ (gs : List Event). StepsTo t M p a σ gs q b τ) (sym (append-nil es)) P
  steps_given_up {es} {q} P (more {es = fs} {b = c} {fs = gs} {υ = υ} G e) =
      subst (λ (hs : List Event). StepsTo t M p a σ hs q (suc c) υ) (append_assoc es fs gs) (onward (steps_given_up P G) e)

  -- from a place that the search comes to they lead to such places
  pub steps_reached : {es : List Event} {q : List ℕ} {b : ℕ} {τ : S} → Reached t M p a σ → StepsTo t M p a σ es q b τ → Reached t M q b τ
  steps_reached r here = r
  steps_reached r (onward P e) = later (steps_reached r P) e
