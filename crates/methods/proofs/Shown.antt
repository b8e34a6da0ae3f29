-- From choices to slots: what a search shows is what it did, the plans of choices that stand are the lawful plans, and the foremost is the first.
use mathlib.Core.Path.{◌≡◌, refl, sym, ap, ap₂, ◌∙◌}
use mathlib.Core.Logic.{◌⊎◌, inl, inr}
use mathlib.Core.List.{List, [], ◌∷◌, map}
use Prim.Native.Nat.{ℕ, zero, suc, ◌+◌, ◌≤◌, ◌<◌}
use native.Mathlib.Omega.{arith}
use native.Mathlib.Nat.{eq-or-lt_of_le, le_of_suc-le-suc, zero-add, not-suc-le-zero}
use lib.ListN.{length}
use lib.Seq.{ext_get_or}
use Rattle.problem.specs.Tables.{Tables, size, allowed}
use Rattle.problem.specs.Sane.{Sane}
use Rattle.problem.specs.Plans.{Lawful, Before, First, NoPlan}
use Rattle.problem.proofs.Places.{is_true, to_true, kept_allowed, allowed_kept}
use Rattle.events.specs.Events.{Event, trial, check, Ending, solved, no_plan, astray, Search}
use Rattle.methods.specs.Choices.{choices, slot_of, may_stand, shown_event, shown_plan, shown_ending, shown}
use Rattle.methods.proofs.Runs.{at}
use Rattle.methods.proofs.Standing.{Stands, Foremost, NoneStands}

module _ (t : Tables) where
  -- ---- choice k of a boat is its slot k
  pub choices_size : (i : ℕ) → choices t i ≡ size t.sizes i
  unfolding choices
  choices_size i = refl

  pub may_allowed : (h x i y : ℕ) → may_stand t h x i y ≡ allowed t h x i y
  unfolding may_stand slot_of
  may_allowed h x i y = refl

  event_shown : (e : Event) → shown_event t e ≡ e
  unfolding shown_event slot_of
  event_shown (trial i k) = refl
  event_shown (check h x i y) = refl

  events_shown : (es : List Event) → map (shown_event t) es ≡ es
  events_shown [] = refl
  events_shown (e ∷ es) = ap₂ (λ (x : Event) (xs : List Event). x ∷ xs) (event_shown e) (events_shown es)

  plan_shown : (i : ℕ) (p : List ℕ) → shown_plan t i p ≡ p
  unfolding shown_plan slot_of
  plan_shown i [] = refl
  plan_shown i (k ∷ ks) = ap (λ (l : List ℕ). k ∷ l) (plan_shown (suc i) ks)

  ending_shown : (r : Ending) → shown_ending t r ≡ r
  unfolding shown_ending
  ending_shown (solved p) = ap solved (plan_shown 0 p)
  ending_shown no_plan = refl
  ending_shown astray = refl

  pub shown_is : (s : Search) → shown t s ≡ s
  unfolding shown
  shown_is s = λ i. record { events = events_shown s.events i; ending = ending_shown s.ending i }

  -- ---- plans that stand are the lawful ones
  pub lawful_stands : (q : List ℕ) → Lawful t q → Stands t q
  lawful_stands q l =
      record {
        long = l.is_plan.complete;
        within = λ k lk. rw (choices_size k) (l.is_plan.within k lk);
        fine = λ h k lh lk. to_true (may_stand t h (at q h) k (at q k)) (may_allowed h (at q h) k (at q k) ∙ kept_allowed t q l.kept h k);
      }

  pub stands_lawful : Sane t → (q : List ℕ) → Stands t q → Lawful t q
  stands_lawful s q l =
      record {
        is_plan = record { complete = l.long; within = λ k lk. rw (choices_size k) at (l.within k lk) };
        kept = allowed_kept t q s (λ h k lh lk. sym (may_allowed h (at q h) k (at q k)) ∙ is_true (may_stand t h (at q h) k (at q k)) (l.fine h k lh lk));
      }

  pub none_no_plan : NoneStands t → NoPlan t
  none_no_plan n q l = n q (lawful_stands q l)

  -- ---- the foremost is the first
  Agrees : List ℕ → ℕ → List ℕ → Type 0
  Agrees p k q = (j : ℕ) → j < k → at q j ≡ at p j

  agrees_suc : (p q : List ℕ) (k : ℕ) → Agrees p k q → at q k ≡ at p k → Agrees p (suc k) q
  unfolding Agrees
  agrees_suc p q k a d j h = by (eq-or-lt_of_le (le_of_suc-le-suc h))
    where
      by : (j ≡ k) ⊎ (j < k) → at q j ≡ at p j
      by (inl g) = rw g d
      by (inr g) = a j g

  -- from boat k on, m boats being left
  first_from : (p q : List ℕ) → length p ≡ length q → ((k : ℕ) → k < length p → Agrees p k q → at p k ≤ at q k) →
      (m k : ℕ) → k + m ≡ length p → Agrees p k q → (p ≡ q) ⊎ Before p q
  unfolding Agrees
  first_from p q e f zero k l a = inl (ext_get_or 0 p q e (λ j h. sym (a j (omega arith))))
  first_from p q e f (suc m) k l a = by (eq-or-lt_of_le (f k (omega arith) a)) (λ b. first_from p q e f m (suc k) (omega arith) b)
    where
      by : (at p k ≡ at q k) ⊎ (at p k < at q k) → (Agrees p (suc k) q → (p ≡ q) ⊎ Before p q) → (p ≡ q) ⊎ Before p q
      by (inl d) rec = rec (agrees_suc p q k a (sym d))
      by (inr d) rec = inr (record { boat = k; named = omega arith; same = λ j h. sym (a j h); less = d })

  pub foremost_first : Sane t → (p : List ℕ) → Foremost t p → First t p
  unfolding Agrees
  foremost_first s p f =
      record {
        lawful = stands_lawful s p f.stands;
        first = λ q l.
            let r = lawful_stands q l in
            first_from p q (f.stands.long ∙ sym r.long) (f.first q r) (length p) 0 (zero-add (length p)) (λ j h. absurd (not-suc-le-zero h));
      }
