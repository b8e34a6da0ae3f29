-- A method is a forward move and a backward move. Here is what a forward move is, and the backward move that goes back by one boat.
use Rattle.std.specs.Prelude.{Bool, true, false, ◌||◌, List, [], ℕ, zero, suc, eqb, length}
use Rattle.events.specs.Events.{Event}
use Rattle.methods.specs.Machine.{Left, nowhere, back, Steps}

-- a set of boats
abbrev pub Boats : Type 0
Boats = ℕ → Bool

abbrev pub nobody : Boats
nobody = λ h. false

abbrev pub only : ℕ → Boats
only h = λ j. eqb j h

-- some number below n passes the test
unfoldable pub some? : (n : ℕ) → (ℕ → Bool) → Bool
some? zero test = false
some? (suc n) test = some? n test || test n

-- how a trial ends: the choice passes, and so much is remembered; or it fails, and these boats are to blame
pub data Verdict (S : Type 0) : Type 0 where
  pass : S → Verdict S
  fail : Boats → Verdict S

pub record Trial (S : Type 0) : Type 0 where
  pub checks : List Event
  pub verdict : Verdict S

pub record Forward (S : Type 0) : Type 0 where
  pub start : S
  -- is the choice tried at all?
  pub live : S → (plan : List ℕ) → (choice : ℕ) → Bool
  pub trial : S → (plan : List ℕ) → (choice : ℕ) → Trial S
  -- who is to blame for the choices of the boat at hand that are not live
  pub blamers : S → (plan : List ℕ) → Boats
  -- boat h, and those after it, give up their choices
  pub put_back : (h : ℕ) → S → S

abbrev pub passes : {S : Type 0} → Verdict S → Bool
passes (pass σ) = true
passes (fail blamed) = false

-- a failed trial leaves what is remembered as it was
abbrev pub remembered : {S : Type 0} → S → Verdict S → S
remembered σ (pass τ) = τ
remembered σ (fail blamed) = σ

-- ---- stepping back: to the boat before; from boat 0: no plan
abbrev pub one_back : {S : Type 0} → (boat : ℕ) → (ℕ → S) → Left S
one_back zero after = nowhere
one_back (suc h) after = back h (after h)

abbrev pub stepping : {S : Type 0} → Forward S → Steps S
stepping F =
    record {
      start = F.start;
      ready = λ σ p a. record { checks = []; passed = F.live σ p a; after = σ };
      label = λ σ p a. record {
        checks = (F.trial σ p a).checks;
        passed = passes (F.trial σ p a).verdict;
        after = remembered σ (F.trial σ p a).verdict;
      };
      unlabel = λ σ p. one_back (length p) (λ h. F.put_back h σ);
    }
