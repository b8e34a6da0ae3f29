-- BM, backmarking: as BT, with a mark m for each boat and choice, and b for each boat, all 0 at the start.
use Rattle.std.specs.Prelude.{Bool, true, false, cond, ◌&&◌, [], ℕ, pred, min, ltb, eqb, length, drop}
use Rattle.std.proofs.Math.Option.{Option, none, some}
use Rattle.problem.specs.Tables.{Tables}
use Rattle.methods.specs.Machine.{Tried, Steps}
use Rattle.methods.specs.Moves.{one_back}
use Rattle.methods.specs.BT.{Looked, look_back}

pub record Marks : Type 0 where
  pub m : ℕ → ℕ → ℕ
  pub b : ℕ → ℕ

abbrev pub no_marks : Marks
no_marks = record { m = λ i a. 0; b = λ i. 0 }

-- the last boat looked at, unlisted ones included: the failing one, or i - 1; at boat 0 the mark stays 0
abbrev pub last_looked_at : (i : ℕ) → Option ℕ → ℕ
last_looked_at i none = pred i
last_looked_at i (some h) = h

abbrev pub marked : Marks → (i a last : ℕ) → Marks
marked σ i a last = record { m = λ k x. cond (eqb k i && eqb x a) last (σ.m k x); b = σ.b }

abbrev pub is_clear : Option ℕ → Bool
is_clear none = true
is_clear (some h) = false

-- choice a of boat i, placed boats p: with m(i,a) below b(i) it fails with no check; otherwise boats b(i) to i - 1 are looked at in order until one fails
abbrev pub marked_trial : Marks → (i a : ℕ) → Looked → (below : Bool) → Tried Marks
marked_trial σ i a r true = record { checks = []; passed = false; after = σ }
marked_trial σ i a r false = record { checks = r.checks; passed = is_clear r.failing; after = marked σ i a (last_looked_at i r.failing) }

-- going back from i to i - 1 sets b(i) to i - 1, and lowers b(j), j above i, to i - 1 where it was greater
abbrev pub lowered : Marks → (i h : ℕ) → Marks
lowered σ i h = record { m = σ.m; b = λ j. cond (eqb j i) h (cond (ltb i j) (min (σ.b j) h) (σ.b j)) }

unfoldable pub bm : Tables → Steps Marks
bm t =
    record {
      start = no_marks;
      ready = λ σ p a. record { checks = []; passed = true; after = σ };
      label = λ σ p a.
          marked_trial σ (length p) a (look_back t (length p) a (σ.b (length p)) (drop (σ.b (length p)) p))
          (ltb (σ.m (length p) a) (σ.b (length p)));
      unlabel = λ σ p. one_back (length p) (λ h. lowered σ (length p) h);
    }
